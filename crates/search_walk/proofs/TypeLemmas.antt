-- One log type more that is asked as it is read.
use Rattle.std.proofs.Common.{◌≡◌, ◌⊎◌, inl, inr, ℕ, zero, suc, Bool, false, List, [], ◌∷◌, ◌++◌, Some, length, refl, sym, ap, subst, arith, length-append}
use Rattle.std.specs.Prelude.{slice_get}
use Rattle.query_plan.specs.declared.pieces.Piece.{Piece}
use Rattle.subquery_filter.specs.declared.asking.AskedTypes.{AskedTypes}
use Rattle.subquery_filter.specs.declared.filter.Filter.{Filter}
use Rattle.subquery_filter.specs.declared.verdicts.Verdict.{Verdict}
use Rattle.subquery_filter.specs.declared.verdicts.Verdict.TheVariants.{Rejected}
use Rattle.subquery_filter.specs.Asking.{AreAsked, HasAsked, TellsNext, verdicts_of}
use Rattle.subquery_filter.specs.Filter.{AsksTypes}
use Rattle.word_places.specs.declared.place.WordsPlace.{WordsPlace}
use Rattle.word_places.specs.Kept.{AreKeptOf, KeptTypes, with_text, without_text}
use Rattle.search_walk.specs.declared.type_asking.TypePass.{TypePass}
use Rattle.search_walk.specs.TypePass.{AreKeptOrRejected, ArePassed, HasPassed, PassesOn}

-- one more, which is kept as it is or rejected
kept_next : (types kept : List (List ℕ)) (verdicts : List Verdict) (text as_kept : List ℕ) (v : Verdict) → length kept ≡ length types → length verdicts ≡ length types → (as_kept ≡ text) ⊎ (v ≡ Rejected)
    → AreKeptOrRejected types kept verdicts → AreKeptOrRejected (types ++ text ∷ []) (kept ++ as_kept ∷ []) (verdicts ++ v ∷ [])
kept_next [] [] [] text as_kept v long as_long (inl same) each zero = inl (ap Some same)
kept_next [] [] [] text as_kept v long as_long (inr rejected) each zero = inr (ap Some rejected)
kept_next [] [] [] text as_kept v long as_long one each (suc t) = inl refl
kept_next [] [] (u ∷ verdicts) text as_kept v long as_long one each t = absurd (omega (arith, as_long))
kept_next [] (k ∷ kept) verdicts text as_kept v long as_long one each t = absurd (omega (arith, long))
kept_next (x ∷ types) [] verdicts text as_kept v long as_long one each t = absurd (omega (arith, long))
kept_next (x ∷ types) (k ∷ kept) [] text as_kept v long as_long one each t = absurd (omega (arith, as_long))
kept_next (x ∷ types) (k ∷ kept) (u ∷ verdicts) text as_kept v long as_long one each zero = each zero
kept_next (x ∷ types) (k ∷ kept) (u ∷ verdicts) text as_kept v long as_long one each (suc t) =
    kept_next types kept verdicts text as_kept v (omega (arith, long)) (omega (arith, as_long)) one (λ n. each (suc n)) t

kept_with : (types : List (List ℕ)) (kept : KeptTypes) (text : List ℕ) → AreKeptOf types kept → AreKeptOf (types ++ text ∷ []) (with_text kept text)
kept_with types kept text are = record {
  count = omega (arith, length-append kept.texts (text ∷ []), length-append types (text ∷ []), are.count);
  whole = λ none. ap (λ (l : List (List ℕ)). l ++ text ∷ []) (are.whole none);
}

kept_without : (types : List (List ℕ)) (kept : KeptTypes) (text : List ℕ) → AreKeptOf types kept → AreKeptOf (types ++ text ∷ []) (without_text kept)
kept_without types kept text are = record {
  count = omega (arith, length-append kept.texts ([] ∷ []), length-append types (text ∷ []), are.count);
  whole = λ none. absurd (cc (none));
}

-- what is kept stays where it stands
pub keeps_places : (old new : KeptTypes) (text : List ℕ) → new ≡ with_text old text → new.places ≡ old.places
keeps_places old new text is = ap (λ (k : KeptTypes). k.places) is

pub leaves_places : (old new : KeptTypes) → new ≡ without_text old → new.places ≡ old.places
leaves_places old new is = ap (λ (k : KeptTypes). k.places) is

-- a pass went on by a log type
module _ (old new : TypePass) (text : List ℕ) (left : Bool) (tells : TellsNext (verdicts_of old.asking) (verdicts_of new.asking) left)
    (asks : (ps : List Piece) (f : Filter) (types : List (List ℕ)) → HasAsked ps f types old.asking → HasAsked ps f (types ++ text ∷ []) new.asking) where
  each_next : (ps : List Piece) (f : Filter) (types : List (List ℕ)) (as_kept : List ℕ) → HasPassed ps f types old → new.texts.texts ≡ old.texts.texts ++ as_kept ∷ [] → (as_kept ≡ text) ⊎ (tells.0 ≡ Rejected)
      → AreKeptOrRejected (types ++ text ∷ []) new.texts.texts (verdicts_of new.asking)
  each_next ps f types as_kept passed texts one =
      subst (λ (l : List (List ℕ)). AreKeptOrRejected (types ++ text ∷ []) l (verdicts_of new.asking)) (sym texts)
      (subst (λ (l : List Verdict). AreKeptOrRejected (types ++ text ∷ []) (old.texts.texts ++ as_kept ∷ []) l) (sym tells.1)
      (kept_next types old.texts.texts (verdicts_of old.asking) text as_kept tells.0 passed.kept.count passed.asked.counts.of_verdicts one passed.each))

  pub pass_keeps : new.texts ≡ with_text old.texts text → PassesOn old (text ∷ []) new
  pass_keeps is = record {
    places = keeps_places old.texts new.texts text is;
    kept = λ types kept. subst (λ (k : KeptTypes). AreKeptOf (types ++ text ∷ []) k) (sym is) (kept_with types old.texts text kept);
    passed = λ ps f types passed. record {
      asked = asks ps f types passed.asked;
      kept = subst (λ (k : KeptTypes). AreKeptOf (types ++ text ∷ []) k) (sym is) (kept_with types old.texts text passed.kept);
      each = each_next ps f types text passed (ap (λ (k : KeptTypes). k.texts) is) (inl refl);
    };
  }

  pub pass_leaves_out : left ≡ false → new.texts ≡ without_text old.texts → PassesOn old (text ∷ []) new
  pass_leaves_out gone is = record {
    places = leaves_places old.texts new.texts is;
    kept = λ types kept. subst (λ (k : KeptTypes). AreKeptOf (types ++ text ∷ []) k) (sym is) (kept_without types old.texts text kept);
    passed = λ ps f types passed. record {
      asked = asks ps f types passed.asked;
      kept = subst (λ (k : KeptTypes). AreKeptOf (types ++ text ∷ []) k) (sym is) (kept_without types old.texts text passed.kept);
      each = each_next ps f types [] passed (ap (λ (k : KeptTypes). k.texts) is) (inr (tells.2 gone));
    };
  }

-- ---- all log types

-- none had passed at first
first_kept : (kept : KeptTypes) (places : List WordsPlace) → kept ≡ record { texts = []; left_out = false; places = places } → AreKeptOf [] kept
first_kept kept places is = record { count = ap (λ (k : KeptTypes). length k.texts) is; whole = λ none. ap (λ (k : KeptTypes). k.texts) is }

first_passed : (ps : List Piece) (f : Filter) (pass : TypePass) (places : List WordsPlace) → pass.texts ≡ record { texts = []; left_out = false; places = places } → HasAsked ps f [] pass.asking → HasPassed ps f [] pass
first_passed ps f pass places is asked = record {
  asked = asked;
  kept = first_kept pass.texts places is;
  each = λ t. inl (ap (λ (k : KeptTypes). slice_get k.texts t) is);
}

pub all_passed : (ps : List Piece) (f : Filter) (first last : TypePass) (types : List (List ℕ)) (places : List WordsPlace) (asked : AskedTypes) → first.texts ≡ record { texts = []; left_out = false; places = places }
    → ((any : List (List ℕ)) → AsksTypes ps any f → HasAsked ps f [] first.asking) → PassesOn first types last → ((qs : List Piece) (h : Filter) (ts : List (List ℕ)) → HasAsked qs h ts last.asking → AreAsked qs h ts asked)
    → asked.filter.verdicts.items ≡ verdicts_of last.asking → ArePassed ps f types (record { asked = asked; texts = last.texts })
all_passed ps f first last types places asked is begun on ended same = record {
  kept = on.kept [] (first_kept first.texts places is);
  asked_are = λ any asks. ended ps f types (on.passed ps f [] (first_passed ps f first places is (begun any asks))).asked;
  each = λ any asks. subst (λ (l : List Verdict). AreKeptOrRejected types last.texts.texts l) (sym same) (on.passed ps f [] (first_passed ps f first places is (begun any asks))).each;
}
