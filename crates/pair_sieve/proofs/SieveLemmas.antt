-- What the flags of a row's texts tell.
use Rattle.std.proofs.Common.{◌≡◌, ◌≢◌, ℕ, suc, ◌≤◌, ◌<◌, Bool, true, false, List, [], ◌∷◌, ◌++◌, length, Option, Some, None, refl, sym, subst, arith}
use Rattle.std.specs.Prelude.{slice_get, slice_index, IfSome, is_none, not}
use Rattle.std.proofs.lemmas.Option.{slice_get_within}
use Rattle.column_store.specs.declared.row.Row.{Row}
use Rattle.wild_match.specs.declared.pattern.Item.{Item}
use Rattle.pair_sieve.specs.declared.pair.Pair.{Pair}
use Rattle.pair_sieve.specs.Pairs.{Supplies, HasPair, IsPairOf}
use Rattle.pair_sieve.specs.Sieve.{HasNoMatch, Marks, SieveView, Tells, TellsOf}
use Rattle.pair_sieve.proofs.MarkLemmas.{flag_set, marks_longer}
use Rattle.pair_sieve.proofs.MessageLemmas.{NoneSupplies, type_has}

pub not_true : (b : Bool) → not b ≡ true → b ≡ false
not_true true is = sym is
not_true false is = refl

-- the flag of no number of the row is set
abbrev pub NoneSet : List Bool → List ℕ → Type 0
NoneSet flags row = (i : ℕ) → i < length row → slice_get flags (slice_index row i) ≢ Some true

none_supplies : (x y : ℕ) (words : List (List ℕ)) (flags : List Bool) → Marks (Supplies x y) words flags → length words ≤ length flags → (row : List ℕ) → NoneSet flags row → NoneSupplies x y words row
none_supplies x y words flags marks all [] none = tt
none_supplies x y words flags marks all (v ∷ row) none = (
  λ word is supplies. none 0 (omega arith) (flag_set (Supplies x y) words flags v word marks (omega (arith, slice_get_within words v word is, all)) is supplies),
  none_supplies x y words flags marks all row (λ i small. none (suc i) (omega (arith, small))),
)

pub no_match : (s : SieveView) (row : Row) (p : Pair) → s.pair ≡ Some p → slice_get s.types row.log_type ≡ Some false → NoneSet s.words row.words → HasNoMatch s row
no_match s row p some unset none pattern types words knows version message is m =
    let of : IsPairOf pattern p.before p.after = subst (λ (o : Option Pair). IfSome o (λ q. IsPairOf pattern q.before q.after)) some knows.tells.pair in
    let flags : TellsOf types words s p = subst (λ (o : Option Pair). IfSome o (TellsOf types words s)) some knows.tells.flags in
    let all : length words ≤ length s.words = subst (λ (o : Option Pair). IfSome o (λ q. length words ≤ length s.words)) some knows.all in
    let has = type_has pattern p.before p.after version row types words message of is (none_supplies p.before p.after words s.words flags.words all row.words none) m in
    let set = flag_set (HasPair p.before p.after) types s.types row.log_type has.0 flags.types (slice_get_within s.types row.log_type false unset) has.1 has.2 in
    cc (set, unset)

pub some_match : (s : SieveView) (row : Row) → is_none s.pair ≡ false → slice_get s.types row.log_type ≡ Some false → NoneSet s.words row.words → HasNoMatch s row
some_match s row some unset none = by s.pair refl
  where
    by : (o : Option Pair) → s.pair ≡ o → HasNoMatch s row
    by None is = absurd (cc (some, is))
    by (Some p) is = no_match s row p is unset none

-- a sieve that has looked at no text
pub tells_none : (pattern : List Item) (types words : List (List ℕ)) (s : SieveView) → s.types ≡ [] → s.words ≡ [] → IfSome s.pair (λ p. IsPairOf pattern p.before p.after) → Tells pattern types words s
tells_none pattern types words s no_types no_words of = record { pair = of; flags = by s.pair }
  where
    by : (o : Option Pair) → IfSome o (TellsOf types words s)
    by None = tt
    by (Some p) = record {
      types = subst (Marks (HasPair p.before p.after) types) (sym no_types) tt;
      words = subst (Marks (Supplies p.before p.after) words) (sym no_words) tt;
    }

-- further texts change nothing of what the sieve tells
pub tells_longer : (pattern : List Item) (types words more others : List (List ℕ)) (s : SieveView) → Tells pattern types words s → Tells pattern (types ++ more) (words ++ others) s
tells_longer pattern types words more others s tells = record { pair = tells.pair; flags = by s.pair tells.flags }
  where
    by : (o : Option Pair) → IfSome o (TellsOf types words s) → IfSome o (TellsOf (types ++ more) (words ++ others) s)
    by None flags = tt
    by (Some p) flags = record {
      types = marks_longer (HasPair p.before p.after) types more s.types flags.types;
      words = marks_longer (Supplies p.before p.after) words others s.words flags.words;
    }
