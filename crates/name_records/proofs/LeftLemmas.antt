-- What calls that add entries leave, one after the other.
use Rattle.std.proofs.Common.{◌≡◌, ◌≤◌, ◌⊎◌, inl, inr, ⊎_elim, refl, sym, ap, subst, ◌∙◌, ℕ, zero, suc, Bool, true, false, List, [], ◌∷◌, ◌++◌, length, take, drop, Option, Some, None, arith, append-nil, append_assoc}
use Rattle.std.specs.Prelude.{is_some}
use Rattle.std.proofs.lemmas.List.{length-append, length-map, take-append-drop, take_all}
use Rattle.std.proofs.lemmas.Option.{IfSome_then}
use Rattle.std.proofs.Math.Seq.{take-append_seam}
use Rattle.std.proofs.Math.Logic.{dite}
use Rattle.std.proofs.Math.Decide.{dec_le}
use Rattle.std.proofs.Math.Nat.{lt_of_not-le}
use mathlib.Core.List.{IsPrefix}
use Rattle.log_seams.specs.declared.disk.Disk.{Ghosts as DiskGhosts}
use Rattle.log_seams.specs.Disk.{DiskState, IsLawful, LeavesOnly}
use Rattle.log_seams.specs.Outside.{Rose}
use Rattle.log_seams.proofs.MomentLemmas.{started, weaker}
use Rattle.record_format.specs.declared.header.Header.{Header}
use Rattle.record_format.specs.Header.{IsHeader, header_bytes}
use Rattle.disk_journal.specs.Record.{Saved, Stands}
use Rattle.disk_journal.specs.Place.{AtEnd, entries}
use Rattle.disk_journal.specs.State.{JournalState}
use Rattle.disk_journal.specs.declared.journal.Journal.{Journal}
use Rattle.disk_journal.specs.Journal.{state_of}
use Rattle.archive_meaning.specs.declared.entry.JournalEntry.{JournalEntry}
use Rattle.archive_meaning.specs.Spelled.{record_of, records_from, records_of, types_in}
use Rattle.archive_meaning.specs.Stands.{IsLegal, StandsFor}
use Rattle.archive_meaning.proofs.UniqueLemmas.{legal_front}
use Rattle.disk_seal.specs.Opening.{MayOpen}
use Rattle.disk_seal.specs.Told.{IfTold, entry_of, journal_in}
use Rattle.disk_seal.specs.View.{HasFirst, Image, Kept, StoreState, StoreView, journal_of, state_by, tells}
use Rattle.disk_seal.proofs.ToldLemmas.{length-records}
use Rattle.ingest_workers.specs.Ingested.{IsLeftBy, told_entries}
use Rattle.name_records.specs.Left.{HasGoneOn, LeavesEntries, StandsBetween, StandsForOr}

-- ---- what is told

pub of_told : {P : Type 0} (b : Bool) → b ≡ true → IfTold b P → P
of_told {P} b is p = subst (λ x. IfTold x P) is p

pub by_told : {P : Type 0} (b : Bool) → (b ≡ true → P) → IfTold b P
by_told false f = tt
by_told true f = f refl

-- ---- fronts of lists

pub prefix_on : {A : Type 0} (xs ys zs : List A) → IsPrefix xs ys → IsPrefix ys zs → IsPrefix xs zs
prefix_on xs ys zs a b = (a.0 ++ b.0, sym (append_assoc xs a.0 b.0) ∙ (ap (λ l. l ++ b.0) a.1 ∙ b.1))

pub prefix_same : {A : Type 0} (xs : List A) → IsPrefix xs xs
prefix_same xs = ([], append-nil xs)

-- a front stands in each longer front
prefix_taken : {A : Type 0} (xs ys : List A) (k : ℕ) → length xs ≤ k → IsPrefix xs (take k (xs ++ ys))
prefix_taken [] ys k low = (take k ys, refl)
prefix_taken (x ∷ xs) ys zero low = absurd (omega (arith, low))
prefix_taken (x ∷ xs) ys (suc k) low = let rest = prefix_taken xs ys k (omega (arith, low)) in (rest.0, ap (λ l. x ∷ l) rest.1)

records_taken : (k : ℕ) (types : List (List ℕ)) (es : List JournalEntry) → take k (records_from types es) ≡ records_from types (take k es)
records_taken zero types es = refl
records_taken (suc k) types [] = refl
records_taken (suc k) types (e ∷ es) = ap (λ (l : List Saved). record_of types e ∷ l) (records_taken k (types ++ types_in e) es)

-- bytes that stand for the first records of a legal journal stand for its first entries
front_stands : (h : Header) (es : List JournalEntry) (c : List ℕ) (k : ℕ) → IsHeader h → IsLegal h es → Stands (header_bytes h) (take k (records_of es)) c → StandsFor c h (take k es)
front_stands h es c k header legal stands = record {
  header = header;
  legal = legal_front h (take k es) (drop k es) (subst (IsLegal h) (sym (take-append-drop k es)) legal);
  stands = subst (λ rs. Stands (header_bytes h) rs c) (records_taken k [] es) stands;
}

-- ---- a journal at its end

images_told : (h : Header) (told : Option (List ℕ)) (place n : ℕ) (images : List ℕ → Type 0) (c : List ℕ) → IsHeader h → AtEnd (header_bytes h) place n told images → entries told n ≡ records_of (journal_in told n)
    → IfTold (is_some told) (IsLegal h (journal_in told n)) → images c → IfTold (is_some told) (StandsFor c h (journal_in told n))
images_told h None place n images c header ends spelled legal image = tt
images_told h (Some bytes) place n images c header ends spelled legal image = record {
  header = header;
  legal = legal;
  stands = subst (λ rs. Stands (header_bytes h) rs c) spelled (subst (λ x. Stands (header_bytes h) (entries (Some bytes) n) x) (sym (ends.only c image)) ends.stands);
}

-- each image of its disk stands for its entries
pub images_stand : (j : JournalState) → MayOpen j → (c : List ℕ) → j.disk.images c → IfTold (is_some j.disk.seen) (StandsFor c j.header (told_entries j))
images_stand j may c image = images_told j.header j.disk.seen j.place j.count j.disk.images c may.header may.ends.ends may.spelled may.legal image

-- ---- one after the other

module _ (h : Header) where
  pub between_front : (before mid es : List JournalEntry) (c : List ℕ) → IsPrefix mid es → StandsBetween h before mid c → StandsBetween h before es c
  between_front before mid es c front b = (b.0, b.1, prefix_on b.0 mid es b.2 front, b.3)

  pub between_later : (before mid es : List JournalEntry) (c : List ℕ) → IsPrefix before mid → StandsBetween h mid es c → StandsBetween h before es c
  between_later before mid es c front b = (b.0, prefix_on before mid b.0 front b.1, b.2, b.3)

  pub either_between : (before es tail : List JournalEntry) (c : List ℕ) → IsPrefix before es → StandsForOr h es tail c → StandsBetween h before (es ++ tail) c
  either_between before es tail c front (inl stands) = (es, front, (tail, refl), stands)
  either_between before es tail c front (inr stands) = (es ++ tail, prefix_on before es (es ++ tail) front (tail, refl), prefix_same (es ++ tail), stands)

  -- what a run of calls leaves of which each image stands for the entries, or for them and what was under way
  pub either_left : (es tail : List JournalEntry) (old new : DiskState) → IsLawful new → length tail ≤ 1 → (¬ Rose old.faults new.faults → tail ≡ []) → LeavesOnly old new (StandsForOr h es tail) → LeavesEntries h es es old new
  either_left es tail old new law one none past = record {
    tail = tail;
    one = one;
    none = none;
    reads = IfSome_then new.seen law.reads_as (λ c image. now c image);
    now = now;
    since = λ c left. either_between es es tail c (prefix_same es) (past.each c left);
  }
    where
      now : (c : List ℕ) → new.images c → StandsForOr h es tail c
      now c image = past.each c (law.counts_now old.clock c past.later image)

  -- what was left before calls that leave more
  pub left_later : (before mid_es es : List JournalEntry) (old mid new : DiskState) → LeavesOnly old mid (StandsBetween h before mid_es) → IsPrefix before mid_es → IsPrefix mid_es es → mid.faults ≡ old.faults
      → LeavesOnly mid new (λ _. Unit {0}) → LeavesEntries h mid_es es mid new → LeavesEntries h before es old new
  left_later before mid_es es old mid new first begins front steady moved leaves = record {
    tail = leaves.tail;
    one = leaves.one;
    none = λ still. leaves.none (λ late. still (subst (λ n. Rose n new.faults) steady late));
    reads = leaves.reads;
    now = leaves.now;
    since = λ c left.
        ⊎_elim
        (λ was. between_front before mid_es (es ++ leaves.tail) c (prefix_on mid_es es (es ++ leaves.tail) front (leaves.tail, refl)) (first.each c was))
        (λ now. between_later before mid_es (es ++ leaves.tail) c begins (leaves.since c now))
        (moved.before old.clock c first.later left);
  }

-- ---- a store

counted : (told : Option (List ℕ)) (n : ℕ) → is_some told ≡ true → length (journal_in told n) ≡ n
counted None n is = absurd (cc (is))
counted (Some bytes) n is = length-map (entries (Some bytes) n) entry_of ∙ length-records n _

either_front : (es under : List JournalEntry) (k : ℕ) → length es ≤ k → length under ≤ 1 → (take k (es ++ under) ≡ es) ⊎ (take k (es ++ under) ≡ es ++ under)
either_front es under k low one =
    dite (dec_le k (length es))
    (λ (le : k ≤ length es). let same : k ≡ length es = omega (arith, le, low) in inl (ap (λ n. take n (es ++ under)) same ∙ take-append_seam es under))
    (λ gt. inr (take_all k (es ++ under) (omega (arith, lt_of_not-le gt, one, length-append es under))))

module _ (s : StoreState) (kept : Kept s) (law : IsLawful s.disk) (told : tells s ≡ true) (runs : ¬ Rose s.opened.faults s.disk.faults → s.stopped ≡ None)
    (before rest : List JournalEntry) (are : journal_of s ≡ before ++ rest) (first : length before ≤ s.first) where
  abbrev all : List JournalEntry
  all = before ++ rest

  legal : IsLegal s.header (all ++ kept.under)
  legal = subst (λ l. IsLegal s.header (l ++ kept.under)) are (of_told (tells s) told kept.legal)

  image_of : (least : ℕ) (c : List ℕ) → Image s least (journal_of s ++ kept.under) c → HasFirst (header_bytes s.header) least (all ++ kept.under) c
  image_of least c image = subst (λ l. HasFirst (header_bytes s.header) least (l ++ kept.under) c) are (of_told (tells s) told image)

  length-all : length all ≡ s.count
  length-all = sym (ap length are) ∙ counted s.disk.seen s.count (kept.tells_still ∙ told)

  now : (c : List ℕ) → s.disk.images c → StandsForOr s.header all kept.under c
  now c image =
      let has = image_of s.count c (kept.now c image) in
      let stands = front_stands s.header (all ++ kept.under) c has.k kept.header legal has.stands in
      ⊎_elim
      (λ same. inl (subst (λ l. StandsFor c s.header l) same stands))
      (λ same. inr (subst (λ l. StandsFor c s.header l) same stands))
      (either_front all kept.under has.k (omega (arith, length-all, has.enough)) kept.one)

  since : (c : List ℕ) → s.disk.since s.opened.clock c → StandsBetween s.header before (all ++ kept.under) c
  since c left =
      let has = image_of s.first c (kept.past.each c left) in
      let joined : all ++ kept.under ≡ before ++ (rest ++ kept.under) = append_assoc before rest kept.under in (
        take has.k (all ++ kept.under),
        subst (λ l. IsPrefix before (take has.k l)) (sym joined) (prefix_taken before (rest ++ kept.under) has.k (omega (arith, first, has.enough))),
        (drop has.k (all ++ kept.under), take-append-drop has.k (all ++ kept.under)),
        front_stands s.header (all ++ kept.under) c has.k kept.header legal has.stands,
      )

  store_leaves : LeavesEntries s.header before all s.opened s.disk
  store_leaves = record {
    tail = kept.under;
    one = kept.one;
    none = λ steady. (kept.going (runs steady)).0;
    reads = IfSome_then s.disk.seen law.reads_as (λ c image. now c image);
    now = now;
    since = since;
  }

module _ {D : Type 0} {d : DiskGhosts D} (j after : Journal D d) where
  -- what a store left
  pub store_left : IsLawful (d.state after.disk.now) → (store : StoreView D) → IsLeftBy store j after → is_some (d.state j.disk.now).seen ≡ true → (fresh : List JournalEntry) → journal_of (state_by d.state store) ≡ told_entries (state_of j) ++ fresh
      → LeavesEntries j.header (told_entries (state_of j)) (told_entries (state_of j) ++ fresh) (d.state j.disk.now) (d.state after.disk.now)
  store_left law store left told fresh grown =
      subst (λ x. LeavesEntries x (told_entries (state_of j)) (told_entries (state_of j) ++ fresh) (d.state j.disk.now) (d.state after.disk.now)) left.header
      (subst (λ (x : D). LeavesEntries store.header (told_entries (state_of j)) (told_entries (state_of j) ++ fresh) (d.state x) (d.state after.disk.now)) left.opened
      (subst (λ (x : D). LeavesEntries store.header (told_entries (state_of j)) (told_entries (state_of j) ++ fresh) (d.state store.opened) (d.state x)) left.disk
      (store_leaves (state_by d.state store) left.kept (subst (λ (x : D). IsLawful (d.state x)) (sym left.disk) law)
      (ap (λ (x : D). is_some (d.state x).seen) left.opened ∙ told)
      (λ steady. (left.again (λ late. steady (subst (λ (x : D). Rose (d.state x).faults (d.state store.disk).faults) (sym left.opened)
      (subst (λ (x : D). Rose (d.state j.disk.now).faults (d.state x).faults) (sym left.disk) late)))).0)
      (told_entries (state_of j)) fresh grown
      (subst (λ n. length (told_entries (state_of j)) ≤ n) (sym left.first) (omega (arith, counted (d.state j.disk.now).seen j.count told))))))

  -- its journal is over the same disk
  pub store_goes : (store : StoreView D) → IsLeftBy store j after → HasGoneOn (state_of j) (state_of after)
  store_goes store left = record {
    name = left.name;
    header = left.header_now;
    counts = subst (λ (x : D). (d.state x).faults ≤ (d.state after.disk.now).faults) left.opened (subst (λ (x : D). (d.state store.opened).faults ≤ (d.state x).faults) left.disk left.kept.risen);
    tells = subst (λ (x : D). is_some (d.state after.disk.now).seen ≡ is_some (d.state x).seen) left.opened (subst (λ (x : D). is_some (d.state x).seen ≡ is_some (d.state store.opened).seen) left.disk left.kept.tells_still);
    moments = subst (λ (x : D). LeavesOnly (d.state x) (d.state after.disk.now) (λ _. Unit {0})) left.opened
        (subst (λ (x : D). LeavesOnly (d.state store.opened) (d.state x) (λ _. Unit {0})) left.disk (weaker _ _ _ (λ _. Unit {0}) left.kept.past (λ c image. tt)));
  }

  -- its entries stand behind those of before
  pub store_entries_are : (store : StoreView D) → IsLeftBy store j after → (fresh : List JournalEntry) → journal_of (state_by d.state store) ≡ told_entries (state_of j) ++ fresh → told_entries (state_of after) ≡ told_entries (state_of j) ++ fresh
  store_entries_are store left fresh grown =
      ap (λ n. journal_in (d.state after.disk.now).seen n) left.count ∙ (ap (λ (x : D). journal_in (d.state x).seen store.count) (sym left.disk) ∙ grown)

-- ---- nothing was done

pub goes_nowhere : (j : JournalState) → IsLawful j.disk → HasGoneOn j j
goes_nowhere j law = record { name = refl; header = refl; counts = omega arith; tells = refl; moments = started j.disk (λ _. Unit {0}) law (λ c image. tt) }

-- one after the other
pub goes_then : (a b c : JournalState) → IsLawful c.disk → HasGoneOn a b → HasGoneOn b c → HasGoneOn a c
goes_then a b c law first second = record {
  name = second.name ∙ first.name;
  header = second.header ∙ first.header;
  counts = omega (arith, first.counts, second.counts);
  tells = second.tells ∙ first.tells;
  moments = joined_moments;
}
  where
    joined_moments : LeavesOnly a.disk c.disk (λ _. Unit {0})
    joined_moments = record {
      later = omega (arith, first.moments.later, second.moments.later);
      each = λ x left. tt;
      before = λ t x le left.
          ⊎_elim
          (λ was. ⊎_elim (λ old_one. inl old_one) (λ then. inr (second.moments.keeps a.disk.clock x first.moments.later then)) (first.moments.before t x le was))
          (λ now. inr (law.wider a.disk.clock b.disk.clock x first.moments.later now))
          (second.moments.before t x (omega (arith, le, first.moments.later)) left);
      keeps = λ t x le left. second.moments.keeps t x (omega (arith, le, first.moments.later)) (first.moments.keeps t x le left);
    }
