-- What a pass may seal, in the turn that it took.
use Rattle.std.proofs.Common.{◌≡◌, ◌≢◌, ℕ, zero, suc, ◌+◌, ◌<◌, List, [], ◌∷◌, ◌++◌, Bool, true, false, length, map, take, refl, sym, ap, ap₂, ◌∙◌, subst, Some, None, Option, slice_get, arith, append-nil, All}
use Rattle.std.specs.Prelude.{is_some, min}
use Rattle.std.proofs.lemmas.List.Elements.{All-nil}
use mathlib.Core.List.{IsPrefix}
use Rattle.log_seams.specs.Disk.{DiskState}
use Rattle.turn_lock.specs.declared.board.About.{About}
use Rattle.turn_lock.specs.Words.{seen, about, number_of, lock_of, own_list, lock_noted, noted, IsReady, IsStill, HasTurn, HasFixed, OthersMay, Adds, OwnsMore}
use Rattle.dict_lock.proofs.SharedLemmas.{some_about}
use Rattle.archive_meaning.specs.declared.entry.JournalEntry.{JournalEntry}
use Rattle.archive_meaning.specs.declared.entry.JournalEntry.TheVariants.{Files, Types, Words, Segment}
use Rattle.disk_seal.specs.declared.draft.Draft.{Draft}
use Rattle.disk_seal.specs.declared.entry.StoreEntry.{StoreEntry}
use Rattle.disk_seal.specs.declared.entry.StoreEntry.TheVariants.{Entry, Blank, Stopped}
use Rattle.disk_seal.specs.declared.fixed.StoreFixed.{StoreFixed}
use Rattle.disk_seal.specs.Told.{IfTold, journal_in, recorded, mark}
use Rattle.disk_seal.specs.View.{StoreView, StoreState, state_by, tells, journal_of, store_entries, Kept}
use Rattle.disk_seal.specs.Fixed.{fixed_of, KeeperPass}
use Rattle.disk_seal.specs.May.{MayAdd}
use Rattle.disk_seal.specs.Draft.{MayFollow, journal_seen}
use Rattle.disk_seal.specs.Planned.{segment_of, LeavesFile, IsBehind, IsTextsThen, entries_with}
use Rattle.disk_seal.specs.Prepare.{MayBeNext, HasSeenOpening, AreNotesOf, BookNote, IsPlanned, IsTooLong, IsFullAt, HasGivenBack, IsPrepared}
use Rattle.disk_seal.specs.declared.pieces.Piece.{Piece}
use Rattle.disk_seal.specs.Pieces.{added_by}
use Rattle.disk_seal.specs.Collected.{IsSameButBooks, HasSeenMore}
use Rattle.disk_seal.specs.Sealing.{told_as, InHand, MayPut}
use Rattle.archive_meaning.specs.Spelled.{end_of, types_of}
use Rattle.ingest_meaning.specs.WordsIn.{words_of}
use Rattle.std.proofs.lemmas.List.{length-take-le}
use Rattle.disk_seal.specs.Planned.{all_need}
use Rattle.disk_seal.specs.Prepare.{need_behind}
use Rattle.record_format.specs.declared.header.Header.{Header}
use Rattle.disk_seal.proofs.NextLemmas.{good_front}
use Rattle.disk_seal.proofs.PlanLemmas.{segment_last}
use Rattle.disk_seal.proofs.ToldLemmas.{told_both, told_map}

pub seen_joined : (xs ys : List StoreEntry) → journal_seen (xs ++ ys) ≡ journal_seen xs ++ journal_seen ys
seen_joined [] ys = refl
seen_joined (Entry e ∷ xs) ys = ap (λ l. e ∷ l) (seen_joined xs ys)
seen_joined (Blank ∷ xs) ys = seen_joined xs ys
seen_joined (Stopped n ∷ xs) ys = seen_joined xs ys

pub seen_all : (es : List JournalEntry) → journal_seen (map (λ (e : JournalEntry). Entry e) es) ≡ es
seen_all [] = refl
seen_all (e ∷ es) = ap (λ l. e ∷ l) (seen_all es)

-- what others added leaves the file alone
abbrev ByOthers : ℕ → List StoreEntry → Type 0
ByOthers file xs = (i : ℕ) (x : StoreEntry) → slice_get xs i ≡ Some x → (n : ℕ) × MayAdd n x × (n ≢ file)

leaves_by : (file : ℕ) (xs : List StoreEntry) → ByOthers file xs → LeavesFile file (journal_seen xs)
leaves_by file [] others = tt
leaves_by file (Blank ∷ xs) others = leaves_by file xs (λ i x at. others (suc i) x at)
leaves_by file (Stopped n ∷ xs) others = leaves_by file xs (λ i x at. others (suc i) x at)
leaves_by file (Entry (Files names) ∷ xs) others = leaves_by file xs (λ i x at. others (suc i) x at)
leaves_by file (Entry (Types first texts) ∷ xs) others = leaves_by file xs (λ i x at. others (suc i) x at)
leaves_by file (Entry (Words first texts) ∷ xs) others = leaves_by file xs (λ i x at. others (suc i) x at)
leaves_by file (Entry (Segment s) ∷ xs) others =
    let o = others zero (Entry (Segment s)) refl in ((λ same. o.2 (sym o.1 ∙ same)), leaves_by file xs (λ i x at. others (suc i) x at))

slice_get-past : (xs ys : List StoreEntry) (i : ℕ) → slice_get (xs ++ ys) (length xs + i) ≡ slice_get ys i
slice_get-past [] ys i = let step : 0 + i ≡ i = omega arith in ap (slice_get ys) step
slice_get-past (x ∷ xs) ys i = let step : length (x ∷ xs) + i ≡ suc (length xs + i) = omega arith in ap (slice_get ((x ∷ xs) ++ ys)) step ∙ slice_get-past xs ys i

module _ {D : Type 0} (state : D → DiskState) (p : KeeperPass D) (after : List StoreEntry) (v : StoreView D) (k : Kept (state_by state v)) (runs : v.stopped ≡ None)
    (entries_are : store_entries (state_by state v) ≡ after) (front : IsPrefix (seen p) after) (fixed : HasFixed fixed_of (about p) v) (others : OthersMay MayAdd p after) (opening : HasSeenOpening p) where
  abbrev s : StoreState
  s = state_by state v

  known : (a : About (StoreFixed D)) × (about p ≡ Some a)
  known = some_about (about p) p.known

  by_others : ByOthers (number_of p) front.0
  by_others i x at =
      let there : slice_get after (length (seen p) + i) ≡ Some x = ap (λ l. slice_get l (length (seen p) + i)) (sym front.1) ∙ (slice_get-past (seen p) front.0 i ∙ at) in
      let o = others known.0 (length (seen p) + i) x known.1 (omega (arith, opening known.0 known.1)) there in
      (o.0, o.3, o.4 (omega arith))

  journal_is : (told : Option (List ℕ)) (n : ℕ) (b : Bool) → is_some told ≡ b → recorded told n ≡ after → IfTold b (journal_in told n ≡ journal_seen (seen p) ++ journal_seen front.0)
  journal_is None n b is same = subst (λ b. IfTold b (journal_in None n ≡ journal_seen (seen p) ++ journal_seen front.0)) is tt
  journal_is (Some bytes) n b is same =
      subst (λ b. IfTold b (journal_in (Some bytes) n ≡ journal_seen (seen p) ++ journal_seen front.0)) is
      (sym (seen_all (journal_in (Some bytes) n)) ∙ (ap journal_seen (same ∙ sym front.1) ∙ seen_joined (seen p) front.0))

  pub behind_now : (d : Draft) (types words : List (List ℕ)) → d.file ≡ number_of p → MayBeNext state d p types words → IfTold (tells s) (IsBehind s.header (journal_of s) (segment_of d) types words d.words)
  behind_now d types words same may =
      let here : IfTold (tells s) (MayFollow v.header (journal_seen (seen p)) types words (segment_of d) d.words) =
      subst (λ (f : StoreFixed D). IfTold (is_some (state f.opened).seen) (MayFollow f.header (journal_seen (seen p)) types words (segment_of d) d.words)) (sym (fixed known.0 known.1)) (may known.0 known.1) in
      let list : recorded s.disk.seen s.count ≡ after = sym (append-nil (recorded s.disk.seen s.count)) ∙ (ap (λ o. recorded s.disk.seen s.count ++ mark o) (sym runs) ∙ entries_are) in
      joined (tells s) here (journal_is s.disk.seen s.count (tells s) k.tells_still list)
    where
      joined : (b : Bool) → IfTold b (MayFollow v.header (journal_seen (seen p)) types words (segment_of d) d.words) → IfTold b (journal_of s ≡ journal_seen (seen p) ++ journal_seen front.0)
          → IfTold b (IsBehind s.header (journal_of s) (segment_of d) types words d.words)
      joined false m j = tt
      joined true m j = record {
        front = journal_seen (seen p);
        rest = journal_seen front.0;
        is = j;
        leaves = leaves_by d.file front.0 (subst (λ n. ByOthers n front.0) (sym same) by_others);
        may = m;
      }

-- ---- the turn, and the store after its plan

module _ {D : Type 0} (state : D → DiskState) where
  pub notes_of : (p : KeeperPass D) (v : StoreView D) (types words : BookNote) → HasFixed fixed_of (about p) v → AreNotesOf p types words → (lock_noted types ≡ lock_of v.types) × (lock_noted words ≡ lock_of v.words)
  notes_of p v types words fixed notes =
      let known = some_about (about p) p.known in
      let of_lock = notes known.0 known.1 in
      let same = sym (fixed known.0 known.1) in
      (of_lock.0 ∙ ap (λ (f : StoreFixed D). f.types) same, of_lock.1 ∙ ap (λ (f : StoreFixed D). f.words) same)

  module _ (p : KeeperPass D) (v w : StoreView D) (types words : List (List ℕ)) (turn : HasTurn p) (entries_are : store_entries (state_by state v) ≡ seen p) (fixed : HasFixed fixed_of (about p) v) (same : IsSameButBooks v w)
      (seen_types : HasSeenMore v.types w.types types) (seen_words : HasSeenMore v.words w.words words) where
    entries_stay : store_entries (state_by state w) ≡ seen p
    entries_stay = ap (λ (x : StoreView D). store_entries (state_by state x)) same.passes ∙ entries_are

    fixed_same : fixed_of w ≡ fixed_of v
    fixed_same = ap fixed_of same.passes ∙ locks
      where
        locks : fixed_of (record v { types = w.types; words = w.words }) ≡ fixed_of v
        locks = λ i. record { name = v.name; opened = v.opened; header = v.header; first = v.first; types = seen_types.still.lock i; words = seen_words.still.lock i }

    pub in_hand : InHand state w p
    in_hand = record { turn = turn; entries = entries_stay; fixed = λ a is. fixed_same ∙ fixed a is }

    pub adds_none : Adds MayAdd p (store_entries (state_by state w))
    adds_none = ([], entries_stay ∙ sym (append-nil (seen p)), All-nil (MayAdd (number_of p)))

    pub may_put : (d : Draft) (ps : List Piece) → d.file ≡ number_of p → IsPlanned d ps (state_by state w) → MayPut state w ps p
    may_put d ps file planned = record {
      hand = in_hand;
      can = planned.can;
      may = subst (λ n. All (MayAdd n) (told_as (state_by state w) (added_by ps))) file planned.may;
    }

    pub is_prepared : (before : KeeperPass D) (d : Draft) (ps : List Piece) → d.file ≡ number_of before → IsStill before p → IsPrefix (seen before) (seen p) → own_list p ≡ own_list before → IsPlanned d ps (state_by state w)
        → IsPrepared state d before p w ps
    is_prepared before d ps file still front own planned = record {
      may = may_put d ps (file ∙ sym still.number) planned;
      last = λ runs. told_map (tells (state_by state w)) (λ (is : added_by ps ≡ entries_with d (state_by state w)). subst (IsTextsThen (segment_of d)) (sym is) (segment_last d (state_by state w))) (planned.all runs);
      still = still;
      seen_on = front;
      own = own;
    }

  pub given_back : (p m q : KeeperPass D) (v w : StoreView D) → IsStill p m → IsPrefix (seen p) (seen m) → own_list m ≡ own_list p → IsStill m q → IsReady q → seen q ≡ store_entries (state_by state w) → store_entries (state_by state w) ≡ seen m
      → OwnsMore m q (store_entries (state_by state w)) → HasGivenBack p q
  given_back p m q v w still front own put_still ready seen_is entries owns = record {
    still = record { lock = put_still.lock ∙ still.lock; number = put_still.number ∙ still.number; about_is = put_still.about_is ∙ still.about_is };
    ready = ready;
    seen_on = (front.0, front.1 ∙ sym (seen_is ∙ entries));
    own = owns [] (entries ∙ sym (append-nil (seen m))) ∙ (append-nil (own_list m) ∙ own);
  }

  told_three : {P Q R T : Type 0} (b : Bool) → (P → Q → R → T) → IfTold b P → IfTold b Q → IfTold b R → IfTold b T
  told_three false f p q r = tt
  told_three true f p q r = f p q r

  journal_told : (b : Bool) (told : Option (List ℕ)) (n : ℕ) → is_some told ≡ b → IfTold b (journal_seen (recorded told n) ≡ journal_in told n)
  journal_told b None n is = subst (λ b. IfTold b (journal_seen (recorded None n) ≡ journal_in None n)) is tt
  journal_told b (Some bytes) n is = subst (λ b. IfTold b (journal_seen (recorded (Some bytes) n) ≡ journal_in (Some bytes) n)) is (seen_all (journal_in (Some bytes) n))

  pub full_at : (d : Draft) (p q : KeeperPass D) (v w : StoreView D) (end need : ℕ) (note_t note_w : BookNote) (types words : List (List ℕ)) → HasFixed fixed_of (about p) v → Kept (state_by state v) → IsSameButBooks v w
      → HasSeenMore v.types w.types types → HasSeenMore v.words w.words words → IsTooLong d end need note_t note_w (state_by state w) → seen q ≡ store_entries (state_by state w) → IsFullAt state d end need note_t note_w types words p q
  full_at d p q v w end need note_t note_w types words fixed k same seen_types seen_words long seen_is =
      let s = state_by state v in
      let runs : v.stopped ≡ None = sym (ap (λ (x : StoreView D). x.stopped) same.passes) ∙ long.runs in
      let place : w.place ≡ v.place = ap (λ (x : StoreView D). x.place) same.passes in
      let header : w.header ≡ v.header = ap (λ (x : StoreView D). x.header) same.passes in
      let entries_same : store_entries (state_by state w) ≡ store_entries s = ap (λ (x : StoreView D). store_entries (state_by state x)) same.passes in
      let past : v.header.length_limit < end + need = subst (λ (h : Header). h.length_limit < end + need) header long.past in
      let list : seen q ≡ recorded s.disk.seen s.count = seen_is ∙ (entries_same ∙ (ap (λ o. recorded s.disk.seen s.count ++ mark o) runs ∙ append-nil (recorded s.disk.seen s.count))) in
      let told : IfTold (tells s) (end ≡ end_of v.header (journal_seen (seen q))) = told_both (tells s) (λ (g : s.place + 1 ≡ end_of s.header (journal_of s)) (j : journal_seen (recorded s.disk.seen s.count) ≡ journal_in s.disk.seen s.count).
      long.ends ∙ (ap (λ n. n + 1) place ∙ (g ∙ ap (end_of v.header) (sym j ∙ ap journal_seen (sym list))))) (good_front s k runs).gate (journal_told (tells s) s.disk.seen s.count k.tells_still) in
      let types_same : w.types_saved ≡ v.types_saved = ap (λ (x : StoreView D). x.types_saved) same.passes in
      let words_same : w.words_saved ≡ v.words_saved = ap (λ (x : StoreView D). x.words_saved) same.passes in
      let need_told : IfTold (tells s) (need ≡ min (need_behind d (journal_seen (seen q)) (noted note_t) (noted note_w)) 18446744073709551615) =
      told_three (tells s) (λ (j : journal_seen (recorded s.disk.seen s.count) ≡ journal_in s.disk.seen s.count) (t : take v.types_saved (seen v.types) ≡ types_of (journal_of s)) (u : take v.words_saved (seen v.words) ≡ words_of (journal_of s)).
      let list_is : journal_of s ≡ journal_seen (seen q) = sym j ∙ ap journal_seen (sym list) in
      let types_count : w.types_saved ≡ length (types_of (journal_seen (seen q))) = types_same ∙ (sym (length-take-le v.types_saved (seen v.types) k.types.low) ∙ (ap length t ∙ ap (λ es. length (types_of es)) list_is)) in
      let words_count : w.words_saved ≡ length (words_of (journal_seen (seen q))) = words_same ∙ (sym (length-take-le v.words_saved (seen v.words) k.words.low) ∙ (ap length u ∙ ap (λ es. length (words_of es)) list_is)) in
      long.needs ∙ ap (λ n. min n 18446744073709551615) (ap₂ (λ m n. all_need d m (seen w.types) n (seen w.words)) types_count words_count
      ∙ ap₂ (λ x y. all_need d (length (types_of (journal_seen (seen q)))) x (length (words_of (journal_seen (seen q)))) y) (sym long.types_seen) (sym long.words_seen)))
      (journal_told (tells s) s.disk.seen s.count k.tells_still) k.types.front k.words.front in
      record {
        locks = λ a is. let f = fixed a is in (long.types_lock ∙ (seen_types.still.lock ∙ ap (λ (x : StoreFixed D). x.types) f), long.words_lock ∙ (seen_words.still.lock ∙ ap (λ (x : StoreFixed D). x.words) f));
        types_on = subst (IsPrefix types) (sym long.types_seen) seen_types.noted_on;
        words_on = subst (IsPrefix words) (sym long.words_seen) seen_words.noted_on;
        past = λ a is. subst (λ (f : StoreFixed D). f.header.length_limit < end + need) (fixed a is) past;
        needs = λ a is. subst (λ (f : StoreFixed D). IfTold (is_some (state f.opened).seen) (need ≡ min (need_behind d (journal_seen (seen q)) (noted note_t) (noted note_w)) 18446744073709551615)) (fixed a is) need_told;
        ends = λ a is. subst (λ (f : StoreFixed D). IfTold (is_some (state f.opened).seen) (end ≡ end_of f.header (journal_seen (seen q)))) (fixed a is) told;
      }
