-- What a look in a turn tells the pass that took it.
use Rattle.std.proofs.Common.{◌≡◌, ◌⊎◌, inl, inr, ⊎_elim, ℕ, zero, suc, ◌+◌, ◌≤◌, List, [], ◌∷◌, ◌++◌, Bool, true, false, length, map, refl, sym, ap, ◌∙◌, subst, Some, None, Option, arith, append-nil, append_assoc, length-append, All}
use Rattle.std.specs.Prelude.{is_some, Result, Ok, Err, OnOk, IfSome, IfNone, IsErrOf}
use Rattle.std.proofs.lemmas.List.Elements.{All-append, All-nil}
use mathlib.Core.List.{IsPrefix}
use Rattle.log_seams.specs.Disk.{DiskState}
use Rattle.turn_lock.specs.History.{places}
use Rattle.turn_lock.specs.Words.{seen, about, number_of, lock_of, own_list, IsReady, IsStill, HasFixed, Adds, OwnsMore}
use Rattle.dict_lock.proofs.SharedLemmas.{some_about}
use Rattle.record_format.specs.declared.header.Header.{Header}
use Rattle.archive_meaning.specs.declared.entry.JournalEntry.{JournalEntry}
use Rattle.disk_seal.specs.declared.entry.StoreEntry.{StoreEntry}
use Rattle.disk_seal.specs.declared.entry.StoreEntry.TheVariants.{Entry, Blank, Stopped}
use Rattle.disk_seal.specs.declared.faults.DiskFault.{DiskFault}
use Rattle.disk_seal.specs.declared.fixed.StoreFixed.{StoreFixed}
use Rattle.disk_seal.specs.declared.found.Found.{Found}
use Rattle.disk_seal.specs.declared.found.FoundRefusal.{FoundRefusal}
use Rattle.disk_seal.specs.declared.found.FoundRefusal.TheVariants.{DiskFault as fault_found, Damaged, OutOfMemory}
use Rattle.disk_seal.specs.Told.{IfTold, journal_in, recorded, mark, IsMark, blanks}
use Rattle.disk_seal.specs.View.{StoreView, StoreState, state_by, tells, journal_of, store_entries, Kept}
use Rattle.disk_seal.specs.Fixed.{fixed_of, KeeperPass}
use Rattle.disk_seal.specs.May.{MayAdd}
use Rattle.disk_seal.specs.Adding.{Stays}
use Rattle.disk_seal.specs.Draft.{journal_seen}
use Rattle.disk_seal.specs.Prepare.{HasSeenOpening}
use Rattle.disk_seal.specs.Found.{IsSomeGate, IsNextIn, IsEndIn, IsGateOf, FindsNext, IsLastOf, IsUntold, RunsOn, HasFailed}
use Rattle.disk_seal.specs.Beside.{Follower, MayFollowOn, HasFollowed}
use Rattle.disk_seal.specs.Looked.{journal_length, WhereTold, MayLook, HasTurned, HasNext, HasNone, HasHalted, TellsNothing}
use Rattle.disk_seal.proofs.PrepareLemmas.{seen_all, seen_joined}
use Rattle.disk_seal.proofs.NextLemmas.{told_always}
use Rattle.disk_seal.proofs.FoundLemmas.{length_in}
use Rattle.disk_seal.proofs.ToldLemmas.{told_map, told_both}

-- ---- how long the journal in a list is

pub length_joined : (xs ys : List StoreEntry) → journal_length (xs ++ ys) ≡ journal_length xs + journal_length ys
length_joined [] ys = omega arith
length_joined (Entry e ∷ xs) ys = omega (arith, length_joined xs ys)
length_joined (Blank ∷ xs) ys = omega (arith, length_joined xs ys)
length_joined (Stopped n ∷ xs) ys = length_joined xs ys

length_blank : (n : ℕ) → journal_length (blanks n) ≡ n
length_blank zero = refl
length_blank (suc n) = ap suc (length_blank n)

length_told : (es : List JournalEntry) → journal_length (map (λ (e : JournalEntry). Entry e) es) ≡ length es
length_told [] = refl
length_told (e ∷ es) = ap suc (length_told es)

no_mark : (o : Option ℕ) → journal_length (mark o) ≡ 0
no_mark None = refl
no_mark (Some n) = refl

length_recorded_in : (told : Option (List ℕ)) (n : ℕ) → journal_length (recorded told n) ≡ n
length_recorded_in None n = length_blank n
length_recorded_in (Some bytes) n = length_told (journal_in (Some bytes) n) ∙ length_in bytes n

pub length_list : (s : StoreState) → journal_length (store_entries s) ≡ s.count
length_list s =
    omega (arith, length_joined (recorded s.disk.seen s.count) (mark s.stopped), length_recorded_in s.disk.seen s.count, no_mark s.stopped)

-- ---- the journal in a list

none_seen : (o : Option ℕ) → journal_seen (mark o) ≡ []
none_seen None = refl
none_seen (Some n) = refl

recorded_seen : (told : Option (List ℕ)) (n : ℕ) (b : Bool) → is_some told ≡ b → IfTold b (journal_seen (recorded told n) ≡ journal_in told n)
recorded_seen None n false is = tt
recorded_seen None n true is = absurd (cc (is))
recorded_seen (Some bytes) n b is = told_always b (seen_all (journal_in (Some bytes) n))

pub seen_list : (s : StoreState) → Kept s → IfTold (tells s) (journal_seen (store_entries s) ≡ journal_of s)
seen_list s k =
    told_map (tells s) (λ (is : journal_seen (recorded s.disk.seen s.count) ≡ journal_of s).
    seen_joined (recorded s.disk.seen s.count) (mark s.stopped) ∙ ap (λ l. journal_seen (recorded s.disk.seen s.count) ++ l) (none_seen s.stopped) ∙ append-nil (journal_seen (recorded s.disk.seen s.count)) ∙ is)
    (recorded_seen s.disk.seen s.count (tells s) k.tells_still)

count_in : (told : Option (List ℕ)) (n : ℕ) (b : Bool) → is_some told ≡ b → IfTold b (n ≡ length (journal_in told n))
count_in None n false is = tt
count_in None n true is = absurd (cc (is))
count_in (Some bytes) n b is = told_always b (sym (length_in bytes n))

-- ---- the turn

module _ {D : Type 0} (state : D → DiskState) (p m : KeeperPass D) (v : StoreView D) (k : Kept (state_by state v)) (first_still : IsStill p m) (on : IsPrefix (seen p) (seen m))
    (entries_are : store_entries (state_by state v) ≡ seen m) (fixed : HasFixed fixed_of (about p) v) where
  abbrev s : StoreState
  s = state_by state v

  pub may_look : (at : ℕ) → MayLook state at p → IsGateOf at s
  may_look at may =
      let known = some_about (about p) p.known in
      let here : IfTold (tells s) (IsSomeGate v.header (journal_seen (seen p)) at) =
      subst (λ (f : StoreFixed D). IfTold (is_some (state f.opened).seen) (IsSomeGate f.header (journal_seen (seen p)) at)) (sym (fixed known.0 known.1)) (may known.0 known.1) in
      told_both (tells s) (λ (gate : IsSomeGate v.header (journal_seen (seen p)) at) (is : journal_seen (store_entries s) ≡ journal_of s).
      let more = journal_seen on.0 in
      let longer : gate.0 ++ (gate.1.front.0 ++ more) ≡ journal_of s =
      sym (append_assoc gate.0 gate.1.front.0 more) ∙ ap (λ l. l ++ more) gate.1.front.1 ∙ sym (seen_joined (seen p) on.0) ∙ ap journal_seen (on.1 ∙ sym entries_are) ∙ is in
      (gate.0, record { front = (gate.1.front.0 ++ more, longer); place = gate.1.place }))
      here (seen_list s k)

  -- what the look leaves of the store
  module _ (w : StoreView D) (stays : Stays v w) where
    abbrev t : StoreState
    t = state_by state w

    -- nothing, or the mark, stands behind what was there
    abbrev Marks : Type 0
    Marks = (rest : List StoreEntry) × (store_entries t ≡ store_entries s ++ rest) × ((rest ≡ []) ⊎ ((n : ℕ) × (rest ≡ Stopped n ∷ [])))

    no_marks : store_entries t ≡ store_entries s → Marks
    no_marks same = ([], same ∙ sym (append-nil (store_entries s)), inl refl)

    failed_marks : (f : DiskFault) → HasFailed state f v w → Marks
    failed_marks f has = by_stop v.stopped refl
      where
        by_stop : (o : Option ℕ) → v.stopped ≡ o → Marks
        by_stop None is = (Stopped f.now ∷ [], has.halts is, inr (f.now, refl))
        by_stop (Some n) is = no_marks (ap (λ (x : StoreView D). store_entries (state_by state x)) (has.rests (λ none. absurd (cc (none, is)))))

    pub marks_by : (at : ℕ) (r : Result (Option Found) FoundRefusal) → OnOk r (RunsOn state v w) → ((opened now : ℕ) → IsErrOf r (fault_found opened now) → HasFailed state (record { opened = opened; now = now }) v w)
        → ((place : ℕ) → IsErrOf r (Damaged place) → IsUntold place at s × RunsOn state v w) → (IsErrOf r OutOfMemory → RunsOn state v w) → Marks
    marks_by at (Ok next) runs fault damaged memory = no_marks runs.entries
    marks_by at (Err (fault_found opened now)) runs fault damaged memory = failed_marks (record { opened = opened; now = now }) (fault opened now refl)
    marks_by at (Err (Damaged place)) runs fault damaged memory = no_marks (damaged place refl).1.entries
    marks_by at (Err OutOfMemory) runs fault damaged memory = no_marks (memory refl).entries

    pub marks_added : Marks → Adds MayAdd m (store_entries t)
    marks_added marks = (
      marks.0,
      marks.1 ∙ ap (λ l. l ++ marks.0) entries_are,
      ⊎_elim
          (λ (none : marks.0 ≡ []). subst (All (MayAdd (number_of m))) (sym none) (All-nil (MayAdd (number_of m))))
          (λ (one : (n : ℕ) × (marks.0 ≡ Stopped n ∷ [])). subst (All (MayAdd (number_of m))) (sym one.1) (only_mark (number_of m) one.0)) marks.2,
    )
      where
        only_mark : (n now : ℕ) → All (MayAdd n) (Stopped now ∷ [])
        only_mark n now zero d lt = tt
        only_mark n now (suc i) d lt = absurd (omega (arith, lt))

    pub fixed_still : HasFixed fixed_of (about m) w
    fixed_still a is = same ∙ fixed a (sym first_still.about_is ∙ is)
      where
        same : fixed_of w ≡ fixed_of v
        same = λ i. record { name = stays.name i; opened = stays.opened i; header = stays.header i; first = stays.first i; types = lock_of (stays.types i); words = lock_of (stays.words i) }

    -- and what the pass has, once its turn is put
    module _ (q : KeeperPass D) (still : IsStill m q) (ready : IsReady q) (seen_is : seen q ≡ store_entries t) where
      about_same : about q ≡ about p
      about_same = still.about_is ∙ first_still.about_is

      pub has_turned : own_list m ≡ own_list p → OwnsMore m q (store_entries t) → Marks → HasTurned p q
      has_turned first_own own marks =
          let joins : store_entries t ≡ seen m ++ marks.0 = marks.1 ∙ ap (λ l. l ++ marks.0) entries_are in
          let low : length (seen p) ≤ length (seen m) = omega (arith, ap (λ (l : List StoreEntry). length l) on.1, length-append (seen p) on.0) in
          record {
            still = record { lock = still.lock ∙ first_still.lock; number = still.number ∙ first_still.number; about_is = about_same };
            ready = ready;
            seen_on = (on.0 ++ marks.0, sym (append_assoc (seen p) on.0 marks.0) ∙ ap (λ l. l ++ marks.0) on.1 ∙ sym joins ∙ sym seen_is);
            marks = places (length (seen m)) marks.0;
            own = own marks.0 joins ∙ ap (λ l. l ++ places (length (seen m)) marks.0) first_own;
            only = only_marks marks.0 (length (seen m)) marks.2;
            behind = all_behind marks.0 (length (seen p)) (length (seen m)) low marks.2;
          }
        where
          only_marks : (rest : List StoreEntry) (n : ℕ) → (rest ≡ []) ⊎ ((k : ℕ) × (rest ≡ Stopped k ∷ [])) → All (λ (x : ℕ × StoreEntry). IsMark x.1) (places n rest)
          only_marks [] n either i d lt = absurd (omega (arith, lt))
          only_marks (e ∷ es) n (inl none) i d lt = absurd (cc (none))
          only_marks (e ∷ []) n (inr one) zero d lt = let is : e ≡ Stopped one.0 = cc (one.1) in subst IsMark (sym is) tt
          only_marks (e ∷ []) n (inr one) (suc i) d lt = absurd (omega (arith, lt))
          only_marks (e ∷ x ∷ es) n (inr one) i d lt = absurd (cc (one.1))

          all_behind : (rest : List StoreEntry) (low n : ℕ) → low ≤ n → (rest ≡ []) ⊎ ((k : ℕ) × (rest ≡ Stopped k ∷ [])) → All (λ (x : ℕ × StoreEntry). low ≤ x.0) (places n rest)
          all_behind [] low n le either i d lt = absurd (omega (arith, lt))
          all_behind (e ∷ es) low n le (inl none) i d lt = absurd (cc (none))
          all_behind (e ∷ []) low n le (inr one) zero d lt = le
          all_behind (e ∷ []) low n le (inr one) (suc i) d lt = absurd (omega (arith, lt))
          all_behind (e ∷ x ∷ es) low n le (inr one) i d lt = absurd (cc (one.1))

      -- what is told of the store is told of what the pass has seen
      pub where_told : (P : Header → List JournalEntry → Type 0) → store_entries t ≡ store_entries s → IfTold (tells s) (P v.header (journal_of s)) → WhereTold state q P
      where_told P same has a is =
          let list : IfTold (tells s) (journal_seen (seen q) ≡ journal_of s) = told_map (tells s) (λ (l : journal_seen (store_entries s) ≡ journal_of s). ap journal_seen (seen_is ∙ same) ∙ l) (seen_list s k) in
          let here : IfTold (tells s) (P v.header (journal_seen (seen q))) =
          told_both (tells s) (λ (l : journal_seen (seen q) ≡ journal_of s) (h : P v.header (journal_of s)). subst (P v.header) (sym l) h) list has in
          subst (λ (x : StoreFixed D). IfTold (is_some (state x.opened).seen) (P x.header (journal_seen (seen q)))) (fixed a (sym about_same ∙ is)) here

      pub records_told : RunsOn state v w → v.count ≡ journal_length (seen q)
      records_told runs = sym (length_list s) ∙ ap journal_length (sym (seen_is ∙ runs.entries))

      -- where it is told, the count is that of the entries that the pass has seen
      pub counted_told : RunsOn state v w → WhereTold state q (λ _ es. v.count ≡ length es)
      counted_told runs = where_told (λ _ es. v.count ≡ length es) runs.entries (count_in s.disk.seen v.count (tells s) k.tells_still)

      pub has_next : (at : ℕ) (next : Option Found) → RunsOn state v w → IfSome next (λ f. FindsNext at f s) → IfSome next (λ f. HasNext state at f q)
      has_next at None runs finds = tt
      has_next at (Some f) runs finds = record { whole = finds.whole; next = where_told (λ h es. IsNextIn h es at f) runs.entries finds.next }

      pub has_none : (at : ℕ) (next : Option Found) → RunsOn state v w → IfNone next (IsLastOf at s) → IfNone next (HasNone state at q)
      has_none at None runs last = where_told (λ h es. IsEndIn h es at) runs.entries last
      has_none at (Some f) runs last = tt

      pub has_halted : (f : DiskFault) → HasFailed state f v w → HasHalted state f q
      has_halted f has = record {
        fault = record {
          opened = λ a is. has.fault.opened ∙ ap (λ d. (state d).faults) (stays.opened ∙ ap (λ (x : StoreFixed D). x.opened) (fixed a (sym about_same ∙ is)));
          rose = has.fault.rose;
        };
        marked =
            (recorded t.disk.seen t.count, ([], append-nil (recorded t.disk.seen t.count ++ Stopped f.now ∷ []) ∙ sym (seen_is ∙ ap (λ o. recorded t.disk.seen t.count ++ mark o) has.fault.now)));
      }

      pub tells_nothing : (place at : ℕ) → IsUntold place at s → TellsNothing state place at q
      tells_nothing place at none = record {
        here = none.here;
        untold = λ a is. subst (λ (x : StoreFixed D). is_some (state x.opened).seen ≡ false) (fixed a (sym about_same ∙ is)) none.untold;
      }

pub counted_by : {D : Type 0} (state : D → DiskState) (q : KeeperPass D) (n m : ℕ) → n ≡ m → WhereTold state q (λ _ es. m ≡ length es) → WhereTold state q (λ _ es. n ≡ length es)
counted_by state q n m same counted a is = subst (λ k. IfTold (is_some (state a.fixed.opened).seen) (k ≡ length (journal_seen (seen q)))) (sym same) (counted a is)

-- ---- one turn after another

module _ {D : Type 0} where
  longer_seen : (p q : KeeperPass D) → HasTurned p q → length (seen p) ≤ length (seen q)
  longer_seen p q t = omega (arith, ap (λ (l : List StoreEntry). length l) t.seen_on.1, length-append (seen p) t.seen_on.0)

  pub opening_on : (p q : KeeperPass D) → HasTurned p q → HasSeenOpening p → HasSeenOpening q
  opening_on p q t opening a is = omega (arith, opening a (sym t.still.about_is ∙ is), longer_seen p q t)

  pub turned_none : (p : KeeperPass D) → IsReady p → HasTurned p p
  turned_none p ready = record {
    still = record { lock = refl; number = refl; about_is = refl };
    ready = ready;
    seen_on = ([], append-nil (seen p));
    marks = [];
    own = sym (append-nil (own_list p));
    only = All-nil (λ (x : ℕ × StoreEntry). IsMark x.1);
    behind = All-nil (λ (x : ℕ × StoreEntry). length (seen p) ≤ x.0);
  }

  pub turned_on : (p q r : KeeperPass D) → HasTurned p q → HasTurned q r → HasTurned p r
  turned_on p q r first second = record {
    still = record { lock = second.still.lock ∙ first.still.lock; number = second.still.number ∙ first.still.number; about_is = second.still.about_is ∙ first.still.about_is };
    ready = second.ready;
    seen_on = (first.seen_on.0 ++ second.seen_on.0, sym (append_assoc (seen p) first.seen_on.0 second.seen_on.0) ∙ ap (λ l. l ++ second.seen_on.0) first.seen_on.1 ∙ second.seen_on.1);
    marks = first.marks ++ second.marks;
    own = second.own ∙ ap (λ l. l ++ second.marks) first.own ∙ append_assoc (own_list p) first.marks second.marks;
    only = All-append (λ (x : ℕ × StoreEntry). IsMark x.1) first.marks second.marks first.only second.only;
    behind = All-append (λ (x : ℕ × StoreEntry). length (seen p) ≤ x.0) first.marks second.marks first.behind (λ i d lt. omega (arith, longer_seen p q first, second.behind i d lt));
  }

-- ---- who follows, and takes no turn

pub follows_none : {F D : Type 0} (state : D → DiskState) (f : Follower F) (p : KeeperPass D) → MayFollowOn state f p → HasFollowed state f f p p
follows_none state f p may = record { first = refl; fixed = refl; more = omega arith; keeps = may.keeps; turned = turned_none p may.ready }
