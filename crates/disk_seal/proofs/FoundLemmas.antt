-- What is read at a gate of a store's journal, and what the store keeps then.
use Rattle.std.proofs.Common.{◌≡◌, ℕ, ◌+◌, ◌<◌, ◌≤◌, List, [], ◌∷◌, ◌++◌, Bool, true, false, length, take, drop, refl, sym, ap, ◌∙◌, subst, Some, None, Option, arith, append-nil, append_assoc, length-append}
use Rattle.std.specs.Prelude.{is_some, IfSome, IfNone, IsNone}
use Rattle.std.proofs.lemmas.List.{length-map, take_at, drop_at}
use mathlib.Core.List.{IsPrefix}
use Rattle.log_seams.specs.Disk.{IsLawful, LeavesOnly}
use Rattle.log_seams.specs.Outside.{Rose}
use Rattle.log_seams.proofs.MomentLemmas.{joined, rests_leave, rests_on, rose}
use Rattle.record_format.specs.declared.header.Header.{Header}
use Rattle.record_format.specs.Header.{header_bytes}
use Rattle.disk_journal.specs.Record.{Saved, body, records, spelled}
use Rattle.disk_journal.specs.Place.{entries, AtEnd, HasRange, OpenAt}
use Rattle.disk_journal.specs.State.{JournalState}
use Rattle.disk_journal.specs.Calls.{OnlyReads, StaysAt, GaveFewer, HasLoaded}
use Rattle.disk_journal.specs.Gates.{HasGate, GateIn, IsGate, RecordIn, HasFound, AllBefore, IsLast, HasNoGate}
use Rattle.disk_journal.specs.declared.walk.RecordPlace.{RecordPlace}
use Rattle.disk_journal.proofs.WalkLemmas.{end_stays}
use Rattle.archive_meaning.specs.declared.entry.JournalEntry.{JournalEntry}
use Rattle.archive_meaning.specs.Spelled.{end_of, front_of, record_of, records_from, records_of, types_in, types_of}
use Rattle.archive_meaning.specs.Stands.{IsLegal}
use Rattle.archive_meaning.proofs.UniqueLemmas.{front_joined, legal_front, records_joined}
use Rattle.disk_seal.specs.declared.entry.StoreEntry.TheVariants.{Stopped}
use Rattle.disk_seal.specs.declared.found.Found.{Found}
use Rattle.disk_seal.specs.Told.{IfTold, entry_of, journal_in, recorded, mark}
use Rattle.disk_seal.specs.View.{StoreState, journal_state, tells, journal_of, journal_before, store_entries, Image, KnowsTypes, KnowsWords, Kept}
use Rattle.disk_seal.specs.Found.{IsGateBehind, IsSomeGate, IsRecordBehind, IsNextIn, IsEndIn, IsGateOf, FindsNext, IsLastOf, IsUntold}
use Rattle.disk_seal.specs.StepsFound.{Rereads, IsFoundIn}
use Rattle.disk_seal.proofs.ToldLemmas.{told_map, length-records, length-records_from}
use Rattle.disk_seal.proofs.NextLemmas.{good_front}

-- ---- one call and another on a journal that stays where it is

pub reread_one : (at n : ℕ) (old new : JournalState) → OnlyReads at n old new → StaysAt old new → Rereads old new
reread_one at n old new reads stays = record { name = reads.name; header = reads.header; place = stays.place; count = stays.count; closed = stays.closed; rests = reads.rests }

pub reread_two : (at n : ℕ) (old mid new : JournalState) → Rereads old mid → OnlyReads at n mid new → StaysAt mid new → Rereads old new
reread_two at n old mid new first reads stays = record {
  name = reads.name ∙ first.name;
  header = reads.header ∙ first.header;
  place = stays.place ∙ first.place;
  count = stays.count ∙ first.count;
  closed = stays.closed ∙ first.closed;
  rests = rests_on old.disk mid.disk new.disk first.rests reads.rests;
}

-- a whole record's payload may be loaded
range_in : (told : Option (List ℕ)) (at : ℕ) (p : RecordPlace) → p.payload ≡ at + 10 → OpenAt at p.kind p.length told → IfSome told (HasRange p.payload p.length)
range_in None at p is found = tt
range_in (Some bytes) at p is found = let within = found.within in omega (arith, is)

pub may_load : (at : ℕ) (p : RecordPlace) (old new : JournalState) → HasFound at p old → new.disk.seen ≡ old.disk.seen → IfSome new.disk.seen (HasRange p.payload p.length)
may_load at p old new found seen =
    subst (λ (t : Option (List ℕ)). IfSome t (HasRange p.payload p.length)) (sym seen) (range_in old.disk.seen at p (found.payload ∙ ap (λ (n : ℕ). n + 10) found.here) found.found)

pub is_found : (at : ℕ) (f : Found) (old mid new : JournalState) → HasFound at f.place old → mid.disk.seen ≡ old.disk.seen → HasLoaded f.place.payload f.place.length f.payload mid new → IsFoundIn at f old
is_found at f old mid new found seen loaded = record {
  found = found;
  size = loaded.size;
  these = subst (λ (t : Option (List ℕ)). IfSome t (λ bytes. f.payload ≡ take f.place.length (drop f.place.payload bytes))) seen loaded.these;
}

pub none_found : (place at n gate : ℕ) (old mid new : JournalState) → mid.disk.seen ≡ old.disk.seen → GaveFewer at n place mid new → HasNoGate gate gate old
none_found place at n gate old mid new seen fewer = record { here = refl; untold = subst (λ (t : Option (List ℕ)). IsNone t) seen fewer.untold }

-- ---- what a store keeps whose disk was only read

module _ (s : StoreState) (k : Kept s) (j : JournalState) (law : IsLawful s.disk) (law_new : IsLawful j.disk) (reads : Rereads (journal_state s) j) (no_fall : s.disk.faults ≤ j.disk.faults) (runs : s.stopped ≡ None) where
  abbrev reread : StoreState
  reread = record s { disk = j.disk; name = j.name; header = j.header; place = j.place; count = j.count; closed = j.closed }

  abbrev same_places : StoreState
  same_places = record s { disk = j.disk; name = j.name }

  reread_is : reread ≡ same_places
  reread_is = λ i. record s { disk = j.disk; name = j.name; header = reads.header i; place = reads.place i; count = reads.count i; closed = reads.closed i }

  seen_same : j.disk.seen ≡ s.disk.seen
  seen_same = reads.rests.seen

  journal_same : journal_in j.disk.seen s.count ≡ journal_of s
  journal_same = ap (λ (t : Option (List ℕ)). journal_in t s.count) seen_same

  kept_same : Kept same_places
  kept_same =
      let back : (P : Option (List ℕ) → Type 0) → P s.disk.seen → P j.disk.seen = λ P p. subst P (sym seen_same) p in
      record {
        header = k.header;
        closed = k.closed;
        tells_still = back (λ t. is_some t ≡ tells s) k.tells_still;
        spelled = back (λ t. entries t s.count ≡ records_of (journal_in t s.count)) k.spelled;
        front = back (λ t. IsPrefix (journal_before s) (journal_in t s.count)) k.front;
        counts = k.counts;
        under = k.under;
        one = k.one;
        legal = back (λ t. IfTold (tells s) (IsLegal s.header (journal_in t s.count ++ k.under))) k.legal;
        now = λ c image. back (λ t. Image s s.count (journal_in t s.count ++ k.under) c) (k.now c (reads.rests.no_more c image));
        past = back (λ t. LeavesOnly s.opened j.disk (Image s s.first (journal_in t s.count ++ k.under)))
            (joined s.opened s.disk j.disk (Image s s.first (journal_of s ++ k.under)) s.disk.images (Image s s.first (journal_of s ++ k.under)) law_new k.past (rests_leave s.disk j.disk law law_new reads.rests)
            (λ c first. first) (λ c image. k.past.each c (law.wider s.opened.clock s.disk.clock c k.past.later (law.counts_now s.disk.clock c (omega arith) image))));
        going = λ runs. ((k.going runs).0, back (λ t. AtEnd (header_bytes s.header) s.place s.count t j.disk.images) (end_stays (header_bytes s.header) s.place s.count s.disk.seen s.disk.images j.disk.images reads.rests.no_more (k.going runs).1));
        at_opening = k.at_opening;
        risen = omega (arith, k.risen, no_fall);
        fault = λ n is. absurd (cc (runs, is));
        types = back (λ t. KnowsTypes (tells s) s.header s.types s.types_saved (journal_in t s.count)) k.types;
        words = back (λ t. KnowsWords (tells s) s.header s.words s.words_saved (journal_in t s.count)) k.words;
      }

  pub kept_reread : Kept reread
  kept_reread = subst Kept (sym reread_is) kept_same

  -- its list stays
  recorded_stays : recorded j.disk.seen j.count ≡ recorded s.disk.seen s.count
  recorded_stays = ap (λ (n : ℕ). recorded j.disk.seen n) reads.count ∙ ap (λ (t : Option (List ℕ)). recorded t s.count) seen_same

  pub list_stays : store_entries reread ≡ store_entries s
  list_stays = ap (λ l. l ++ mark s.stopped) recorded_stays

  -- and where a fault stops it, it has the mark
  module _ (n : ℕ) (failed : Rose s.disk.faults j.disk.faults) (counted : n ≡ j.disk.faults) where
    abbrev failed_now : StoreState
    failed_now = record reread { stopped = Some n }

    rose_now : Rose s.opened.faults n
    rose_now = subst (λ m. Rose s.opened.faults m) (sym counted) (rose s.opened.faults s.disk.faults j.disk.faults j.disk.faults k.risen failed (omega arith))

    pub kept_failed : Kept failed_now
    kept_failed =
        let r = kept_reread in
        record {
          header = r.header;
          closed = r.closed;
          tells_still = r.tells_still;
          spelled = r.spelled;
          front = r.front;
          counts = r.counts;
          under = r.under;
          one = r.one;
          legal = r.legal;
          now = r.now;
          past = r.past;
          going = λ is. absurd (cc (is));
          at_opening = r.at_opening;
          risen = r.risen;
          fault = λ m is. let same : n ≡ m = cc (is) in (subst (λ x. Rose s.opened.faults x) same rose_now, omega (arith, same, counted));
          types = r.types;
          words = r.words;
        }

    pub list_marked : store_entries failed_now ≡ store_entries s ++ Stopped n ∷ []
    list_marked = ap (λ l. l ++ Stopped n ∷ []) (recorded_stays ∙ sym (append-nil (recorded s.disk.seen s.count)) ∙ ap (λ o. recorded s.disk.seen s.count ++ mark o) (sym runs))

-- ---- from records to entries

pub length_in : (bytes : List ℕ) (n : ℕ) → length (journal_in (Some bytes) n) ≡ n
length_in bytes n = length-map (entries (Some bytes) n) entry_of ∙ length-records n (drop 32 bytes)

-- where the bytes are told, and stand for these entries
module _ (h : Header) (bytes : List ℕ) (n at : ℕ) (spelled_is : entries (Some bytes) n ≡ records_of (journal_in (Some bytes) n)) where
  abbrev all : List JournalEntry
  all = journal_in (Some bytes) n

  split : (es rest : List JournalEntry) → es ++ rest ≡ all → records n (drop 32 bytes) ≡ records_of es ++ records_from (types_of es) rest
  split es rest is = spelled_is ∙ ap records_of (sym is) ∙ records_joined [] es rest

  front_records : (es rest : List JournalEntry) → es ++ rest ≡ all → take (length es) (records n (drop 32 bytes)) ≡ records_of es
  front_records es rest is =
      ap (take (length es)) (split es rest is) ∙ take_at (records_of es) (records_from (types_of es) rest) (length es) (length-records_from [] es)

  gate_is : (es : List JournalEntry) → IsGateBehind h all es at → HasGate (header_bytes h) n (length es) at bytes
  gate_is es g = record {
    within = omega (arith, length_in bytes n, ap (λ (l : List JournalEntry). length l) g.front.1, length-append es g.front.0);
    place = g.place ∙ ap (λ (rs : List Saved). length (header_bytes h ++ spelled rs)) (sym (front_records es g.front.0 g.front.1));
  }

  next_entry : (es rest under : List JournalEntry) (f : Found) (new : Saved) (more : List Saved) → es ++ rest ≡ all → IsLegal h (all ++ under) → records_from (types_of es) rest ≡ new ∷ more
      → new ≡ record { kind = f.place.kind; payload = f.payload } → f.place.payload + f.place.length ≡ length (header_bytes h ++ spelled (take (length es + 1) (records n (drop 32 bytes)))) → IsRecordBehind h all es f
  next_entry es [] under f new more is legal first new_is next = absurd (cc (first))
  next_entry es (e ∷ rest) under f new more is legal first new_is next =
      let joins : (es ++ e ∷ []) ++ rest ≡ all = append_assoc es (e ∷ []) rest ∙ is in
      let whole : (es ++ e ∷ []) ++ (rest ++ under) ≡ all ++ under = sym (append_assoc (es ++ e ∷ []) rest under) ∙ ap (λ l. l ++ under) joins in
      let same : record_of (types_of es) e ≡ new = cc (first) in
      let long : length (es ++ e ∷ []) ≡ length es + 1 = length-append es (e ∷ []) in
      let front : take (length es + 1) (records n (drop 32 bytes)) ≡ records_of (es ++ e ∷ []) = ap (λ (m : ℕ). take m (records n (drop 32 bytes))) (sym long) ∙ front_records (es ++ e ∷ []) rest joins in
      record {
        entry = e;
        front = (rest, joins);
        legal = legal_front h (es ++ e ∷ []) (rest ++ under) (subst (IsLegal h) (sym whole) legal);
        saved = same ∙ new_is;
        next = next ∙ ap (λ (rs : List Saved). length (header_bytes h ++ spelled rs)) front;
      }

  entry_there : (under : List JournalEntry) (f : Found) → IsLegal h (all ++ under) → RecordIn (header_bytes h) n at f.place (Some bytes) → f.payload ≡ take f.place.length (drop f.place.payload bytes) → IsNextIn h all at f
  entry_there under f legal found payload = λ es g.
      let r = found (length es) (gate_is es g) in
      let new : Saved = record { kind = f.place.kind; payload = take f.place.length (drop f.place.payload bytes) } in
      let behind : drop (length es) (records n (drop 32 bytes)) ≡ records_from (types_of es) g.front.0 =
      ap (drop (length es)) (split es g.front.0 g.front.1) ∙ drop_at (records_of es) (records_from (types_of es) g.front.0) (length es) (length-records_from [] es) in
      next_entry es g.front.0 under f new (drop (length es + 1) (records n (drop 32 bytes))) g.front.1 legal (sym behind ∙ r.these)
      (ap (λ (p : List ℕ). record { kind = f.place.kind; payload = p }) (sym payload)) r.next.place

  whole_front : (es rest : List JournalEntry) → es ++ rest ≡ all → length es ≡ n → es ≡ all
  whole_front es [] is long = sym (append-nil es) ∙ is
  whole_front es (e ∷ rest) is long = absurd (omega (arith, long, length_in bytes n, ap (λ (l : List JournalEntry). length l) is, length-append es (e ∷ rest)))

  end_there : AllBefore (header_bytes h) n at (Some bytes) → IsEndIn h all at
  end_there last = λ es g. whole_front es g.front.0 g.front.1 (last (length es) (gate_is es g))

-- the gate behind all entries is behind no fewer
short_front : (h : Header) (es rest whole : List JournalEntry) → es ++ rest ≡ whole → length (front_of h es) ≡ length (front_of h whole) → es ≡ whole
short_front h es [] whole is long = sym (append-nil es) ∙ is
short_front h es (e ∷ rest) whole is long =
    let more : length (front_of h whole) ≡ length (front_of h es) + length (spelled (records_from (types_of es) (e ∷ rest))) =
    ap (λ (l : List JournalEntry). length (front_of h l)) (sym is) ∙ ap (λ (l : List ℕ). length l) (front_joined h es (e ∷ rest)) ∙ length-append (front_of h es) (spelled (records_from (types_of es) (e ∷ rest))) in
    let here : List ℕ = 1 ∷ body (record_of (types_of es) e) in
    let first : length (spelled (records_from (types_of es) (e ∷ rest))) ≡ length here + length (spelled (records_from (types_of es ++ types_in e) rest)) =
    length-append here (spelled (records_from (types_of es ++ types_in e) rest)) in
    let some : 0 < length here = omega arith in
    absurd (omega (arith, long, more, first, some))

-- ---- the same of a store

gate_in : (h : Header) (told : Option (List ℕ)) (n at : ℕ) (b : Bool) → is_some told ≡ b → entries told n ≡ records_of (journal_in told n) → IfTold b (IsSomeGate h (journal_in told n) at) → (k : ℕ) × GateIn (header_bytes h) n k at told
gate_in h None n at b is spells gate = (0, tt)
gate_in h (Some bytes) n at false is spells gate = absurd (cc (is))
gate_in h (Some bytes) n at true is spells gate = (length gate.0, gate_is h bytes n at spells gate.0 gate.1)

next_in : (h : Header) (told : Option (List ℕ)) (n at : ℕ) (b : Bool) (under : List JournalEntry) (f : Found) → is_some told ≡ b → entries told n ≡ records_of (journal_in told n) → IfTold b (IsLegal h (journal_in told n ++ under))
    → RecordIn (header_bytes h) n at f.place told → IfSome told (λ bytes. f.payload ≡ take f.place.length (drop f.place.payload bytes)) → IfTold b (IsNextIn h (journal_in told n) at f)
next_in h None n at false under f is spells legal found payload = tt
next_in h None n at true under f is spells legal found payload = absurd (cc (is))
next_in h (Some bytes) n at false under f is spells legal found payload = tt
next_in h (Some bytes) n at true under f is spells legal found payload = entry_there h bytes n at spells under f legal found payload

end_in : (h : Header) (told : Option (List ℕ)) (n at : ℕ) (b : Bool) → is_some told ≡ b → entries told n ≡ records_of (journal_in told n) → AllBefore (header_bytes h) n at told → IfTold b (IsEndIn h (journal_in told n) at)
end_in h None n at false is spells last = tt
end_in h None n at true is spells last = absurd (cc (is))
end_in h (Some bytes) n at false is spells last = tt
end_in h (Some bytes) n at true is spells last = end_there h bytes n at spells last

pub some_gate : (s : StoreState) (at : ℕ) → Kept s → IsGateOf at s → (k : ℕ) × IsGate k at (journal_state s)
some_gate s at k gate = gate_in s.header s.disk.seen s.count at (tells s) k.tells_still k.spelled gate

pub finds_next : (s : StoreState) (at : ℕ) (f : Found) → Kept s → IsFoundIn at f (journal_state s) → FindsNext at f s
finds_next s at f k is = record {
  whole = record { here = is.found.here; payload = is.found.payload ∙ ap (λ (n : ℕ). n + 10) is.found.here; fits = is.found.fits; size = is.size };
  next = next_in s.header s.disk.seen s.count at (tells s) k.under f k.tells_still k.spelled k.legal is.found.record_is is.these;
}

pub is_last : (s : StoreState) (at : ℕ) → Kept s → IsLast at (journal_state s) → IsLastOf at s
is_last s at k last = end_in s.header s.disk.seen s.count at (tells s) k.tells_still k.spelled last.all

pub ends_there : (s : StoreState) (at : ℕ) → Kept s → s.stopped ≡ None → at ≡ s.place → IsLastOf at s
ends_there s at k runs is =
    told_map (tells s) (λ (gate : s.place + 1 ≡ end_of s.header (journal_of s)).
    λ es g. short_front s.header es g.front.0 (journal_of s) g.front.1 (omega (arith, sym g.place, is, gate)))
    (good_front s k runs).gate

pub is_untold : (s : StoreState) (place at : ℕ) → Kept s → HasNoGate place at (journal_state s) → IsUntold place at s
is_untold s place at k none = record { here = none.here; untold = sym k.tells_still ∙ none.untold }

pub found_some : (s : StoreState) (at : ℕ) (next : Option Found) → Kept s → IfSome next (λ f. IsFoundIn at f (journal_state s)) → IfSome next (λ f. FindsNext at f s)
found_some s at None k found = tt
found_some s at (Some f) k found = finds_next s at f k found

pub last_none : (s : StoreState) (at : ℕ) (next : Option Found) → Kept s → IfNone next (IsLast at (journal_state s)) → IfNone next (IsLastOf at s)
last_none s at None k last = is_last s at k last
last_none s at (Some f) k last = tt
