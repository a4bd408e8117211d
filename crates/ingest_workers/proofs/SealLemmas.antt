-- What a pass has sealed.
use Rattle.std.proofs.Common.{◌≡◌, ⊎_elim, ℕ, ◌+◌, ◌<◌, ◌≤◌, List, [], ◌∷◌, ◌++◌, Bool, true, false, length, take, map, refl, sym, ap, ap₂, ◌∙◌, subst, arith, append-nil, append_assoc, length-append, None, Some, Option, All}
use Rattle.std.specs.Prelude.{is_some}
use Rattle.std.proofs.lemmas.List.Elements.{All-nil, All-cons}
use mathlib.Core.List.{IsPrefix}
use Rattle.log_seams.specs.Disk.{DiskState}
use Rattle.turn_lock.specs.declared.board.About.{About}
use Rattle.turn_lock.specs.History.{places, HasLearned}
use Rattle.turn_lock.specs.Words.{seen, own_list, about, number_of, noted, IsReady, IsStill, StaysAs}
use Rattle.turn_lock.proofs.FrontLemmas.{prefix_self, prefix_trans}
use Rattle.dict_lock.specs.Shared.{BookPass, GoesOn}
use Rattle.row_codec.specs.Means.{AreCanonical}
use Rattle.archive_meaning.specs.declared.entry.JournalEntry.{JournalEntry}
use Rattle.archive_meaning.specs.Spelled.{types_of}
use Rattle.ingest_meaning.specs.WordsIn.{words_of}
use Rattle.disk_seal.specs.declared.draft.Draft.{Draft}
use Rattle.disk_seal.specs.declared.entry.StoreEntry.{StoreEntry}
use Rattle.disk_seal.specs.declared.entry.StoreEntry.TheVariants.{Entry, Stopped}
use Rattle.disk_seal.specs.declared.fixed.StoreFixed.{StoreFixed}
use Rattle.disk_seal.specs.declared.namer.LockNamer.{LockNamer}
use Rattle.disk_seal.specs.declared.pieces.Piece.{Piece}
use Rattle.disk_seal.specs.Told.{IfTold, entry_for, recorded, journal_in, mark}
use Rattle.disk_seal.specs.View.{StoreView, StoreState, state_by, tells, journal_of, Kept}
use Rattle.disk_seal.specs.Fixed.{KeeperPass, fixed_of}
use Rattle.disk_seal.specs.Draft.{journal_seen}
use Rattle.disk_seal.specs.Adding.{front_of}
use Rattle.disk_seal.specs.Planned.{segment_of, IsTextsThen}
use Rattle.disk_seal.specs.Pieces.{added_by}
use Rattle.disk_seal.specs.Prepare.{HasGivenBack, IsFaultOf, IsPrepared, IsFullAt, BookNote}
use Rattle.disk_seal.specs.Sealing.{told_as, HasGrown, HasGrownSome}
use Rattle.ingest_workers.specs.declared.outcome.Cause.{Cause}
use Rattle.ingest_workers.specs.declared.outcome.Cause.TheVariants.{ArchiveFull}
use Rattle.ingest_workers.specs.Causes.{HasFailed, HasSeenMark}
use Rattle.ingest_workers.specs.Journal.{HasAdded, Holds, entries_at, sealed_by, segments_in}
use Rattle.ingest_workers.specs.Namer.{HasNoRoom, HasOnlySeen, types_pass, words_pass, types_seen, words_seen}
use Rattle.ingest_workers.specs.Sealed.{HasNotSealed, HasSealed, NowHas}
use Rattle.ingest_workers.proofs.JournalLemmas.{seen_joined, seen_told, seen_front, segments_sealed, no_segments, EndsWith, ends_with, holds_more}

abbrev Texts : Type 0
Texts = List (List ℕ)

-- ---- what is told

pub if_told : (b : Bool) (P : Type 0) → (b ≡ true → P) → IfTold b P
if_told true P f = f refl
if_told false P f = tt

pub of_told : (b : Bool) (P : Type 0) → b ≡ true → IfTold b P → P
of_told b P is x = subst (λ b. IfTold b P) is x

no_entries : (m : Option ℕ) → journal_seen (mark m) ≡ []
no_entries None = refl
no_entries (Some n) = refl

told_entries : (told : Option (List ℕ)) (n : ℕ) (m : Option ℕ) → is_some told ≡ true → journal_seen (recorded told n ++ mark m) ≡ journal_in told n
told_entries None n m is = absurd (cc (is))
told_entries (Some bytes) n m is =
    seen_joined (map (λ (e : JournalEntry). Entry e) (journal_in (Some bytes) n)) (mark m)
    ∙ (ap₂ (λ l k. l ++ k) (seen_told (journal_in (Some bytes) n)) (no_entries m) ∙ append-nil (journal_in (Some bytes) n))

-- ---- entries with places

at_places : (k : ℕ) (es : List StoreEntry) → entries_at (places k es) ≡ es
at_places k [] = refl
at_places k (e ∷ es) = ap (λ l. e ∷ l) (at_places (k + 1) es)

behind_places : (n k : ℕ) (es : List StoreEntry) → n ≤ k → All (λ (x : ℕ × StoreEntry). n ≤ x.0) (places k es)
behind_places n k [] le = All-nil (λ (x : ℕ × StoreEntry). n ≤ x.0)
behind_places n k (e ∷ es) le = All-cons (λ (x : ℕ × StoreEntry). n ≤ x.0) (k, e) (places (k + 1) es) le (behind_places n (k + 1) es (omega (arith, le)))

seen_marked : (es : List JournalEntry) (now : ℕ) → journal_seen (map (entry_for true) es ++ Stopped now ∷ []) ≡ es
seen_marked es now = seen_joined (map (entry_for true) es) (Stopped now ∷ []) ∙ (append-nil _ ∙ seen_told es)

-- ---- the namer

goes_on : (p q : BookPass) → IsReady p → StaysAs p q → GoesOn p q
goes_on p q ready stays = record { still = stays.still; ready = stays.ready ready; seen_on = subst (IsPrefix (seen p)) (sym stays.seen_is) (prefix_self (seen p)) }

module _ {R A B C : Type 0} where
  pub only_seen : (m n : LockNamer R A B C) → n.version ≡ m.version → IsReady (types_pass m) → IsReady (words_pass m) → StaysAs (types_pass m) (types_pass n) → StaysAs (words_pass m) (words_pass n) → HasOnlySeen m n
  only_seen m n version ready_types ready_words types words = record {
    version = version;
    types = goes_on (types_pass m) (types_pass n) ready_types types;
    words = goes_on (words_pass m) (words_pass n) ready_words words;
    own_types = types.own_is;
    own_words = words.own_is;
  }

-- ---- the keeper's pass

module _ {D : Type 0} (state : D → DiskState) where
  pub given_back : (p q : KeeperPass D) → HasGivenBack p q → HasNotSealed state p q
  given_back p q back = record {
    more = [];
    added = record { still = back.still; ready = back.ready; seen_on = back.seen_on; own = back.own ∙ sym (append-nil (own_list p)); behind = All-nil (λ (x : ℕ × StoreEntry). length (seen p) ≤ x.0) };
    segments = λ a is. if_told (is_some (state a.fixed.opened).seen) _ (λ told. refl);
  }

  module _ (d : Draft) (p q r : KeeperPass D) (v : StoreView D) (ps : List Piece) (prep : IsPrepared state d p q v ps) (kept : Kept (state_by state v)) where
    abbrev es : List JournalEntry
    es = added_by ps

    abbrev s : StoreState
    s = state_by state v

    still_on : IsStill q r → IsStill p r
    still_on still = record { lock = still.lock ∙ prep.still.lock; number = still.number ∙ prep.still.number; about_is = still.about_is ∙ prep.still.about_is }

    front_on : IsPrefix (seen q) (seen r) → IsPrefix (seen p) (seen r)
    front_on on = prefix_trans (seen p) (seen q) (seen r) prep.seen_on on

    long : length (seen p) ≤ length (seen q)
    long = omega (arith, sym (ap length prep.seen_on.1) ∙ length-append (seen p) prep.seen_on.0)

    pub has_added : (xs : List StoreEntry) → HasGrown xs q r → HasAdded p r (places (length (seen q)) xs)
    has_added xs grown = record {
      still = still_on grown.still;
      ready = grown.ready;
      seen_on = front_on (xs, sym grown.seen_is);
      own = grown.own_is ∙ ap (λ l. l ++ places (length (seen q)) xs) prep.own;
      behind = behind_places (length (seen p)) (length (seen q)) xs long;
    }

    module _ (a : About (StoreFixed D)) (is : about p ≡ Some a) (told : is_some (state a.fixed.opened).seen ≡ true) where
      abbrev known : fixed_of v ≡ a.fixed
      known = prep.may.hand.fixed a (prep.still.about_is ∙ is)

      told_here : tells s ≡ true
      told_here = ap (λ (f : StoreFixed D). is_some (state f.opened).seen) known ∙ told

      header_is : v.header ≡ a.fixed.header
      header_is = ap (λ (f : StoreFixed D). f.header) known

      sealed_of : (xs : List StoreEntry) → sealed_by (places (length (seen q)) xs) ≡ segments_in (journal_seen xs)
      sealed_of xs = ap (λ l. segments_in (journal_seen l)) (at_places (length (seen q)) xs)

      told_all : journal_seen (told_as s es) ≡ es
      told_all = ap (λ b. journal_seen (map (entry_for b) es)) told_here ∙ seen_told es

      told_some : (k now : ℕ) → journal_seen (told_as s (take k es) ++ Stopped now ∷ []) ≡ take k es
      told_some k now = ap (λ b. journal_seen (map (entry_for b) (take k es) ++ Stopped now ∷ [])) told_here ∙ seen_marked (take k es) now

      last_one : v.stopped ≡ None → IsTextsThen (segment_of d) es
      last_one runs = of_told (tells s) (IsTextsThen (segment_of d) es) told_here (prep.last runs)

      one_sealed : v.stopped ≡ None → sealed_by (places (length (seen q)) (told_as s es)) ≡ segment_of d ∷ []
      one_sealed runs = sealed_of (told_as s es) ∙ (ap segments_in told_all ∙ segments_sealed (segment_of d) es (last_one runs))

      none_sealed : (k now : ℕ) → k < length es → v.stopped ≡ None → sealed_by (places (length (seen q)) (told_as s (take k es) ++ Stopped now ∷ [])) ≡ []
      none_sealed k now below runs = sealed_of (told_as s (take k es) ++ Stopped now ∷ []) ∙ (ap segments_in (told_some k now) ∙ no_segments (segment_of d) es k (last_one runs) below)

      -- the journal before, and then
      was : journal_seen (seen q) ≡ journal_of s
      was = ap journal_seen (sym prep.may.hand.entries) ∙ told_entries s.disk.seen s.count v.stopped (kept.tells_still ∙ told_here)

      now : HasGrown (told_as s es) q r → journal_seen (seen r) ≡ journal_of s ++ es
      now grown = ap journal_seen grown.seen_is ∙ (seen_joined (seen q) (told_as s es) ∙ ap₂ (λ l m. l ++ m) was told_all)

      ending : v.stopped ≡ None → HasGrown (told_as s es) q r → EndsWith a.fixed.header (journal_of s) (journal_seen (seen r)) (segment_of d) (seen v.types) (seen v.words)
      ending runs grown =
          subst (λ h. EndsWith h (journal_of s) (journal_seen (seen r)) (segment_of d) (seen v.types) (seen v.words)) header_is
          (subst (λ l. EndsWith v.header (journal_of s) l (segment_of d) (seen v.types) (seen v.words)) (sym (now grown))
          (ends_with ps (front_of s) (segment_of d) told_here (prep.may.can runs) (last_one runs)
          (of_told (tells s) (take s.types_saved (seen s.types) ≡ types_of (journal_of s)) told_here kept.types.front)
          (of_told (tells s) (take s.words_saved (seen s.words) ≡ words_of (journal_of s)) told_here kept.words.front)))

      older : IsPrefix (journal_seen (seen p)) (journal_of s)
      older = subst (IsPrefix (journal_seen (seen p))) was (seen_front (seen p) (seen q) prep.seen_on)

    pub has_sealed : v.stopped ≡ None → HasGrown (told_as s es) q r → HasSealed state d p r
    has_sealed runs grown = record {
      more = places (length (seen q)) (told_as s es);
      added = has_added (told_as s es) grown;
      segments = λ a is. if_told (is_some (state a.fixed.opened).seen) _ (λ told. one_sealed a is told runs);
    }

    pub halted : (now : ℕ) → HasGrownSome now es s q r → HasNotSealed state p r
    halted now some =
        ⊎_elim
        (λ (was : (s.stopped ≡ Some now) × HasGrown [] q r).
        let none : HasNotSealed state p r = record {
          more = [];
          added = has_added [] was.1;
          segments = λ a is. if_told (is_some (state a.fixed.opened).seen) _ (λ told. refl);
        } in none)
        (λ (one : (s.stopped ≡ None) × ((k : ℕ) × (k < length es) × HasGrown (told_as s (take k es) ++ Stopped now ∷ []) q r)).
        let part : HasNotSealed state p r = record {
          more = places (length (seen q)) (told_as s (take one.1.0 es) ++ Stopped now ∷ []);
          added = has_added (told_as s (take one.1.0 es) ++ Stopped now ∷ []) one.1.2;
          segments = λ a is. if_told (is_some (state a.fixed.opened).seen) _ (λ told. none_sealed a is told one.1.0 now one.1.1 one.0);
        } in part)
        some

    mark_in : (o : Option ℕ) (now : ℕ) → o ≡ Some now → (xs l : List StoreEntry) → xs ++ mark o ≡ l → (front : List StoreEntry) × IsPrefix (front ++ Stopped now ∷ []) l
    mark_in o now stopped xs l is = (xs, ([], append-nil (xs ++ Stopped now ∷ []) ∙ (ap (λ x. xs ++ mark x) (sym stopped) ∙ is)))

    has_mark : (now : ℕ) → HasGrownSome now es s q r → HasSeenMark now r
    has_mark now some =
        ⊎_elim
        (λ (was : (s.stopped ≡ Some now) × HasGrown [] q r).
        mark_in s.stopped now was.0 (recorded s.disk.seen s.count) (seen r) (prep.may.hand.entries ∙ (sym (append-nil (seen q)) ∙ sym was.1.seen_is)))
        (λ (one : (s.stopped ≡ None) × ((k : ℕ) × (k < length es) × HasGrown (told_as s (take k es) ++ Stopped now ∷ []) q r)).
        let front = told_as s (take one.1.0 es) in
        let found : HasSeenMark now r = (seen q ++ front, ([], append-nil ((seen q ++ front) ++ Stopped now ∷ []) ∙ (append_assoc (seen q) front (Stopped now ∷ []) ∙ sym one.1.2.seen_is))) in found)
        some

    pub has_failed : (opened now : ℕ) → IsFaultOf state (record { opened = opened; now = now }) q → HasGrownSome now es s q r → HasFailed state p r opened now
    has_failed opened now fault some = record {
      fault = record { opened = λ a is. fault.opened a (prep.still.about_is ∙ is); rose = fault.rose };
      mark = has_mark now some;
    }

    pub now_has : (version : ℕ) (types words : Texts) → d.file ≡ number_of p → IsPrefix types (seen v.types) → IsPrefix words (seen v.words) → v.stopped ≡ None → HasGrown (told_as s es) q r → NowHas state d version types words p r
    now_has version types words file types_on words_on runs grown covered messages at had rows a is =
        if_told (is_some (state a.fixed.opened).seen) _ (λ told.
        let of : (P : Type 0) → IfTold (is_some (state a.fixed.opened).seen) P → P = λ P x. of_told (is_some (state a.fixed.opened).seen) P told x in
        let these = of _ (rows a is) in
        let held : Holds a.fixed.header (journal_seen (seen p)) d.file covered false false = subst (λ n. Holds a.fixed.header (journal_seen (seen p)) n covered false false) (sym file) (of _ (had a is)) in
        holds_more a.fixed.header (journal_seen (seen p)) (journal_seen (seen r)) (segment_of d) (seen v.types) (seen v.words) types words covered messages d.file (journal_of s) held (ending a is told runs grown) (older a is told) refl at types_on words_on
        (subst (λ n. AreCanonical n d.columns.rows types words messages) these.0 these.1))

module _ {D R A B C : Type 0} (state : D → DiskState) where
  pub no_room : (d : Draft) (e n end need : ℕ) (p q : KeeperPass D) (namer now : LockNamer R A B C) (types words : BookNote) (t w : Texts) → (let x : Cause = ArchiveFull e n in x) ≡ ArchiveFull end need → t ≡ types_seen namer → w ≡ words_seen namer
      → IsFullAt state d e n types words t w p q → HasLearned (types_seen namer) (noted types) (types_seen now) → HasLearned (words_seen namer) (noted words) (words_seen now) → HasNoRoom state d end need p q namer now
  no_room d e n end need p q namer now types words t w same are_types are_words full of_types of_words =
      let first : e ≡ end = cc (same) in
      let second : n ≡ need = cc (same) in
      let at_end : IsFullAt state d end need types words t w p q = subst (λ k. IsFullAt state d k need types words t w p q) first (subst (λ k. IsFullAt state d e k types words t w p q) second full) in
      record {
        types = types;
        words = words;
        full = subst (λ l. IsFullAt state d end need types words l (words_seen namer) p q) are_types (subst (λ l. IsFullAt state d end need types words t l p q) are_words at_end);
        types_on = of_types.theirs_first;
        words_on = of_words.theirs_first;
      }
