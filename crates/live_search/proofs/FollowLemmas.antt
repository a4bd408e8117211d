-- How a reader follows.
use Rattle.std.proofs.Common.{◌≡◌, ◌≢◌, inl, inr, ℕ, ◌+◌, ◌≤◌, List, [], ◌∷◌, ◌++◌, true, false, length, take, drop, Option, Some, None, refl, sym, ◌∙◌, ap, subst, arith, length-append}
use Rattle.std.specs.Prelude.{is_none, is_some}
use Rattle.std.proofs.lemmas.List.{append-nil, append_assoc, take_at, drop_at, take-append-drop, length-drop, length-take-le}
use Rattle.log_seams.specs.Disk.{DiskState}
use Rattle.turn_lock.specs.Words.{seen}
use Rattle.record_format.specs.declared.header.Header.{Header}
use Rattle.archive_meaning.specs.declared.entry.JournalEntry.{JournalEntry}
use Rattle.archive_meaning.specs.Held.{Held, nothing_held}
use Rattle.archive_meaning.specs.Legal.{Run}
use Rattle.archive_meaning.specs.Spelled.{front_of}
use Rattle.archive_meaning.proofs.RunLemmas.{runs_go_on, runs_split}
use Rattle.disk_seal.specs.declared.found.Found.{Found}
use Rattle.disk_seal.specs.Fixed.{KeeperPass}
use Rattle.disk_seal.specs.Draft.{journal_seen}
use Rattle.disk_seal.specs.Prepare.{HasSeenOpening}
use Rattle.disk_seal.specs.Found.{IsNextIn, IsRecordBehind}
use Rattle.disk_seal.specs.Looked.{HasTurned, IsMarked, WhereTold, journal_length}
use Rattle.disk_seal.specs.Beside.{Follower, HasFollowed, IsThrough, KeepsUp, MayFollowOn, StandsOn}
use Rattle.disk_seal.proofs.LookedLemmas.{length_joined, opening_on, turned_on}
use Rattle.disk_seal.proofs.PrepareLemmas.{seen_joined}
use Rattle.disk_seal.proofs.ToldLemmas.{told_both, told_map}
use Rattle.sink_pieces.specs.Output.{Grew, GrewByFront, Took}
use Rattle.sink_pieces.proofs.OutputLemmas.{Grew-append}
use Rattle.wild_match.specs.declared.pattern.Item.{Item}
use Rattle.pair_sieve.specs.Sieve.{Tells}
use Rattle.printed_lines.specs.Lines.{lines_of}
use Rattle.printed_lines.proofs.LineLemmas.{lines_joined}
use Rattle.live_search.specs.declared.refusal.LiveRefusal.{LiveRefusal}
use Rattle.live_search.specs.declared.refusal.LiveRefusal.TheVariants.{DiskFault, SinkFault, Damaged, OutOfMemory}
use Rattle.live_search.specs.Handled.{Begins, GoesPast, Handles, Leaves, Meets, MeetsNone}
use Rattle.search_meaning.specs.Live.{Live}
use Rattle.live_search.specs.Looking.{FindsMore, IsGateOfCount, NothingTold}
use Rattle.live_search.specs.Reader.{HasGone, LiveStands, LiveView, has_halted, live_follower}
use Rattle.live_search.specs.Taken.{Takes}
use Rattle.live_search.proofs.LiveLemmas.{live_more, live_runs}

-- ---- the lists

module _ {F : Type 0} where
  -- what a follower stands for, and what is behind it
  pub record Cut (f : Follower F) (h : Header) (es : List JournalEntry) : Type 0 where
    pub start : List JournalEntry
    pub handled : List JournalEntry
    pub rest : List JournalEntry
    pub all : es ≡ start ++ (handled ++ rest)
    pub first_is : length start ≡ f.first
    pub handled_is : length handled ≡ f.handled
    pub stands : f.stands h start handled

  stands_cut : (f : Follower F) (h : Header) (es : List JournalEntry) → StandsOn f h es → Cut f h es
  stands_cut f h es s = record {
    start = take f.first es;
    handled = take f.handled (drop f.first es);
    rest = drop f.handled (drop f.first es);
    all =
        sym (take-append-drop f.first es)
        ∙ ap (λ (l : List JournalEntry). take f.first es ++ l) (sym (take-append-drop f.handled (drop f.first es)));
    first_is = length-take-le f.first es (omega (arith, s.within));
    handled_is = length-take-le f.handled (drop f.first es) (omega (arith, s.within, length-drop f.first es));
    stands = s.stands;
  }

  cut_stands : (f : Follower F) (h : Header) (es start handled rest : List JournalEntry) → es ≡ start ++ (handled ++ rest) → length start ≡ f.first → length handled ≡ f.handled
      → f.stands h start handled → StandsOn f h es
  cut_stands f h es start handled rest all first handled_is stands =
      let one : take f.first es ≡ start = ap (take f.first) all ∙ take_at start (handled ++ rest) f.first first in
      let two : take f.handled (drop f.first es) ≡ handled =
      ap (λ (l : List JournalEntry). take f.handled (drop f.first l)) all ∙ ap (take f.handled) (drop_at start (handled ++ rest) f.first first) ∙ take_at handled rest f.handled handled_is in
      record {
        within = omega (arith, ap (λ (l : List JournalEntry). length l) all, length-append start (handled ++ rest), length-append handled rest, first, handled_is);
        stands = subst (λ l. f.stands h l (take f.handled (drop f.first es))) (sym one) (subst (λ l. f.stands h start l) (sym two) stands);
      }

module _ {D : Type 0} (state : D → DiskState) (p q : KeeperPass D) (turned : HasTurned p q) where
  pub longer : journal_length (seen p) ≤ journal_length (seen q)
  longer = omega (arith, ap journal_length turned.seen_on.1, length_joined (seen p) turned.seen_on.0)

  seen_more : journal_seen (seen q) ≡ journal_seen (seen p) ++ journal_seen turned.seen_on.0
  seen_more = ap journal_seen (sym turned.seen_on.1) ∙ seen_joined (seen p) turned.seen_on.0

  -- what stands for the entries before stands for those behind
  stands_on : {F : Type 0} (f : Follower F) (h : Header) → StandsOn f h (journal_seen (seen p)) → Cut f h (journal_seen (seen q))
  stands_on f h s =
      let c = stands_cut f h (journal_seen (seen p)) s in
      let more = journal_seen turned.seen_on.0 in
      record {
        start = c.start;
        handled = c.handled;
        rest = c.rest ++ more;
        all =
            seen_more ∙ ap (λ (l : List JournalEntry). l ++ more) c.all ∙ append_assoc c.start (c.handled ++ c.rest) more
            ∙ ap (λ (l : List JournalEntry). c.start ++ l) (append_assoc c.handled c.rest more);
        first_is = c.first_is;
        handled_is = c.handled_is;
        stands = c.stands;
      }

  pub told_on : {F : Type 0} (f : Follower F) (P : Header → List JournalEntry → Type 0) → ((h : Header) → Cut f h (journal_seen (seen q)) → P h (journal_seen (seen q)))
      → WhereTold state p (StandsOn f) → WhereTold state q P
  told_on f P step before a is =
      told_map (is_some (state a.fixed.opened).seen) (λ (s : StandsOn f a.fixed.header (journal_seen (seen p))). step a.fixed.header (stands_on f a.fixed.header s)) (before a (sym turned.still.about_is ∙ is))

  pub told_with : {F : Type 0} (f : Follower F) (Q P : Header → List JournalEntry → Type 0)
      → ((h : Header) → Cut f h (journal_seen (seen q)) → Q h (journal_seen (seen q)) → P h (journal_seen (seen q)))
      → WhereTold state p (StandsOn f) → WhereTold state q Q → WhereTold state q P
  told_with f Q P step before now a is =
      told_both (is_some (state a.fixed.opened).seen)
      (λ (s : StandsOn f a.fixed.header (journal_seen (seen p))) (x : Q a.fixed.header (journal_seen (seen q))). step a.fixed.header (stands_on f a.fixed.header s) x)
      (before a (sym turned.still.about_is ∙ is)) (now a is)

  pub nothing_told : (P : Header → List JournalEntry → Type 0) → NothingTold state q → WhereTold state q P
  nothing_told P none a is = told_map (is_some (state a.fixed.opened).seen) (λ (x : ⊥). absurd x) (none a is)

-- ---- one turn after another

pub follows_on : {F D : Type 0} (state : D → DiskState) (f g i : Follower F) (p q r : KeeperPass D) → HasFollowed state f g p q → HasFollowed state g i q r → HasFollowed state f i p r
follows_on state f g i p q r one two = record {
  first = two.first ∙ one.first;
  fixed = two.fixed ∙ one.fixed;
  more = omega (arith, one.more, two.more);
  keeps = two.keeps;
  turned = turned_on p q r one.turned two.turned;
}

pub may_on : {F D : Type 0} (state : D → DiskState) (f g : Follower F) (p q : KeeperPass D) → HasFollowed state f g p q → HasSeenOpening p → MayFollowOn state g q
may_on state f g p q followed opening = record { ready = followed.turned.ready; opening = opening_on p q followed.turned opening; keeps = followed.keeps }

-- ---- a reader

module _ {K : Type 0} (written : K → Option (List ℕ)) where
  -- where it runs on, it has printed all
  printed_all : (v : LiveView K) (h : Header) (held : Held) (es : List JournalEntry) → v.refusal ≡ None → (g : HasGone written v h held es) → Grew (written v.begun) (written v.out) (lines_of g.found)
  printed_all v h held es runs g = subst (λ o. Took (is_none o) (written v.begun) (written v.out) (lines_of g.found)) runs g.printed

  refused_stands : (v : LiveView K) (r : LiveRefusal) → v.refusal ≡ None → ((at : ℕ) → r ≢ Damaged at) → (h : Header) (start handled : List JournalEntry) → LiveStands written v h start handled
      → LiveStands written (record v { refusal = Some r }) h start handled
  refused_stands v r runs whole h start handled s = record {
    header = s.header;
    whole = λ at is. whole at (cc (is));
    gate = λ none. absurd (cc (none));
    gone = λ held run.
        let g = s.gone held run in
        record {
          found = g.found;
          end = g.end;
          live = g.live;
          grown = λ none. absurd (cc (none));
          sieved = λ none. absurd (cc (none));
          printed = (lines_of g.found, [], sym (append-nil (lines_of g.found)), printed_all v h held handled runs g);
        };
  }

  module _ {D : Type 0} (state : D → DiskState) (p q : KeeperPass D) (turned : HasTurned p q) (v : LiveView K) (runs : v.refusal ≡ None) (keeps : KeepsUp state (live_follower written v) p) where
    abbrev refused_with : LiveRefusal → LiveView K
    refused_with r = record v { refusal = Some r }

    -- it refuses, and has handled nothing
    stands_refused : (r : LiveRefusal) → ((at : ℕ) → r ≡ Damaged at → NothingTold state q) → WhereTold state q (StandsOn (live_follower written (refused_with r)))
    stands_refused (Damaged at) none = nothing_told state p q turned (StandsOn (live_follower written (refused_with (Damaged at)))) (none at refl)
    stands_refused DiskFault none = told_on state p q turned (live_follower written v) (StandsOn (live_follower written (refused_with DiskFault)))
        (λ h c. cut_stands (live_follower written (refused_with DiskFault)) h _ c.start c.handled c.rest c.all c.first_is c.handled_is (refused_stands v DiskFault runs (λ at is. cc (is)) h c.start c.handled c.stands)) keeps.stands
    stands_refused SinkFault none = told_on state p q turned (live_follower written v) (StandsOn (live_follower written (refused_with SinkFault)))
        (λ h c. cut_stands (live_follower written (refused_with SinkFault)) h _ c.start c.handled c.rest c.all c.first_is c.handled_is (refused_stands v SinkFault runs (λ at is. cc (is)) h c.start c.handled c.stands)) keeps.stands
    stands_refused OutOfMemory none = told_on state p q turned (live_follower written v) (StandsOn (live_follower written (refused_with OutOfMemory)))
        (λ h c. cut_stands (live_follower written (refused_with OutOfMemory)) h _ c.start c.handled c.rest c.all c.first_is c.handled_is (refused_stands v OutOfMemory runs (λ at is. cc (is)) h c.start c.handled c.stands)) keeps.stands

    marked_by : (r : LiveRefusal) → (r ≡ DiskFault → IsMarked (seen q)) → has_halted (Some r) ≡ true → IsMarked (seen q)
    marked_by DiskFault fault halted = fault refl
    marked_by SinkFault fault halted = absurd (cc (halted))
    marked_by (Damaged at) fault halted = absurd (cc (halted))
    marked_by OutOfMemory fault halted = absurd (cc (halted))

    pub refuses : (r : LiveRefusal) → ((at : ℕ) → r ≡ Damaged at → NothingTold state q) → (r ≡ DiskFault → IsMarked (seen q))
        → HasFollowed state (live_follower written v) (live_follower written (refused_with r)) p q
    refuses r none fault = record {
      first = refl;
      fixed = refl;
      more = omega arith;
      keeps = record {
        within = omega (arith, keeps.within, longer state p q turned);
        stands = stands_refused r none;
        marked = marked_by r fault;
      };
      turned = turned;
    }

    -- it found nothing
    pub waits : HasFollowed state (live_follower written v) (live_follower written v) p q
    waits = record {
      first = refl;
      fixed = refl;
      more = omega arith;
      keeps = record {
        within = omega (arith, keeps.within, longer state p q turned);
        stands = told_on state p q turned (live_follower written v) (StandsOn (live_follower written v))
            (λ h c. cut_stands (live_follower written v) h _ c.start c.handled c.rest c.all c.first_is c.handled_is c.stands) keeps.stands;
        marked = λ halted. absurd (cc (ap has_halted runs, halted));
      };
      turned = turned;
    }

    -- ---- a record that was found

    module _ (f : Found) (finds : FindsMore state v.reached.at (v.reached.first + v.reached.handled) f q) (w : LiveView K) (takes : Takes written f v w) where
      -- the entry that it is of
      entry_of : (h : Header) (c : Cut (live_follower written v) h (journal_seen (seen q))) → IsNextIn h (journal_seen (seen q)) v.reached.at f → IsRecordBehind h (journal_seen (seen q)) (c.start ++ c.handled) f
      entry_of h c next = next (c.start ++ c.handled) (record {
        front = (c.rest, append_assoc c.start c.handled c.rest ∙ sym c.all);
        place = c.stands.gate runs;
      })

      meets : (h : Header) (c : Cut (live_follower written v) h (journal_seen (seen q))) → (b : IsRecordBehind h (journal_seen (seen q)) (c.start ++ c.handled) f) → (held : Held) → Run h nothing_held c.start held
          → (g : HasGone written v h held c.handled) → Meets f v.reached h (c.start ++ c.handled) b.entry g.end
      meets h c b held run g = record {
        next = record { header = c.stands.header; legal = b.legal; gate = c.stands.gate runs; saved = b.saved };
        run = runs_go_on h nothing_held held g.end c.start c.handled run (live_runs h v.reached.pattern held g.end c.handled g.found g.live);
        grown = g.grown runs;
        sieved = g.sieved runs;
      }

      -- the lists with one entry more
      behind : (h : Header) (c : Cut (live_follower written v) h (journal_seen (seen q))) → (b : IsRecordBehind h (journal_seen (seen q)) (c.start ++ c.handled) f)
          → journal_seen (seen q) ≡ c.start ++ ((c.handled ++ b.entry ∷ []) ++ b.front.0)
      behind h c b =
          sym b.front.1 ∙ ap (λ (l : List JournalEntry). l ++ b.front.0) (append_assoc c.start c.handled (b.entry ∷ [])) ∙ append_assoc c.start (c.handled ++ b.entry ∷ []) b.front.0

      module _ (past : GoesPast f v.reached w.reached) where
        stands_past : (h : Header) (c : Cut (live_follower written v) h (journal_seen (seen q))) → (b : IsRecordBehind h (journal_seen (seen q)) (c.start ++ c.handled) f)
            → LiveStands written w h c.start (c.handled ++ b.entry ∷ []) → StandsOn (live_follower written w) h (journal_seen (seen q))
        stands_past h c b stands =
            cut_stands (live_follower written w) h (journal_seen (seen q)) c.start (c.handled ++ b.entry ∷ []) b.front.0 (behind h c b) (c.first_is ∙ sym past.first)
            (omega (arith, length-append c.handled (b.entry ∷ []), c.handled_is, past.handled)) stands

        within_past : w.reached.first + w.reached.handled ≤ journal_length (seen q)
        within_past = omega (arith, past.first, past.handled, finds.more)

        follows_past : WhereTold state q (StandsOn (live_follower written w)) → has_halted w.refusal ≡ false → HasFollowed state (live_follower written v) (live_follower written w) p q
        follows_past stands halted = record {
          first = past.first;
          fixed = λ i. record { name = takes.name i; begun = takes.begun i; pattern = past.pattern i };
          more = omega (arith, past.handled);
          keeps = record { within = within_past; stands = stands; marked = λ is. absurd (cc (halted, is)) };
          turned = turned;
        }

      -- it handled the record
      handled_stands : w.refusal ≡ None → (done : Handles f v.reached w.reached (written v.out) (written w.out)) → (h : Header) (c : Cut (live_follower written v) h (journal_seen (seen q)))
          → (b : IsRecordBehind h (journal_seen (seen q)) (c.start ++ c.handled) f) → LiveStands written w h c.start (c.handled ++ b.entry ∷ [])
      handled_stands on done h c b = record {
        header = c.stands.header;
        whole = λ at is. cc (on, is);
        gate = λ _. done.past.at ∙ b.next ∙ ap (λ (l : List JournalEntry). length (front_of h l)) (append_assoc c.start c.handled (b.entry ∷ []));
        gone = λ held run.
            let g = c.stands.gone held run in
            let did = done.done h (c.start ++ c.handled) b.entry g.end (meets h c b held run g) in
            let grew : Grew (written v.begun) (written w.out) (lines_of (g.found ++ did.here)) =
            subst (Grew (written v.begun) (written w.out)) (sym (lines_joined g.found did.here))
            (Grew-append (written v.begun) (written v.out) (written w.out) (lines_of g.found) (lines_of did.here) (printed_all v h held c.handled runs g) did.printed) in
            record {
              found = g.found ++ did.here;
              end = did.more;
              live = subst (λ x. Live h x held (c.handled ++ b.entry ∷ []) (g.found ++ did.here) did.more) (sym done.past.pattern)
                  (live_more h v.reached.pattern held g.end did.more c.handled b.entry g.found did.here g.live did.accepts did.brings);
              grown = λ _. did.grown;
              sieved = λ _. subst (λ (x : List Item). Tells x did.more.types did.more.words w.reached.sieve) (sym done.past.pattern) did.sieved;
              printed = subst (λ o. Took (is_none o) (written w.begun) (written w.out) (lines_of (g.found ++ did.here))) (sym on)
                  (subst (λ x. Grew (written x) (written w.out) (lines_of (g.found ++ did.here))) (sym takes.begun) grew);
            };
      }

      -- it began to print what the record brings, and reads no further
      begun_stands : (r : LiveRefusal) → w.refusal ≡ Some r → ((at : ℕ) → r ≢ Damaged at) → (begins : Begins f v.reached w.reached (written v.out) (written w.out)) → (h : Header)
          → (c : Cut (live_follower written v) h (journal_seen (seen q))) → (b : IsRecordBehind h (journal_seen (seen q)) (c.start ++ c.handled) f) → LiveStands written w h c.start (c.handled ++ b.entry ∷ [])
      begun_stands r off whole begins h c b = record {
        header = c.stands.header;
        whole = λ at is. whole at (cc (off, is));
        gate = λ none. absurd (cc (off, none));
        gone = λ held run.
            let g = c.stands.gone held run in
            let did = begins.begun h (c.start ++ c.handled) b.entry g.end (meets h c b held run g) in
            let all = printed_all v h held c.handled runs g in
            let front : GrewByFront (written v.begun) (written w.out) (lines_of g.found ++ lines_of did.here) = (
              lines_of g.found ++ did.printed.0,
              did.printed.1,
              ap (λ (l : List ℕ). lines_of g.found ++ l) did.printed.2 ∙ sym (append_assoc (lines_of g.found) did.printed.0 did.printed.1),
              Grew-append (written v.begun) (written v.out) (written w.out) (lines_of g.found) did.printed.0 all did.printed.3,
            ) in
            let joined : GrewByFront (written v.begun) (written w.out) (lines_of (g.found ++ did.here)) =
            subst (GrewByFront (written v.begun) (written w.out)) (sym (lines_joined g.found did.here)) front in
            record {
              found = g.found ++ did.here;
              end = did.more;
              live = subst (λ x. Live h x held (c.handled ++ b.entry ∷ []) (g.found ++ did.here) did.more) (sym begins.past.pattern)
                  (live_more h v.reached.pattern held g.end did.more c.handled b.entry g.found did.here g.live did.accepts did.brings);
              grown = λ none. absurd (cc (off, none));
              sieved = λ none. absurd (cc (off, none));
              printed = subst (λ o. Took (is_none o) (written w.begun) (written w.out) (lines_of (g.found ++ did.here))) (sym off)
                  (subst (λ x. GrewByFront (written x) (written w.out) (lines_of (g.found ++ did.here))) (sym takes.begun) joined);
            };
      }

      told_next : (P : Header → List JournalEntry → Type 0)
          → ((h : Header) (c : Cut (live_follower written v) h (journal_seen (seen q))) → IsRecordBehind h (journal_seen (seen q)) (c.start ++ c.handled) f → P h (journal_seen (seen q)))
          → WhereTold state q P
      told_next P step =
          told_with state p q turned (live_follower written v) (λ h es. IsNextIn h es v.reached.at f) P (λ h c next. step h c (entry_of h c next)) keeps.stands finds.next.next

      -- no entry has it, so nothing is told
      none_told : MeetsNone f v.reached → NothingTold state q
      none_told none = told_next (λ _ _. ⊥) (λ h c b. no_meeting h c b)
        where
          no_meeting : (h : Header) (c : Cut (live_follower written v) h (journal_seen (seen q))) → IsRecordBehind h (journal_seen (seen q)) (c.start ++ c.handled) f → ⊥
          no_meeting h c b =
              let split = runs_split h nothing_held b.legal.held c.start (c.handled ++ b.entry ∷ []) (subst (λ l. Run h nothing_held l b.legal.held) (append_assoc c.start c.handled (b.entry ∷ [])) b.legal.run) in
              let g = c.stands.gone split.0 split.1 in
              none h (c.start ++ c.handled) b.entry g.end (meets h c b split.0 split.1 g)

      stands_off : (r : LiveRefusal) → w.refusal ≡ Some r → (P : Header → List JournalEntry → Type 0) → (((at : ℕ) → r ≢ Damaged at) → WhereTold state q P) → WhereTold state q P
      stands_off (Damaged at) is P told = nothing_told state p q turned P (none_told (takes.damaged at is))
      stands_off DiskFault is P told = told (λ at e. cc (e))
      stands_off SinkFault is P told = told (λ at e. cc (e))
      stands_off OutOfMemory is P told = told (λ at e. cc (e))

      not_halted : (r : LiveRefusal) → r ≢ DiskFault → has_halted (Some r) ≡ false
      not_halted DiskFault other = absurd (other refl)
      not_halted SinkFault other = refl
      not_halted (Damaged at) other = refl
      not_halted OutOfMemory other = refl

      -- it did not begin
      left_stands : (r : LiveRefusal) → w.refusal ≡ Some r → ((at : ℕ) → r ≢ Damaged at) → Leaves v.reached w.reached (written v.out) (written w.out) → (h : Header) (start handled : List JournalEntry)
          → LiveStands written v h start handled → LiveStands written w h start handled
      left_stands r off whole leaves h start handled s = record {
        header = s.header;
        whole = λ at is. whole at (cc (off, is));
        gate = λ none. absurd (cc (off, none));
        gone = λ held run.
            let g = s.gone held run in
            let grew : Grew (written w.begun) (written w.out) (lines_of g.found) =
            subst (λ x. Grew (written x) (written w.out) (lines_of g.found)) (sym takes.begun)
            (subst (λ x. Grew (written v.begun) x (lines_of g.found)) (sym leaves.nothing) (printed_all v h held handled runs g)) in
            record {
              found = g.found;
              end = g.end;
              live = subst (λ x. Live h x held handled g.found g.end) (sym leaves.stays.pattern) g.live;
              grown = λ none. absurd (cc (off, none));
              sieved = λ none. absurd (cc (off, none));
              printed = subst (λ o. Took (is_none o) (written w.begun) (written w.out) (lines_of g.found)) (sym off) (lines_of g.found, [], sym (append-nil (lines_of g.found)), grew);
            };
      }

      left_follows : (r : LiveRefusal) → w.refusal ≡ Some r → Leaves v.reached w.reached (written v.out) (written w.out) → HasFollowed state (live_follower written v) (live_follower written w) p q
      left_follows r off leaves = record {
        first = leaves.stays.first;
        fixed = λ i. record { name = takes.name i; begun = takes.begun i; pattern = leaves.stays.pattern i };
        more = omega (arith, leaves.stays.handled);
        keeps = record {
          within = omega (arith, leaves.stays.first, leaves.stays.handled, keeps.within, longer state p q turned);
          stands = stands_off r off (StandsOn (live_follower written w)) (λ whole. told_on state p q turned (live_follower written v) (StandsOn (live_follower written w))
              (λ h c. cut_stands (live_follower written w) h (journal_seen (seen q)) c.start c.handled c.rest c.all (c.first_is ∙ sym leaves.stays.first) (c.handled_is ∙ sym leaves.stays.handled)
              (left_stands r off whole leaves h c.start c.handled c.stands)) keeps.stands);
          marked = λ halted. absurd (cc (ap has_halted off, not_halted r (λ is. takes.disk (off ∙ ap Some is)), halted));
        };
        turned = turned;
      }

      pub takes_on : HasFollowed state (live_follower written v) (live_follower written w) p q
      takes_on = by_refusal w.refusal refl
        where
          by_refusal : (o : Option LiveRefusal) → w.refusal ≡ o → HasFollowed state (live_follower written v) (live_follower written w) p q
          by_refusal None on =
              let done = takes.handled on in
              follows_past done.past (told_next (StandsOn (live_follower written w)) (λ h c b. stands_past done.past h c b (handled_stands on done h c b))) (ap has_halted on)
          by_refusal (Some r) off = elim (takes.stopped (λ none. cc (off, none))) as (λ x. HasFollowed state (live_follower written v) (live_follower written w) p q) [
            | inl leaves ↦ left_follows r off leaves
            | inr begins ↦ follows_past begins.past
                (stands_off r off (StandsOn (live_follower written w)) (λ whole. told_next (StandsOn (live_follower written w))
                (λ h c b. stands_past begins.past h c b (begun_stands r off whole begins h c b))))
                (ap has_halted off ∙ not_halted r (λ is. takes.disk (off ∙ ap Some is)))
          ]

-- ---- the gate at which it goes on

pub gate_of : {K D : Type 0} (written : K → Option (List ℕ)) (state : D → DiskState) (p : KeeperPass D) (v : LiveView K) → v.refusal ≡ None → KeepsUp state (live_follower written v) p
    → WhereTold state p (IsGateOfCount v.reached.at (v.reached.first + v.reached.handled))
gate_of written state p v runs keeps a is =
    told_map (is_some (state a.fixed.opened).seen) (λ (s : StandsOn (live_follower written v) a.fixed.header (journal_seen (seen p))).
    let c = stands_cut (live_follower written v) a.fixed.header (journal_seen (seen p)) s in (
      c.start ++ c.handled,
      record { front = (c.rest, append_assoc c.start c.handled c.rest ∙ sym c.all); place = c.stands.gate runs },
      omega (arith, length-append c.start c.handled, c.first_is, c.handled_is),
    )) (keeps.stands a is)

none_by : {A : Type 0} (o : Option A) → is_some o ≡ false → o ≡ None
none_by None is = refl
none_by (Some a) is = absurd (cc (is))

-- what reads no further need not be through
pub through_refused : {K D : Type 0} (written : K → Option (List ℕ)) (v : LiveView K) (q : KeeperPass D) → v.refusal ≢ None → IsThrough (live_follower written v) q
through_refused written v q off running = absurd (off (none_by v.refusal running))

pub through_stopped : {K D : Type 0} (written : K → Option (List ℕ)) (v w : LiveView K) (q : KeeperPass D) (r : LiveRefusal) → w ≡ record v { refusal = Some r } → IsThrough (live_follower written w) q
through_stopped {K} written v w q r is = through_refused written w q (λ none. cc (ap (λ (x : LiveView K). x.refusal) is, none))
