-- What a reader has printed of the segments that were added.
use Rattle.std.proofs.Common.{◌≡◌, ◌+◌, ◌≤◌, ◌⊎◌, inl, inr, refl, sym, ap, ap₂, subst, ◌∙◌, ℕ, zero, suc, true, false, List, [], ◌∷◌, ◌++◌, length, take, drop, append-nil, append_assoc, Option, None, Some, arith, length-append}
use Rattle.std.specs.Prelude.{IfSome, is_none, is_some, option_map}
use Rattle.std.proofs.lemmas.List.{drop_all, drop_at, take_at, take-append-drop}
use Rattle.log_seams.specs.Disk.{DiskState}
use Rattle.record_format.specs.declared.header.Header.{Header}
use Rattle.wild_match.specs.declared.pattern.Item.{Item}
use Rattle.sink_pieces.specs.Output.{Took}
use Rattle.archive_meaning.specs.declared.entry.JournalEntry.{JournalEntry}
use Rattle.archive_meaning.specs.declared.entry.JournalEntry.TheVariants.{Files}
use Rattle.archive_meaning.specs.Held.{Held, nothing_held}
use Rattle.archive_meaning.specs.Legal.{Run}
use Rattle.archive_meaning.specs.Stands.{IsLegal, StandsFor}
use Rattle.archive_meaning.proofs.RunLemmas.{one_held, runs_split}
use Rattle.archive_meaning.proofs.UniqueLemmas.{legal_front}
use Rattle.archive_open.specs.Shown.{Opens, Shown}
use Rattle.disk_seal.specs.Beside.{StandsOn}
use Rattle.printed_lines.specs.Lines.{Placed, lines_of}
use Rattle.printed_lines.proofs.LineLemmas.{lines_joined}
use Rattle.search_meaning.specs.Live.{Live}
use Rattle.live_search.specs.Reader.{HasGone, LiveStands, LiveView, live_follower}
use Rattle.live_search.specs.declared.refusal.LiveRefusal.{LiveRefusal}
use Rattle.live_search.proofs.LiveLemmas.{live_exists, live_joined, live_runs}
use Rattle.command_answers.specs.Ingested.{FileOutcome, FromArchive, LeavesJournal, TakesIn}
use Rattle.write_commands.specs.Followed.{IsLed}
use Rattle.watch_command.specs.StepsWatched.{PrintsLive, from_live}

-- names bring no message, and no entry brings none
none_found : (h : Header) (items : List Item) (held end : Held) (names : List (List ℕ)) (more : List JournalEntry) (n : ℕ) (found : List Placed) → (length (Files names ∷ more) ≤ n) ⊎ (more ≡ [])
    → Live h items held (drop n (Files names ∷ more)) found end → found ≡ []
none_found h items held end names more n found (inl all) live = (subst (λ (l : List JournalEntry). Live h items held l found end) (drop_all n (Files names ∷ more) all) live).0
none_found h items held end names more zero found (inr none) live =
    let alone : Live h items held (Files names ∷ []) found end = subst (λ (l : List JournalEntry). Live h items held (Files names ∷ l) found end) none live in
    alone.6 ∙ ap₂ (λ (a b : List Placed). a ++ b) alone.4 alone.5.0
none_found h items held end names more (suc n) found (inr none) live =
    (subst (λ (l : List JournalEntry). Live h items held l found end) (ap (drop n) none ∙ drop_all n [] (omega arith)) live).0

-- the entries that are left make a legal archive
legal_left : (h : Header) (before es : List JournalEntry) (old new : DiskState) → is_some new.seen ≡ true → LeavesJournal h before es old new → IsLegal h es
legal_left h before es old new told left = go new.seen told left.reads
  where
    go : (seen : Option (List ℕ)) → is_some seen ≡ true → IfSome seen (λ bytes. StandsFor bytes h es ⊎ StandsFor bytes h (es ++ left.tail)) → IsLegal h es
    go None some reads = absurd (cc (some))
    go (Some bytes) some (inl stands) = stands.legal
    go (Some bytes) some (inr stands) = legal_front h es left.tail stands.legal

-- ---- a reader behind an archive

module _ {K : Type 0} (written : K → Option (List ℕ)) (w : LiveView K) (h : Header) {before : List JournalEntry} {bytes : List ℕ} (stood : StandsFor bytes h before) (names : List (List ℕ)) (more : List JournalEntry)
    (legal : IsLegal h (before ++ (Files names ∷ more))) (first : w.reached.first ≡ length before) (stands : StandsOn (live_follower written w) h (before ++ (Files names ∷ more))) where
  abbrev added : List JournalEntry
  added = Files names ∷ more

  abbrev handled : List JournalEntry
  handled = take w.reached.handled added

  abbrev rest : List JournalEntry
  rest = drop w.reached.handled added

  -- what it has handled stands behind the archive
  goes : HasGone written w h stood.legal.held handled
  goes =
      let one : take w.reached.first (before ++ added) ≡ before = take_at before added w.reached.first (sym first) in
      let two : drop w.reached.first (before ++ added) ≡ added = drop_at before added w.reached.first (sym first) in
      let whole : LiveStands written w h before handled =
      subst (λ (l : List JournalEntry). LiveStands written w h l handled) one
      (subst (λ (l : List JournalEntry). LiveStands written w h (take w.reached.first (before ++ added)) (take w.reached.handled l)) two stands.stands) in
      whole.gone stood.legal.held stood.legal.run

  -- what is found in all that was added
  record FindsAll : Type 0 where
    pub others : List Placed
    pub end : Held
    pub behind : Live h w.reached.pattern goes.end rest others end
    pub all : Live h w.reached.pattern stood.legal.held added (goes.found ++ others) end

  finds_all : FindsAll
  finds_all =
      let last = legal.held in
      let apart = runs_split h nothing_held last before added legal.run in
      let from : Run h stood.legal.held added last = subst (λ (x : Held). Run h x added last) (one_held h nothing_held apart.0 stood.legal.held before apart.1 stood.legal.run) apart.2 in
      let parts = runs_split h stood.legal.held last handled rest (subst (λ (l : List JournalEntry). Run h stood.legal.held l last) (sym (take-append-drop w.reached.handled added)) from) in
      let same : parts.0 ≡ goes.end = one_held h stood.legal.held parts.0 goes.end handled parts.1 (live_runs h w.reached.pattern stood.legal.held goes.end handled goes.found goes.live) in
      let others = live_exists h w.reached.pattern goes.end last rest (subst (λ (x : Held). Run h x rest last) same parts.2) in
      record {
        others = others.0;
        end = last;
        behind = others.1;
        all = subst (λ (l : List JournalEntry). Live h w.reached.pattern stood.legal.held l (goes.found ++ others.0) last) (take-append-drop w.reached.handled added)
            (live_joined h w.reached.pattern stood.legal.held goes.end last handled rest goes.found others.0 goes.live others.1);
      }

  -- it reads on, and has handled all, or there is nothing behind the names
  running : (is_some w.refusal ≡ false → (w.reached.first + w.reached.handled ≡ length (before ++ added)) ⊎ (more ≡ [])) → w.refusal ≡ None → finds_all.others ≡ []
  running through runs =
      none_found h w.reached.pattern goes.end finds_all.end names more w.reached.handled finds_all.others (handled_all (through (ap is_some runs))) finds_all.behind
    where
      handled_all : (w.reached.first + w.reached.handled ≡ length (before ++ added)) ⊎ (more ≡ []) → (length added ≤ w.reached.handled) ⊎ (more ≡ [])
      handled_all (inl all) = inl (omega (arith, all, first, length-append before added))
      handled_all (inr none) = inr none

  pub prints_live : (items : List Item) → w.reached.pattern ≡ items → (is_some w.refusal ≡ false → (w.reached.first + w.reached.handled ≡ length (before ++ added)) ⊎ (more ≡ []))
      → PrintsLive h stood items added (option_map from_live w.refusal) (written w.begun, written w.out)
  prints_live items same through = by_refusal w.refusal refl goes.printed
    where
      live : Live h items stood.legal.held added (goes.found ++ finds_all.others) finds_all.end
      live = subst (λ (x : List Item). Live h x stood.legal.held added (goes.found ++ finds_all.others) finds_all.end) same finds_all.all

      by_refusal : (o : Option LiveRefusal) → w.refusal ≡ o → Took (is_none o) (written w.begun) (written w.out) (lines_of goes.found) → PrintsLive h stood items added (option_map from_live o) (written w.begun, written w.out)
      by_refusal None runs printed =
          let none = running through runs in record {
            text = lines_of goes.found;
            tells = record {
              found = goes.found ++ finds_all.others;
              end = finds_all.end;
              live = live;
              front = (lines_of finds_all.others, sym (lines_joined goes.found finds_all.others));
              all = λ is. ap lines_of (sym (append-nil goes.found) ∙ ap (λ (l : List Placed). goes.found ++ l) (sym none));
            };
            grew = printed;
          }
      by_refusal (Some r) off printed = record {
        text = printed.0;
        tells = record {
          found = goes.found ++ finds_all.others;
          end = finds_all.end;
          live = live;
          front = (
            printed.1 ++ lines_of finds_all.others,
            sym (append_assoc printed.0 printed.1 (lines_of finds_all.others)) ∙ ap (λ (l : List ℕ). l ++ lines_of finds_all.others) (sym printed.2) ∙ sym (lines_joined goes.found finds_all.others),
          );
          all = λ is. absurd (cc (is));
        };
        grew = printed.3;
      }

-- ---- over a disk

module _ {K : Type 0} (written : K → Option (List ℕ)) (w : LiveView K) (rows : ℕ) (items : List Item) (names : List (List ℕ)) (came : List FileOutcome) (old new : DiskState) (tells : is_some new.seen ≡ is_some old.seen) where
  pub led_prints : (a : Shown) → Opens old.seen a → w.reached.first ≡ a.entries → w.reached.pattern ≡ items
      → FromArchive old (λ h before bytes stood. IsLed (live_follower written w) rows h before stood names came old new)
      → FromArchive old (λ h before bytes stood. (t : TakesIn rows h before stood names came old new) × PrintsLive h stood items (Files names ∷ t.added) (option_map from_live w.refusal) (written w.begun, written w.out))
  led_prints a opens first same led = go old.seen tells opens led
    where
      go : (told : Option (List ℕ)) → is_some new.seen ≡ is_some told → Opens told a
          → IfSome told (λ bytes. (h : Header) (before : List JournalEntry) (stood : StandsFor bytes h before) → ((c : List ℕ) → old.images c → StandsFor c h before) → IsLed (live_follower written w) rows h before stood names came old new)
          → IfSome told (λ bytes. (h : Header) (before : List JournalEntry) (stood : StandsFor bytes h before) → ((c : List ℕ) → old.images c → StandsFor c h before)
          → (t : TakesIn rows h before stood names came old new) × PrintsLive h stood items (Files names ∷ t.added) (option_map from_live w.refusal) (written w.begun, written w.out))
      go None told opened was = tt
      go (Some bytes) told opened was = λ h before stood only.
          let l = was h before stood only in (
            l.takes,
            prints_live written w h stood names l.takes.added (legal_left h before (before ++ (Files names ∷ l.takes.added)) old new told l.takes.leaves)
                (first ∙ (opened h before stood).entries) l.stands items same l.through,
          )
