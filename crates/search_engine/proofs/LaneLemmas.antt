-- What a lane left, and what becomes of it.
use Rattle.std.specs.Prelude.{Err, IsErrOf, Ok, Result}
use Rattle.std.proofs.Common.{◌≡◌, ℕ, ◌+◌, ◌<◌, ◌≤◌, ◌^◌, min, List, [], ◌++◌, length, map, Option, Some, None, refl, sym, ◌∙◌, ap, subst, arith}
use Rattle.std.proofs.lemmas.List.{append-nil, append_assoc, length-map}
use Rattle.log_seams.specs.Disk.{DiskState, Rests}
use Rattle.log_seams.specs.Outside.{CountsOf}
use Rattle.sink_pieces.specs.Output.{Grew, GrewByFront, Moves}
use Rattle.archive_open.specs.declared.files.FileEntry.{FileEntry}
use Rattle.archive_open.specs.declared.segments.SegmentPlace.{SegmentPlace}
use Rattle.archive_places.specs.declared.front.SegmentFront.{SegmentFront}
use Rattle.archive_places.specs.Fronts.{front_of_place}
use Rattle.printed_lines.specs.Lines.{Placed, lines_of}
use Rattle.search_meaning.specs.Scan.{Asked, IsFound, IsTried}
use Rattle.search_walk.specs.Held.{HaveMessages, Named}
use Rattle.search_meaning.specs.Opened.{IsBarrenFor}
use Rattle.search_walk.specs.declared.refusal.SearchRefusal.{SearchRefusal}
use Rattle.search_walk.specs.Opened.{NoFronts, ReadsFronts}
use Rattle.search_walk.specs.StepsScope.{Scope, scope}
use Rattle.search_walk.specs.Walked.{Searched, Stopped}
use Rattle.search_walk.proofs.PickLemmas.{picks_once, picks_short}
use Rattle.search_engine.specs.declared.counts.Counts.{Counts}
use Rattle.search_engine.specs.declared.counts.LaneCounts.{LaneCounts}
use Rattle.search_engine.specs.SegmentsDone.{SearchedFronts, StoppedFronts}
use Rattle.search_engine.specs.Lanes.{IsFront, IsLaneSearch, IsPrinted, LaneLeft, SearchedInto, StoppedInto, TakesLeft, left_of}
use Rattle.search_engine.specs.Sofar.{Goes, Passes, Stops, sofar}
use Rattle.search_engine.specs.Waiting.{Blames, Halts, Pending, Reaches, State, WaitFor, no_counts, nothing_pending, sofar_of, state}
use Rattle.search_engine.specs.StepsSofar.{front_more, front_second, ticks_same}
use Rattle.search_engine.specs.StepsWaiting.{reaches_end, reaches_on, same_is}
use Rattle.search_engine.proofs.FrontsLemmas.{fronts_all, have_few}
use Rattle.search_engine.proofs.SearchLemmas.{last_damaged, last_stopped}

-- ---- a search into a text

bytes_in : Option (List ℕ) → List ℕ
bytes_in None = []
bytes_in (Some l) = l

-- from nothing on, the sink's text is the lines of the messages that were found
text_is : (text lines : List ℕ) (a b : Counts) (j k : ℕ) → Goes (sofar (Some []) [] a j) (sofar (Some text) [] b k) lines → text ≡ lines
unfolding bytes_in
text_is text lines a b j k goes = ap bytes_in goes.grew ∙ sym (goes.splits ∙ append-nil goes.front)

pub printed_of : (n : Named) (q : Asked) (all : List Placed) (text : List ℕ) (counts : Counts) (opened : ℕ) (j k : ℕ) → Passes n.version q all (sofar (Some []) [] no_counts j) (sofar (Some text) [] counts k)
    → IsPrinted n q (left_of text counts opened (Ok tt)) all
printed_of n q all text counts opened j k p = record {
  found = p.found;
  tried = p.tried;
  are_found = p.are_found;
  are_tried = p.are_tried;
  text = text_is text (lines_of p.found) no_counts counts j k p.advances.goes;
  matched = p.advances.matched;
  expanded = p.advances.expanded;
}

-- the segments were searched, and all that was gathered went out
pub into_done : (seen : Option (List ℕ)) (n : Named) (files : List FileEntry) (q : Asked) (fronts : List SegmentFront) (text : List ℕ) (y z : Pending) (b : State) (counts : Counts) (j k t u count opened : ℕ)
    → y ≡ nothing_pending → SearchedFronts seen n files q fronts (state (Some []) y j) b t u count → Reaches n q [] b (state (Some text) z k) → z.pages ≡ [] → z.gathered ≡ [] → counts ≡ z.counts → opened ≡ min count (length fronts)
    → SearchedInto seen (scope n q files) fronts (left_of text counts opened (Ok tt))
into_done seen n files q fronts text y z b counts j k t u count opened none searched finished empty sent same least =
    fronts_all seen n files fronts (λ ps _ all. Searched (λ l. Reaches n q l (state (Some []) y j) b) n q ps all t u count) (λ ps _ all. Searched (IsPrinted n q (left_of text counts opened (Ok tt))) n q ps all 0 opened opened)
    (λ ps bytes all is have s.
    let start : y.pages ≡ [] = ap (λ (p : Pending). p.pages) none in
    let whole : Reaches n q all (state (Some []) y j) (state (Some text) z k) =
    subst (λ l. Reaches n q l (state (Some []) y j) (state (Some text) z k)) (append-nil all) (reaches_on n q all [] (state (Some []) y j) b (state (Some text) z k) s.reaches finished) in
    let passes : Passes n.version q all (sofar (Some []) y.gathered y.counts j) (sofar (Some text) z.gathered z.counts k) = reaches_end n q all (state (Some []) y j) (state (Some text) z k) start empty whole in
    let from : Passes n.version q all (sofar (Some []) [] no_counts j) (sofar (Some text) z.gathered z.counts k) = subst (λ (p : Pending). Passes n.version q all (sofar (Some []) p.gathered p.counts j) (sofar (Some text) z.gathered z.counts k)) none passes in
    let own : Passes n.version q all (sofar (Some []) [] no_counts j) (sofar (Some text) [] counts k) =
    subst (λ (c : Counts). Passes n.version q all (sofar (Some []) [] no_counts j) (sofar (Some text) [] c k)) (sym same) (subst (λ (g : List ℕ). Passes n.version q all (sofar (Some []) [] no_counts j) (sofar (Some text) g z.counts k)) sent from) in
    let short = picks_short (λ p. ¬ IsBarrenFor n.types n.words q p) ps s.opened s.are_opened in
    let long : length ps ≡ length fronts = sym (length-map ps front_of_place) ∙ ap (λ (l : List SegmentFront). length l) is in
    let exact : opened ≡ length s.opened = omega (arith, least, s.counted, short, long) in
    record {
      reaches = printed_of n q all text counts opened j k own;
      opened = s.opened;
      are_opened = s.are_opened;
      ticked = omega (arith, exact);
      counted = exact;
    }) searched

front_of_text : (text lines : List ℕ) → GrewByFront (Some []) (Some text) lines → (rest : List ℕ) × (lines ≡ text ++ rest)
unfolding bytes_in
front_of_text text lines f = (f.1, f.2 ∙ ap (λ (l : List ℕ). l ++ f.1) (sym (ap bytes_in f.3)))

pub front_halts : (n : Named) (q : Asked) (text : List ℕ) (y : Pending) (j k : ℕ) (all : List Placed) → y ≡ nothing_pending → Halts n q all (state (Some []) y j) (Some text) k → IsFront n q text all
front_halts n q text y j k all none halts = λ found are.
    let start = subst (λ (p : Pending). Halts n q all (state (Some []) p j) (Some text) k) none halts in
    front_of_text text (lines_of found) ((start [] refl).front found are)

pub into_stopped : (seen : Option (List ℕ)) (n : Named) (files : List FileEntry) (q : Asked) (fronts : List SegmentFront) (text : List ℕ) (y : Pending) (j k t u : ℕ) → y ≡ nothing_pending
    → StoppedFronts seen n files q fronts (state (Some []) y j) (Some text) k t u → StoppedInto seen (scope n q files) fronts text
into_stopped seen n files q fronts text y j k t u none stopped =
    fronts_all seen n files fronts (λ ps _ all. Stopped (λ l. Halts n q l (state (Some []) y j) (Some text) k) n q ps all t u) (λ ps _ all. Stopped (IsFront n q text) n q ps all 0 0)
    (λ ps bytes all is have s. record { halts = front_halts n q text y j k all none s.halts; most = λ opened are. omega arith }) stopped

-- ---- the search of a lane, by its answer

module _ (old new : DiskState) (s : Scope) (fronts : List SegmentFront) (text : List ℕ) where
  pub lane_search_ok : (told : LaneCounts) → Rests old new → ReadsFronts old new s.names s.files s.query fronts → SearchedInto old.seen s fronts (left_of text told.counts told.opened (Ok tt)) → told.opened ≤ length fronts
      → old.faults ≤ new.faults → new.faults ≡ old.faults → IsLaneSearch old new s fronts text (Ok told)
  lane_search_ok told rests reads done most later steady = record {
    rests = rests;
    reads = reads;
    done = done;
    most = most;
    stopped = tt;
    damaged = λ is. absurd (cc (is));
    counts = record { later = later; steady = steady; failed = λ is. absurd (cc (is)); spared = λ e is other. absurd (cc (is)) };
  }

  -- it was stopped among the segments, and its refusal is handed on
  pub lane_search_err : (e : SearchRefusal) (r : Result LaneCounts SearchRefusal) → r ≡ Err e → Rests old new → ReadsFronts old new s.names s.files s.query fronts → StoppedInto old.seen s fronts text
      → (IsErrOf {T = ℕ} (Err e) SearchRefusal.Damaged → NoFronts old.seen s.names s.files fronts) → CountsOf {T = ℕ} SearchRefusal.DiskFault old.faults new.faults (Err e) → IsLaneSearch old new s fronts text r
  lane_search_err e r is_err rests reads stopped damaged counts = subst (IsLaneSearch old new s fronts text) (sym is_err)
      (record {
        rests = rests;
        reads = reads;
        done = tt;
        most = tt;
        stopped = stopped;
        damaged = λ is. damaged (cc (is));
        counts = record { later = counts.later; steady = tt; failed = λ is. counts.failed (cc (is)); spared = λ x is other. counts.spared x (cc (is)) other };
      })

  -- it was stopped when what was left was sent
  pub lane_search_cut : (e : SearchRefusal) (r : Result LaneCounts SearchRefusal) → r ≡ Err e → Rests old new → ReadsFronts old new s.names s.files s.query fronts → StoppedInto old.seen s fronts text
      → (IsErrOf {T = Unit {0}} (Err e) SearchRefusal.Damaged → NoFronts old.seen s.names s.files fronts) → old.faults ≤ new.faults → new.faults ≡ old.faults → ¬ IsErrOf {T = Unit {0}} (Err e) SearchRefusal.DiskFault
      → IsLaneSearch old new s fronts text r
  lane_search_cut e r is_err rests reads stopped damaged later steady stood = subst (IsLaneSearch old new s fronts text) (sym is_err)
      (record {
        rests = rests;
        reads = reads;
        done = tt;
        most = tt;
        stopped = stopped;
        damaged = λ is. damaged (cc (is));
        counts = record { later = later; steady = tt; failed = λ is. absurd (stood (cc (is))); spared = λ x is other. steady };
      })

-- ---- what a lane left is sent on

reaches_past : (n : Named) (q : Asked) (all : List Placed) (a b : State) → a.pending.pages ≡ [] → b.pending.pages ≡ [] → Passes n.version q all (sofar_of a) (sofar_of b) → Reaches n q all a b
reaches_past n q all a b none empty passes = λ early waits.
    let start : early ≡ [] = subst (λ l. WaitFor n l early) none waits in
    record {
      done = early ++ all;
      later = [];
      waits = subst (λ l. WaitFor n l []) (sym empty) refl;
      same = same_is n.version q (early ++ all) ((early ++ all) ++ []) (sym (append-nil (early ++ all)));
      passes = subst (λ (l : List Placed). Passes n.version q (l ++ all) (sofar_of a) (sofar_of b)) (sym start) passes;
    }

taken_passes : (n : Named) (q : Asked) (all : List Placed) (left : LaneLeft) (a b : State) → length all < 2 ^ 64 → TakesLeft left.text left.counts a b → IsPrinted n q left all → Passes n.version q all (sofar_of a) (sofar_of b)
taken_passes n q all left a b small takes p =
    let short = picks_short (λ x. IsTried n.version q x.message) all p.tried p.are_tried in
    let own : left.counts.expanded ≡ 0 + length p.tried = p.expanded (omega (arith, short, small)) in
    record {
      found = p.found;
      tried = p.tried;
      are_found = p.are_found;
      are_tried = p.are_tried;
      advances = record {
        goes = record { front = takes.moves.front; splits = ap (λ (l : List ℕ). a.pending.gathered ++ l) (sym p.text) ∙ takes.moves.splits; grew = takes.moves.grew };
        matched = λ fits.
            let mine : left.counts.matched ≡ 0 + length p.found = p.matched (omega (arith, fits)) in
            omega (arith, mine, takes.matched (omega (arith, fits, mine)));
        expanded = λ fits. omega (arith, own, takes.expanded (omega (arith, fits, own)));
        ticks = omega (arith, own, takes.ticks);
      };
    }

few_fit : (seen : Option (List ℕ)) (n : Named) (files : List FileEntry) (fronts : List SegmentFront) (ps : List SegmentPlace) (bytes : List ℕ) (all : List Placed) → length fronts ≤ 65536 → map front_of_place ps ≡ fronts → HaveMessages bytes n files ps all
    → length all < 2 ^ 64
few_fit seen n files fronts ps bytes all few is have =
    let long : length ps ≡ length fronts = sym (length-map ps front_of_place) ∙ ap (λ (l : List SegmentFront). length l) is in
    omega (arith, have_few bytes n files ps all have, long, few)

pub lane_taken : (seen : Option (List ℕ)) (s : Scope) (fronts : List SegmentFront) (left : LaneLeft) (a b : State) (t u : ℕ) → length fronts ≤ 65536 → a.pending.pages ≡ [] → TakesLeft left.text left.counts a b → u ≡ t + left.opened
    → SearchedInto seen s fronts left → SearchedFronts seen s.names s.files s.query fronts a b t u left.opened
lane_taken seen s fronts left a b t u few none takes ticked searched =
    fronts_all seen s.names s.files fronts (λ ps _ all. Searched (IsPrinted s.names s.query left) s.names s.query ps all 0 left.opened left.opened) (λ ps _ all. Searched (λ l. Reaches s.names s.query l a b) s.names s.query ps all t u left.opened)
    (λ ps bytes all is have x. record {
      reaches = reaches_past s.names s.query all a b none (takes.pages ∙ none) (taken_passes s.names s.query all left a b (few_fit seen s.names s.files fronts ps bytes all few is have) takes x.reaches);
      opened = x.opened;
      are_opened = x.are_opened;
      ticked = omega (arith, ticked, x.ticked);
      counted = x.counted;
    }) searched

halts_at : (n : Named) (q : Asked) (all : List Placed) (text : List ℕ) (a : State) (w : Option (List ℕ)) (k : ℕ) → a.pending.pages ≡ [] → GrewByFront a.written w (a.pending.gathered ++ text) → k ≡ a.ticks → IsFront n q text all → Halts n q all a w k
halts_at n q all text a w k none front ticks is = λ early waits.
    let start : early ≡ [] = subst (λ l. WaitFor n l early) none waits in
    subst (λ (l : List Placed). Stops n.version q (l ++ all) (sofar_of a) w k) (sym start)
    (record {
      front = λ found are.
          let r = is found are in
          subst (GrewByFront a.written w) (append_assoc a.pending.gathered text r.0 ∙ ap (λ (l : List ℕ). a.pending.gathered ++ l) (sym r.1)) (front_more a.written w (a.pending.gathered ++ text) r.0 front);
      most = ticks_same n.version q all a.ticks k ticks;
    })

pub lane_halts : (seen : Option (List ℕ)) (s : Scope) (fronts : List SegmentFront) (text : List ℕ) (a : State) (w : Option (List ℕ)) (k t : ℕ) → a.pending.pages ≡ [] → GrewByFront a.written w (a.pending.gathered ++ text) → k ≡ a.ticks
    → StoppedInto seen s fronts text → StoppedFronts seen s.names s.files s.query fronts a w k t t
lane_halts seen s fronts text a w k t none front ticks stopped =
    fronts_all seen s.names s.files fronts (λ ps _ all. Stopped (IsFront s.names s.query text) s.names s.query ps all 0 0) (λ ps _ all. Stopped (λ l. Halts s.names s.query l a w k) s.names s.query ps all t t)
    (λ ps bytes all is have x. record { halts = halts_at s.names s.query all text a w k none front ticks x.halts; most = λ opened are. omega arith }) stopped

-- the lane went through, and its text did not all go out
pub lane_cut : (seen : Option (List ℕ)) (s : Scope) (fronts : List SegmentFront) (left : LaneLeft) (a : State) (w : Option (List ℕ)) (k t : ℕ) → a.pending.pages ≡ [] → GrewByFront a.written w (a.pending.gathered ++ left.text) → k ≡ a.ticks
    → SearchedInto seen s fronts left → StoppedFronts seen s.names s.files s.query fronts a w k t t
lane_cut seen s fronts left a w k t none front ticks searched =
    lane_halts seen s fronts left.text a w k t none front ticks
    (fronts_all seen s.names s.files fronts (λ ps _ all. Searched (IsPrinted s.names s.query left) s.names s.query ps all 0 left.opened left.opened) (λ ps _ all. Stopped (IsFront s.names s.query left.text) s.names s.query ps all 0 0)
    (λ ps bytes all is have x. record {
      halts = λ found are.
          let same : found ≡ x.reaches.found = picks_once (λ p. IsFound s.names.version s.query p.message) all found x.reaches.found are x.reaches.are_found in
          ([], ap lines_of same ∙ sym x.reaches.text ∙ sym (append-nil left.text));
      most = λ opened are. omega arith;
    }) searched)

-- nothing was sent
pub fronts_unsent : (seen : Option (List ℕ)) (n : Named) (files : List FileEntry) (q : Asked) (fronts : List SegmentFront) (a : State) (w : Option (List ℕ)) (k t u : ℕ) → ((all : List Placed) → Halts n q all a w k) → u ≡ t
    → StoppedFronts seen n files q fronts a w k t u
fronts_unsent None n files q fronts a w k t u halts same ps is = tt
fronts_unsent (Some bytes) n files q fronts a w k t u halts same ps is = λ all distinct have. record { halts = halts all; most = λ opened are. omega (arith, same) }

-- the last pages did not all go out
pub into_cut : (seen : Option (List ℕ)) (n : Named) (files : List FileEntry) (q : Asked) (fronts : List SegmentFront) (text : List ℕ) (y : Pending) (b : State) (j k t u count : ℕ) → y ≡ nothing_pending
    → SearchedFronts seen n files q fronts (state (Some []) y j) b t u count → Halts n q [] b (Some text) k → StoppedInto seen (scope n q files) fronts text
into_cut seen n files q fronts text y b j k t u count none searched halts =
    fronts_all seen n files fronts (λ ps _ all. Searched (λ l. Reaches n q l (state (Some []) y j) b) n q ps all t u count) (λ ps _ all. Stopped (IsFront n q text) n q ps all 0 0)
    (λ ps bytes all is have s.
    let stopped = last_stopped n q ps all (state (Some []) y j) b (Some text) k t u count s halts in
    record { halts = front_halts n q text y j k all none stopped.halts; most = λ opened are. omega arith }) searched

pub into_blamed : (seen : Option (List ℕ)) (n : Named) (files : List FileEntry) (q : Asked) (fronts : List SegmentFront) (a b : State) (t u count : ℕ) → a.pending ≡ nothing_pending → SearchedFronts seen n files q fronts a b t u count
    → Blames n b.pending.pages ⊥ → NoFronts seen n files fronts
into_blamed seen n files q fronts a b t u count none searched blames =
    fronts_all seen n files fronts (λ ps _ all. Searched (λ l. Reaches n q l a b) n q ps all t u count) (λ _ _ _. ⊥)
    (λ ps bytes all is have s. last_damaged n q ps all a b t u count none s blames) searched

-- what was gathered, or went out, goes out in part or whole
pub sent_part : (a b c : Option (List ℕ)) (all rest : List ℕ) → Moves a b all rest → GrewByFront b c rest → GrewByFront a c all
sent_part a b c all rest moves f = subst (GrewByFront a c) (sym moves.splits) (front_second a b c moves.front rest moves.grew f)

pub sent_all : (a b c : Option (List ℕ)) (all rest : List ℕ) → Moves a b all rest → Grew b c rest → GrewByFront a c all
sent_all a b c all rest moves grew = sent_part a b c all rest moves (rest, [], sym (append-nil rest), grew)
