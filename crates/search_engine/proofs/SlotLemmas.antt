-- Pages that were searched by themselves, sent on in order.
use Rattle.std.proofs.Common.{◌≡◌, ℕ, suc, ◌+◌, ◌<◌, ◌≤◌, ◌^◌, List, [], ◌∷◌, ◌++◌, length, take, drop, get_or, Option, Some, None, refl, sym, ◌∙◌, ap, ap₂, subst, arith, take-append-drop}
use Rattle.std.specs.Prelude.{Result, Ok, OnOk, IsErrOf, All}
use Rattle.std.proofs.lemmas.List.{append-nil, map-append, take_all}
use Rattle.std.proofs.Math.Seq.{drop-cons, take-add}
use Rattle.column_store.specs.declared.row.Row.{Row}
use Rattle.sink_pieces.specs.Output.{Grew, GrewByFront, Moves}
use Rattle.search_engine.specs.declared.refusal.PrintRefusal.{PrintRefusal}
use Rattle.search_walk.specs.declared.refusal.SearchRefusal.{SearchRefusal}
use Rattle.search_engine.specs.declared.counts.Counts.{Counts}
use Rattle.search_engine.specs.Refused.{from_print}
use Rattle.printed_lines.specs.Lines.{Placed, lines_of, numbered}
use Rattle.search_meaning.specs.Scan.{Asked, IsFound, IsTried}
use Rattle.search_engine.specs.Sofar.{Counted, Goes, Passes, Sofar, Stops, sofar}
use Rattle.subquery_filter.specs.declared.verdicts.Verdict.{Verdict}
use Rattle.word_places.specs.Held.{HeldNames}
use Rattle.search_walk.specs.Ready.{IsReadyPage}
use Rattle.search_engine.specs.Worked.{IsWorkedBy}
use Rattle.search_walk.specs.Held.{AreRowsOf, Named}
use Rattle.search_engine.specs.Waiting.{IsWorked, OfAllWorked, OfWorked, Page, PrintsPage, Slotted, WaitFor, no_counts, page, pages_of}
use Rattle.search_engine.specs.StepsSofar.{passes_none, passes_on, stops_behind, stops_here, stops_more, ticks_same}
use Rattle.search_walk.proofs.AnswerLemmas.{on_ok_to}
use Rattle.search_walk.proofs.PickLemmas.{picks_once, picks_short}
use Rattle.search_engine.specs.StepsWaiting.{waits_split}

-- ---- one page

pub length_numbered : (name : List ℕ) (k : ℕ) (messages : List (List ℕ)) → length (numbered name k messages) ≡ length messages
length_numbered name k [] = refl
length_numbered name k (m ∷ messages) = ap suc (length_numbered name (k + 1) messages)

pub as_many : (n : Named) (rows : List Row) (messages : List (List ℕ)) → AreRowsOf n rows messages → length messages ≡ length rows
as_many n [] [] are = refl
as_many n [] (m ∷ messages) are = absurd are.are
as_many n (r ∷ rows) [] are = absurd are.are
as_many n (r ∷ rows) (m ∷ messages) are = ap suc (as_many n rows messages (record { told = are.told; are = are.are.1 }))

-- what a page counts in its counts is exact
pub prints : (n : Named) (q : Asked) (name : List ℕ) (number : ℕ) (rows : List Row) (verdicts : List Verdict) (g text : List ℕ) (a b : Counts) (k j : ℕ) → g ≡ [] → a ≡ no_counts → number + length rows < 2 ^ 64
    → ((w : Option (List ℕ)) (messages : List (List ℕ)) → AreRowsOf n rows messages → Passes n.version q (numbered name number messages) (sofar w g a k) (sofar w text b j))
    → PrintsPage n q (page name number rows verdicts) text b
prints n q name number rows verdicts g text a b k j none start small passes = λ w messages are.
    let p = passes w messages are in
    let short = picks_short (λ x. IsTried n.version q x.message) (numbered name number messages) p.tried p.are_tried in
    let expanded : Counted 0 b.expanded (length p.tried) = subst (λ (t : Counts). Counted t.expanded b.expanded (length p.tried)) start p.advances.expanded in
    record {
      found = p.found;
      tried = p.tried;
      are_found = p.are_found;
      are_tried = p.are_tried;
      advances = record {
        goes = record {
          front = p.advances.goes.front;
          splits = subst (λ (l : List ℕ). l ++ lines_of p.found ≡ p.advances.goes.front ++ text) none p.advances.goes.splits;
          grew = p.advances.goes.grew;
        };
        matched = subst (λ (t : Counts). Counted t.matched b.matched (length p.found)) start p.advances.matched;
        expanded = expanded;
        ticks = expanded (omega (arith, small, short, length_numbered name number messages, as_many n rows messages are));
      };
    }

held : Option (List ℕ) → List ℕ
held None = []
held (Some l) = l

-- the text of a page is the lines of its messages
lines_are : (text : List ℕ) (b : Counts) (found : List Placed) → Goes (sofar (Some []) [] no_counts 0) (sofar (Some []) text b b.expanded) (lines_of found) → lines_of found ≡ text
unfolding held
lines_are text b found goes =
    let none : goes.front ≡ [] = sym (ap held goes.grew) in
    goes.splits ∙ ap (λ (l : List ℕ). l ++ text) none

pub slot_passes : (s : Slotted) (w v : Option (List ℕ)) (g h : List ℕ) (a b : Counts) (k j : ℕ) (n : Named) (q : Asked) (messages : List (List ℕ)) → PrintsPage n q s.page s.text s.counts
    → Moves w v (g ++ s.text) h → Counted a.matched b.matched s.counts.matched → Counted a.expanded b.expanded s.counts.expanded → j ≡ k + s.counts.expanded → AreRowsOf n s.page.rows messages
    → Passes n.version q (numbered s.page.name s.page.number messages) (sofar w g a k) (sofar v h b j)
slot_passes s w v g h a b k j n q messages prints moves matched expanded ticks are =
    let p = prints (Some []) messages are in
    let text : lines_of p.found ≡ s.text = lines_are s.text s.counts p.found p.advances.goes in
    record {
      found = p.found;
      tried = p.tried;
      are_found = p.are_found;
      are_tried = p.are_tried;
      advances = record {
        goes = record { front = moves.front; splits = ap (λ (l : List ℕ). g ++ l) text ∙ moves.splits; grew = moves.grew };
        matched = λ fits.
            let own : s.counts.matched ≡ 0 + length p.found = p.advances.matched (omega (arith, fits)) in
            omega (arith, own, matched (omega (arith, fits, own)));
        expanded = λ fits.
            let own : s.counts.expanded ≡ 0 + length p.tried = p.advances.expanded (omega (arith, fits)) in
            omega (arith, own, expanded (omega (arith, fits, own)));
        ticks = omega (arith, ticks, p.advances.ticks);
      };
    }

-- its text did not all go out
pub slot_stops : (s : Slotted) (w v : Option (List ℕ)) (g : List ℕ) (a : Counts) (k j : ℕ) (n : Named) (q : Asked) (messages : List (List ℕ)) → PrintsPage n q s.page s.text s.counts
    → GrewByFront w v (g ++ s.text) → j ≡ k → AreRowsOf n s.page.rows messages → Stops n.version q (numbered s.page.name s.page.number messages) (sofar w g a k) v j
slot_stops s w v g a k j n q messages prints front ticks are =
    let p = prints (Some []) messages are in
    let all = numbered s.page.name s.page.number messages in
    let text : lines_of p.found ≡ s.text = lines_are s.text s.counts p.found p.advances.goes in
    record {
      front = λ found are_found.
          let same : found ≡ p.found = picks_once (λ x. IsFound n.version q x.message) all found p.found are_found p.are_found in
          subst (λ (l : List ℕ). GrewByFront w v (g ++ l)) (sym (ap lines_of same ∙ text)) front;
      most = ticks_same n.version q all k j ticks;
    }

pub front_all : (old new : Option (List ℕ)) (text : List ℕ) → Grew old new text → GrewByFront old new text
front_all old new text grew = (text, [], sym (append-nil text), grew)

-- it did not go through: at most what was gathered before went out
pub slot_refused : (s : Slotted) (w v : Option (List ℕ)) (g : List ℕ) (a : Counts) (k j : ℕ) (n : Named) (q : Asked) (messages : List (List ℕ)) → GrewByFront w v g → j ≡ k
    → Stops n.version q (numbered s.page.name s.page.number messages) (sofar w g a k) v j
slot_refused s w v g a k j n q messages front ticks =
    let all = numbered s.page.name s.page.number messages in
    stops_here n.version q all (sofar w g a k) v j front (ticks_same n.version q all k j ticks)

pub on_ok : {T E : Type 0} (r : Result T E) (t : T) (P : Type 0) → r ≡ Ok t → OnOk r P → P
on_ok {T} {E} r t P is has = subst (λ (x : Result T E). OnOk x P) is has

pub print_damaged_from : (e : PrintRefusal) → from_print e ≡ SearchRefusal.Damaged → e ≡ PrintRefusal.Damaged
print_damaged_from PrintRefusal.Damaged is = refl
print_damaged_from PrintRefusal.OutOfMemory is = absurd (cc (is))

-- what the search of a page left is in its slot
pub worked_so : (q : Asked) (held : HeldNames) (x y : Slotted) (p : Page) (r : Result (Unit {0}) PrintRefusal) → x ≡ y → y.page ≡ p
    → OnOk r ((n : Named) → IsReadyPage n q held p.rows p.verdicts → PrintsPage n q p y.text y.counts)
    → (IsErrOf r PrintRefusal.Damaged → (n : Named) → IsReadyPage n q held p.rows p.verdicts → (messages : List (List ℕ)) → ¬ AreRowsOf n p.rows messages)
    → IsWorkedBy q held (record { page = x.page; text = x.text; counts = x.counts; answer = r })
worked_so q held x y p r same same_page done damaged = λ n ready.
    let own : IsReadyPage n q held p.rows p.verdicts =
    subst (λ (o : Page). IsReadyPage n q held o.rows o.verdicts) same_page (subst (λ (s : Slotted). IsReadyPage n q held s.page.rows s.page.verdicts) same ready) in
    record {
      done = on_ok_to r ((m : Named) → IsReadyPage m q held p.rows p.verdicts → PrintsPage m q p y.text y.counts) (PrintsPage n q x.page x.text x.counts)
          (λ prints. subst (λ (s : Slotted). PrintsPage n q s.page s.text s.counts) (sym same) (subst (λ (o : Page). PrintsPage n q o y.text y.counts) (sym same_page) (prints n own))) done;
      damaged = λ is messages.
          subst (λ (s : Slotted). ¬ AreRowsOf n s.page.rows messages) (sym same) (subst (λ (o : Page). ¬ AreRowsOf n o.rows messages) (sym same_page) (damaged is n own messages));
    }

-- ---- all pages of a batch

pub pages_kept : (xs ys : List Slotted) → length ys ≡ length xs → ((k : ℕ) (d : Slotted) → k < length xs → (get_or ys k d).page ≡ (get_or xs k d).page) → pages_of ys ≡ pages_of xs
pages_kept [] [] long each = refl
pages_kept [] (y ∷ ys) long each = absurd (omega (arith, long))
pages_kept (x ∷ xs) [] long each = absurd (omega (arith, long))
pages_kept (x ∷ xs) (y ∷ ys) long each =
    ap₂ (λ (p : Page) (l : List Page). p ∷ l) (each 0 x (omega arith)) (pages_kept xs ys (omega (arith, long)) (λ k d lt. each (suc k) d (omega (arith, lt))))

drop_slot : (slots : List Slotted) (k : ℕ) (s : Slotted) → k < length slots → s ≡ get_or slots k s → drop k slots ≡ s ∷ drop (k + 1) slots
drop_slot slots k s lt is =
    let next : suc k ≡ k + 1 = omega arith in
    drop-cons slots k s lt ∙ ap₂ (λ (x : Slotted) (j : ℕ). x ∷ drop j slots) (sym is) next

take_slot : (slots : List Slotted) (k : ℕ) (s : Slotted) → k < length slots → s ≡ get_or slots k s → pages_of (take (k + 1) slots) ≡ pages_of (take k slots) ++ s.page ∷ []
take_slot slots k s lt is =
    ap pages_of (take-add k 1 slots ∙ ap (λ (l : List Slotted). take k slots ++ take 1 l) (drop_slot slots k s lt is)) ∙ map-append (λ (x : Slotted). x.page) (take k slots) (s ∷ [])

all_slots : (slots : List Slotted) (k : ℕ) (s : Slotted) → k < length slots → s ≡ get_or slots k s → pages_of slots ≡ pages_of (take k slots) ++ (s.page ∷ pages_of (drop (k + 1) slots))
all_slots slots k s lt is =
    ap pages_of (sym (take-append-drop k slots) ∙ ap (λ (l : List Slotted). take k slots ++ l) (drop_slot slots k s lt is)) ∙ map-append (λ (x : Slotted). x.page) (take k slots) (s ∷ drop (k + 1) slots)

worked_at : (slots : List Slotted) (k : ℕ) (s : Slotted) (n : Named) (q : Asked) → k < length slots → s ≡ get_or slots k s → All (IsWorked n q) slots → IsWorked n q s
worked_at slots k s n q lt is worked = subst (IsWorked n q) (sym is) (worked k s lt)

-- past the first pages
abbrev pub Gathered : List Slotted → ℕ → Sofar → Sofar → Type 0
Gathered slots k a b = (n : Named) (q : Asked) (gone : List Placed) → All (IsWorked n q) slots → WaitFor n (pages_of (take k slots)) gone → Passes n.version q gone a b

pub gathered_first : (slots : List Slotted) (a : Sofar) → Gathered slots 0 a a
gathered_first slots a = λ n q gone worked waits. subst (λ l. Passes n.version q l a a) (sym waits) (passes_none n.version q a)

pub gathered_next : (slots : List Slotted) (k : ℕ) (s : Slotted) (a b c : Sofar) → k < length slots → s ≡ get_or slots k s → Gathered slots k a b → OfWorked s (λ n q all. Passes n.version q all b c) → Gathered slots (k + 1) a c
gathered_next slots k s a b c lt is before one = λ n q gone worked waits.
    let parts = waits_split n (pages_of (take k slots)) (s.page ∷ []) gone (subst (λ l. WaitFor n l gone) (take_slot slots k s lt is) waits) in
    let last = parts.second in
    let own : parts.back ≡ numbered s.page.name s.page.number last.0 = last.4 ∙ ap (λ (l : List Placed). numbered s.page.name s.page.number last.0 ++ l) last.3 ∙ append-nil (numbered s.page.name s.page.number last.0) in
    subst (λ l. Passes n.version q l a c) (sym parts.both)
    (passes_on n.version q parts.front parts.back a b c (before n q parts.front worked parts.first)
    (subst (λ l. Passes n.version q l b c) (sym own) (one n q last.0 (worked_at slots k s n q lt is worked) last.2)))

pub gathered_end : (slots : List Slotted) (k : ℕ) (a b : Sofar) → length slots ≤ k → Gathered slots k a b → OfAllWorked slots (λ n q all. Passes n.version q all a b)
gathered_end slots k a b end before = λ n q all worked waits. before n q all worked (subst (λ l. WaitFor n (pages_of l) all) (sym (take_all k slots end)) waits)

pub gathered_stops : (slots : List Slotted) (k : ℕ) (s : Slotted) (a b : Sofar) (w : Option (List ℕ)) (t : ℕ) → k < length slots → s ≡ get_or slots k s → Gathered slots k a b → OfWorked s (λ n q all. Stops n.version q all b w t)
    → OfAllWorked slots (λ n q all. Stops n.version q all a w t)
gathered_stops slots k s a b w t lt is before one = λ n q all worked waits.
    let parts = waits_split n (pages_of (take k slots)) (s.page ∷ pages_of (drop (k + 1) slots)) all (subst (λ l. WaitFor n l all) (all_slots slots k s lt is) waits) in
    let last = parts.second in
    subst (λ l. Stops n.version q l a w t) (sym (parts.both ∙ ap (λ (l : List Placed). parts.front ++ l) last.4))
    (stops_behind n.version q parts.front (numbered s.page.name s.page.number last.0 ++ last.1) a b w t (before n q parts.front worked parts.first)
    (stops_more n.version q (numbered s.page.name s.page.number last.0) last.1 b w t (one n q last.0 (worked_at slots k s n q lt is worked) last.2)))

pub gathered_damaged : (slots : List Slotted) (k : ℕ) (s : Slotted) → k < length slots → s ≡ get_or slots k s → OfWorked s (λ _ _ _. ⊥) → OfAllWorked slots (λ _ _ _. ⊥)
gathered_damaged slots k s lt is one = λ n q all worked waits.
    let parts = waits_split n (pages_of (take k slots)) (s.page ∷ pages_of (drop (k + 1) slots)) all (subst (λ l. WaitFor n l all) (all_slots slots k s lt is) waits) in
    one n q parts.second.0 (worked_at slots k s n q lt is worked) parts.second.2
