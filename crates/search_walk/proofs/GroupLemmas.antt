-- The segments of an opened archive, sorted by file and first message, hold the content of its journal in order.
use Rattle.std.proofs.Common.{◌≡◌, inl, inr, refl, sym, ap, subst, ◌∙◌, ◌+◌, ◌*◌, ◌^◌, ◌<◌, ◌≤◌, ℕ, zero, suc, Bool, true, false, cond, List, [], ◌∷◌, ◌++◌, Some, length, map, append_assoc, arith, length-append}
use Rattle.std.specs.Prelude.{◌==◌, if◌then◌else◌, slice_get, All}
use Rattle.std.specs.List.{filter}
use Rattle.std.proofs.lemmas.List.Concat.{flat_map-cons}
use Rattle.std.proofs.lemmas.List.Elements.{All-nil, All-cons, All-head, All-tail}
use Rattle.std.proofs.lemmas.List.Sorted.{All-permutation}
use Rattle.std.proofs.lemmas.Bool.{cases_lt}
use Rattle.std.proofs.lemmas.Slice.Zip.{AllZip-long}
use Rattle.record_format.specs.declared.header.Header.{Header}
use Rattle.archive_meaning.specs.declared.entry.JournalEntry.{JournalEntry}
use Rattle.archive_meaning.specs.declared.entry.JournalEntry.TheVariants.{Files, Types, Words, Segment}
use Rattle.archive_meaning.specs.Held.{File, Held, Piece, content_of, files_from, is_whole, is_ended, messages_of, nothing_held}
use Rattle.archive_meaning.specs.Legal.{Accepts, AreNamed, Run, piece_of}
use Rattle.archive_meaning.specs.Spelled.{front_of, record_of, types_in}
use Rattle.archive_meaning.specs.Stands.{StandsFor}
use Rattle.archive_open.proofs.FileOrderLemmas.{file_in_order, piece_messages, place_in, same_file}
use Rattle.archive_open.proofs.NextLemmas.{front_length}
use Rattle.archive_open.proofs.SortedLemmas.{AreAtLeast, NeverFall, least_lower, never_fall}
use Rattle.archive_open.specs.OfFile.{is_of}
use Rattle.archive_open.specs.declared.files.FileEntry.{FileEntry}
use Rattle.archive_open.specs.declared.segments.SegmentPlace.{SegmentPlace}
use Rattle.archive_open.specs.Shown.{IsArchiveOf, Shown, counted, order_of, places_from, places_of}
use Rattle.printed_lines.specs.Lines.{Placed, numbered, placed}
use Rattle.search_meaning.specs.Scan.{all_placed}
use Rattle.search_walk.proofs.RowsHeld.{HaveRows, Texts, texts_of}
use Rattle.search_walk.proofs.HeldLemmas.{held_from}

-- the segments of a file in the archive of a journal hold the file's messages
file_held : (bytes : List ℕ) (h : Header) (es : List JournalEntry) (a : Shown) (number : ℕ) (f : FileEntry) (stood : StandsFor bytes h es) → slice_get a.files number ≡ Some f → IsArchiveOf a h es stood.legal.held
    → HaveRows bytes (texts_of h stood.legal.held) a.files (filter (is_of number) a.segments) (numbered f.name 1 (messages_of number stood.legal.held.pieces))
file_held bytes h es a number f stood is_file is =
    let held = stood.legal.held in
    let start : 32 ≡ length (front_of h []) = omega (arith, front_length h []) in
    let from = held_from bytes h es stood a.files number f is_file [] es nothing_held held 32 [] refl stood.legal.run start refl refl in
    let sorted = file_in_order h es held a number stood.legal.run is in
    subst (λ l. HaveRows bytes (texts_of h held) a.files l (numbered f.name 1 (messages_of number held.pieces))) (sym sorted)
    (subst (λ m. HaveRows bytes (texts_of h held) a.files (filter (is_of number) (places_of es)) (numbered f.name 1 m)) (sym from.are) from.hold)

-- ---- by file

abbrev pub file_no : SegmentPlace → ℕ
file_no p = p.head.file

abbrev pub AreBelow : ℕ → List SegmentPlace → Type 0
AreBelow m [] = Unit {0}
AreBelow m (p ∷ ps) = (file_no p < m) × AreBelow m ps

test_same : (a b : ℕ) → a ≡ b → (a == b) ≡ true
test_same a b e = grind (arith, e)

test_other : (a b : ℕ) → a < b → (a == b) ≡ false
test_other a b lt = grind (arith, lt)

test_above : (a b : ℕ) → b < a → (a == b) ≡ false
test_above a b lt = grind (arith, lt)

none_of : (k : ℕ) (ps : List SegmentPlace) → AreAtLeast file_no (k + 1) ps → filter (is_of k) ps ≡ []
none_of k [] least = refl
none_of k (p ∷ ps) least =
    ap (λ b. cond b (p ∷ filter (is_of k) ps) (filter (is_of k) ps)) (test_above p.head.file k (omega (arith, least.0))) ∙ none_of k ps least.1

-- the segments of a file in front, and those of later files
record Cut (k m : ℕ) (ps : List SegmentPlace) : Type 0 where
  pub front : List SegmentPlace
  pub rest : List SegmentPlace
  pub whole : ps ≡ front ++ rest
  pub own : filter (is_of k) ps ≡ front
  pub others : (j : ℕ) → k < j → filter (is_of j) ps ≡ filter (is_of j) rest
  pub fall : NeverFall file_no rest
  pub least : AreAtLeast file_no (k + 1) rest
  pub below : AreBelow m rest

cut : (k m : ℕ) (ps : List SegmentPlace) → NeverFall file_no ps → AreAtLeast file_no k ps → AreBelow m ps → Cut k m ps
cut k m [] fall least below = record { front = []; rest = []; whole = refl; own = refl; others = λ j lt. refl; fall = tt; least = tt; below = tt }
cut k m (p ∷ ps) fall least below = elim (cases_lt k p.head.file) as (λ z. Cut k m (p ∷ ps)) [
  | inl lt ↦ record {
    front = [];
    rest = p ∷ ps;
    whole = refl;
    own = none_of k (p ∷ ps) (omega (arith, lt), least_lower file_no (k + 1) p.head.file ps (omega (arith, lt)) fall.0);
    others = λ j above. refl;
    fall = fall;
    least = (omega (arith, lt), least_lower file_no (k + 1) p.head.file ps (omega (arith, lt)) fall.0);
    below = below;
  }
  | inr le ↦
      let same : p.head.file ≡ k = omega (arith, le, least.0) in
      let c = cut k m ps fall.1 (least_lower file_no k p.head.file ps (omega (arith, same)) fall.0) below.1 in
      record {
        front = p ∷ c.front;
        rest = c.rest;
        whole = ap (λ (l : List SegmentPlace). p ∷ l) c.whole;
        own = ap (λ b. cond b (p ∷ filter (is_of k) ps) (filter (is_of k) ps)) (test_same p.head.file k same) ∙ ap (λ (l : List SegmentPlace). p ∷ l) c.own;
        others = λ j above. ap (λ b. cond b (p ∷ filter (is_of j) ps) (filter (is_of j) ps)) (test_other p.head.file j (omega (arith, same, above))) ∙ c.others j above;
        fall = c.fall;
        least = c.least;
        below = c.below;
      }
]

have_append : (bytes : List ℕ) (n : Texts) (files : List FileEntry) (ps qs : List SegmentPlace) (all more : List Placed) → HaveRows bytes n files ps all → HaveRows bytes n files qs more
    → HaveRows bytes n files (ps ++ qs) (all ++ more)
have_append bytes n files [] qs all more one two = subst (λ l. HaveRows bytes n files qs (l ++ more)) (sym one) two
have_append bytes n files (p ∷ ps) qs all more one two = (
  one.0,
  one.1,
  one.2 ++ more,
  one.3,
  one.4,
  have_append bytes n files ps qs one.2 more one.5 two,
  ap (λ (l : List Placed). l ++ more) one.6 ∙ append_assoc (numbered one.0.name (p.head.first + 1) one.1) one.2 more,
)

grouped : (bytes : List ℕ) (n : Texts) (files : List FileEntry) (pieces : List Piece) (k : ℕ) (names : List (List ℕ)) (ps : List SegmentPlace) → NeverFall file_no ps → AreAtLeast file_no k ps → AreBelow (k + length names) ps
    → ((j : ℕ) (name : List ℕ) → slice_get names j ≡ Some name → HaveRows bytes n files (filter (is_of (k + j)) ps) (numbered name 1 (messages_of (k + j) pieces)))
    → HaveRows bytes n files ps (all_placed (files_from k names pieces))
grouped bytes n files pieces k [] [] fall least below each = refl
grouped bytes n files pieces k [] (p ∷ ps) fall least below each = absurd (omega (arith, least.0, below.0))
grouped bytes n files pieces k (name ∷ names) ps fall least below each =
    let c = cut k (k + length (name ∷ names)) ps fall least below in
    let zero_k : k + 0 ≡ k = omega arith in
    let own : HaveRows bytes n files c.front (numbered name 1 (messages_of k pieces)) =
    subst (λ l. HaveRows bytes n files l (numbered name 1 (messages_of k pieces))) c.own
    (subst (λ i. HaveRows bytes n files (filter (is_of i) ps) (numbered name 1 (messages_of i pieces))) zero_k (each 0 name refl)) in
    let count : k + length (name ∷ names) ≡ k + 1 + length names = omega arith in
    let rest : HaveRows bytes n files c.rest (all_placed (files_from (k + 1) names pieces)) =
    grouped bytes n files pieces (k + 1) names c.rest c.fall c.least (subst (λ m. AreBelow m c.rest) count c.below)
    (λ j other is.
    let next : k + suc j ≡ k + 1 + j = omega arith in
    subst (λ l. HaveRows bytes n files l (numbered other 1 (messages_of (k + 1 + j) pieces))) (c.others (k + 1 + j) (omega arith))
    (subst (λ i. HaveRows bytes n files (filter (is_of i) ps) (numbered other 1 (messages_of i pieces))) next (each (suc j) other is))) in
    let file : File = record { name = name; messages = messages_of k pieces; whole = is_whole k pieces; ended = is_ended k pieces } in
    subst (λ l. HaveRows bytes n files l (all_placed (files_from k (name ∷ names) pieces))) (sym c.whole)
    (subst (λ l. HaveRows bytes n files (c.front ++ c.rest) l) (sym (flat_map-cons (λ (f : File). numbered f.name 1 f.messages) file (files_from (k + 1) names pieces)))
    (have_append bytes n files c.front c.rest (numbered name 1 (messages_of k pieces)) (all_placed (files_from (k + 1) names pieces)) own rest))

-- ---- where the segments lie

pub record IsPlaced (m : ℕ) (p : SegmentPlace) : Type 0 where
  pub first : p.head.first < 2 ^ 64
  pub file : p.head.file < m

fewer : (m n : ℕ) (ps : List SegmentPlace) → m ≤ n → All (IsPlaced m) ps → All (IsPlaced n) ps
fewer m n ps le all = λ k d lt. record { first = (all k d lt).first; file = omega (arith, (all k d lt).file, le) }

names_step : (h : Header) (old mid : Held) (e : JournalEntry) → Accepts h old e mid → length old.names ≤ length mid.names
names_step h old mid (Files names) a = omega (arith, ap (λ (m : Held). length m.names) a, length-append old.names names)
names_step h old mid (Types first texts) a = omega (arith, ap (λ (m : Held). length m.names) a.1)
names_step h old mid (Words first texts) a = omega (arith, ap (λ (m : Held). length m.names) a.1)
names_step h old mid (Segment s) a = omega (arith, ap (λ (m : Held). length m.names) a.2)

names_grow : (h : Header) (old more : Held) (es : List JournalEntry) → Run h old es more → length old.names ≤ length more.names
names_grow h old more [] run = omega (arith, ap (λ (m : Held). length m.names) run)
names_grow h old more (e ∷ es) run = omega (arith, names_step h old run.0 e run.1, names_grow h run.0 more es run.2)

-- names go on with an entry
named_on : (h : Header) (old mid : Held) (e : JournalEntry) (es : List JournalEntry) → Accepts h old e mid → AreNamed (length old.names) (e ∷ es) → AreNamed (length mid.names) es
named_on h old mid (Files names) es a named = subst (λ k. AreNamed k es) (sym (ap (λ (m : Held). length m.names) a ∙ length-append old.names names)) named.4
named_on h old mid (Types first texts) es a named = subst (λ k. AreNamed k es) (sym (ap (λ (m : Held). length m.names) a.1)) named
named_on h old mid (Words first texts) es a named = subst (λ k. AreNamed k es) (sym (ap (λ (m : Held). length m.names) a.1)) named
named_on h old mid (Segment s) es a named = subst (λ k. AreNamed k es) (sym (ap (λ (m : Held). length m.names) a.2)) named.1

places_fit : (h : Header) (at : ℕ) (types : List (List ℕ)) (es : List JournalEntry) (old more : Held) → Run h old es more → AreNamed (length old.names) es → All (IsPlaced (length more.names)) (places_from at types es)
places_fit h at types [] old more run named = All-nil (IsPlaced (length more.names))
places_fit h at types (e ∷ es) old more run named =
    by_entry e run.1 named (names_grow h old more (e ∷ es) run) (places_fit h (at + 10 + length (record_of types e).payload) (types ++ types_in e) es run.0 more run.2 (named_on h old run.0 e es run.1 named))
  where
    by_entry : (e : JournalEntry) → Accepts h old e run.0 → AreNamed (length old.names) (e ∷ es) → length old.names ≤ length more.names → All (IsPlaced (length more.names)) (places_from (at + 10 + length (record_of types e).payload) (types ++ types_in e) es)
        → All (IsPlaced (length more.names)) (places_from at types (e ∷ es))
    by_entry (Files names) a named grow later = later
    by_entry (Types first texts) a named grow later = later
    by_entry (Words first texts) a named grow later = later
    by_entry (Segment s) a named grow later =
        let most : s.first + length s.rows ≤ 4294967294 = a.1.most in
        All-cons (IsPlaced (length more.names)) (place_in at types s) (places_from (at + 10 + length (record_of types (Segment s)).payload) (types ++ types_in (Segment s)) es)
        (record { first = omega (arith, most); file = omega (arith, named.0, grow) }) later

-- sorted by file and first message, they are sorted by file
file_least : (m f x : ℕ) (ps : List SegmentPlace) → All (IsPlaced m) ps → AreAtLeast order_of (f * 2 ^ 64 + x) ps → AreAtLeast file_no f ps
file_least m f x [] placed least = tt
file_least m f x (p ∷ ps) placed least =
    let here : IsPlaced m p = All-head (IsPlaced m) p ps placed in
    (omega (arith, least.0, here.first), file_least m f x ps (All-tail (IsPlaced m) p ps placed) least.1)

file_falls : (m : ℕ) (ps : List SegmentPlace) → All (IsPlaced m) ps → NeverFall order_of ps → NeverFall file_no ps
file_falls m [] placed fall = tt
file_falls m (p ∷ ps) placed fall =
    (file_least m p.head.file p.head.first ps (All-tail (IsPlaced m) p ps placed) fall.0, file_falls m ps (All-tail (IsPlaced m) p ps placed) fall.1)

all_below : (m : ℕ) (ps : List SegmentPlace) → All (IsPlaced m) ps → AreBelow m ps
all_below m [] placed = tt
all_below m (p ∷ ps) placed = ((All-head (IsPlaced m) p ps placed).file, all_below m ps (All-tail (IsPlaced m) p ps placed))

least_zero : (ps : List SegmentPlace) → AreAtLeast file_no 0 ps
least_zero [] = tt
least_zero (p ∷ ps) = (omega arith, least_zero ps)

-- ---- the files

record HasName (files : List FileEntry) (k : ℕ) (name : List ℕ) : Type 0 where
  pub f : FileEntry
  pub is : slice_get files k ≡ Some f
  pub called : f.name ≡ name

file_named : (k : ℕ) (names : List (List ℕ)) (pieces : List Piece) (j : ℕ) (name : List ℕ) → slice_get names j ≡ Some name → HasName (map counted (files_from k names pieces)) j name
file_named k [] pieces zero name is = absurd (cc (is))
file_named k [] pieces (suc j) name is = absurd (cc (is))
file_named k (other ∷ names) pieces zero name is = record { f = _; is = refl; called = some_same is }
  where
    some_same : {A : Type 0} {x y : A} → Some x ≡ Some y → x ≡ y
    some_same e = cc
file_named k (other ∷ names) pieces (suc j) name is = let r = file_named (k + 1) names pieces j name is in record { f = r.f; is = r.is; called = r.called }

pub shown_have : (bytes : List ℕ) (h : Header) (es : List JournalEntry) (a : Shown) (stood : StandsFor bytes h es) → IsArchiveOf a h es stood.legal.held
    → HaveRows bytes (texts_of h stood.legal.held) a.files a.segments (all_placed (content_of stood.legal.held))
shown_have bytes h es a stood is =
    let held = stood.legal.held in
    let fit : All (IsPlaced (length held.names)) a.segments =
    All-permutation (IsPlaced (length held.names)) (places_of es) a.segments is.segments (places_fit h 32 [] es nothing_held held stood.legal.run stood.legal.named) in
    grouped bytes (texts_of h held) a.files held.pieces 0 held.names a.segments (file_falls (length held.names) a.segments fit (never_fall order_of a.segments is.sorted)) (least_zero a.segments)
    (subst (λ m. AreBelow m a.segments) (omega arith) (all_below (length held.names) a.segments fit))
    (λ j name named.
    let f = file_named 0 held.names held.pieces j name named in
    let here : slice_get a.files j ≡ Some f.f = subst (λ l. slice_get l j ≡ Some f.f) (sym is.files) f.is in
    let zero_j : j ≡ 0 + j = omega arith in
    subst (λ i. HaveRows bytes (texts_of h held) a.files (filter (is_of i) a.segments) (numbered name 1 (messages_of i held.pieces))) zero_j
    (subst (λ x. HaveRows bytes (texts_of h held) a.files (filter (is_of j) a.segments) (numbered x 1 (messages_of j held.pieces))) f.called (file_held bytes h es a j f.f stood here is)))

-- ---- few messages

length_numbered : (name : List ℕ) (k : ℕ) (messages : List (List ℕ)) → length (numbered name k messages) ≡ length messages
length_numbered name k [] = refl
length_numbered name k (m ∷ messages) = ap suc (length_numbered name (k + 1) messages)

step_few : (h : Header) (old mid : Held) (e : JournalEntry) → Accepts h old e mid → ((k : ℕ) → length (messages_of k old.pieces) ≤ 4294967294) → (k : ℕ) → length (messages_of k mid.pieces) ≤ 4294967294
step_few h old mid (Files names) a few k = subst (λ (m : Held). length (messages_of k m.pieces) ≤ 4294967294) (sym a) (few k)
step_few h old mid (Types first texts) a few k = subst (λ (m : Held). length (messages_of k m.pieces) ≤ 4294967294) (sym a.1) (few k)
step_few h old mid (Words first texts) a few k = subst (λ (m : Held). length (messages_of k m.pieces) ≤ 4294967294) (sym a.1) (few k)
step_few h old mid (Segment s) a few k =
    subst (λ (m : Held). length (messages_of k m.pieces) ≤ 4294967294) (sym a.2)
    (subst (λ l. length l ≤ 4294967294) (sym (piece_messages k old.pieces (piece_of s a.0))) (by_test (s.file == k) refl))
  where
    by_test : (b : Bool) → (s.file == k) ≡ b → length (messages_of k old.pieces ++ (if b then a.0 else [])) ≤ 4294967294
    by_test true t =
        let same : s.file ≡ k = same_file s.file k t in
        let most : s.first + length s.rows ≤ 4294967294 = a.1.most in
        let first : s.first ≡ length (messages_of k old.pieces) = a.1.first ∙ ap (λ n. length (messages_of n old.pieces)) same in
        omega (arith, most, first, AllZip-long _ s.rows a.0 a.1.canonical, length-append (messages_of k old.pieces) a.0)
    by_test false t = omega (arith, few k, length-append (messages_of k old.pieces) [])

run_few : (h : Header) (old more : Held) (es : List JournalEntry) → Run h old es more → ((k : ℕ) → length (messages_of k old.pieces) ≤ 4294967294) → (k : ℕ) → length (messages_of k more.pieces) ≤ 4294967294
run_few h old more [] run few k = subst (λ (m : Held). length (messages_of k m.pieces) ≤ 4294967294) (sym run) (few k)
run_few h old more (e ∷ es) run few k = run_few h run.0 more es run.2 (step_few h old run.0 e run.1 few) k

names_few : (h : Header) (old more : Held) (es : List JournalEntry) → Run h old es more → AreNamed (length old.names) es → length old.names ≤ 1048576 → length more.names ≤ 1048576
names_few h old more [] run named few = omega (arith, few, ap (λ (m : Held). length m.names) run)
names_few h old more (e ∷ es) run named few = names_few h run.0 more es run.2 (named_on h old run.0 e es run.1 named) (by_entry e run.1 named)
  where
    by_entry : (e : JournalEntry) → Accepts h old e run.0 → AreNamed (length old.names) (e ∷ es) → length run.0.names ≤ 1048576
    by_entry (Files names) a named =
        let most : length old.names + length names ≤ 1048576 = named.3 in
        omega (arith, most, ap (λ (m : Held). length m.names) a, length-append old.names names)
    by_entry (Types first texts) a named = omega (arith, few, ap (λ (m : Held). length m.names) a.1)
    by_entry (Words first texts) a named = omega (arith, few, ap (λ (m : Held). length m.names) a.1)
    by_entry (Segment s) a named = omega (arith, few, ap (λ (m : Held). length m.names) a.2)

placed_few : (k : ℕ) (names : List (List ℕ)) (pieces : List Piece) → ((j : ℕ) → length (messages_of j pieces) ≤ 4294967294) → length (all_placed (files_from k names pieces)) ≤ 4294967294 * length names
placed_few k [] pieces few = omega arith
placed_few k (name ∷ names) pieces few =
    let file : File = record { name = name; messages = messages_of k pieces; whole = is_whole k pieces; ended = is_ended k pieces } in
    let parts = ap (λ (l : List Placed). length l) (flat_map-cons (λ (f : File). numbered f.name 1 f.messages) file (files_from (k + 1) names pieces)) in
    omega (arith, parts, length-append (numbered name 1 (messages_of k pieces)) (all_placed (files_from (k + 1) names pieces)), length_numbered name 1 (messages_of k pieces), few k, placed_few (k + 1) names pieces few)

pub content_small : (bytes : List ℕ) (h : Header) (es : List JournalEntry) (stood : StandsFor bytes h es) → length (all_placed (content_of stood.legal.held)) < 2 ^ 64
content_small bytes h es stood =
    let held = stood.legal.held in
    omega (arith, placed_few 0 held.names held.pieces (run_few h nothing_held held es stood.legal.run (λ k. omega arith)), names_few h nothing_held held es stood.legal.run stood.legal.named (omega arith))
