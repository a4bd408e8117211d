-- A search that goes on over parts of a list goes on over the whole, and one that stops in a part stops in the whole.
use Rattle.std.proofs.Common.{◌≡◌, ℕ, ◌+◌, List, [], ◌++◌, length, Option, refl, sym, ◌∙◌, ap, subst, arith, length-append}
use Rattle.std.proofs.lemmas.List.{append-nil, append_assoc}
use Rattle.std.proofs.lemmas.List.Concat.{flat_map-append}
use Rattle.sink_pieces.specs.Output.{Grew, GrewByFront, Moves}
use Rattle.sink_pieces.proofs.OutputLemmas.{Grew-append, Grew-nothing}
use Rattle.search_engine.specs.declared.counts.Counts.{Counts}
use Rattle.printed_lines.specs.Lines.{Placed, line_of, lines_of}
use Rattle.search_meaning.specs.Scan.{Asked, IsFound, IsTried}
use Rattle.search_engine.specs.Sofar.{Advances, Counted, Goes, Passes, Sofar, Stops, TicksWithin}
use Rattle.printed_lines.proofs.LineLemmas.{picks_append}
use Rattle.search_walk.proofs.PickLemmas.{picks_split, picks_once}

-- ---- those of a list

-- ---- numbers

-- ---- going on

pub goes_none : (a : Sofar) → Goes a a []
goes_none a = record { front = []; splits = append-nil a.gathered; grew = Grew-nothing a.written }

pub goes_on : (a b c : Sofar) (s t : List ℕ) → Goes a b s → Goes b c t → Goes a c (s ++ t)
goes_on a b c s t one two = record {
  front = one.front ++ two.front;
  splits = sym (append_assoc a.gathered s t) ∙ ap (λ (l : List ℕ). l ++ t) one.splits ∙ append_assoc one.front b.gathered t
      ∙ ap (λ (l : List ℕ). one.front ++ l) two.splits ∙ sym (append_assoc one.front two.front c.gathered);
  grew = Grew-append a.written b.written c.written one.front two.front one.grew two.grew;
}

counted_on : (a b c m n : ℕ) → Counted a b m → Counted b c n → Counted a c (m + n)
counted_on a b c m n one two = λ fits.
    let here : b ≡ a + m = one (omega (arith, fits)) in
    omega (arith, here, two (omega (arith, fits, here)))

counted_length : (a b : ℕ) (xs ys : List Placed) → Counted a b (length xs + length ys) → Counted a b (length (xs ++ ys))
counted_length a b xs ys counted = subst (Counted a b) (sym (length-append xs ys)) counted

advances_on : (a b c : Sofar) (f t g u : List Placed) → Advances a b f t → Advances b c g u → Advances a c (f ++ g) (t ++ u)
advances_on a b c f t g u one two = record {
  goes = subst (Goes a c) (sym (flat_map-append line_of f g)) (goes_on a b c (lines_of f) (lines_of g) one.goes two.goes);
  matched = counted_length a.counts.matched c.counts.matched f g
      (counted_on a.counts.matched b.counts.matched c.counts.matched (length f) (length g) one.matched two.matched);
  expanded = counted_length a.counts.expanded c.counts.expanded t u
      (counted_on a.counts.expanded b.counts.expanded c.counts.expanded (length t) (length u) one.expanded two.expanded);
  ticks = omega (arith, one.ticks, two.ticks, length-append t u);
}

pub passes_none : (version : ℕ) (q : Asked) (a : Sofar) → Passes version q [] a a
passes_none version q a = record {
  found = [];
  tried = [];
  are_found = refl;
  are_tried = refl;
  advances = record { goes = goes_none a; matched = λ fits. omega arith; expanded = λ fits. omega arith; ticks = omega arith };
}

pub passes_on : (version : ℕ) (q : Asked) (xs ys : List Placed) (a b c : Sofar) → Passes version q xs a b
    → Passes version q ys b c → Passes version q (xs ++ ys) a c
passes_on version q xs ys a b c one two = record {
  found = one.found ++ two.found;
  tried = one.tried ++ two.tried;
  are_found = picks_append (λ p. IsFound version q p.message) xs ys one.found two.found one.are_found two.are_found;
  are_tried = picks_append (λ p. IsTried version q p.message) xs ys one.tried two.tried one.are_tried two.are_tried;
  advances = advances_on a b c one.found one.tried two.found two.tried one.advances two.advances;
}

-- what was gathered went to the sink, or a part of it
pub passes_moves : (version : ℕ) (q : Asked) (xs : List Placed) (a b c : Sofar) → Passes version q xs a b → Goes b c []
    → c.counts ≡ b.counts → c.ticks ≡ b.ticks → Passes version q xs a c
passes_moves version q xs a b c one goes counts ticks = record {
  found = one.found;
  tried = one.tried;
  are_found = one.are_found;
  are_tried = one.are_tried;
  advances = record {
    goes = subst (Goes a c) (append-nil (lines_of one.found)) (goes_on a b c (lines_of one.found) [] one.advances.goes goes);
    matched = subst (λ (t : Counts). Counted a.counts.matched t.matched (length one.found)) (sym counts) one.advances.matched;
    expanded = subst (λ (t : Counts). Counted a.counts.expanded t.expanded (length one.tried)) (sym counts) one.advances.expanded;
    ticks = ticks ∙ one.advances.ticks;
  };
}

-- ---- stopping

pub ticks_more : (version : ℕ) (q : Asked) (xs ys : List Placed) (old new : ℕ) → TicksWithin version q xs old new
    → TicksWithin version q (xs ++ ys) old new
ticks_more version q xs ys old new within tried are =
    let s = picks_split (λ p. IsTried version q p.message) xs ys tried are in
    omega (arith, within s.a s.first, ap (λ (l : List Placed). length l) s.both, length-append s.a s.b)

pub ticks_behind : (version : ℕ) (q : Asked) (xs ys : List Placed) (a b : Sofar) (new : ℕ) → Passes version q xs a b
    → TicksWithin version q ys b.ticks new → TicksWithin version q (xs ++ ys) a.ticks new
ticks_behind version q xs ys a b new one within tried are =
    let s = picks_split (λ p. IsTried version q p.message) xs ys tried are in
    let same : s.a ≡ one.tried = picks_once (λ p. IsTried version q p.message) xs s.a one.tried s.first one.are_tried in
    omega (
      arith,
      within s.b s.second,
      one.advances.ticks,
      ap (λ (l : List Placed). length l) s.both,
      ap (λ (l : List Placed). length l) same,
      length-append s.a s.b,
    )

pub ticks_same : (version : ℕ) (q : Asked) (xs : List Placed) (old new : ℕ) → new ≡ old → TicksWithin version q xs old new
ticks_same version q xs old new same tried are = omega (arith, same)

pub front_more : (old new : Option (List ℕ)) (text more : List ℕ) → GrewByFront old new text → GrewByFront old new (text ++ more)
front_more old new text more f =
    (f.0, f.1 ++ more, ap (λ (l : List ℕ). l ++ more) f.2 ∙ append_assoc f.0 f.1 more, f.3)

front_behind : (a b : Sofar) (w : Option (List ℕ)) (s t : List ℕ) → Goes a b s → GrewByFront b.written w (b.gathered ++ t)
    → GrewByFront a.written w (a.gathered ++ (s ++ t))
front_behind a b w s t goes f = (
  goes.front ++ f.0,
  f.1,
  sym (append_assoc a.gathered s t) ∙ ap (λ (l : List ℕ). l ++ t) goes.splits ∙ append_assoc goes.front b.gathered t
      ∙ ap (λ (l : List ℕ). goes.front ++ l) f.2 ∙ sym (append_assoc goes.front f.0 f.1),
  Grew-append a.written b.written w goes.front f.0 goes.grew f.3,
)

pub stops_more : (version : ℕ) (q : Asked) (xs ys : List Placed) (a : Sofar) (w : Option (List ℕ)) (k : ℕ)
    → Stops version q xs a w k → Stops version q (xs ++ ys) a w k
stops_more version q xs ys a w k stops = record {
  front = λ found are.
      let s = picks_split (λ p. IsFound version q p.message) xs ys found are in
      let text : a.gathered ++ lines_of found ≡ (a.gathered ++ lines_of s.a) ++ lines_of s.b =
      ap (λ (l : List Placed). a.gathered ++ lines_of l) s.both
      ∙ ap (λ (l : List ℕ). a.gathered ++ l) (flat_map-append line_of s.a s.b)
      ∙ sym (append_assoc a.gathered (lines_of s.a) (lines_of s.b)) in
      subst (GrewByFront a.written w) (sym text)
      (front_more a.written w (a.gathered ++ lines_of s.a) (lines_of s.b) (stops.front s.a s.first));
  most = ticks_more version q xs ys a.ticks k stops.most;
}

pub stops_behind : (version : ℕ) (q : Asked) (xs ys : List Placed) (a b : Sofar) (w : Option (List ℕ)) (k : ℕ)
    → Passes version q xs a b → Stops version q ys b w k → Stops version q (xs ++ ys) a w k
stops_behind version q xs ys a b w k one stops = record {
  front = λ found are.
      let s = picks_split (λ p. IsFound version q p.message) xs ys found are in
      let same : s.a ≡ one.found = picks_once (λ p. IsFound version q p.message) xs s.a one.found s.first one.are_found in
      let text : lines_of found ≡ lines_of one.found ++ lines_of s.b =
      ap lines_of s.both ∙ flat_map-append line_of s.a s.b ∙ ap (λ (l : List Placed). lines_of l ++ lines_of s.b) same in
      subst (λ (l : List ℕ). GrewByFront a.written w (a.gathered ++ l)) (sym text)
      (front_behind a b w (lines_of one.found) (lines_of s.b) one.advances.goes (stops.front s.b s.second));
  most = ticks_behind version q xs ys a b k one stops.most;
}

-- the sink took a front of what was gathered, and the ticks are within
pub stops_here : (version : ℕ) (q : Asked) (xs : List Placed) (a : Sofar) (w : Option (List ℕ)) (k : ℕ)
    → GrewByFront a.written w a.gathered → TicksWithin version q xs a.ticks k → Stops version q xs a w k
stops_here version q xs a w k f within = record {
  front = λ found are. front_more a.written w a.gathered (lines_of found) f;
  most = within;
}

pub front_none : (old new : Option (List ℕ)) (text : List ℕ) → new ≡ old → GrewByFront old new text
front_none old new text same = ([], text, refl, same ∙ Grew-nothing old)

-- the text that is left is none
pub all_went : (a b : Sofar) (s : List ℕ) → Goes a b s → a.gathered ≡ [] → b.gathered ≡ [] → Grew a.written b.written s
all_went a b s goes none done =
    let text : s ≡ goes.front = ap (λ (l : List ℕ). l ++ s) (sym none) ∙ goes.splits
    ∙ ap (λ (l : List ℕ). goes.front ++ l) done ∙ append-nil goes.front in
    subst (Grew a.written b.written) (sym text) goes.grew

-- what was gathered went out in part
pub goes_moved : (a b : Sofar) → Moves a.written b.written a.gathered b.gathered → Goes a b []
goes_moved a b moves = record { front = moves.front; splits = append-nil a.gathered ∙ moves.splits; grew = moves.grew }

-- a text of two parts, of which the first went out, and the second in part or whole
pub front_second : (old mid new : Option (List ℕ)) (a b : List ℕ) → Grew old mid a → GrewByFront mid new b
    → GrewByFront old new (a ++ b)
front_second old mid new a b grew
    f = (a ++ f.0, f.1, ap (λ (l : List ℕ). a ++ l) f.2 ∙ sym (append_assoc a f.0 f.1), Grew-append old mid new a f.0 grew f.3)
