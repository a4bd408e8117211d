-- A count that goes on over parts of a list goes on over the whole, and one that stops in a part stops in the whole.
use Rattle.std.proofs.Common.{◌≡◌, inl, inr, ℕ, ◌+◌, List, [], ◌∷◌, ◌++◌, length, refl, sym, ap, subst, arith, length-append}
use Rattle.std.specs.List.{AllZip}
use Rattle.std.proofs.lemmas.List.{append-nil, append_assoc, map-append}
use Rattle.column_store.specs.declared.row.Row.{Row}
use Rattle.row_codec.specs.Means.{AreCanonical, IsCanonical}
use Rattle.printed_lines.specs.Lines.{Picks, Placed}
use Rattle.search_meaning.specs.Scan.{Asked, IsFound, IsTried}
use Rattle.search_walk.specs.Held.{Named}
use Rattle.printed_lines.proofs.LineLemmas.{picks_append}
use Rattle.search_walk.proofs.PickLemmas.{picks_once, picks_split}
use Rattle.search_meaning.specs.Grouped.{IsExpanded, messages_of}
use Rattle.group_count.specs.StepsCounted.{Adds, Counted, Passes, Sofar, Stops}

-- ---- numbers and rows

counted_on : (a b c m n : ℕ) → Counted a b m → Counted b c n → Counted a c (m + n)
counted_on a b c m n one two = λ fits.
    let here : b ≡ a + m = one (omega (arith, fits)) in
    omega (arith, here, two (omega (arith, fits, here)))

pub zip_append : {A B : Type 0} (R : A → B → Type 0) (xs xs2 : List A) (ys ys2 : List B) → AllZip R xs ys → AllZip R xs2 ys2
    → AllZip R (xs ++ xs2) (ys ++ ys2)
zip_append R [] xs2 [] ys2 one two = two
zip_append R [] xs2 (y ∷ ys) ys2 one two = absurd one
zip_append R (x ∷ xs) xs2 [] ys2 one two = absurd one
zip_append R (x ∷ xs) xs2 (y ∷ ys) ys2 one two = (one.0, zip_append R xs xs2 ys ys2 one.1 two)

module _ {T : Type 0} (counted : T → ℕ → List Row → Type 0) where
  pub adds_none : (a : Sofar T) → Adds counted [] 0 a a
  adds_none a = record {
    table = λ version before has. subst (counted a.table version) (sym (append-nil before)) has;
    matched = λ fits. omega arith;
    expanded = λ fits. omega arith;
    ticks = omega arith;
  }

  pub adds_on : (xs ys : List Row) (m n : ℕ) (a b c : Sofar T) → Adds counted xs m a b → Adds counted ys n b c
      → Adds counted (xs ++ ys) (m + n) a c
  adds_on xs ys m n a b c one two = record {
    table = λ version before has. subst (counted c.table version) (append_assoc before xs ys)
        (two.table version (before ++ xs) (one.table version before has));
    matched = subst (Counted a.matched c.matched) (sym (length-append xs ys))
        (counted_on a.matched b.matched c.matched (length xs) (length ys) one.matched two.matched);
    expanded = counted_on a.expanded b.expanded c.expanded m n one.expanded two.expanded;
    ticks = omega (arith, one.ticks, two.ticks);
  }

  -- ---- going on

  pub passes_none : (n : Named) (q : Asked) (a : Sofar T) → Passes counted n q [] a a
  passes_none n q a = record {
    found = [];
    expansions = [];
    rows = [];
    are_found = refl;
    are_expanded = refl;
    are = tt;
    adds = adds_none a;
  }

  pub passes_on : (n : Named) (q : Asked) (xs ys : List Placed) (a b c : Sofar T) → Passes counted n q xs a b
      → Passes counted n q ys b c → Passes counted n q (xs ++ ys) a c
  passes_on n q xs ys a b c one two = record {
    found = one.found ++ two.found;
    expansions = one.expansions ++ two.expansions;
    rows = one.rows ++ two.rows;
    are_found = picks_append (λ p. IsFound n.version q p.message) xs ys one.found two.found one.are_found two.are_found;
    are_expanded = picks_append
        (λ p. IsExpanded n.version q p.message) xs ys one.expansions two.expansions one.are_expanded two.are_expanded;
    are =
        subst (λ l. AreCanonical n.version (one.rows ++ two.rows) n.types n.words l)
        (sym (map-append (λ (p : Placed). p.message) one.found two.found))
        (zip_append (λ row message. IsCanonical n.version row n.types n.words message) one.rows two.rows
        (messages_of one.found) (messages_of two.found) one.are two.are);
    adds =
        subst (λ k. Adds counted (one.rows ++ two.rows) k a c) (sym (length-append one.expansions two.expansions))
        (adds_on one.rows two.rows (length one.expansions) (length two.expansions) a b c one.adds two.adds);
  }

  none_expanded : (version : ℕ) (q : Asked) (xs : List Placed) → Picks (λ p. IsTried version q p.message) xs []
      → Picks (λ p. IsExpanded version q p.message) xs []
  none_expanded version q [] none = none
  none_expanded version q (x ∷ xs) (inl p) = absurd (cc (p.3))
  none_expanded version q (x ∷ xs) (inr p) = inr (λ e. p.0 e.tried, none_expanded version q xs p.1)

  -- messages of which none is found or tried
  pub passes_over : (n : Named) (q : Asked) (xs : List Placed) (a : Sofar T)
      → Picks (λ p. IsFound n.version q p.message) xs [] → Picks (λ p. IsTried n.version q p.message) xs []
      → Passes counted n q xs a a
  passes_over n q xs a found tried = record {
    found = [];
    expansions = [];
    rows = [];
    are_found = found;
    are_expanded = none_expanded n.version q xs tried;
    are = tt;
    adds = adds_none a;
  }

  pub stops_behind : (n : Named) (q : Asked) (xs ys : List Placed) (a b : Sofar T) (new : ℕ) → Passes counted n q xs a b
      → Stops n.version q ys b.ticks new → Stops n.version q (xs ++ ys) a.ticks new
  stops_behind n q xs ys a b new one stops expansions are =
      let s = picks_split (λ p. IsExpanded n.version q p.message) xs ys expansions are in
      let same : s.a ≡ one.expansions = picks_once
      (λ p. IsExpanded n.version q p.message) xs s.a one.expansions s.first one.are_expanded in
      omega (
        arith,
        stops s.b s.second,
        one.adds.ticks,
        ap (λ (l : List Placed). length l) s.both,
        ap (λ (l : List Placed). length l) same,
        length-append s.a s.b,
      )

-- ---- stopping

pub stops_same : (version : ℕ) (q : Asked) (xs : List Placed) (old new : ℕ) → new ≡ old → Stops version q xs old new
stops_same version q xs old new same expansions are = omega (arith, same)

pub stops_here : (version : ℕ) (q : Asked) (ticks : ℕ) → Stops version q [] ticks ticks
stops_here version q ticks = stops_same version q [] ticks ticks refl

pub stops_more : (version : ℕ) (q : Asked) (xs ys : List Placed) (old new : ℕ) → Stops version q xs old new
    → Stops version q (xs ++ ys) old new
stops_more version q xs ys old new stops expansions are =
    let s = picks_split (λ p. IsExpanded version q p.message) xs ys expansions are in
    omega (arith, stops s.a s.first, ap (λ (l : List Placed). length l) s.both, length-append s.a s.b)
