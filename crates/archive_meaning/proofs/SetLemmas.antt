-- Sorted sets of numbers.
use Rattle.std.proofs.Common.{ℕ, suc, ◌≤◌, List, [], ◌∷◌, length, All, arith}
use Rattle.std.specs.Prelude.{Bool, true, false, nat_lt, nat_eq, if◌then◌else◌}
use Rattle.std.proofs.lemmas.List.Elements.{All-nil, All-cons, All-head, All-tail}
use Rattle.segment_format.specs.Layout.{added, sorted_set}

placed : (P : ℕ → Type 0) (lesser same : Bool) (n m : ℕ) (ms rest : List ℕ) → P n → All P (m ∷ ms) → All P rest
    → All P (if lesser then n ∷ (m ∷ ms) else (if same then m ∷ ms else m ∷ rest))
placed P true same n m ms rest one all more = All-cons P n (m ∷ ms) one all
placed P false true n m ms rest one all more = all
placed P false false n m ms rest one all more = All-cons P m rest (All-head P m ms all) more

all_added : (P : ℕ → Type 0) (n : ℕ) (ms : List ℕ) → P n → All P ms → All P (added n ms)
all_added P n [] one all = All-cons P n [] one all
all_added P n (m ∷ ms) one all = placed P (nat_lt n m) (nat_eq n m) n m ms (added n ms) one all (all_added P n ms one (All-tail P m ms all))

pub all_of_set : (P : ℕ → Type 0) (ns : List ℕ) → All P ns → All P (sorted_set ns)
all_of_set P [] all = All-nil P
all_of_set P (n ∷ ns) all = all_added P n (sorted_set ns) (All-head P n ns all) (all_of_set P ns (All-tail P n ns all))

short_placed : (lesser same : Bool) (n m : ℕ) (ms rest : List ℕ) → length rest ≤ suc (length ms)
    → length (if lesser then n ∷ (m ∷ ms) else (if same then m ∷ ms else m ∷ rest)) ≤ suc (suc (length ms))
short_placed true same n m ms rest short = omega arith
short_placed false true n m ms rest short = omega arith
short_placed false false n m ms rest short = omega (arith, short)

short_added : (n : ℕ) (ms : List ℕ) → length (added n ms) ≤ suc (length ms)
short_added n [] = omega arith
short_added n (m ∷ ms) = short_placed (nat_lt n m) (nat_eq n m) n m ms (added n ms) (short_added n ms)

pub set_is_short : (ns : List ℕ) → length (sorted_set ns) ≤ length ns
set_is_short [] = omega arith
set_is_short (n ∷ ns) = omega (arith, short_added n (sorted_set ns), set_is_short ns)
