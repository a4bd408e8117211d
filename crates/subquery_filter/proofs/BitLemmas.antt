-- Sets of tokens as bits.
use Rattle.std.proofs.Common.{◌≡◌, ℕ, ◌≤◌, ap, arith}
use Rattle.std.specs.Prelude.{bit_and, bit_or}
use Rattle.std.specs.Int.{bit_at}
use Rattle.std.proofs.lemmas.Nat.Bits.{bit_at_and, bit_at_or, same_from_bits}
use Rattle.subquery_filter.specs.Filter.{Has}

bits_of : (a c : ℕ) → Has a c → (i : ℕ) → bit_at c i ≤ bit_at a i
bits_of a c has i = omega (arith, bit_at_or a c i, ap (λ x. bit_at x i) has)

has_bits : (a c : ℕ) → ((i : ℕ) → bit_at c i ≤ bit_at a i) → Has a c
has_bits a c le = same_from_bits (bit_or a c) a (λ i. omega (arith, bit_at_or a c i, le i))

pub has_through : (a b c : ℕ) → Has a b → Has b c → Has a c
has_through a b c one two = has_bits a c (λ i. let x = bits_of a b one i in let y = bits_of b c two i in omega (arith, x, y))

pub has_left : (a b c : ℕ) → Has a c → Has (bit_or a b) c
has_left a b c has = has_bits (bit_or a b) c (λ i. let x = bits_of a c has i in omega (arith, x, bit_at_or a b i))

pub has_right : (a b : ℕ) → Has (bit_or a b) b
has_right a b = has_bits (bit_or a b) b (λ i. omega (arith, bit_at_or a b i))

pub has_self : (a : ℕ) → Has a a
has_self a = has_bits a a (λ i. omega arith)

pub has_both : (all a b : ℕ) → Has all a → Has all b → Has all (bit_or a b)
has_both all a b one two = has_bits all (bit_or a b) (λ i. let x = bits_of all a one i in let y = bits_of all b two i in omega (arith, x, y, bit_at_or a b i))

pub has_and : (a b c : ℕ) → Has a c → Has b c → Has (bit_and a b) c
has_and a b c one two = has_bits (bit_and a b) c (λ i. let x = bits_of a c one i in let y = bits_of b c two i in omega (arith, x, y, bit_at_and a b i))

-- what is among these bits, but for what others bring of some, which are among them too
pub has_within : (bits own words brought c : ℕ) → Has bits own → Has bits (bit_and words brought) → Has (bit_or own words) c → Has brought c → Has bits c
has_within bits own words brought c one two both there = has_bits bits c (λ i.
    let x = bits_of bits own one i in
    let y = bits_of bits (bit_and words brought) two i in
    let z = bits_of (bit_or own words) c both i in
    let w = bits_of brought c there i in
    omega (arith, x, y, z, w, bit_at_or own words i, bit_at_and words brought i))

pub has_none : (all : ℕ) → Has all 0
has_none all = has_bits all 0 (λ i. omega arith)

pub has_zero : (a : ℕ) → Has 0 a → a ≡ 0
has_zero a has = same_from_bits a 0 (λ i. let x = bits_of 0 a has i in omega (arith, x))
