-- Namings one after the other.
use Rattle.std.proofs.Common.{ℕ, zero, suc, List, refl, sym, subst}
use Rattle.std.specs.Prelude.{Option}
use Rattle.row_codec.specs.declared.namer.NameRefusal.{NameRefusal}
use Rattle.row_codec.specs.declared.namer.Which.{Which}
use Rattle.row_rename.specs.Paths.{HasNamedMore, NamedTimes}

module _ {N : Type 0} (naming : Which → List (List ℕ) → Option NameRefusal → N → N → Type 0) where
  pub path_none : (n : N) → HasNamedMore naming n n
  path_none n = record { times = 0; named = refl }

  pub path_one : (book : Which) (texts : List (List ℕ)) (refusal : Option NameRefusal) (old new : N) → naming book texts refusal old new → HasNamedMore naming old new
  path_one book texts refusal old new named = record { times = 1; named = (new, record { book = book; texts = texts; refusal = refusal; named = named }, refl) }

  times_then : (i j : ℕ) (a b c : N) → NamedTimes naming i a b → NamedTimes naming j b c → HasNamedMore naming a c
  times_then zero j a b c one two = record { times = j; named = subst (λ (x : N). NamedTimes naming j x c) one two }
  times_then (suc i) j a b c (m, once, one) two =
      let rest = times_then i j m b c one two in
      record { times = suc rest.times; named = (m, once, rest.named) }

  pub path_then : (a b c : N) → HasNamedMore naming a b → HasNamedMore naming b c → HasNamedMore naming a c
  path_then a b c one two = times_then one.times two.times a b c one.named two.named

  times_keep : (R : N → N → Type 0) → ((n : N) → R n n) → ((a b c : N) → R a b → R b c → R a c)
      → ((book : Which) (texts : List (List ℕ)) (refusal : Option NameRefusal) (a b : N) → naming book texts refusal a b → R a b)
      → (i : ℕ) (a b : N) → NamedTimes naming i a b → R a b
  times_keep R rests goes_on each zero a b same = subst (λ (x : N). R a x) (sym same) (rests a)
  times_keep R rests goes_on each (suc i) a b (m, once, more) =
      goes_on a m b (each once.book once.texts once.refusal a m once.named) (times_keep R rests goes_on each i m b more)

  -- what each naming keeps, and what goes on from one to the next, holds of the whole
  pub path_keeps : (R : N → N → Type 0) → ((n : N) → R n n) → ((a b c : N) → R a b → R b c → R a c)
      → ((book : Which) (texts : List (List ℕ)) (refusal : Option NameRefusal) (a b : N) → naming book texts refusal a b → R a b)
      → (a b : N) → HasNamedMore naming a b → R a b
  path_keeps R rests goes_on each a b path = times_keep R rests goes_on each path.times a b path.named
