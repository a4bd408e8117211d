-- How the reading of a generated log goes on.
use Rattle.std.proofs.Common.{◌≡◌, ℕ, zero, suc, ◌+◌, ◌-◌, ◌<◌, ◌≤◌, List, ◌++◌, length, drop, sym, ◌∙◌, ap, subst, arith}
use Rattle.std.proofs.Math.ListN.{drop_of_length-le}
use Rattle.generated_logs.specs.Logs.{line_of, lines_from}

-- the next line is the first of those that are left
next_of : (number log next left at : ℕ) (old new : List ℕ) → length old ≤ at → new ≡ line_of number log next → new ++ lines_from number log (next + 1) left ≡ drop at old ++ lines_from number log next (suc left)
next_of number log next left at old new past is = ap (λ a. a ++ lines_from number log (next + 1) left) is ∙ ap (λ a. a ++ lines_from number log next (suc left)) (sym (drop_of_length-le old past))

pub next_line : (number log next rest at : ℕ) (old new : List ℕ) → length old ≤ at → 0 < rest → new ≡ line_of number log next → new ++ lines_from number log (next + 1) (rest - 1) ≡ drop at old ++ lines_from number log next rest
next_line number log next zero at old new past some is = absurd (omega (arith, some))
next_line number log next (suc left) at old new past some is =
    let one : left ≡ suc left - 1 = omega arith in
    subst (λ k. new ++ lines_from number log (next + 1) k ≡ drop at old ++ lines_from number log next (suc left)) one (next_of number log next left at old new past is)
