use Rattle.std.proofs.Common.{◌≡◌, ◌<◌, ℕ, true, get_or}
use Rattle.std.specs.Prelude.{None}
use Rattle.subquery_filter.specs.declared.token.Token.{Token}
use Rattle.subquery_filter.specs.NumberText.{is_number_part, is_plain}
use Rattle.subquery_filter.proofs.numbers.are_plain.Given as goal

abbrev pub invariant-loop-token : goal.invariant-loop-token
invariant-loop-token l =
    (j : ℕ) (d : Token) → j < l.token-index → (get_or l.tokens j d).closed ≡ None → is_number_part true (get_or l.tokens j d).text ≡ true
    → is_plain (get_or l.tokens j d).text ≡ true
