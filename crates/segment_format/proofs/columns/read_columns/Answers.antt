use Rattle.std.proofs.Common.{◌≡◌, ◌+◌, ◌*◌, ℕ, List, length, drop, ap, ◌∙◌, rules, arith}
use Rattle.std.proofs.lemmas.List.{length-drop}
use Rattle.segment_format.specs.Layout.{fixed_of, head_length, columns_bytes}
use Rattle.segment_format.proofs.RowsLemmas.{length-columns_bytes}
use Rattle.segment_format.proofs.columns.read_columns.Goals.{then-payload-front-via-then-payload-front, then-payload-front-via-else-payload-front+then-not-begins}
use Rattle.segment_format.proofs.columns.read_columns.Goals as goal

pub returns-then-payload-front-clause-malformed : goal.returns-then-payload-front-clause-malformed
returns-then-payload-front-clause-malformed g c = λ _ begins list holds.
    let payload : List ℕ = c.args.payload.now in
    let n : ℕ = head_length (fixed_of c.args.head.now) in
    let behind : length (drop n payload) ≡ length (columns_bytes list) = ap (λ (l : List ℕ). length l) holds.behind.spelled in
    let front : c.head_len-front.result ≡ n = c.head_len-front.ensures ∙ ap head_length c.fixed.ensures in
    let whole : length payload ≡ c.head_len-front.result + (17 * c.args.head.now.rows + 8 * c.args.head.now.variables) =
    omega (arith, front, behind, length-drop n payload, length-columns_bytes list, holds.front, holds.behind.count, holds.behind.variables) in
    elim c.then-payload-front.branch [
      | then-payload-front-via-then-payload-front w ↦ w.if-payload-front.true (search rules)
      | then-payload-front-via-else-payload-front+then-not-begins w ↦ (let yes = w.begins.ensures.no begins in absurd (search (rules, yes)))
    ]
