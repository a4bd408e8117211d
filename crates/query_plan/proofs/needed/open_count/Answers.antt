use Rattle.std.proofs.Common.{rules, ◌≡◌, ◌+◌, ◌≤◌, ◌∷◌, ap, sym, ◌∙◌, length}
use Rattle.query_plan.specs.Pieces.{open_count, more}
use Rattle.query_plan.specs.Cutting.{side}
use Rattle.query_plan.proofs.NeededLemmas.{count_step, more_within}
use Rattle.query_plan.proofs.needed.open_count.Goals as goal

pub loop-first-preserved : goal.loop-first-preserved
loop-first-preserved c =
    let l = c.loop-first in
    let first = c.in-Some.first.now in
    let behind = c.in-Some.behind.now in
    let rest : l.rest.now ≡ first ∷ behind = search rules in
    let within : l.count + length (first ∷ behind) ≤ length c.args.pieces.now = search rules in
    let count : c.more-count.result ≡ more c.opens.result l.count = search rules in (
      count_step l.count l.after_mark first behind c.opens.result c.is_mark-after_mark.result c.more-count.result (search rules) (search rules) count
          ∙ ap (λ r. l.count + open_count (side l.after_mark) r) (sym rest) ∙ l.invariant.0,
      more_within c.opens.result l.count (length behind) (length c.args.pieces.now) c.more-count.result count within,
    )
