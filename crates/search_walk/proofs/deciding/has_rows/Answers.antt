use Rattle.std.proofs.Common.{◌<◌, arith, length, rules}
use Rattle.search_walk.specs.Ready.{IsHeldFor}
use Rattle.search_walk.proofs.ReadyLemmas.{take_more, zip_full, zip_more}
use Rattle.search_walk.proofs.deciding.has_rows.Goals as goal

pub loop-place-init : goal.loop-place-init
loop-place-init c = tt

pub verdict_at-verdict-requires : goal.verdict_at-verdict-requires
verdict_at-verdict-requires c =
    let here : c.loop-place.place < length c.args.page.now.rows = search rules in
    omega (arith, c.requires, here)

pub loop-place-preserved : goal.loop-place-preserved
loop-place-preserved c =
    zip_more (IsHeldFor c.args.held.now) c.args.page.now.rows _ _ c.loop-place.place _ c.verdict_at-verdict.result c.row.ensures (take_more c.args.verdicts.now c.loop-place.place c.verdict_at-verdict.result c.verdict_at-verdict.ensures) c.loop-place.invariant (c.has_row.ensures (search rules))

pub returns : goal.returns
returns c = λ _. zip_full (IsHeldFor c.args.held.now) c.args.page.now.rows c.args.verdicts.now c.loop-place.place (search rules) c.requires c.loop-place.invariant
