use Rattle.std.proofs.Common.{List, ℕ, drop, rules, subst, sym}
use Rattle.subquery_filter.specs.StepsFilter.{AddsRun}
use Rattle.subquery_filter.proofs.AroundLemmas.{run_ends, run_none, run_step}
use Rattle.subquery_filter.proofs.beside.push_run.Goals as goal

pub loop-place-init : goal.loop-place-init
loop-place-init c = run_none c.args.pieces.now c.args.from c.args.text.now.items

pub loop-place-preserved : goal.loop-place-preserved
loop-place-preserved c =
    let put = c.in_ok-push_piece.ensures.put (search rules) in
    run_step c.args.pieces.now c.args.from c.loop-place.place c.args.text.now.items c.loop-place.text.items c.push_piece.new.text.items _ (search rules) (search rules) put.0 put.1 c.loop-place.invariant

pub returns-then-not-branch : goal.returns-then-not-branch
returns-then-not-branch c =
    subst (λ (l : List ℕ). AddsRun (drop c.args.from c.args.pieces.now) c.args.text.now.items l) (sym (c.in_ok-push_piece.ensures.gap (search rules)))
    (run_ends c.args.pieces.now c.args.from c.loop-place.place c.args.text.now.items c.loop-place.text.items c.loop-place.invariant)

pub returns : goal.returns
returns c = run_ends c.args.pieces.now c.args.from c.loop-place.place c.args.text.now.items c.loop-place.text.items c.loop-place.invariant
