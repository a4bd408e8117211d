use Rattle.std.proofs.Common.{◌+◌, arith, drop, Ok, Err, OnErr, rules, tests}
use Rattle.line_cut.specs.Joining.{IsTornGroup}
use Rattle.line_cut.proofs.JoiningLemmas.{behind_newline, growing_front, growing_more, in_front_apart, in_front_last, reaches, torn}
use Rattle.line_cut.proofs.join.join_lines.Goals as goal

pub returns-in_err-next-clause-torn : goal.returns-in_err-next-clause-torn
returns-in_err-next-clause-torn g c =
    let stamped = g.T.Heads.starts c.args.heads.now in let held = c.next_line.new.window.held in
    let now = growing_front stamped c.args.max_line c.lines.window.held held c.lines.len c.lines.lines c.in_err-next.ensures.more c.in_err-next.ensures.front c.lines.invariant.growing in
    let is = torn stamped c.args.max_line held c.lines.len c.lines.lines now c.in_err-next.ensures.open c.in_err-next.ensures.short in
    elim c.from_residual.result as (λ r. OnErr r (IsTornGroup stamped c.args.max_line held)) [ Ok x ↦ tt | Err e ↦ is ]

pub further_line-requires-clause-within : goal.further_line-requires-clause-within
further_line-requires-clause-within g c =
    omega (arith, behind_newline (g.T.Heads.starts c.args.heads.now) c.args.max_line c.lines.window.held c.lines.len c.lines.lines c.lines.invariant.growing, c.in_ok-next.ensures.more)

pub further_line-requires-clause-reaches : goal.further_line-requires-clause-reaches
further_line-requires-clause-reaches g c =
    reaches c.args.max_line (drop (c.lines.len + 1) c.next_line.new.window.held) (g.S.Source.left c.next_line.new.source) c.in_ok-next.next c.in_ok-next.ensures.stands

pub returns-in_default-clause-joined : goal.returns-in_default-clause-joined
returns-in_default-clause-joined g c =
    let stamped = g.T.Heads.starts c.args.heads.now in let held = c.next_line.new.window.held in
    let now = growing_front stamped c.args.max_line c.lines.window.held held c.lines.len c.lines.lines c.in_ok-next.ensures.more c.in_ok-next.ensures.front c.lines.invariant.growing in
    in_front_apart stamped c.args.max_line held (g.S.Source.left c.next_line.new.source) c.lines.len c.lines.lines c.in_ok-next.next now c.in_ok-next.ensures.stands c.in_default.ensures.apart

pub returns-then-not-more-clause-joined : goal.returns-then-not-more-clause-joined
returns-then-not-more-clause-joined g c =
    let stamped = g.T.Heads.starts c.args.heads.now in let held = c.next_line.new.window.held in
    let now = growing_front stamped c.args.max_line c.lines.window.held held c.lines.len c.lines.lines c.in_ok-next.ensures.more c.in_ok-next.ensures.front c.lines.invariant.growing in
    in_front_last stamped c.args.max_line held (g.S.Source.left c.next_line.new.source) c.lines.len c.lines.lines c.in_ok-next.next c.in-Some.more now c.in_ok-next.ensures.stands c.in-Some.ensures.goes (search (rules, tests))

pub lines-preserved : goal.lines-preserved
lines-preserved g c =
    let stamped = g.T.Heads.starts c.args.heads.now in let held = c.next_line.new.window.held in
    let now = growing_front stamped c.args.max_line c.lines.window.held held c.lines.len c.lines.lines c.in_ok-next.ensures.more c.in_ok-next.ensures.front c.lines.invariant.growing in
    record {
      growing = growing_more stamped c.args.max_line held (g.S.Source.left c.next_line.new.source) c.lines.len c.lines.lines c.in_ok-next.next c.in-Some.more now c.in_ok-next.ensures.stands c.in-Some.ensures.goes (search (rules, tests));
      left = search rules;
      size = search rules;
      name = search rules;
      faults = search rules;
    }
