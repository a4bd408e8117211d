use Rattle.std.proofs.Common.{◌+◌, sym, ◌∙◌, arith}
use Rattle.logtype_text.proofs.TextLemmas.{spelled_byte, spelled_escape, lone_at, lone_at_end, lone_before}
use Rattle.logtype_text.proofs.text.lone_escape.Goals as goal
use Rattle.logtype_text.proofs.text.lone_escape.Goals.{else-at-text-via-then-at-text+else-needs_escape, else-at-text-via-else-at-text}

pub loop-at-preserved-then-text-at-ne-ESCAPE : goal.loop-at-preserved-then-text-at-ne-ESCAPE
loop-at-preserved-then-text-at-ne-ESCAPE c = record {
  in_range = omega arith;
  spelled = spelled_byte c.args.text.now c.loop-at.at c.loop-at-test.true c.loop-at.invariant.spelled c.if-text-at-ne-ESCAPE.true;
}

pub loop-at-preserved : goal.loop-at-preserved
loop-at-preserved c = record {
  in_range = omega arith;
  spelled = spelled_escape c.args.text.now c.loop-at.at c.if-at-text.true c.loop-at.invariant.spelled c.if-text-at-ne-ESCAPE.false (sym c.needs_escape.ensures ∙ c.if-needs_escape.true);
}

pub returns-else-at-text : goal.returns-else-at-text
returns-else-at-text c = lone_at c.args.text.now c.loop-at.at c.loop-at-test.true c.loop-at.invariant.spelled c.if-text-at-ne-ESCAPE.false
    (elim c.else-at-text.branch [
      | else-at-text-via-then-at-text+else-needs_escape w ↦ lone_before c.args.text.now (c.loop-at.at + 1) w.if-at-text.true (sym w.needs_escape.ensures ∙ w.if-needs_escape.false)
      | else-at-text-via-else-at-text w ↦ lone_at_end c.args.text.now (c.loop-at.at + 1) w.if-at-text.false
    ])
