use Rattle.std.proofs.Common.{◌≡◌, false, sym, ◌∙◌, arith}
use Rattle.std.proofs.lemmas.List.Elements.{All-more}
use Rattle.logtype_text.specs.TypeText.{is_escaped}
use Rattle.logtype_text.proofs.plain.plain_end.Goals as goal

pub loop-end-preserved : goal.loop-end-preserved
loop-end-preserved c = record {
  in_range = omega arith;
  plain = All-more (λ b. is_escaped b ≡ false) c.args.text.now c.loop-end.end 0 c.loop-end-test.true c.loop-end.invariant.plain (sym c.needs_escape.ensures ∙ c.if-not-needs_escape.true);
}
