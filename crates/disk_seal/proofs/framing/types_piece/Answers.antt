use Rattle.std.proofs.Common.{rules, arith, ◌∙◌}
use Rattle.disk_seal.proofs.FramedLemmas.{framed_types}
use Rattle.disk_seal.proofs.framing.types_piece.Goals as goal

pub returns : goal.returns
returns c = (
  search rules,
  framed_types c.args.first c.args.texts.now c.as_slice-2.result.now c.in_ok-text.text (omega (arith, c.ranges.first.fits)) c.requires (c.as_slice-2.ensures ∙ c.in_ok-payload.ensures) c.in_ok-text.ensures.framed
      c.in_ok-text.ensures.saved c.len.result c.len.ensures,
)
