use Rattle.std.proofs.Common.{◌≡◌, length, take, ◌∙◌, arith}
use Rattle.std.proofs.lemmas.List.{length-take, length-take-le}
use Rattle.row_codec.proofs.OpeningLemmas.{fills_all, fills_full, fills_has, fills_more, fills_self}
use Rattle.row_codec.proofs.opening.fill_body.Goals as goal

pub loop-symbol-init : goal.loop-symbol-init
loop-symbol-init g c = record {
  fills = fills_self (g.N.Names.words c.args.names.now) c.args.text.now c.args.words.now (take c.args.at c.args.out.now) (omega (arith, length-take c.args.at c.args.out.now, c.requires.at));
  has = c.requires.body;
  within = c.requires.at;
  long = c.told-out;
}

pub loop-symbol-preserved : goal.loop-symbol-preserved
loop-symbol-preserved g c =
    let words = g.N.Names.words c.args.names.now in
    let text = c.args.text.now in
    let row = c.args.words.now in
    let after = c.in-Some.after.now in
    let others = c.fill_symbol.result.1.now in
    let old = take c.args.at c.args.out.now in
    let new = take c.fill_symbol.result.0 c.fill_symbol.new.out in
    let fills = fills_more words text row c.loop-symbol.rest.now c.loop-symbol.left.now c.in-Some.symbol after others old (take c.loop-symbol.end c.loop-symbol.out) new c.in-Some.ensures.some c.loop-symbol.invariant.fills (c.fill_symbol.ensures.filled after) in
    record { fills = fills; has = fills_has words text row after others old new fills c.requires.body; within = c.fill_symbol.ensures.within; long = c.fill_symbol.array_long }

pub returns-then-end-eq-OPENING_LEN-clause-filled : goal.returns-then-end-eq-OPENING_LEN-clause-filled
returns-then-end-eq-OPENING_LEN-clause-filled g c =
    let out = c.loop-symbol.out in
    let end = c.loop-symbol.end in
    let full : length (take end out) ≡ 32 = length-take-le end out (omega (arith, c.loop-symbol.invariant.long, c.if-end-eq-OPENING_LEN.true)) ∙ c.if-end-eq-OPENING_LEN.true in
    fills_full (g.N.Names.words c.args.names.now) c.args.text.now c.args.words.now c.loop-symbol.rest.now c.loop-symbol.left.now (take c.args.at c.args.out.now) (take end out) c.requires.body full c.loop-symbol.invariant.fills

pub returns-clause-filled : goal.returns-clause-filled
returns-clause-filled g c =
    fills_all (g.N.Names.words c.args.names.now) c.args.text.now c.args.words.now c.loop-symbol.rest.now c.loop-symbol.left.now (take c.args.at c.args.out.now) (take c.loop-symbol.end c.loop-symbol.out) c.requires.body c.in_default.ensures.none c.loop-symbol.invariant.fills
