use Rattle.std.proofs.Common.{rules, ◌<◌, ◌∙◌, arith}
use Rattle.std.proofs.lemmas.List.{length-set}
use Rattle.std.proofs.lemmas.Option.{slice_get_within}
use Rattle.dict_lock.proofs.NamingLemmas.{adds_more, named_more, marked_more}
use Rattle.dict_lock.proofs.naming.name_each.Goals as goal

pub loop-place-preserved : goal.loop-place-preserved
loop-place-preserved g c = let texts = g.T.TextSlice.texts c.args.texts.now in let now = c.loop-place in record {
  long = length-set now.numbers.items now.place c.in-Ok.number ∙ now.invariant.long;
  added = adds_more c.args.book.now now.book c.name_one.new.book texts c.at.result.now c.in-Ok.number now.place c.at.ensures now.invariant.added c.in-Ok.ensures.ok;
  named = named_more now.book c.name_one.new.book texts now.numbers.items c.at.result.now c.in-Ok.number now.place c.at.ensures c.in-Ok.ensures.ok now.invariant.named;
  marked = marked_more now.book c.name_one.new.book texts now.numbers.items c.at.result.now c.in-Ok.number now.place c.at.ensures c.in-Ok.ensures.ok now.invariant.marked;
}

pub returns-clause-named : goal.returns-clause-named
returns-clause-named g c = let texts = g.T.TextSlice.texts c.args.texts.now in let now = c.loop-place in record {
  front = search rules;
  at = λ k n text a b. let lt = slice_get_within texts k text b in let below : k < now.place = omega (arith, c.loop-place-test.false, c.count-place-end.ensures) in now.invariant.named k n text below a b;
}
