use Rattle.std.proofs.Common.{rules, ◌≡◌, ◌<◌, ◌∙◌, sym, ap, arith, slice_get, Some}
use Rattle.std.proofs.lemmas.List.{length-set}
use Rattle.std.proofs.lemmas.Option.{slice_get_within, slice_get-get_or}
use Rattle.dict_lock.proofs.CacheLemmas.{slice_get-some}
use Rattle.dict_lock.proofs.LookUpLemmas.{held_as, held_front, same_behind}
use Rattle.dict_lock.proofs.cache.Cache.numbers_at.Goals as goal

pub number_at-requires : goal.number_at-requires
number_at-requires g c = λ real.
    let texts = g.T.TextSlice.texts c.args.texts.now in let now = c.loop-next in let place = c.index.result.now in
    let read : slice_get now.numbers.items now.next ≡ Some place = slice_get-get_or now.numbers.items now.next place (search rules) ∙ ap (λ m. Some m) (sym c.index.ensures) in
    let was = sym (now.invariant.same now.next (omega arith)) ∙ read in
    let given = slice_get-some texts now.next (omega (arith, slice_get_within now.numbers.items now.next place read, now.invariant.long)) in
    slice_get_within c.args.self.now.texts place given.0 ((c.requires.at now.next place given.0 was given.1).here real)

pub loop-next-preserved : goal.loop-next-preserved
loop-next-preserved g c =
    let texts = g.T.TextSlice.texts c.args.texts.now in let now = c.loop-next in let place = c.index.result.now in
    let before = c.args.numbers.now.items in
    let read : slice_get now.numbers.items now.next ≡ Some place = slice_get-get_or now.numbers.items now.next place (search rules) ∙ ap (λ m. Some m) (sym c.index.ensures) in
    let was = sym (now.invariant.same now.next (omega arith)) ∙ read in
    let given = slice_get-some texts now.next (omega (arith, slice_get_within now.numbers.items now.next place read, now.invariant.long)) in
    let mine = held_as c.args.self.now before place c.number_at.result now.next given.0 was (c.requires.at now.next place given.0 was given.1) c.number_at.ensures.held c.number_at.ensures.mark in record {
      long = length-set now.numbers.items now.next c.number_at.result ∙ now.invariant.long;
      same = same_behind before now.numbers.items c.number_at.result now.next now.invariant.same;
      held = held_front c.args.self.now before now.numbers.items texts c.number_at.result now.next given.0 given.1 mine now.invariant.held;
    }

pub returns : goal.returns
returns g c = let texts = g.T.TextSlice.texts c.args.texts.now in let now = c.loop-next in record {
  long = now.invariant.long;
  at = λ k n text a b. let lt = slice_get_within texts k text b in let below : k < now.next = omega (arith, c.loop-next-test.false, c.count-next-end.ensures) in now.invariant.held k n text below a b;
}
