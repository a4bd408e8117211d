use Rattle.std.proofs.Common.{arith, rules}
use Rattle.std.specs.Prelude.{bit_or}
use Rattle.std.proofs.lemmas.Option.{slice_get_within}
use Rattle.subquery_filter.proofs.BitLemmas.{has_left, has_right, has_self}
use Rattle.subquery_filter.proofs.SlotLemmas.{given_step}
use Rattle.subquery_filter.proofs.filter.Filter.with_all.Goals as goal

pub loop-place-init : goal.loop-place-init
loop-place-init c = (has_self c.args.bits, λ place lt. absurd (omega (arith, lt)))

pub loop-place-preserved : goal.loop-place-preserved
loop-place-preserved c =
    let l = c.loop-place in
    let more = c.any_bits-all.result in
    let left = has_left l.all more l.all (has_self l.all) in
    (has_left l.all more c.args.bits l.invariant.0, given_step c.args.self.now c.args.words.now l.place l.all more left (c.any_bits-all.ensures (bit_or l.all more) left (has_right l.all more)) l.invariant.1)

pub returns-clause-words : goal.returns-clause-words
returns-clause-words c = λ place word there slot.
    let lt = slice_get_within c.args.words.now place word there in
    c.loop-place.invariant.1 place (search rules) word there slot
