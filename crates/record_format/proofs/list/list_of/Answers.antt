use Rattle.std.proofs.Common.{◌≡◌, ◌++◌, ◌∷◌, [], refl, arith, rules}
use Rattle.record_format.proofs.ListLemmas.{no_count, too_many, no_text, left_over, read_more}
use Rattle.record_format.proofs.list.list_of.Goals as goal

pub returns-in_default-clause-malformed : goal.returns-in_default-clause-malformed
returns-in_default-clause-malformed c = λ _ texts are. no_count c.args.bytes.now (c.in_default.ensures.none refl) texts

pub returns-then-rest-count-clause-malformed : goal.returns-then-rest-count-clause-malformed
returns-then-rest-count-clause-malformed c = λ _. too_many c.args.bytes.now c.in-Some.count c.in-Some.rest.now c.in-Some.ensures.some c.in-Some.ensures.fits (omega arith)

pub returns-in_default-next_text-clause-malformed : goal.returns-in_default-next_text-clause-malformed
returns-in_default-next_text-clause-malformed c = λ _.
    no_text c.args.bytes.now c.in-Some.count c.loop.texts.items c.loop.rest.now c.loop.invariant.0 c.in-Some.ensures.fits (omega arith) (c.in_default-next_text.ensures.none refl)

pub loop-preserved : goal.loop-preserved
loop-preserved c =
    let text = c.in-Some-next_text.text.now in
    let pushed : c.push_reserved.new.self.items ≡ c.loop.texts.items ++ text ∷ [] = search rules in
    let read = read_more c.args.bytes.now c.in-Some.count c.loop.texts.items c.loop.rest.now text c.in-Some-next_text.after.now c.loop.invariant.0 c.in-Some-next_text.ensures.fits c.in-Some-next_text.ensures.some in
    (rw pushed read, omega arith, omega arith)

pub returns-then-not-is_empty-clause-malformed : goal.returns-then-not-is_empty-clause-malformed
returns-then-not-is_empty-clause-malformed c = λ _.
    left_over c.args.bytes.now c.in-Some.count c.loop.texts.items c.loop.rest.now c.loop.invariant.0 c.in-Some.ensures.fits (omega arith) (search rules)
