use Rattle.std.proofs.Common.{rules, ◌≡◌, ◌≢◌, ℕ, List, Some, slice_get, get_or, length, refl, subst}
use Rattle.std.proofs.lemmas.Option.{slice_get_read}
use Rattle.archive_machine.proofs.CodeLemmas.{all_none, none_more}
use Rattle.archive_machine.proofs.lookup.number_of.Goals as goal

pub returns-then-eq : goal.returns-then-eq
returns-then-eq c =
    let texts = c.args.texts.now in
    let item : List ℕ = c.index-texts-number.result in
    let same : item ≡ c.args.text.now = search rules in
    subst (λ t. slice_get texts c.loop-number.number ≡ Some t) same
    (slice_get_read texts (length texts) c.loop-number.number item refl (search rules) (search rules))

pub loop-number-preserved : goal.loop-number-preserved
loop-number-preserved c =
    let texts = c.args.texts.now in
    let item : List ℕ = c.index-texts-number.result in
    let apart : item ≢ c.args.text.now = search rules in
    let here : item ≡ get_or texts c.loop-number.number item = search rules in
    none_more (λ t. t ≢ c.args.text.now) texts c.loop-number.number item c.loop-number.invariant (search rules)
    (subst (λ t. t ≢ c.args.text.now) here apart)

pub returns : goal.returns
returns c = λ i at. all_none (λ t. t ≢ c.args.text.now) c.args.texts.now c.loop-number.number c.loop-number.invariant (search rules) i c.args.text.now at refl
