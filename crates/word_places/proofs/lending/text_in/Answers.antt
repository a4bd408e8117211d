use Rattle.std.proofs.Common.{◌≡◌, sym, ◌∙◌, subst}
use Rattle.std.proofs.lemmas.Option.{same_Some, slice_get_within}
use Rattle.word_places.specs.declared.held.HeldRecord.{HeldRecord}
use Rattle.word_places.specs.Held.{HasNumber}
use Rattle.word_places.proofs.OrderLemmas.{lent_found}
use Rattle.word_places.proofs.lending.text_in.Goals as goal

pub record_at-requires : goal.record_at-requires
record_at-requires c = slice_get_within c.args.records.now c.in_ok-at.at c.in_ok-at.ensures.some.0 c.in_ok-at.ensures.some.1

pub text_at-requires : goal.text_at-requires
text_at-requires c =
    let r = c.in_ok-at.ensures.some in
    let same : r.0 ≡ c.record_at.result.now = same_Some r.0 c.record_at.result.now (sym r.1 ∙ c.record_at.ensures) in
    subst (λ (x : HeldRecord). HasNumber x c.args.number) same r.2

pub returns : goal.returns
returns c =
    let r = c.in_ok-at.ensures.some in
    let same : r.0 ≡ c.record_at.result.now = same_Some r.0 c.record_at.result.now (sym r.1 ∙ c.record_at.ensures) in
    lent_found (λ t. t.now) c.text_at.result c.args.records.now c.in_ok-at.at c.args.number c.record_at.result.now c.requires c.record_at.ensures
    (subst (λ (x : HeldRecord). HasNumber x c.args.number) same r.2) c.text_at.ensures
