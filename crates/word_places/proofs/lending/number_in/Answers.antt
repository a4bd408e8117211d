use Rattle.std.proofs.Common.{◌≡◌, ℕ, ap, sym, ◌∙◌, subst, arith, ⊎_elim}
use Rattle.std.specs.Prelude.{slice_get}
use Rattle.std.proofs.lemmas.Bool.{cases_lt}
use Rattle.std.proofs.lemmas.Option.{same_Some, slice_get_within}
use Rattle.plain_list.specs.Texts.{IsNew}
use Rattle.word_places.specs.declared.held.HeldRecord.{HeldRecord}
use Rattle.word_places.specs.Held.{lent}
use Rattle.word_places.proofs.OrderLemmas.{new_in_all, numbers_small, text_found}
use Rattle.word_places.proofs.lending.number_in.Goals as goal

pub number_at-requires : goal.number_at-requires
number_at-requires c = numbers_small c.args.records.now c.loop-at.at c.record_at.result.now c.requires c.record_at.ensures

pub returns-in-Some : goal.returns-in-Some
returns-in-Some c =
    text_found c.args.records.now c.loop-at.at c.in-Some.number c.args.text.now c.record_at.result.now c.requires c.record_at.ensures c.in-Some.ensures.0 c.in-Some.ensures.1

pub loop-at-preserved : goal.loop-at-preserved
loop-at-preserved c = λ k r below got.
    ⊎_elim
    (λ before. c.loop-at.invariant k r before got)
    (λ here.
    let same : c.loop-at.at ≡ k = omega (arith, below, here) in
    let one : c.record_at.result.now ≡ r = same_Some c.record_at.result.now r (sym c.record_at.ensures ∙ ap (λ (n : ℕ). slice_get c.args.records.now n) same ∙ got) in
    subst (λ (x : HeldRecord). IsNew (lent x) c.args.text.now) one c.in_default.ensures)
    (cases_lt k c.loop-at.at)

pub returns : goal.returns
returns c = new_in_all c.args.text.now c.args.records.now (λ at r got. c.loop-at.invariant at r (omega (arith, slice_get_within c.args.records.now at r got)) got)
