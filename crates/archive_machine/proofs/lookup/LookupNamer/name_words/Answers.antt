use Rattle.std.proofs.Common.{rules, ◌≡◌, ◌<◌, ◌+◌, ◌++◌, ◌∷◌, [], ℕ, List, length, get_or, take, subst, sym, ◌∙◌, Some, slice_get}
use Rattle.row_codec.specs.Naming.{AreNumbers}
use Rattle.plain_list.specs.Texts.{IsNew}
use Rattle.archive_machine.proofs.CodeLemmas.{any_default, limit_met, numbers_more}
use Rattle.archive_machine.proofs.lookup.LookupNamer.name_words.Goals as goal

pub returns-in_err-number-clause-full : goal.returns-in_err-number-clause-full
returns-in_err-number-clause-full c = λ book count is.
    let texts : List (List ℕ) = c.args.texts.now in
    let known : List (List ℕ) = c.args.self.now.words.now in
    let i = c.loop-text.text-index in
    let low : i < length texts = search rules in
    let item : List ℕ = c.text-item.result in
    let read : item ≡ get_or texts i item = search rules in
    let same : c.as_slice.result.now ≡ get_or texts i [] = c.as_slice.ensures ∙ any_default texts i item low read in
    let all = c.in_err-number.ensures.full book count (search (rules, is)) in
    (all.0, limit_met known c.loop-text.numbers.items texts i count low c.loop-text.invariant (subst (IsNew known) same all.1) all.2)

pub loop-text-preserved : goal.loop-text-preserved
loop-text-preserved c =
    let texts : List (List ℕ) = c.args.texts.now in
    let known : List (List ℕ) = c.args.self.now.words.now in
    let i = c.loop-text.text-index in
    let low : i < length texts = search rules in
    let item : List ℕ = c.text-item.result in
    let read : item ≡ get_or texts i item = search rules in
    let same : c.as_slice.result.now ≡ get_or texts i [] = c.as_slice.ensures ∙ any_default texts i item low read in
    let pushed : c.push.new.self.items ≡ c.loop-text.numbers.items ++ c.in_ok-number.number ∷ [] = search rules in
    subst (λ l. AreNumbers known l (take (i + 1) texts)) (sym pushed)
    (numbers_more known c.loop-text.numbers.items texts i c.in_ok-number.number low c.loop-text.invariant
    (subst (λ t. slice_get known c.in_ok-number.number ≡ Some t) same c.in_ok-number.ensures.named))
