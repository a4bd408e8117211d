use Rattle.std.proofs.Common.{rules, suc, drop, subst, ◌∙◌, sym, ap, ◌++◌, ◌∷◌}
use Rattle.archive_core.specs.Texts.{FairOf}
use Rattle.archive_meaning.specs.Legal.{IsBook}
use Rattle.archive_core.proofs.TextsLemmas.{texts_at}
use Rattle.archive_core.proofs.texts.add_each.Goals as goal

pub returns-in_err-add_one-clause-illegal : goal.returns-in_err-add_one-clause-illegal
returns-in_err-add_one-clause-illegal c = λ is book.
    let texts = c.args.texts.now in
    let old = c.args.book.now in
    let i = c.loop-text.text-index in
    c.in_err-add_one.ensures.illegal (search (rules, is)) (drop (suc i) texts)
    (subst (λ l. IsBook (FairOf c.args.kind) c.loop-text.book.limit l)
    (sym (ap (λ l. l ++ c.as_slice.result.now ∷ drop (suc i) texts) c.loop-text.invariant.texts ∙ texts_at old.texts texts i c.as_slice.result.now (search rules) (search rules)))
    (search (rules, book)))
