use Rattle.std.proofs.Common.{rules, subst, sym, ◌++◌}
use Rattle.logtype_text.specs.Fair.{IsFairType}
use Rattle.archive_meaning.specs.Legal.{IsBook}
use Rattle.archive_meaning.specs.Sums.{Sums}
use Rattle.archive_core.proofs.judge.Judge.admit_types.Goals as goal

pub returns-in_err-add_types-clause-illegal : goal.returns-in_err-add_types-clause-illegal
returns-in_err-add_types-clause-illegal c = λ is more admits.
    let texts = c.args.texts.now in
    let inside = c.self.inside in
    let here = subst (λ (s : Sums). IsBook IsFairType s.header.types_limit (s.types ++ texts)) (sym c.self.view_is) admits.0.0.book in
    let both = subst (λ n. IsBook IsFairType n (inside.books.types.texts ++ texts)) (sym c.self.invariant.types_limit) here in
    c.in_err-add_types.ensures.illegal (search (rules, is)) (subst (λ l. IsBook IsFairType inside.books.types.limit (inside.books.types.texts ++ l)) (sym c.as_slice-texts.ensures) both)
