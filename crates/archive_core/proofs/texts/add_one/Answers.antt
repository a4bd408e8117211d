use Rattle.std.proofs.Common.{rules, subst, sym}
use Rattle.archive_core.specs.Texts.{FairOf}
use Rattle.archive_meaning.specs.Legal.{IsBook}
use Rattle.archive_core.proofs.TextsLemmas.{book_more, named_known, named_new, twice}
use Rattle.archive_core.proofs.texts.add_one.Goals as goal

pub returns-in-Ok-clause-book : goal.returns-in-Ok-clause-book
returns-in-Ok-clause-book c =
    let old = c.args.book.now in
    let named = named_new old c.intern.new.self c.args.text.now c.in-Ok.number c.in-Ok.ensures.ok (search rules) in
    subst (λ l. IsBook (FairOf c.args.kind) old.limit l) (sym named.2)
    (book_more (FairOf c.args.kind) old.limit old.texts c.args.text.now c.requires (search rules) named.0 named.1)

pub returns-in-Ok-2-clause-illegal : goal.returns-in-Ok-2-clause-illegal
returns-in-Ok-2-clause-illegal c = λ is rest.
    let old = c.args.book.now in
    let known = named_known old c.intern.new.self c.args.text.now c.in-Ok-2.field-0 c.in-Ok-2.ensures.ok (search rules) in
    twice (FairOf c.args.kind) old.limit old.texts rest c.args.text.now c.in-Ok-2.field-0 known.0
