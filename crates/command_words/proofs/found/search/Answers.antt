use Rattle.std.proofs.Common.{codes, refl, sym, subst, Some, None}
use Rattle.command_words.specs.Asked.{IsReading, rows_in}
use Rattle.command_words.specs.declared.command.Command.TheVariants.{Search}
use Rattle.command_words.proofs.NameLemmas.{reads_search}
use Rattle.command_words.proofs.found.search.Goals as goal

pub returns-in_err-asked : goal.returns-in_err-asked
returns-in_err-asked c =
    subst (IsReading (codes "search") (rows_in c.args.found.now)) (sym c.from_residual.ensures)
    (reads_search (rows_in c.args.found.now) None tt (λ from to stats workers pattern gives. c.in_err-asked.ensures.all from to stats workers pattern gives))

pub returns : goal.returns
returns c =
    reads_search (rows_in c.args.found.now) (Some (Search c.in_ok-asked.asked)) (refl, c.in_ok-asked.ensures.some)
    (λ from to stats workers pattern gives. c.in_ok-asked.ensures.all from to stats workers pattern gives)
