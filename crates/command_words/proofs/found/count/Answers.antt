use Rattle.std.proofs.Common.{codes, refl, sym, subst, Some, None}
use Rattle.command_words.specs.Asked.{IsReading, rows_in}
use Rattle.command_words.specs.declared.command.Command.TheVariants.{Count}
use Rattle.command_words.proofs.NameLemmas.{reads_count}
use Rattle.command_words.proofs.found.count.Goals as goal

pub returns-in_err-asked : goal.returns-in_err-asked
returns-in_err-asked c =
    subst (IsReading (codes "count") (rows_in c.args.found.now)) (sym c.from_residual.ensures)
    (reads_count (rows_in c.args.found.now) None tt (λ by from to stats workers pattern gives. c.in_err-asked.ensures.all by from to stats workers pattern gives))

pub returns : goal.returns
returns c =
    reads_count (rows_in c.args.found.now) (Some (Count c.in_ok-asked.asked)) (refl, c.in_ok-asked.ensures.some)
    (λ by from to stats workers pattern gives. c.in_ok-asked.ensures.all by from to stats workers pattern gives)
