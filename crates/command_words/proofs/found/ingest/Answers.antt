use Rattle.std.proofs.Common.{refl, subst, Some, None, IfSome, IsSomeAnd, ◌≡◌}
use Rattle.command_words.specs.Asked.{Gives, ingested, rows_in, to_ingest}
use Rattle.command_words.specs.declared.command.Command.TheVariants.{Ingest}
use Rattle.command_words.proofs.NameLemmas.{reads_ingest}
use Rattle.command_words.proofs.found.ingest.Goals as goal

pub returns-in-Some : goal.returns-in-Some
returns-in-Some c =
    reads_ingest (rows_in c.args.found.now) (Some (Ingest c.in-Some.asked))
    (refl, subst (λ o. IfSome o (λ i. Gives (rows_in c.args.found.now) (ingested i))) c.in-Some.is c.in_ok-asked.ensures.some)
    (λ workers segment watch files gives. subst (λ o. IsSomeAnd o (λ i. ingested i ≡ to_ingest workers segment watch files)) c.in-Some.is (c.in_ok-asked.ensures.all workers segment watch files gives))

pub returns-in-None : goal.returns-in-None
returns-in-None c =
    reads_ingest (rows_in c.args.found.now) None tt
    (λ workers segment watch files gives. subst (λ o. IsSomeAnd o (λ i. ingested i ≡ to_ingest workers segment watch files)) c.in-None.is (c.in_ok-asked.ensures.all workers segment watch files gives))
