use Rattle.std.proofs.Common.{◌∙◌, sym, refl, arith}
use Rattle.ingest_fork.proofs.PassLemmas.{still_same}
use Rattle.dict_tests.proofs.ingest_fork_tests.idle.Goals as goal

pub join_all-requires : goal.join_all-requires
join_all-requires c = record { all = λ i p at. let f = c.fill.ensures.made.each i p at in (f.lock ∙ sym c.fill.ensures.made.still.lock, f.ready) }

pub returns-clause-joined : goal.returns-clause-joined
returns-clause-joined c = c.all_are_joined.ensures c.args.maker.now c.fill.new.maker c.fill.new.maker _ _ _ c.fill.ensures.made (still_same _)
    (record { about_is = refl; made = refl; others = λ a n is low lt. let none = c.requires.first.0 in absurd (omega arith) }) c.join_all.ensures.joined

pub returns-clause-lock : goal.returns-clause-lock
returns-clause-lock c = c.join_all.ensures.joined.lock ∙ c.fill.ensures.made.still.lock
