use Rattle.std.proofs.Common.{inl, inr, refl}
use Rattle.write_commands.proofs.FollowLemmas.{rests_beside}
use Rattle.write_commands.proofs.ingest.do_jobs.Goals as goal

pub returns-in-Ok-clause-did : goal.returns-in-Ok-clause-did
returns-in-Ok-clause-did g c = inl (record { ingested = c.in-Ok.ensures.done; causes = c.in-Ok.ensures.causes; in_turn = λ one. c.in-Ok.ensures.in_turn one refl })

pub returns-in-Ok-clause-along : goal.returns-in-Ok-clause-along
returns-in-Ok-clause-along g c = inl c.in-Ok.ensures.beside

pub returns-in-Err-clause-did : goal.returns-in-Err-clause-did
returns-in-Err-clause-did g c = inr (record { journal = c.in-Err.ensures.refused; jobs = c.in-Err.ensures.jobs })

pub returns-in-Err-clause-along : goal.returns-in-Err-clause-along
returns-in-Err-clause-along g c = inr (rests_beside g.B.Beside.known c.args.beside.now c.ingest_beside.new.beside c.in-Err.ensures.rests c.args.journal _ c.requires.beside c.in-Err.ensures.refused)

pub ingest_beside-requires-clause-split : goal.ingest_beside-requires-clause-split
ingest_beside-requires-clause-split g c κs within = record { workers = c.requires.workers; rows = c.requires.segment }
