use Rattle.sink_pieces.proofs.OutputLemmas.{Grew-append, Moves-all}
use Rattle.search_engine.specs.StepsSofar.{front_more, front_second}
use Rattle.search_walk.proofs.AnswerLemmas.{on_err}
use Rattle.search_engine.proofs.gathering.put_text.Goals as goal

pub returns-in_err-flush-clause-stopped : goal.returns-in_err-flush-clause-stopped
returns-in_err-flush-clause-stopped g c = on_err c.from_residual-in_err-flush.result _ (front_more _ _ c.args.gathered.now.items c.args.text.now c.in_err-flush.ensures.err)

pub returns-in_err-write_all-clause-stopped : goal.returns-in_err-write_all-clause-stopped
returns-in_err-write_all-clause-stopped g c = on_err c.from_residual-in_err-write_all.result _ (front_second _ _ _ c.args.gathered.now.items c.args.text.now c.in_ok-flush.ensures.ok c.in_err-write_all.ensures.err)

pub returns-clause-done : goal.returns-clause-done
returns-clause-done g c = Moves-all _ _ _ _ (Grew-append _ _ _ c.args.gathered.now.items c.args.text.now c.in_ok-flush.ensures.ok c.in_ok-write_all.ensures.ok) c.in_ok-flush.ensures.empty
