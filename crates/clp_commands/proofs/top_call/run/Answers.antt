use Rattle.std.proofs.Common.{refl, Ok}
use Rattle.clp_commands.proofs.CommandLemmas.{Answers-asked, asked_of_none, turns_use}
use Rattle.clp_commands.proofs.top_call.run.Goals as goal

pub returns-in-Ok-clause-answers : goal.returns-in-Ok-clause-answers
returns-in-Ok-clause-answers g c = c.in-Ok.ensures.answers g.known c.args.second.now

pub returns-in-Err-clause-answers : goal.returns-in-Err-clause-answers
returns-in-Err-clause-answers g c =
    let asks = c.in-Err.ensures.turns in
    let idle = c.in-Err.ensures.idle in
    Answers-asked _ _ _ _ _ _ _ _ (Ok c.in-Err.command) c.in-Err.command _ refl asks.asked asks.alone
    (rw (← idle.0, ← idle.1, ← idle.2, ← idle.3) c.take_turns.ensures.answers)

pub returns-in-Err-clause-keeps : goal.returns-in-Err-clause-keeps
returns-in-Err-clause-keeps g c = λ none. rw (← c.in-Err.ensures.idle.1) (c.take_turns.ensures.keeps (none _ c.in-Err.ensures.turns.asked))

-- a command that may wait works on the archive
pub returns-in-Err-clause-untouched : goal.returns-in-Err-clause-untouched
returns-in-Err-clause-untouched g c = λ none. absurd (none _ c.in-Err.ensures.turns.asked (turns_use _ c.in-Err.ensures.turns.turns))

pub returns-in-Err-clause-second : goal.returns-in-Err-clause-second
returns-in-Err-clause-second g c = λ none. c.take_turns.ensures.second (none _ c.in-Err.ensures.turns.asked)

pub returns-in-Err-clause-one_failed : goal.returns-in-Err-clause-one_failed
returns-in-Err-clause-one_failed g c = λ pattern file asks _. absurd (asked_of_none _ pattern file c.in-Err.ensures.turns asks)
