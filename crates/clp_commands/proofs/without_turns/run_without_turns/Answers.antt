use Rattle.std.proofs.Common.{refl, subst}
use Rattle.command_words.specs.Asked.{IsAnswer}
use Rattle.command_refusals.proofs.GoingLemmas.{KeepsBytes-same}
use Rattle.clp_commands.proofs.CommandLemmas.{Answers-asked, Answers-refused, asked_of_log}
use Rattle.clp_commands.proofs.without_turns.run_without_turns.Goals as goal

-- words that were refused
pub returns-in-Err-clause-answers : goal.returns-in-Err-clause-answers
returns-in-Err-clause-answers g c = λ known second.
    Answers-refused _ _ _ _ _ _ _ _ c.read_words.result c.in-Err.refusal c.in-Err.is c.read_words.ensures.all c.read_words.ensures.taken
    (record {
      soon = record { refuses = record { ends = record { status_is = rw (← c.refusal_of_words.ensures) c.report.ensures.status; said = rw (← c.refusal_of_words.ensures) c.report.ensures.said }; nothing = refl; sink = refl }; opens = λ name. refl; reads = λ name. refl };
      bytes = KeepsBytes-same _;
      ranges = refl;
      faults = refl;
    })

pub returns-in-Some-clause-answers : goal.returns-in-Some-clause-answers
returns-in-Some-clause-answers g c = λ known second. Answers-asked _ _ _ _ _ _ _ _ c.read_words.result c.in-Ok.command _ c.in-Ok.is c.in-Ok.ensures.asked c.read_words.ensures.all (c.in-Some.ensures.answers known second)

pub returns-in-Some-clause-keeps : goal.returns-in-Some-clause-keeps
returns-in-Some-clause-keeps g c = λ none. c.carry_out.ensures.keeps (none _ c.in-Ok.ensures.asked)

pub returns-in-Some-clause-untouched : goal.returns-in-Some-clause-untouched
returns-in-Some-clause-untouched g c = λ none. c.carry_out.ensures.untouched (none _ c.in-Ok.ensures.asked)

-- a command that may wait
pub returns-clause-turns : goal.returns-clause-turns
returns-clause-turns g c = record {
  asked = c.in-Ok.ensures.asked;
  alone = λ a asks. subst (IsAnswer a) c.in-Ok.is (c.read_words.ensures.all a asks);
  in_range = c.in-Ok.ensures.range;
  turns = c.in-None.ensures.turns;
}

pub returns-clause-keeps : goal.returns-clause-keeps
returns-clause-keeps g c = λ none. c.carry_out.ensures.keeps (none _ c.in-Ok.ensures.asked)

pub returns-clause-untouched : goal.returns-clause-untouched
returns-clause-untouched g c = λ none. c.carry_out.ensures.untouched (none _ c.in-Ok.ensures.asked)

pub returns-in-Some-clause-one_failed : goal.returns-in-Some-clause-one_failed
returns-in-Some-clause-one_failed g c = λ pattern file asks. c.carry_out.ensures.one_failed pattern file (asked_of_log _ c.read_words.result c.in-Ok.command pattern file c.in-Ok.is c.read_words.ensures.all asks)
