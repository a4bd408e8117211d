use Rattle.clpa.proofs.writing.ask_to_write.Goals as goal

-- words that are refused as no command ask for nothing
pub returns-in-Err-Usage-clause-no : goal.returns-in-Err-Usage-clause-no
returns-in-Err-Usage-clause-no c = λ _ a asks _. rw c.in-Err-Usage.field-0-is at (c.in-Err-Usage.ensures.all a asks)

pub returns-in-Err-Usage-clause-not_second : goal.returns-in-Err-Usage-clause-not_second
returns-in-Err-Usage-clause-not_second c = λ _ a asks _. rw c.in-Err-Usage.field-0-is at (c.in-Err-Usage.ensures.all a asks)
