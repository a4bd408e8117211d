use Rattle.archive_text.specs.OneText.{has_prop, one_text, one_told}
use Rattle.archive_text.proofs.laws.one_text.Goals as goal

pub returns-clause-text : goal.returns-clause-text
returns-clause-text c = one_text

pub returns-clause-told : goal.returns-clause-told
returns-clause-told c = one_told

pub returns-clause-value : goal.returns-clause-value
returns-clause-value c = has_prop
