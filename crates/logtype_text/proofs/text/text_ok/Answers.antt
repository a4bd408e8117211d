use Rattle.logtype_text.proofs.TextLemmas.{answers_text_ok}
use Rattle.logtype_text.proofs.text.text_ok.Goals as goal

pub returns-clause-good : goal.returns-clause-good
returns-clause-good c = (answers_text_ok c.args.text.now c.lone_escape.result c.is_none.result c.lone_escape.ensures c.is_none.ensures).0

pub returns-clause-spelled : goal.returns-clause-spelled
returns-clause-spelled c = (answers_text_ok c.args.text.now c.lone_escape.result c.is_none.result c.lone_escape.ensures c.is_none.ensures).1
