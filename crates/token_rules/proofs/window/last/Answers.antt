use Rattle.token_rules.proofs.WindowLemmas.{padded}
use Rattle.token_rules.proofs.window.last.Goals as goal

pub returns : goal.returns
returns c k l = padded c.args.body.now c.args.at c.copy_from_slice.new.self c.requires.0 c.requires.1 c.copy_from_slice.ensures.after k l
