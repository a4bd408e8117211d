use Rattle.write_commands.proofs.LawLemmas.{unopened_give_nothing}
use Rattle.write_commands.proofs.laws.unopened_give_nothing.Goals as goal

pub returns : goal.returns
returns c = unopened_give_nothing
