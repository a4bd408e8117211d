use Rattle.std.proofs.Common.{[], refl}
use Rattle.command_refusals.specs.Refusal.{line_of}
use Rattle.command_refusals.specs.declared.refusal.Refusal.TheVariants.{NoSuchFile}
use Rattle.command_refusals.proofs.RefusalLemmas.{Says-same}
use Rattle.command_refusals.proofs.refusal.say_no_such_file.Goals as goal

pub returns-clause-said : goal.returns-clause-said
returns-clause-said g c = Says-same _ _ _ _ _ (line_of [] (NoSuchFile c.args.number c.args.count)) refl c.say_numbers.ensures.said
