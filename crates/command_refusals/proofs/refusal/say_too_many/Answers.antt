use Rattle.std.proofs.Common.{[], refl}
use Rattle.command_refusals.specs.Refusal.{line_of}
use Rattle.command_refusals.specs.declared.refusal.Refusal.TheVariants.{TooManyFiles}
use Rattle.command_refusals.proofs.RefusalLemmas.{Says-same}
use Rattle.command_refusals.proofs.refusal.say_too_many.Goals as goal

pub returns-clause-said : goal.returns-clause-said
returns-clause-said g c = Says-same _ _ _ _ _ (line_of [] (TooManyFiles c.args.held c.args.more)) refl c.say_numbers.ensures.said
