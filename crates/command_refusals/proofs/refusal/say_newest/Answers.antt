use Rattle.std.proofs.Common.{[], refl}
use Rattle.command_refusals.specs.Refusal.{line_of}
use Rattle.command_refusals.specs.declared.refusal.Refusal.TheVariants.{AlreadyNewest}
use Rattle.command_refusals.proofs.RefusalLemmas.{Says-same}
use Rattle.command_refusals.proofs.refusal.say_newest.Goals as goal

pub returns-clause-said : goal.returns-clause-said
returns-clause-said g c = Says-same _ _ _ _ _ (line_of [] (AlreadyNewest c.args.version)) (rw (c.from.ensures) refl) c.say_number.ensures.said
