use Rattle.std.proofs.Common.{[], refl}
use Rattle.command_refusals.specs.Refusal.{line_of}
use Rattle.command_refusals.specs.declared.refusal.Refusal.TheVariants.{VersionDiffers}
use Rattle.command_refusals.proofs.RefusalLemmas.{Says-same}
use Rattle.command_refusals.proofs.refusal.say_versions.Goals as goal

pub returns-clause-said : goal.returns-clause-said
returns-clause-said g c = Says-same _ _ _ _ _ (line_of [] (VersionDiffers c.args.first c.args.second)) (rw (c.from.ensures, c.from-2.ensures) refl) c.say_numbers.ensures.said
