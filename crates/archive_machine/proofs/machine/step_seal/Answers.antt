use Rattle.std.proofs.Common.{arith, ap}
use Rattle.archive_machine.specs.Machine.{count_of}
use Rattle.archive_machine.proofs.machine.step_seal.Goals as goal

pub messages_in-first-requires : goal.messages_in-first-requires
messages_in-first-requires c = omega (arith, ap (count_of c.args.worker) c.as_slice.ensures, (c.requires.hands c.args.worker).1.most)
