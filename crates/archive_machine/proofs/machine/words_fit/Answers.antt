use Rattle.std.proofs.Common.{rules, ◌<◌, ◌^◌}
use Rattle.std.proofs.lemmas.List.Elements.{All-from_get_or}
use Rattle.archive_machine.proofs.machine.words_fit.Goals as goal

pub returns : goal.returns
returns c = All-from_get_or (λ w. w < 2 ^ 64) c.args.words.now 0 (λ k lt. search (rules, c.type_inv.words k))
