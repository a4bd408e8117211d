use Rattle.std.proofs.Common.{rules, ◌^◌, ◌<◌}
use Rattle.std.proofs.lemmas.List.Elements.{All-from_get_or}
use Rattle.column_store.proofs.columns.numbers_fit.Goals as goal

pub returns-clause-types : goal.returns-clause-types
returns-clause-types c = All-from_get_or (λ t. t < 2 ^ 32) c.args.types.now 0 (λ k lt. search (rules, c.type_inv.types k))

pub returns-clause-words : goal.returns-clause-words
returns-clause-words c = All-from_get_or (λ t. t < 2 ^ 64) c.args.words.now 0 (λ k lt. search (rules, c.type_inv.words k))
