use Rattle.archive_open.proofs.KeptLemmas.{IsWalkedTo}
use Rattle.archive_open.proofs.grown.add_texts.Given as goal

abbrev pub invariant-loop : goal.invariant-loop
invariant-loop g l = IsWalkedTo l.kind (g.K.KeepsTexts.kept l.initial.names) (g.K.KeepsTexts.kept l.names) l.count l.bytes l.rest l.counter
