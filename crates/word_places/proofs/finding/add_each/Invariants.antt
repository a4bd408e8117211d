use Rattle.std.proofs.Common.{◌≡◌, length}
use Rattle.word_places.proofs.FoundLemmas.{AddsSoFar}
use Rattle.word_places.proofs.finding.add_each.Given as goal

abbrev pub invariant-loop-index : goal.invariant-loop-index
invariant-loop-index l = record {
  long : length l.lists.items ≡ length l.initial.lists.items;
  adds : AddsSoFar l.needles l.bytes l.first l.count l.initial.lists.items l.lists.items l.index;
}
