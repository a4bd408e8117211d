use Rattle.std.proofs.Common.{◌≡◌, ◌++◌, map, take}
use Rattle.search_walk.specs.Told.{whole_needle, within_needle}
use Rattle.search_walk.proofs.asking.needles_of.Given as goal

abbrev pub invariant-loop-text : goal.invariant-loop-text
invariant-loop-text l = l.needles.items ≡ map within_needle (take l.text-index l.within)

abbrev pub invariant-loop-word : goal.invariant-loop-word
invariant-loop-word l = l.needles.items ≡ map within_needle l.within ++ map whole_needle (take l.word-index l.whole)
