use Rattle.std.proofs.Common.{rules, refl, inl, arith}
use Rattle.journal_tests.proofs.short_disk_tests.ShortDiskDisk.read.Goals as goal

pub returns-then-len-capacity : goal.returns-then-len-capacity
returns-then-len-capacity g = record {
  gave = search rules;
  rests = record { seen = refl; no_more = λ _ left. left; no_fewer = λ _ left. left; time = record { later = omega arith; nothing_else = λ _ _ _ left. inl left; keeps = λ _ _ _ left. left } };
  range = search rules;
  no_range = search (rules, g.fail.ensures.ranges);
  counts = g.fail.ensures.counts;
}
