use Rattle.std.proofs.Common.{take}
use Rattle.std.specs.Int.{w64}
use Rattle.std.proofs.lemmas.Int.{to_z-of_z}
use Rattle.row_codec.proofs.StampLemmas.{stamp_printed, stamp_writing}
use Rattle.subquery_filter.proofs.letters.put_stamp.Goals as goal

pub print_stamp-requires : goal.print_stamp-requires
print_stamp-requires c = rw (to_z-of_z w64 c.args.moment c.ranges.moment) ((stamp_writing c.args.pattern c.args.moment c.if-pattern-eq0.false).0 c.requires)

pub returns-clause-text : goal.returns-clause-text
returns-clause-text c =
    let prints = rw (to_z-of_z w64 c.args.moment c.ranges.moment) at c.print_stamp.ensures.text in
    stamp_printed c.args.pattern c.args.moment (take c.print_stamp.result c.print_stamp.new.out) c.if-pattern-eq0.false prints
