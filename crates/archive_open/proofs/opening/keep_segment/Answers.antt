use Rattle.std.proofs.Common.{rules, refl}
use Rattle.archive_open.specs.StepsBuilt.{built_of}
use Rattle.archive_open.specs.StepsNext.{Built}
use Rattle.archive_open.proofs.TakenLemmas.{head_reads_of, none_without_head, segment_not_told, segment_told}
use Rattle.archive_open.proofs.opening.keep_segment.Goals as goal

pub returns-in_err-head-clause-ranges : goal.returns-in_err-head-clause-ranges
returns-in_err-head-clause-ranges g c = head_reads_of c.args.place _ _ _ c.requires.kind c.load_head.ensures.ranges

pub returns-in_default-clause-ranges : goal.returns-in_default-clause-ranges
returns-in_default-clause-ranges g c = head_reads_of c.args.place _ _ _ c.requires.kind c.load_head.ensures.ranges

pub returns-in_default-clause-refused : goal.returns-in_default-clause-refused
returns-in_default-clause-refused g c = λ no. none_without_head c.args.place _ _ c.requires.kind (search rules)

pub returns-in_err-add_segment-clause-ranges : goal.returns-in_err-add_segment-clause-ranges
returns-in_err-add_segment-clause-ranges g c = head_reads_of c.args.place _ _ _ c.requires.kind c.load_head.ensures.ranges

pub returns-clause-ranges : goal.returns-clause-ranges
returns-clause-ranges g c = head_reads_of c.args.place _ _ _ c.requires.kind c.load_head.ensures.ranges

pub returns-clause-kept : goal.returns-clause-kept
returns-clause-kept g c = λ yes.
    let old : Built = built_of g.K.KeepsTexts.kept c.args.opening.now in
    let new : Built = built_of g.K.KeepsTexts.kept (record { grown = record { names = c.args.opening.now.grown.names; files = c.add_segment.new.files }; segments = c.add_segment.new.segments }) in
    let added = c.in_ok-add_segment.ensures.added yes in
    segment_told c.args.place _ c.in-Some.head old new c.requires.whole c.requires.kind (search rules) refl added.1 added.2

pub returns-clause-refused : goal.returns-clause-refused
returns-clause-refused g c = λ no.
    let old : Built = built_of g.K.KeepsTexts.kept c.args.opening.now in
    segment_not_told c.args.place _ c.in-Some.head old c.requires.kind (search rules) (c.in_ok-add_segment.ensures.refused no)
