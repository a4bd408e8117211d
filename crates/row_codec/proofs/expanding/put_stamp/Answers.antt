use Rattle.std.proofs.Common.{[], sym}
use Rattle.std.proofs.lemmas.List.{append-nil}
use Rattle.std.proofs.lemmas.Result.{IfOk-weaker}
use Rattle.std.specs.Int.{w64}
use Rattle.std.proofs.lemmas.Int.{to_z-of_z}
use Rattle.row_codec.proofs.StampLemmas.{printed_front, stamp_none, stamp_printed, stamp_writing}
use Rattle.row_codec.proofs.expanding.put_stamp.Goals as goal

pub returns-then-pattern-eq0-clause-written : goal.returns-then-pattern-eq0-clause-written
returns-then-pattern-eq0-clause-written c = λ yes.
    let tells = rw (to_z-of_z w64 c.args.moment c.ranges.moment) at c.stamp_fits.ensures in
    ([], stamp_none c.args.pattern c.args.moment c.if-pattern-eq0.true (tells.0 yes), sym (append-nil c.args.out.now.items))

pub returns-then-pattern-eq0-clause-misfit : goal.returns-then-pattern-eq0-clause-misfit
returns-then-pattern-eq0-clause-misfit c = λ no has.
    let tells = rw (to_z-of_z w64 c.args.moment c.ranges.moment) at c.stamp_fits.ensures in
    absurd (cc (tells.1 has, no))

pub returns-clause-written : goal.returns-clause-written
returns-clause-written c =
    let printed = rw (to_z-of_z w64 c.args.moment c.ranges.moment) at c.print_fitting.ensures.printed in
    IfOk-weaker c.print_fitting.result _ _
    (λ fits put yes. let text = put yes in (text.0, stamp_printed c.args.pattern c.args.moment text.0 c.if-pattern-eq0.false text.1, text.2))
    printed

pub returns-clause-misfit : goal.returns-clause-misfit
returns-clause-misfit c =
    let misfit = rw (to_z-of_z w64 c.args.moment c.ranges.moment) at c.print_fitting.ensures.misfit in
    IfOk-weaker c.print_fitting.result _ _
    (λ fits none no has. none no ((stamp_writing c.args.pattern c.args.moment c.if-pattern-eq0.false).0 has))
    misfit

pub returns-clause-front : goal.returns-clause-front
returns-clause-front c =
    printed_front c.print_fitting.result _ c.args.out.now.items c.print_fitting.new.out.items c.print_fitting.ensures.printed c.print_fitting.ensures.left c.print_fitting.ensures.kept
