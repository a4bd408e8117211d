use Rattle.std.proofs.Common.{refl}
use Rattle.std.proofs.lemmas.Result.{IfOk-weaker}
use Rattle.archive_open.specs.StepsBuilt.{built_of}
use Rattle.archive_open.specs.StepsNext.{Built}
use Rattle.archive_open.proofs.GrownLemmas.{builds_listed, none_listed}
use Rattle.archive_open.proofs.opening.keep_listed.Goals as goal

pub returns-clause-kept : goal.returns-clause-kept
returns-clause-kept g c =
    let old : Built = built_of g.K.KeepsTexts.kept c.args.opening.now in
    let new : Built = built_of g.K.KeepsTexts.kept (record { grown = c.add_listed.new.grown; segments = c.args.opening.now.segments }) in
    IfOk-weaker c.add_listed.result _ _ (λ yes r is at. builds_listed c.args.kind c.args.payload.now old new c.requires refl (r is) at) c.add_listed.ensures.added

pub returns-clause-refused : goal.returns-clause-refused
returns-clause-refused g c =
    let old : Built = built_of g.K.KeepsTexts.kept c.args.opening.now in
    IfOk-weaker c.add_listed.result _ _ (λ yes r is at. none_listed c.args.kind c.args.payload.now old (r is) at) c.add_listed.ensures.refused
