use Rattle.std.proofs.Common.{◌≡◌, ◌∙◌, Some, ap, refl, rules, subst}
use Rattle.std.specs.Prelude.{is_ok}
use Rattle.archive_merge.specs.Files.{CameOver}
use Rattle.archive_merge.specs.Taken.{texts_by}
use Rattle.archive_merge.proofs.MergerLemmas.{did_all, did_some, idle_now, moves_on, none_some, stopped_file}
use Rattle.archive_merge.proofs.merger_work.MergerWorksMergedPassStore.work.Goals as goal

pub returns-in-Err-clause-did : goal.returns-in-Err-clause-did
returns-in-Err-clause-did g c =
    let had : c.args.self.now.passes ≡ Some c.in-Some.passes = cc (c.take.ensures.value, c.in-Some.is) in
    let did = c.move_with-passes.ensures in
    did_some g.M.Names.types g.M.Names.words g.M.Names.version g.D.Disk.state g.E.Disk.state c.args.self.now _ c.in-Some.passes c.move_with-passes.result.0 c.args.job.now c.move_with-passes.new.file c.args.keeper.now c.move_with-passes.new.keeper had c.replace.ensures.after did.second
    c.segments_of-places.result.now c.segments_of-places.ensures.these (none_some c.args.self.now.stop (search rules))
    c.segments_of-places.ensures.among did.came.same_file did.named c.move_with-passes.result.1 _ c.in-Err.is refl refl did.came did.causes did.damaged did.disk

pub returns-in-Err-clause-went : goal.returns-in-Err-clause-went
returns-in-Err-clause-went g c =
    let had : c.args.self.now.passes ≡ Some c.in-Some.passes = cc (c.take.ensures.value, c.in-Some.is) in
    let did = c.move_with-passes.ensures in
    moves_on g.M.Names.types g.M.Names.words g.M.Names.version g.D.Disk.state g.E.Disk.state c.args.self.now _ c.in-Some.passes c.move_with-passes.result.0 c.args.job.now c.move_with-passes.new.file c.args.keeper.now c.move_with-passes.new.keeper had c.replace.ensures.after did.second
    refl did.disk.later c.segments_of-places.result.now c.segments_of-places.ensures.among c.segments_of-places.ensures.these did.came.same_file did.named (none_some c.args.self.now.stop (search rules))
    (λ s some. (0, c.args.job.now, refl, stopped_file _ s some ∙ did.came.same_file))

pub returns-in_default-result-clause-ready : goal.returns-in_default-result-clause-ready
returns-in_default-result-clause-ready g c =
    let had : c.args.self.now.passes ≡ Some c.in-Some.passes = cc (c.take.ensures.value, c.in-Some.is) in
    let did = c.move_with-passes.ensures in
    idle_now g.M.Names.types g.M.Names.words g.M.Names.version g.D.Disk.state g.E.Disk.state c.args.self.now _ c.in-Some.passes c.move_with-passes.result.0 c.args.job.now c.move_with-passes.new.file c.args.keeper.now c.move_with-passes.new.keeper had c.replace.ensures.after did.second did.goes

pub returns-in_default-result-clause-went : goal.returns-in_default-result-clause-went
returns-in_default-result-clause-went g c =
    let had : c.args.self.now.passes ≡ Some c.in-Some.passes = cc (c.take.ensures.value, c.in-Some.is) in
    let did = c.move_with-passes.ensures in
    moves_on g.M.Names.types g.M.Names.words g.M.Names.version g.D.Disk.state g.E.Disk.state c.args.self.now _ c.in-Some.passes c.move_with-passes.result.0 c.args.job.now c.move_with-passes.new.file c.args.keeper.now c.move_with-passes.new.keeper had c.replace.ensures.after did.second
    refl did.disk.later c.segments_of-places.result.now c.segments_of-places.ensures.among c.segments_of-places.ensures.these did.came.same_file did.named (none_some c.args.self.now.stop (search rules))
    (λ s some. let none = none_some c.args.self.now.stop (search rules) in absurd (cc (none, some)))

pub returns-in_default-result-clause-did : goal.returns-in_default-result-clause-did
returns-in_default-result-clause-did g c =
    let had : c.args.self.now.passes ≡ Some c.in-Some.passes = cc (c.take.ensures.value, c.in-Some.is) in
    let did = c.move_with-passes.ensures in
    let none = none_some c.args.self.now.stop (search rules) in
    let names = c.args.self.now.second.names.now in
    let told = (g.E.Disk.state c.args.self.now.second.disk.now).seen in
    did_all g.M.Names.types g.M.Names.words g.M.Names.version g.D.Disk.state g.E.Disk.state c.args.self.now _ c.in-Some.passes c.move_with-passes.result.0 c.args.job.now c.move_with-passes.new.file c.args.keeper.now c.move_with-passes.new.keeper had c.replace.ensures.after did.second
    c.segments_of-places.result.now c.segments_of-places.ensures.these none
    c.segments_of-places.ensures.among did.came.same_file did.named none
    (subst (λ t. CameOver g.D.Disk.state (g.M.Names.version names) (texts_by g.M.Names.types g.M.Names.words names) c.segments_of-places.result.now told t c.args.keeper.now c.move_with-passes.new.keeper c.args.job.now c.move_with-passes.new.file) (ap is_ok c.in_default-result.is) did.came)
