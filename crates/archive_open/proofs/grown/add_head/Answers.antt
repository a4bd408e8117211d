use Rattle.std.proofs.Common.{refl}
use Rattle.archive_open.specs.Grown.{GrownView, grown_of}
use Rattle.archive_open.proofs.GrownLemmas.{head_grows, no_head_grows}
use Rattle.archive_open.proofs.grown.add_head.Goals as goal

pub returns-clause-added : goal.returns-clause-added
returns-clause-added g c = λ yes payload has.
    let old : GrownView = grown_of g.K.KeepsTexts.kept c.args.grown.now in
    let new : GrownView = grown_of g.K.KeepsTexts.kept (record { names = c.args.grown.now.names; files = c.go_on.new.files }) in
    head_grows payload c.args.head.now old new has refl (c.go_on.ensures.added yes).1

pub returns-clause-refused : goal.returns-clause-refused
returns-clause-refused g c = λ no payload has.
    no_head_grows payload c.args.head.now (grown_of g.K.KeepsTexts.kept c.args.grown.now) has (c.go_on.ensures.refused no)
