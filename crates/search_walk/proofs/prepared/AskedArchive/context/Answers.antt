use Rattle.std.proofs.Common.{◌∙◌, ap, List, subst, sym, ℕ}
use Rattle.std.specs.Prelude.{Option}
use Rattle.archive_open.specs.declared.files.FileEntry.{FileEntry}
use Rattle.search_walk.specs.Held.{Named, named}
use Rattle.search_walk.specs.StepsScope.{IsScope, scope}
use Rattle.search_walk.proofs.prepared.AskedArchive.context.Goals as goal

pub new-requires : goal.new-requires
new-requires g c =
    let n : Named = named (g.D.Disk.state c.args.disk.now).seen c.args.held.now in
    subst (λ (l : List (Option ℕ)). IsScope n c.args.query.now c.args.self.now.layouts c.args.self.now.asked l) (sym c.as_slice-found.ensures.value) c.requires

pub returns : goal.returns
returns g c =
    let n : Named = named (g.D.Disk.state c.args.disk.now).seen c.args.held.now in
    c.new.ensures ∙ ap (λ (l : List FileEntry). scope n c.args.query.now l) c.as_slice-files.ensures
