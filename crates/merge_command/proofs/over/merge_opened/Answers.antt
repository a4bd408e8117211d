use Rattle.std.proofs.Common.{◌∙◌, refl, ap, length, arith}
use Rattle.archive_open.specs.Archive.{shown}
use Rattle.archive_open.specs.Kept.{Kept}
use Rattle.archive_merge.specs.Laws.{texts_kept}
use Rattle.merge_command.specs.Came.{kept_by}
use Rattle.merge_command.proofs.WholeLemmas.{ends_shown}
use Rattle.merge_command.proofs.over.merge_opened.Goals as goal

pub merge_into-requires-clause-begin : goal.merge_into-requires-clause-begin
merge_into-requires-clause-begin g c =
    let may = c.requires.begin in
    record {
      version_is = ap (λ (k : Kept). k.version) c.names.ensures ∙ may.version_is;
      opens = may.opens;
      holds = may.holds;
      few = omega (arith, may.few, ap length (c.as_slice.ensures ∙ c.files.ensures));
    }

pub returns-clause-ends : goal.returns-clause-ends
returns-clause-ends g c =
    ends_shown _ (shown kept_by c.args.second.now) (g.E.Disk.state c.args.disk.now).seen c.as_slice.result.now c.args.first c.merge_into.new.files.items c.merge_into.result.refusal c.args.journal c.merge_into.result.journal
    (ap (λ (k : Kept). k.version) c.names.ensures) (ap texts_kept c.names.ensures) refl (c.as_slice-2.ensures ∙ c.segments.ensures) (c.as_slice.ensures ∙ c.files.ensures) c.merge_into.ensures.ends

pub returns-clause-none : goal.returns-clause-none
returns-clause-none g c = λ is. c.merge_into.ensures.none (c.as_slice.ensures ∙ (c.files.ensures ∙ is))
