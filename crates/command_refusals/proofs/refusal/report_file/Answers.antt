use Rattle.std.proofs.Common.{ℕ, List, ◌++◌, ap, append_assoc, codes}
use Rattle.command_refusals.specs.Refusal.{file_line_of, full_at}
use Rattle.command_refusals.proofs.RefusalLemmas.{Says-same}
use Rattle.command_refusals.proofs.refusal.report_file.Goals as goal

pub returns-in-ArchiveFull-clause-said : goal.returns-in-ArchiveFull-clause-said
returns-in-ArchiveFull-clause-said g c = Says-same _ _ _ _ _ (file_line_of c.args.name.now c.args.refusal) (rw c.in-ArchiveFull.is (ap (λ (t : List ℕ). codes "clpa: " ++ t) (append_assoc c.args.name.now (codes ": archive full at ") (full_at c.in-ArchiveFull.end c.in-ArchiveFull.need)))) c.say_archive_full.ensures.said
