use Rattle.std.proofs.Common.{◌≡◌, ◌*◌, ◌≤◌, take}
use Rattle.std.specs.List.{sum_by}
use Rattle.file_outcomes.specs.declared.file_report.FileReport.{FileReport}
use Rattle.bench_command.proofs.bench_archive.messages_of.Given as goal

abbrev pub invariant-loop-file : goal.invariant-loop-file
invariant-loop-file l = (l.sum ≡ sum_by (λ (file : FileReport). file.messages) (take l.file-index l.files)) × (l.sum ≤ l.file-index * 18446744073709551615)
