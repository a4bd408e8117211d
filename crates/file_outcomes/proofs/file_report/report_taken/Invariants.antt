use Rattle.std.proofs.Common.{◌≡◌, ◌≤◌, map, take}
use Rattle.std.specs.List.{flat_map}
use Rattle.command_refusals.specs.Refusal.{Says}
use Rattle.file_outcomes.specs.Taken.{error_of}
use Rattle.command_answers.specs.Taken.{file_status, gravest}
use Rattle.file_outcomes.proofs.file_report.report_taken.Given as goal

abbrev pub invariant-loop-file : goal.invariant-loop-file
invariant-loop-file g l = record {
  status : l.status ≡ gravest (map (λ file. file_status file.refusal) (take l.file-index l.files));
  said : Says (g.K.Sink.written l.fn.err) (g.K.Sink.written l.err) (g.K.Sink.faults l.fn.err) (g.K.Sink.faults l.err) (flat_map error_of (take l.file-index l.files));
  later : g.K.Sink.faults l.fn.err ≤ g.K.Sink.faults l.err;
}
