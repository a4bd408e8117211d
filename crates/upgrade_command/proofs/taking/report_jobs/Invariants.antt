use Rattle.std.proofs.Common.{◌≡◌, take, vec_len, vec_capacity}
use Rattle.upgrade_command.specs.Files.{AreReports}
use Rattle.upgrade_command.proofs.taking.report_jobs.Given as goal

abbrev pub invariant-loop-place : goal.invariant-loop-place
invariant-loop-place g l = record {
  room : vec_capacity l.reports ≡ vec_capacity l.fn.reports;
  count : vec_len l.reports ≡ l.place;
  these : AreReports (take l.place l.jobs) l.reports.items l.files;
}
