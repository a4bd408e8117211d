-- The adding of logs to an archive that was opened, from the start of the call on.
use Rattle.std.proofs.Common.{◌≡◌, subst, ℕ, List, length, map, Option}
use Rattle.log_seams.specs.Disk.{DiskState}
use Rattle.command_refusals.specs.GoesOn.{DiskGoesOn}
use Rattle.command_refusals.specs.Reading.{OverJournal}
use Rattle.command_refusals.specs.declared.outcome.AddRefusal.{AddRefusal}
use Rattle.command_answers.specs.Ingested.{Logs, TakesIn}
use Rattle.file_outcomes.specs.declared.file_report.FileReport.{FileReport}
use Rattle.write_commands.specs.declared.ingest.NewLogs.{NewLogs}
use Rattle.write_commands.specs.IngestPrints.{came_of}
use Rattle.write_commands.specs.StepsAdding.{AddsNewLogs, RefusesNewLogs, names_asked}
use Rattle.write_commands.proofs.CauseLemmas.{cause_sooner}
use Rattle.file_outcomes.proofs.LeavesLemmas.{from_archive}
use Rattle.file_outcomes.proofs.StepsLemmas.{Looked, no_more, nothing_sooner, same_bytes, takes_looked}
use Rattle.write_commands.proofs.WholeLemmas.{causes_looked}

module _ (old mid late : DiskState) (looked : Looked old mid late) (new : DiskState) (goes : DiskGoesOn late new) (asked : NewLogs) where
  -- the logs were added
  pub adds_looked : (content : List ℕ → Option (List ℕ)) (logs : Logs) (first : ℕ) (reports : List FileReport) → AddsNewLogs content logs asked first reports late new → AddsNewLogs content logs asked first reports old new
  adds_looked content logs first reports adds = record {
    names = adds.names;
    number = subst (λ told. OverJournal told (λ journal. first ≡ length journal.names)) (same_bytes old mid late looked) adds.number;
    taken = from_archive old late (λ h before bytes stood. TakesIn asked.segment h before stood (names_asked asked) (map (came_of content) reports) late new) (λ h before bytes stood. TakesIn asked.segment h before stood (names_asked asked) (map (came_of content) reports) old new)
        (same_bytes old mid late looked) (no_more old mid late looked)
        (λ h before bytes stood only takes. (takes_looked old mid late looked new goes h before bytes stood only (names_asked asked) (map (came_of content) reports) takes).0) adds.taken;
    causes = causes_looked old mid late looked logs asked.workers asked.segment new (map (came_of content) reports) adds.causes;
  }

  -- or they were not
  pub refuses_looked : (refusal : AddRefusal) → RefusesNewLogs asked late new refusal → RefusesNewLogs asked old new refusal
  refuses_looked refusal refuses = record {
    cause = cause_sooner (names_asked asked) old mid late new looked refusal refuses.cause;
    nothing = nothing_sooner old mid late looked new goes refuses.nothing;
  }
