use Rattle.std.proofs.Common.{ap, arith, subst, sym, ◌≡◌, ◌≤◌, ◌∙◌, ℕ, List, length, map}
use Rattle.std.proofs.lemmas.List.{length-map}
use Rattle.log_sources.specs.Sources.{refusal_of, str_bytes}
use Rattle.disk_journal.specs.Journal.{state_of}
use Rattle.write_commands.specs.IngestPrints.{came_of}
use Rattle.file_outcomes.specs.Jobs.{IsToldBy, opens_of, sources_of}
use Rattle.file_outcomes.specs.StepsCauses.{into_journal, logs_around}
use Rattle.file_outcomes.specs.Naming.{AreNumbered}
use Rattle.file_outcomes.specs.declared.file_report.FileReport.{FileReport}
use Rattle.ingest_workers.specs.declared.job.Job.{Job}
use Rattle.write_commands.proofs.FollowLemmas.{rests_same}
use Rattle.write_commands.proofs.JobLemmas.{are_new, as_many, as_many_done, did_go_on}
use Rattle.write_commands.proofs.PopLemmas.{lent_back, told_back}
use Rattle.write_commands.proofs.CutLemmas.{all_cut, unbegun_cut}
use Rattle.write_commands.proofs.FileCauseLemmas.{all_came, all_unbegun}
use Rattle.write_commands.proofs.InTurnLemmas.{did_in_turn, unbegun_in_turn}
use Rattle.write_commands.proofs.TakeInLemmas.{are_jobs_of, came_of_log, did_take_into, none_takes_into}
use Rattle.write_commands.proofs.ingest.take_in.Goals as goal

-- ---- without memory to begin

pub returns-in_default-clause-taken : goal.returns-in_default-clause-taken
returns-in_default-clause-taken g c =
    let law = (g.met.D.Disk g.world.𝓛 g.world.𝓜 g.world.𝓡 ((λ s x. x), (λ x. x), (λ x. x), λ x. x)).lawful in
    none_takes_into c.args.asked.segment (omega (arith, c.requires.limits.segment.0)) _ _ c.args.named.first c.refuse_all.new.taken.items c.refuse_all.ensures.names c.refuse_all.ensures.begun c.args.journal (law c.args.journal.disk.now) c.requires.named.opens

pub returns-in_default-clause-causes : goal.returns-in_default-clause-causes
returns-in_default-clause-causes g c = record {
  each = all_unbegun (g.H.Shelf.content c.args.shelf.now) _ _ _ _ c.refuse_all.new.taken.items c.refuse_all.ensures.begun;
  cut = unbegun_cut (g.H.Shelf.content c.args.shelf.now) _ _ c.refuse_all.new.taken.items c.refuse_all.ensures.begun;
  in_turn = λ one. unbegun_in_turn (g.H.Shelf.content c.args.shelf.now) (into_journal (state_of c.args.journal) c.args.asked.segment c.args.named.first (map (came_of (g.H.Shelf.content c.args.shelf.now)) c.refuse_all.new.taken.items)) c.refuse_all.new.taken.items c.refuse_all.ensures.begun;
}

pub returns-in_default-clause-along : goal.returns-in_default-clause-along
returns-in_default-clause-along g c = rests_same (g.B.Beside.known c.args.beside.now) c.args.journal c.requires.beside

pub returns-in_default-clause-logs : goal.returns-in_default-clause-logs
returns-in_default-clause-logs g c = record {
  bytes = c.open_all.ensures.content;
  opens = c.open_all.ensures.opens;
  reads = λ n. omega (arith, c.open_all.ensures.reads n);
}

-- ---- the jobs

pub begin_jobs-requires-clause-few : goal.begin_jobs-requires-clause-few
begin_jobs-requires-clause-few g c =
    let many = as_many _ (map str_bytes c.args.asked.files.now) c.in-Ok.opened.sources.items c.in-Ok.ensures.came in
    omega (arith, many, length-map c.args.asked.files.now str_bytes, c.in-Ok.opened.sources.ok.0, c.requires.named.few)

pub begin_jobs-requires-clause-room : goal.begin_jobs-requires-clause-room
begin_jobs-requires-clause-room g c =
    let many = as_many _ (map str_bytes c.args.asked.files.now) c.in-Ok.opened.sources.items c.in-Ok.ensures.came in (
      omega (arith, many, length-map c.args.asked.files.now str_bytes, c.in-Ok.opened.sources.ok.0, c.in-Ok.ensures.room.0),
      omega (arith, many, length-map c.args.asked.files.now str_bytes, c.in-Ok.opened.sources.ok.0, c.in-Ok.ensures.room.1),
    )

pub do_jobs-journal-requires-clause-jobs : goal.do_jobs-journal-requires-clause-jobs
do_jobs-journal-requires-clause-jobs g c κs within =
    let many = as_many _ (map str_bytes c.args.asked.files.now) c.in-Ok.opened.sources.items c.in-Ok.ensures.came in
    let counted : length c.begin_jobs.new.jobs.items ≡ length c.args.asked.files.now
    = omega (arith, many, length-map c.args.asked.files.now str_bytes, c.in-Ok.opened.sources.ok.0, c.begin_jobs.ensures.count, c.begin_jobs.new.jobs.ok.0) in
    rw c.as_mut_slice.ensures.value (are_new _ _ _ _ _ c.begin_jobs.new.jobs.items c.requires.named c.begin_jobs.ensures.numbered counted)

pub end_jobs-requires-clause-count : goal.end_jobs-requires-clause-count
end_jobs-requires-clause-count g c =
    let many = as_many _ (map str_bytes c.args.asked.files.now) c.in-Ok.opened.sources.items c.in-Ok.ensures.came in (
      omega (arith, many, length-map c.args.asked.files.now str_bytes, c.in-Ok.opened.sources.ok.0, c.begin_jobs.ensures.count),
      ap length (c.as_slice.ensures.value ∙ c.begin_jobs.ensures.openings) ∙ (length-map c.in-Ok.opened.sources.items refusal_of ∙ (many ∙ length-map c.args.asked.files.now str_bytes)),
    )

pub end_jobs-requires-clause-sources : goal.end_jobs-requires-clause-sources
end_jobs-requires-clause-sources g c =
    let many = as_many _ (map str_bytes c.args.asked.files.now) c.in-Ok.opened.sources.items c.in-Ok.ensures.came in
    omega (arith, many, length-map c.args.asked.files.now str_bytes, c.in-Ok.opened.sources.ok.0, c.in-Ok.opened.sources.ok.1, c.begin_jobs.ensures.room)

-- ---- the logs

pub returns-clause-logs : goal.returns-clause-logs
returns-clause-logs g c = record {
  bytes = λ n. c.close_logs.ensures.content n ∙ c.open_all.ensures.content n;
  opens = λ n. omega (arith, c.open_all.ensures.opens n, c.close_logs.ensures.opens n);
  reads = λ n. omega (arith, c.open_all.ensures.reads n, c.close_logs.ensures.reads n);
}

-- ---- what the journal is left with

pub returns-clause-goes_on : goal.returns-clause-goes_on
returns-clause-goes_on g c =
    let law = (g.met.D.Disk g.world.𝓛 g.world.𝓜 g.world.𝓡 ((λ s x. x), (λ x. x), (λ x. x), λ x. x)).lawful in
    did_go_on _ _ _ _ _ c.args.journal c.do_jobs-journal.result _ _ (law c.args.journal.disk.now) c.do_jobs-journal.ensures.did

pub returns-clause-taken : goal.returns-clause-taken
returns-clause-taken g c =
    let law = (g.met.D.Disk g.world.𝓛 g.world.𝓜 g.world.𝓡 ((λ s x. x), (λ x. x), (λ x. x), λ x. x)).lawful in
    let is = c.as_mut_slice.ensures.value in
    let sourced = ap sources_of is ∙ c.begin_jobs.ensures.sourced in
    let opening = ap opens_of is ∙ c.begin_jobs.ensures.opened in
    let numbered = subst (AreNumbered c.args.named.first) (sym is) c.begin_jobs.ensures.numbered in
    let openings = c.as_slice.ensures.value ∙ c.begin_jobs.ensures.openings in
    let counted = as_many_done _ _ _ _ _ c.args.journal c.do_jobs-journal.result c.as_mut_slice.result.now c.do_jobs-journal.new.jobs c.do_jobs-journal.ensures.did in
    let told = told_back (λ (jobs : List (Job _)) (i : ℕ) (file : FileReport). IsToldBy c.as_slice.result.now jobs i file) c.end_jobs.new.taken.items c.begin_jobs.new.jobs.len c.do_jobs-journal.new.jobs _ (omega (arith, counted, ap length is, c.begin_jobs.new.jobs.ok.0)) c.end_jobs.ensures.told in
    did_take_into g.H.Src.Source.left g.H.Src.Source.name g.H.Src.Source.faults (g.H.Shelf.content c.args.shelf.now) (g.H.Shelf.open_faults c.args.shelf.now) (g.H.Shelf.open_faults c.open_all.new.shelf)
    (map str_bytes c.args.asked.files.now) c.in-Ok.opened.sources.items c.in-Ok.ensures.came c.args.named.first c.as_mut_slice.result.now sourced opening numbered c.as_slice.result.now openings c.do_jobs-journal.new.jobs c.end_jobs.new.taken.items c.end_jobs.ensures.names told
    c.args.journal c.do_jobs-journal.result (law _) (law _) c.requires.named.opens c.args.asked.workers c.args.asked.segment (omega (arith, c.requires.limits.segment.0)) c.do_jobs-journal.ensures.did

-- ---- why files are not whole

pub returns-clause-causes : goal.returns-clause-causes
returns-clause-causes g c =
    let law = (g.met.D.Disk g.world.𝓛 g.world.𝓜 g.world.𝓡 ((λ s x. x), (λ x. x), (λ x. x), λ x. x)).lawful in
    let is = c.as_mut_slice.ensures.value in
    let sourced = ap sources_of is ∙ c.begin_jobs.ensures.sourced in
    let opening = ap opens_of is ∙ c.begin_jobs.ensures.opened in
    let numbered = subst (AreNumbered c.args.named.first) (sym is) c.begin_jobs.ensures.numbered in
    let openings = c.as_slice.ensures.value ∙ c.begin_jobs.ensures.openings in
    let counted = as_many_done _ _ _ _ _ c.args.journal c.do_jobs-journal.result c.as_mut_slice.result.now c.do_jobs-journal.new.jobs c.do_jobs-journal.ensures.did in
    let told = told_back (λ (jobs : List (Job _)) (i : ℕ) (file : FileReport). IsToldBy c.as_slice.result.now jobs i file) c.end_jobs.new.taken.items c.begin_jobs.new.jobs.len c.do_jobs-journal.new.jobs _ (omega (arith, counted, ap length is, c.begin_jobs.new.jobs.ok.0)) c.end_jobs.ensures.told in
    let logs = logs_around g.H.Shelf.unread g.H.Shelf.open_faults g.H.Shelf.read_faults c.args.shelf.now c.close_logs.new.shelf in
    let opens_later : (n : List ℕ) → g.H.Shelf.open_faults c.open_all.new.shelf n ≤ g.H.Shelf.open_faults c.close_logs.new.shelf n = λ n. omega (arith, c.close_logs.ensures.opens n) in
    let reads_sooner : (n : List ℕ) → g.H.Shelf.read_faults c.args.shelf.now n ≤ g.H.Shelf.read_faults c.open_all.new.shelf n = λ n. omega (arith, c.open_all.ensures.reads n) in
    let reads_later : (n : List ℕ) → g.H.Shelf.read_faults c.close_logs.new.shelf n ≤ g.H.Shelf.read_faults c.close_logs.new.shelf n = λ n. omega arith in
    let of = are_jobs_of g.H.Src.Source.left g.H.Src.Source.name g.H.Src.Source.faults (g.H.Shelf.content c.args.shelf.now) (g.H.Shelf.open_faults c.args.shelf.now) (g.H.Shelf.open_faults c.open_all.new.shelf)
    (map str_bytes c.args.asked.files.now) c.in-Ok.opened.sources.items c.in-Ok.ensures.came c.args.named.first c.as_mut_slice.result.now sourced opening numbered c.as_slice.result.now openings c.do_jobs-journal.new.jobs c.end_jobs.new.taken.items c.end_jobs.ensures.names told c.args.journal.header.version in
    let each = came_of_log g.H.Src.Source.left g.H.Src.Source.name g.H.Src.Source.faults (g.H.Shelf.content c.args.shelf.now) (g.H.Shelf.open_faults c.args.shelf.now) (g.H.Shelf.open_faults c.open_all.new.shelf)
    (map str_bytes c.args.asked.files.now) c.in-Ok.opened.sources.items c.in-Ok.ensures.came c.args.named.first c.as_mut_slice.result.now sourced opening numbered c.as_slice.result.now openings c.do_jobs-journal.new.jobs c.end_jobs.new.taken.items c.end_jobs.ensures.names told in
    record {
      each = all_came g.H.Src.Source.left g.H.Src.Source.name g.H.Src.Source.faults logs (g.H.Shelf.open_faults c.open_all.new.shelf) (g.H.Shelf.read_faults c.open_all.new.shelf) (g.H.Shelf.read_faults c.close_logs.new.shelf) opens_later reads_sooner reads_later
          c.args.journal c.do_jobs-journal.result (map (came_of (g.H.Shelf.content c.args.shelf.now)) c.end_jobs.new.taken.items) c.args.asked.segment c.args.named.first c.as_mut_slice.result.now c.do_jobs-journal.new.jobs of each
          (law _) c.args.asked.workers c.do_jobs-journal.ensures.did c.end_jobs.new.sources.items
          (c.end_jobs.ensures.sources ∙ ap sources_of (lent_back c.begin_jobs.new.jobs.len c.do_jobs-journal.new.jobs _ (omega (arith, counted, ap length is, c.begin_jobs.new.jobs.ok.0)))) c.close_logs.ensures.counted;
      cut = all_cut g.H.Src.Source.left g.H.Src.Source.name g.H.Src.Source.faults (g.H.Shelf.open_faults c.args.shelf.now) (g.H.Shelf.open_faults c.open_all.new.shelf)
          c.args.journal c.do_jobs-journal.result (map (came_of (g.H.Shelf.content c.args.shelf.now)) c.end_jobs.new.taken.items) c.args.asked.segment c.as_mut_slice.result.now c.do_jobs-journal.new.jobs each c.end_jobs.new.sources.items
          (c.end_jobs.ensures.sources ∙ ap sources_of (lent_back c.begin_jobs.new.jobs.len c.do_jobs-journal.new.jobs _ (omega (arith, counted, ap length is, c.begin_jobs.new.jobs.ok.0)))) (g.H.Shelf.unread c.open_all.new.shelf) (g.H.Shelf.unread c.close_logs.new.shelf) c.close_logs.ensures.unread
          c.args.asked.workers c.do_jobs-journal.ensures.did;
      in_turn = did_in_turn g.H.Src.Source.left g.H.Src.Source.name g.H.Src.Source.faults (g.H.Shelf.open_faults c.args.shelf.now) (g.H.Shelf.open_faults c.open_all.new.shelf)
          c.args.journal (map (came_of (g.H.Shelf.content c.args.shelf.now)) c.end_jobs.new.taken.items) c.args.asked.segment c.args.named.first c.as_mut_slice.result.now c.do_jobs-journal.new.jobs of each
          c.do_jobs-journal.result c.args.asked.workers c.do_jobs-journal.ensures.did;
    }
