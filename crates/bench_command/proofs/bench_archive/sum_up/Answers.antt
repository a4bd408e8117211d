use Rattle.std.proofs.Common.{◌≡◌, ◌∙◌, inl, inr, refl, sym, rules, None}
use Rattle.std.specs.List.{All}
use Rattle.file_outcomes.specs.declared.file_report.FileReport.{FileReport}
use Rattle.bench_command.proofs.BenchLemmas.{ends_none, ends_some, parts_told, summed_up}
use Rattle.bench_command.proofs.bench_archive.sum_up.Goals as goal

pub returns-then-not-all_whole-clause-told : goal.returns-then-not-all_whole-clause-told
returns-then-not-all_whole-clause-told g c = λ logs content unread opens reads.
    let part : ¬ All (λ (file : FileReport). file.refusal ≡ None) c.args.files.now = search rules in
    inl (parts_told logs c.args.files.now _ _ part c.report_taken.ensures.status c.report_taken.ensures.said refl refl)

pub returns-in-None-clause-told : goal.returns-in-None-clause-told
returns-in-None-clause-told g c = λ logs content unread opens reads.
    let whole : All (λ (file : FileReport). file.refusal ≡ None) c.args.files.now = search rules in
    let done = c.summarize-outcome.ensures in
    inr (summed_up logs c.args.files.now _ (g.D.Disk.state c.args.disk.now) _ _ c.messages_of.result c.summarize-outcome.result whole c.messages_of.ensures (ends_none _ _ (sym c.refusal_of_read.ensures ∙ c.in-None.is) refl) done.prints done.keeps done.disk done.sink
    (λ at is. done.damaged at (search (rules, is))))

pub returns-in-Some-clause-told : goal.returns-in-Some-clause-told
returns-in-Some-clause-told g c = λ logs content unread opens reads.
    let whole : All (λ (file : FileReport). file.refusal ≡ None) c.args.files.now = search rules in
    let done = c.summarize-outcome.ensures in
    inr (summed_up logs c.args.files.now _ (g.D.Disk.state c.args.disk.now) _ _ c.messages_of.result c.summarize-outcome.result whole c.messages_of.ensures (ends_some _ _ c.in-Some.refusal _ (sym c.refusal_of_read.ensures ∙ c.in-Some.is) c.report.ensures.status c.report.ensures.said) done.prints done.keeps done.disk done.sink
    (λ at is. done.damaged at (search (rules, is))))
