use Rattle.std.proofs.Common.{◌≤◌, ◌∷◌, [], ◌∙◌, ap, refl, subst, sym}
use Rattle.std.specs.Prelude.{Err}
use Rattle.std.specs.List.{flat_map}
use Rattle.command_refusals.specs.Outcome.{answer_of, from_print, of_read}
use Rattle.command_refusals.specs.Refusal.{Says, line_of}
use Rattle.command_answers.specs.Taken.{gravest_of_call}
use Rattle.file_outcomes.specs.Taken.{error_of}
use Rattle.watch_command.proofs.RestLemmas.{TellsOther, TellsReader, rest_cut, rest_told, tells_cut, tells_files}
use Rattle.watch_command.proofs.lines.print_rest.Goals.{in-Ok, in-Err}
use Rattle.watch_command.proofs.lines.print_rest.Goals as goal

pub returns-clause-prints : goal.returns-clause-prints
returns-clause-prints g c = λ logs content unread opens reads.
    let reader = answer_of c.args.watched.reader in
    let files = c.args.files.now in
    let written = g.K.Sink.written in
    let faults = g.K.Sink.faults in
    let one = c.answer-status.result in
    let mid = c.answer-status.new.err in
    let last = c.match-printed.err in
    let first : TellsReader reader one (written c.args.err.now) (written mid) (faults c.args.err.now) (faults mid) = record {
      status_is = rw (← c.refusal_of_read.ensures) c.answer-status.ensures.status;
      said = rw (← c.refusal_of_read.ensures) c.answer-status.ensures.said;
      later = c.answer-status.ensures.later;
    } in
    elim c.match-printed.branch [
      | in-Ok w ↦
          let text = flat_map error_of files in
          let then : TellsOther one w.report_taken-other.result c.graver_of_call.result (written mid) (written last) (faults mid) (faults last) text = record {
            status_is = c.graver_of_call.ensures ∙ ap (λ n. gravest_of_call (one ∷ n ∷ [])) w.other-is;
            said = subst (λ e. Says (written mid) (written e) (faults mid) (faults e) text) (sym w.err-is) w.report_taken-other.ensures.said;
            later = subst (λ e. faults mid ≤ faults e) (sym w.err-is) w.report_taken-other.ensures.later;
          } in
          rest_told logs reader files c.args.watched.first _ c.graver_of_call.result
          (tells_files reader _ one w.report_taken-other.result c.graver_of_call.result (faults mid) (written mid) first logs files w.report_taken-other.ensures.status then)
          (λ sink. ap written (c.print_files-printed.ensures.silent sink).1) w.in-Ok.ensures.done w.in-Ok.ensures.counts.steady
      | in-Err w ↦
          let refusal = w.in-Err.refusal in
          let text = line_of [] (of_read (from_print refusal)) in
          let then : TellsOther one w.report-other.result c.graver_of_call.result (written mid) (written last) (faults mid) (faults last) text = record {
            status_is = c.graver_of_call.ensures ∙ ap (λ n. gravest_of_call (one ∷ n ∷ [])) w.other-is;
            said = subst (λ e. Says (written mid) (written e) (faults mid) (faults e) text) (sym w.err-is) (rw (← w.refusal_of_print.ensures) w.report-other.ensures.said);
            later = subst (λ e. faults mid ≤ faults e) (sym w.err-is) w.report-other.ensures.later;
          } in
          rest_cut logs reader files c.args.watched.first _ c.graver_of_call.result refusal (λ sink. cc ((w.in-Err.ensures.silent sink).0))
          (tells_cut reader _ one w.report-other.result c.graver_of_call.result (faults mid) (written mid) first refusal (rw (← w.refusal_of_print.ensures) w.report-other.ensures.status) then)
          w.in-Err.ensures.front (λ is. w.in-Err.ensures.counts.failed (ap (λ e. Err e) is)) (λ other. w.in-Err.ensures.counts.spared refusal refl other)
    ]
