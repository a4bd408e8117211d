use Rattle.std.proofs.lemmas.Result.{IfOk-weaker}
use Rattle.command_words.specs.Built.{IsApp, leaf}
use Rattle.command_words.specs.Forms as forms
use Rattle.command_words.specs.Forms.{clpa}
use Rattle.command_words.proofs.FormLemmas.{joins}
use Rattle.command_words.proofs.form.commands.Goals as goal

pub returns : goal.returns
returns c =
    let files : IsApp c.new.result (leaf forms.files) = record { app_is = c.new.ensures.app; local = c.new.ensures.local } in
    let check : IsApp c.new-2.result (leaf forms.check) = record { app_is = c.new-2.ensures.app; local = c.new-2.ensures.local } in
    let merge : IsApp c.new-3.result (leaf forms.merge) = record { app_is = c.new-3.ensures.app; local = c.new-3.ensures.local } in
    let upgrade : IsApp c.new-4.result (leaf forms.upgrade) = record { app_is = c.new-4.ensures.app; local = c.new-4.ensures.local } in
    let s1 = joins c.program.result c.in_ok-show.field-0 c.in_ok-subcommand.field-0 _ forms.show c.in_ok-subcommand.ensures c.program.ensures c.in_ok-show.ensures in
    let s2 = joins c.in_ok-subcommand.field-0 c.in_ok-scan.field-0 c.in_ok-subcommand-2.field-0 _ forms.scan c.in_ok-subcommand-2.ensures s1 c.in_ok-scan.ensures in
    let s3 = joins c.in_ok-subcommand-2.field-0 c.in_ok-create.field-0 c.in_ok-subcommand-3.field-0 _ forms.create c.in_ok-subcommand-3.ensures s2 c.in_ok-create.ensures in
    let s4 = joins c.in_ok-subcommand-3.field-0 c.in_ok-ingest.field-0 c.in_ok-subcommand-4.field-0 _ forms.ingest c.in_ok-subcommand-4.ensures s3 c.in_ok-ingest.ensures in
    let s5 = joins c.in_ok-subcommand-4.field-0 c.new.result c.in_ok-subcommand-5.field-0 _ forms.files c.in_ok-subcommand-5.ensures s4 files in
    let s6 = joins c.in_ok-subcommand-5.field-0 c.new-2.result c.in_ok-subcommand-6.field-0 _ forms.check c.in_ok-subcommand-6.ensures s5 check in
    let s7 = joins c.in_ok-subcommand-6.field-0 c.in_ok-decode.field-0 c.in_ok-subcommand-7.field-0 _ forms.decode c.in_ok-subcommand-7.ensures s6 c.in_ok-decode.ensures in
    let s8 = joins c.in_ok-subcommand-7.field-0 c.in_ok-search.field-0 c.in_ok-subcommand-8.field-0 _ forms.search c.in_ok-subcommand-8.ensures s7 c.in_ok-search.ensures in
    let s9 = joins c.in_ok-subcommand-8.field-0 c.in_ok-count.field-0 c.in_ok-subcommand-9.field-0 _ forms.count c.in_ok-subcommand-9.ensures s8 c.in_ok-count.ensures in
    let s10 = joins c.in_ok-subcommand-9.field-0 c.new-3.result c.in_ok-subcommand-10.field-0 _ forms.merge c.in_ok-subcommand-10.ensures s9 merge in
    let s11 = joins c.in_ok-subcommand-10.field-0 c.new-4.result c.in_ok-subcommand-11.field-0 _ forms.upgrade c.in_ok-subcommand-11.ensures s10 upgrade in
    IfOk-weaker c.subcommand-12.result _ (λ r. IsApp r clpa) (λ r added. joins c.in_ok-subcommand-11.field-0 c.in_ok-bench.field-0 r _ forms.bench added s11 c.in_ok-bench.ensures) c.subcommand-12.ensures
