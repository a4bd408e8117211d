use Rattle.std.proofs.Common.{codes}
use Rattle.std.proofs.lemmas.Result.{IfOk-weaker}
use Rattle.clap.specs.Simple.{new_app}
use Rattle.command_words.specs.Built.{IsApp, leaf}
use Rattle.command_words.specs.Forms as forms
use Rattle.command_words.proofs.FormLemmas.{adds}
use Rattle.command_words.proofs.form.count.Goals as goal

pub returns : goal.returns
returns c =
    let s0 : IsApp c.new.result (new_app (codes "count")) = record { app_is = c.new.ensures.app; local = c.new.ensures.local } in
    let s1 = adds c.new.result c.in_ok-arg.field-0 c.needed.result _ (forms.needed (codes "by")) c.in_ok-arg.ensures s0 c.needed.ensures in
    let s2 = adds c.in_ok-arg.field-0 c.in_ok-arg-2.field-0 c.option.result _ (forms.option (codes "from")) c.in_ok-arg-2.ensures s1 c.option.ensures in
    let s3 = adds c.in_ok-arg-2.field-0 c.in_ok-arg-3.field-0 c.option-2.result _ (forms.option (codes "to")) c.in_ok-arg-3.ensures s2 c.option-2.ensures in
    let s4 = adds c.in_ok-arg-3.field-0 c.in_ok-arg-4.field-0 c.flag.result _ (forms.flag (codes "stats")) c.in_ok-arg-4.ensures s3 c.flag.ensures in
    let s5 = adds c.in_ok-arg-4.field-0 c.in_ok-arg-5.field-0 c.option-3.result _ (forms.option (codes "workers")) c.in_ok-arg-5.ensures s4 c.option-3.ensures in
    IfOk-weaker c.arg-6.result _ (λ r. IsApp r (leaf forms.count)) (λ r added. adds c.in_ok-arg-5.field-0 r c.word.result _ (forms.word (codes "pattern")) added s5 c.word.ensures)
    c.arg-6.ensures
