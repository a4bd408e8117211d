use Rattle.std.proofs.Common.{rules, ◌≡◌, All, false}
use Rattle.logtype_text.specs.TypeText.{is_escaped}
use Rattle.subquery_filter.proofs.HoldLemmas.{no_run_nowhere}
use Rattle.subquery_filter.proofs.runs.may_hold.Goals as goal

pub returns-in-None : goal.returns-in-None
returns-in-None c = λ no.
    let plain : All (λ b. is_escaped b ≡ false) c.args.word.now = search rules in
    no_run_nowhere c.args.text.now c.args.word.now plain c.in-None.ensures
