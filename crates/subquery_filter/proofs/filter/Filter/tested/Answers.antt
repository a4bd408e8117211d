use Rattle.std.proofs.Common.{List, subst}
use Rattle.subquery_filter.specs.declared.run.Run.{Run}
use Rattle.subquery_filter.proofs.filter.Filter.tested.Goals as goal
use Rattle.std.specs.Prelude.{IfOk}
use Rattle.subquery_filter.specs.Filter.{IsAlone}

pub returns-clause-alone : goal.returns-clause-alone
returns-clause-alone c = subst (λ (l : List Run). IfOk c.test_type.result (λ tested. IsAlone l c.args.text.now tested.alone)) c.as_slice-runs.ensures.value c.test_type.ensures.alone
