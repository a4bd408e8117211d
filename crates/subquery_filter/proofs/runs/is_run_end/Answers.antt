use Rattle.std.proofs.Common.{refl}
use Rattle.logtype_text.specs.declared.symbols.Symbol.TheVariants.{Byte}
use Rattle.subquery_filter.proofs.runs.is_run_end.Goals as goal

pub returns-in-None : goal.returns-in-None
returns-in-None c = (λ yes b rest same. absurd (c.in-None.ensures.none (Byte b) rest same), λ ends. refl)
