use Rattle.logtype_text.specs.declared.symbols.Symbol.TheVariants.{Byte}
use Rattle.subquery_filter.proofs.runs.past_byte.Goals as goal

pub returns-in_err-symbol-clause-none : goal.returns-in_err-symbol-clause-none
returns-in_err-symbol-clause-none c = rw c.from_residual.ensures (c.in_err-symbol.ensures.none (Byte c.args.byte))
