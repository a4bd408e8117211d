use Rattle.search_engine.proofs.LawLemmas.{exact_expands}
use Rattle.search_engine.proofs.laws.exact_expands_printed.Goals as goal

pub returns : goal.returns
returns c = exact_expands c.wide_is_wider.ensures.wider c.wide_is_wider.ensures.exact
