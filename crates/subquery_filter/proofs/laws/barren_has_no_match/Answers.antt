use Rattle.subquery_filter.proofs.BarrenLemmas.{barren_has_no_match}
use Rattle.subquery_filter.proofs.laws.barren_has_no_match.Goals as goal

pub returns : goal.returns
returns c = barren_has_no_match c.needs_are_brought.ensures.words c.stamp_texts_are_short.ensures
