use Rattle.subquery_filter.proofs.FilterLemmas.{small_none}
use Rattle.subquery_filter.proofs.small.small_needed.Goals as goal

pub returns-then-least-ge-SMALL : goal.returns-then-least-ge-SMALL
returns-then-least-ge-SMALL c = record {
  least = c.least_of-least.ensures;
  bound = c.bound_of-bound.ensures c.least_of-least.ensures;
  marks = small_none c.args.tokens.now c.new-marks.result.items c.new-marks.ensures.items;
}

pub returns : goal.returns
returns c = record {
  least = c.least_of-least.ensures;
  bound = c.bound_of-bound.ensures c.least_of-least.ensures;
  marks = c.in_ok-marks.ensures c.least_of-least.ensures;
}
