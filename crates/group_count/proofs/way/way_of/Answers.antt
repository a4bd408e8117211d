use Rattle.std.proofs.Common.{refl, rules, subst}
use Rattle.wild_match.specs.Matches.{Match}
use Rattle.search_meaning.specs.Journal.{asked}
use Rattle.group_count.proofs.ColumnLemmas.{many_match, no_bound, not_all, some_items}
use Rattle.group_count.proofs.way.way_of.Goals as goal

pub returns-then-not-plain : goal.returns-then-not-plain
returns-then-not-plain c = not_all (asked c.args.pattern.now c.args.range.now) _ c.in_ok-plain.ensures refl

pub returns-then-not-has_no_bound : goal.returns-then-not-has_no_bound
returns-then-not-has_no_bound c = not_all (asked c.args.pattern.now c.args.range.now) _ c.in_ok-plain.ensures refl

pub returns-then-is_empty : goal.returns-then-is_empty
returns-then-is_empty c = not_all (asked c.args.pattern.now c.args.range.now) _ c.in_ok-plain.ensures refl

pub returns : goal.returns
returns c = record {
  plain = c.in_ok-plain.ensures;
  all = λ is.
      let none = c.has_no_bound.ensures (search rules) in
      record {
        matches = λ text. subst (λ items. Match items text) c.as_slice-items.ensures
            (many_match c.as_slice-items.result.now (c.are_many-all.ensures is) (some_items c.as_slice-items.result.now (search rules)) text);
        plain = c.in_ok-plain.ensures.0 (search rules);
        holds = no_bound c.args.range.now none.0 none.1;
      };
}
