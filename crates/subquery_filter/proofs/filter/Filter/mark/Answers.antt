use Rattle.std.proofs.Common.{List, rules, subst}
use Rattle.subquery_filter.specs.declared.token.Token.{Token}
use Rattle.subquery_filter.specs.StepsFilter.{HasLists}
use Rattle.subquery_filter.proofs.AloneLemmas.{alone_none}
use Rattle.subquery_filter.proofs.FilterLemmas.{tests_none}
use Rattle.subquery_filter.proofs.MarkLemmas.{marks_are, told_none}
use Rattle.subquery_filter.proofs.NeedLemmas.{needs_none}
use Rattle.subquery_filter.proofs.filter.Filter.mark.Goals as goal

pub returns : goal.returns
returns c = λ ps types words a have.
    let tokens = c.args.self.tokens.items in
    let marks = c.in_ok-marks.marks in
    let lists = subst (λ (l : List Token). HasLists marks.table.items marks.mask l c.args.lists.now) c.as_slice.ensures.value c.in_ok-marks.ensures in
    record {
      asks = record {
        cut = a.cut;
        are = a.are;
        wanted = a.wanted;
        numeric = a.numeric;
        tests = tests_none ps tokens _ types _ _ (search rules);
        needles = a.needles;
        told = told_none _ _ _ _ (search rules);
        needs = needs_none _ _ _ _ _ _ _ (search rules);
        brought = c.all.ensures;
        numbers = a.numbers;
        small = a.small;
        stamps = a.stamps;
        stamped = a.stamped;
        runs = a.runs;
        alone = alone_none _ types _ (search rules);
        run_stamps = a.run_stamps;
        run_stamped = a.run_stamped;
      };
      marks = marks_are tokens words c.args.self.needles.items c.args.lists.now marks a.needles have lists;
    }
