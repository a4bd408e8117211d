use Rattle.std.proofs.Common.{[], ap, length}
use Rattle.subquery_filter.proofs.AloneLemmas.{alone_none}
use Rattle.subquery_filter.proofs.AskingLemmas.{constants_none}
use Rattle.subquery_filter.proofs.FilterLemmas.{tests_none}
use Rattle.subquery_filter.proofs.MarkLemmas.{told_none}
use Rattle.subquery_filter.specs.Filter.{others_of}
use Rattle.std.proofs.Common.{refl}
use Rattle.subquery_filter.proofs.asking.Asking.begin.Goals as goal

pub returns : goal.returns
returns c = λ types a.
    let ps = c.args.plan.now in
    let f = c.args.filter in
    record {
      begun = refl;
      question = c.in_ok-question.ensures.question types a;
      others = c.in_ok-question.ensures.others;
      needed = c.in_ok-question.ensures.needed;
      tests = tests_none ps f.tokens.items (others_of f) [] c.new.result.items c.new-2.result.items c.new-2.ensures.items;
      alone = alone_none f.runs.items [] c.new-3.result.items c.new-3.ensures.items;
      told = told_none f c.new-2.result.items c.new-3.result.items c.new-4.result.items c.new-4.ensures.items;
      constants = constants_none ps c.new-5.result.items c.new-5.ensures.items;
      counts = record {
        of_tests = ap length c.new-2.ensures.items;
        of_alone = ap length c.new-3.ensures.items;
        of_verdicts = ap length c.new-4.ensures.items;
        of_constants = ap length c.new-5.ensures.items;
      };
    }
