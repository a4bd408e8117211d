use Rattle.std.proofs.Common.{List, refl, subst, sym}
use Rattle.subquery_filter.specs.declared.asking.AskedTypes.{AskedTypes}
use Rattle.subquery_filter.specs.declared.filter.Filter.{Filter}
use Rattle.subquery_filter.specs.declared.token.Token.{Token}
use Rattle.subquery_filter.specs.declared.verdicts.Verdict.{Verdict}
use Rattle.subquery_filter.specs.Asking.{AreAsked, HasAsked}
use Rattle.subquery_filter.specs.Filter.{AreNeeds, TellsSmall, others_of}
use Rattle.subquery_filter.proofs.AskingLemmas.{alone_of_all, asked_from, tests_of_all}
use Rattle.subquery_filter.proofs.MarkLemmas.{told_again}
use Rattle.subquery_filter.proofs.asking.Asking.finish.Goals as goal

pub returns-clause-asked : goal.returns-clause-asked
returns-clause-asked c = λ ps f types has.
    let asking = c.args.self in
    let own = asking.filter in
    let h : HasAsked ps own types asking = subst (λ (x : Filter). HasAsked ps x types asking) (sym has.begun) has in
    let filter : Filter = record own {
      verdicts = asking.verdicts;
      needs = c.in_ok-needs.needs;
      tests = asking.tests;
      slots = asking.slots;
      small = c.in_ok-small.small;
      alone = asking.alone;
    } in
    let asked : AskedTypes = record { filter = filter; constants = asking.constants } in
    subst (λ (x : Filter). AreAsked ps x types asked) has.begun
    (asked_from ps own types asked refl refl
    (λ all first a. record {
      cut = a.cut;
      are = a.are;
      wanted = a.wanted;
      numeric = a.numeric;
      tests = tests_of_all ps own.tokens.items (others_of own) types all asking.slots.items asking.tests.items h.counts.of_tests first h.tests;
      needles = a.needles;
      told = told_again own filter asking.tests.items asking.alone.items asking.verdicts.items refl refl refl refl h.told;
      needs = subst (λ (l : List Verdict). AreNeeds filter l c.in_ok-needs.needs.items) c.as_slice-3.ensures.value c.in_ok-needs.ensures;
      brought = a.brought;
      numbers = a.numbers;
      small = subst (λ (l : List Token). TellsSmall l c.in_ok-small.small) c.as_slice-2.ensures.value c.in_ok-small.ensures;
      stamps = a.stamps;
      stamped = a.stamped;
      runs = a.runs;
      alone = alone_of_all own.runs.items types all asking.alone.items h.counts.of_alone first h.alone;
      run_stamps = a.run_stamps;
      run_stamped = a.run_stamped;
    })
    h.constants)
