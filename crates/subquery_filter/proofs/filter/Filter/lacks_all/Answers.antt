use Rattle.std.proofs.Common.{rules}
use Rattle.std.specs.Prelude.{bit_and, bit_or}
use Rattle.subquery_filter.proofs.BitLemmas.{has_left, has_right, has_self, has_through}
use Rattle.subquery_filter.proofs.filter.Filter.lacks_all.Goals as goal

pub returns : goal.returns
returns c = λ yes.
    let own = c.args.test.now.has in
    let numbers = c.args.test.now.sums.numbers in
    let words = bit_and c.args.test.now.sums.words c.args.brought in
    let front = bit_or own c.args.stamped in
    let by_slots = bit_or numbers words in
    record {
      bits = bit_or front by_slots;
      has = has_left front by_slots own (has_left own c.args.stamped own (has_self own));
      numbers = has_through (bit_or front by_slots) by_slots numbers (has_right front by_slots) (has_left numbers words numbers (has_self numbers));
      words = has_through (bit_or front by_slots) by_slots words (has_right front by_slots) (has_right numbers words);
      stamps = has_left front by_slots c.args.stamped (has_right own c.args.stamped);
      lacks = c.has.ensures.no (search rules);
    }
