use Rattle.std.proofs.Common.{rules}
use Rattle.std.specs.Prelude.{bit_or, slice_index_or}
use Rattle.subquery_filter.proofs.BitLemmas.{has_left, has_right, has_self, has_through}
use Rattle.subquery_filter.proofs.filter.Filter.lacks_hits.Goals as goal

pub returns : goal.returns
returns c = λ yes tells.
    let f = c.args.self.now in
    let test = c.args.test.now in
    let may = c.args.may.tokens in
    let own = bit_or test.has f.numeric in
    let bits = bit_or own may in
    record {
      bits = bits;
      has = has_left own may test.has (has_left test.has f.numeric test.has (has_self test.has));
      numeric = has_left own may f.numeric (has_right test.has f.numeric);
      words = c.are_open.ensures yes;
      stamp = λ stamps s stamped j d lt lies. has_through bits may (slice_index_or f.tokens.items j d).bit (has_right own may) (tells.tokens stamps s stamped j d lt lies);
      lacks = c.has.ensures.no (search rules);
    }
