use Rattle.std.proofs.Common.{length, refl}
use Rattle.std.proofs.lemmas.Option.{slice_get_read}
use Rattle.subquery_filter.proofs.rare.lacks_at.Goals as goal

pub returns-in-Some : goal.returns-in-Some
returns-in-Some c = λ yes.
    let tokens = c.args.tokens.now in
    let found = c.in-Some.ensures.lookup in
    let there = found.3 in
    record {
      place = c.args.place;
      token = c.in-Some.token.now;
      is = slice_get_read tokens (length tokens) c.args.place c.in-Some.token.now refl there.0 found.1;
      lacks = c.lacks_token.ensures.lacks yes;
      left = c.lacks_token.ensures.others yes;
    }
