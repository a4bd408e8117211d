use Rattle.std.proofs.Common.{◌≤◌, length, subst, arith}
use Rattle.dict_core.specs.Books.{BookState}
use Rattle.dict_core.proofs.LookupLemmas.{number_is}
use Rattle.dict_core.proofs.book.Book.number_or_none.Goals as goal

pub returns : goal.returns
returns c =
    let few : length c.self.inside.texts ≤ 2147483648 = omega (arith, c.self.invariant.within, c.self.invariant.most) in
    let known = subst (λ (s : BookState). length s.texts ≤ 2147483648) c.self.view_is few in
    rw c.unwrap_or.ensures (number_is c.args.self.now.texts c.args.text.now c.number_of.result known c.number_of.ensures.some c.number_of.ensures.none)
