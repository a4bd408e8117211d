use Rattle.std.proofs.Common.{◌≡◌, ◌-◌, ◌∙◌, suc, ap, length, arith}
use Rattle.dict_core.specs.Chains.{place_at}
use Rattle.dict_core.proofs.BookLemmas.{book_place, book_less}
use Rattle.dict_core.proofs.book.Book.pop.Goals as goal

pub unlink-requires-clause-last : goal.unlink-requires-clause-last
unlink-requires-clause-last c =
    let some = rw (← c.self.view_is) at c.requires in
    let count : length c.self.inside.texts ≡ suc (c.len-last.result - 1) = omega (arith, c.len-last.ensures.count, some) in
    ap (place_at c.self.inside.index.newest) c.hash-hash.ensures ∙ book_place c.self.invariant (c.len-last.result - 1) c.at.result.now count c.at.ensures

pub invariant_of-self : goal.invariant_of-self
invariant_of-self c =
    let some = rw (← c.self.view_is) at c.requires in
    let count : length c.self.inside.texts ≡ suc (c.len-last.result - 1) = omega (arith, c.len-last.ensures.count, some) in
    let fewer : length c.self.inside.texts - 1 ≡ c.len-last.result - 1 = omega (arith, c.len-last.ensures.count) in
    rw (c.unlink.ensures.hasher, c.pop.ensures, fewer)
    (book_less c.self.invariant (c.len-last.result - 1) c.at.result.now c.hash-hash.result c.unlink.new.self.befores.items (place_at c.unlink.new.self.newest) count c.at.ensures c.hash-hash.ensures
    c.unlink.ensures.newest c.unlink.ensures.befores)
