use Rattle.std.proofs.Common.{◌≡◌, ◌+◌, ◌<◌, ◌==◌, if◌then◌else◌, ◌∷◌, ◌++◌, [], ◌∙◌, ℕ, inr, refl, length, arith}
use Rattle.dict_core.specs.Chains.{place_at}
use Rattle.dict_core.proofs.BookLemmas.{book_more, same_places}
use Rattle.dict_core.proofs.book.Book.intern.Goals as goal

pub returns-then-count-self-clause-full : goal.returns-then-count-self-clause-full
returns-then-count-self-clause-full c = λ count same.
    let told : c.len-count.result ≡ count = grind (arith, same) in
    rw (← c.self.view_is) (c.in-Err.ensures.none, omega (arith, told, c.len-count.ensures.count, c.self.invariant.within, c.if-count-self.true), omega (arith, c.len-count.ensures.count, c.self.invariant.within, c.if-count-self.true))

pub invariant_of-self-2 : goal.invariant_of-self-2
invariant_of-self-2 c =
    let index = c.self.inside.index in
    let room : length c.self.inside.texts < c.self.inside.limit = omega (arith, c.len-count.ensures.count, c.if-count-self.false) in
    let updates : (g : ℕ) → place_at c.link.new.self.newest g ≡ (if g == c.hash-hash.result then length index.befores.items + 1 else place_at index.newest g) = λ g.
    c.link.ensures.newest g ∙ (λ i. if g == c.hash-hash.result then length (c.in_ok-make_room.ensures.befores i) + 1 else same_places index.newest c.make_room.new.self.newest c.in_ok-make_room.ensures.newest g i) in
    let linked : c.link.new.self.befores.items ≡ index.befores.items ++ place_at index.newest c.hash-hash.result ∷ [] =
    c.link.ensures.befores ∙ (λ i. c.in_ok-make_room.ensures.befores i ++ c.in-Err.ensures.newest i ∷ []) in
    rw (c.link.ensures.hasher, c.in_ok-make_room.ensures.hasher, c.in_ok-push.ensures.ok)
    (book_more c.self.invariant c.args.text.now c.hash-hash.result c.link.new.self.befores.items (place_at c.link.new.self.newest) c.hash-hash.ensures c.in-Err.ensures.none room updates linked)

pub returns-clause-ok : goal.returns-clause-ok
returns-clause-ok c =
    rw (← c.self.view_is) (inr (c.in-Err.ensures.none, omega (arith, c.len-count.ensures.count, c.if-count-self.false), c.len-count.ensures.count, c.in_ok-push.ensures.ok, refl))
