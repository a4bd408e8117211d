use Rattle.std.proofs.Common.{◌≡◌, ◌+◌, ◌<◌, ◌∷◌, ◌++◌, [], ◌∙◌, ap, subst, take, length, arith}
use Rattle.std.proofs.lemmas.List.{take_all, take_more, length-take, length_push}
use Rattle.std.proofs.lemmas.Option.{slice_get_within, get_or_from_slice_get}
use Rattle.plain_list.specs.Texts.{AreDistinct}
use Rattle.dict_core.specs.Chains.{hash_by, place_at}
use Rattle.dict_core.proofs.BookLemmas.{book_back, book_newest, book_new, book_more, taken}
use Rattle.dict_core.proofs.index.Index.link_all.Goals as goal

pub find-requires-clause-back : goal.find-requires-clause-back
find-requires-clause-back g c = rw c.as_slice.ensures.value (book_back c.loop-number.invariant.book)

pub find-requires-clause-within : goal.find-requires-clause-within
find-requires-clause-within g c = rw (c.as_slice.ensures.value, c.newest-newest.ensures) (book_newest c.loop-number.invariant.book c.hash-hash.result)

pub loop-number-preserved : goal.loop-number-preserved
loop-number-preserved g c =
    let so_far = c.loop-number.invariant in
    let texts = c.args.texts.now in let text = c.at-text.result.now in let number = c.loop-number.number in
    let hashed : c.hash-hash.result ≡ hash_by g.H.Hasher.write g.H.Hasher.finish c.args.self.now.hasher text =
    c.hash-hash.ensures ∙ ap (λ hasher. hash_by g.H.Hasher.write g.H.Hasher.finish hasher text) so_far.hasher in
    let place = c.newest-newest.ensures ∙ ap (place_at c.loop-number.self.newest) hashed in
    let absent = rw c.as_slice.ensures.value at c.in_default.ensures.none in
    let new = book_new so_far.book text c.newest-newest.result place (λ k chain found. absent k chain (taken texts text number k found)) in
    let below : number < length texts = slice_get_within texts number text c.at-text.ensures in
    let more : take (number + 1) texts ≡ take number texts ++ text ∷ [] =
    take_more texts number text below ∙ ap (λ t. take number texts ++ t ∷ []) (get_or_from_slice_get texts number text text c.at-text.ensures) in
    let room : length (take number texts) < 2147483648 = omega (arith, length-take number texts, c.len-count.ensures.most, c.loop-number-test.true) in
    let linked = c.link.ensures.befores ∙ ap (λ p. c.loop-number.self.befores.items ++ p ∷ []) c.newest-newest.ensures in
    let book = book_more so_far.book text c.hash-hash.result c.link.new.self.befores.items (place_at c.link.new.self.newest) hashed new room c.link.ensures.newest linked in record {
      hasher = c.link.ensures.hasher ∙ so_far.hasher;
      book = rw more book;
      map = omega (arith, so_far.map, c.link.ensures.spare, c.loop-number-test.true);
      room = omega (arith, so_far.room, c.link.ensures.capacity, c.link.new.self.befores.ok.0, ap length c.link.ensures.befores, length_push c.loop-number.self.befores.items c.newest-newest.result, c.loop-number.self.befores.ok.0, c.loop-number-test.true);
    }

pub returns-clause-distinct : goal.returns-clause-distinct
returns-clause-distinct g c =
    let all = take_all c.loop-number.number c.args.texts.now (omega (arith, c.len-count.ensures.count, c.loop-number-test.false)) in
    subst AreDistinct all c.loop-number.invariant.book.distinct
