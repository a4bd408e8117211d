use Rattle.std.proofs.Common.{ℕ, List, sym, subst, length}
use Rattle.turn_lock.specs.Words.{seen}
use Rattle.dict_lock.specs.Cache.{HoldsFront, Remembers}
use Rattle.dict_lock.specs.StepsOfNaming.{IsMarked, NamesFront}
use Rattle.dict_lock.proofs.NamingLemmas.{seen_on, ok_numbers, ok_held, not_err}
use Rattle.dict_lock.proofs.naming.name_in_turn.Goals as goal

pub name_marked-named-requires-clause-marked : goal.name_marked-named-requires-clause-marked
name_marked-named-requires-clause-marked g c = let was = c.requires.marked in record { long = was.long; known = λ k n t a b real. c.requires.cache t n (was.known k n t a b real) }

pub remember-requires-clause-found : goal.remember-requires-clause-found
remember-requires-clause-found g c =
    subst (λ items. IsMarked (Remembers c.args.cache.now) items (g.T.TextSlice.texts c.args.texts.now)) (sym c.requires.found) c.requires.marked

pub returns-then-is_err-clause-cache : goal.returns-then-is_err-clause-cache
returns-then-is_err-clause-cache g c = let texts = g.T.TextSlice.texts c.args.texts.now in let named = c.name_marked-named.ensures in
    c.remember.ensures.seen (seen c.name_marked-named.new.pass) (seen_on c.args.cache.now (seen c.args.pass.now) (seen c.name_marked-named.new.pass) named.pass.goes_on.seen_on c.requires.cache)
    (subst (λ items. NamesFront (seen c.name_marked-named.new.pass) items texts) (sym c.as_slice.ensures.value) named.named)

pub returns-clause-cache : goal.returns-clause-cache
returns-clause-cache g c = let texts = g.T.TextSlice.texts c.args.texts.now in let named = c.name_marked-named.ensures in
    c.remember.ensures.seen (seen c.name_marked-named.new.pass) (seen_on c.args.cache.now (seen c.args.pass.now) (seen c.name_marked-named.new.pass) named.pass.goes_on.seen_on c.requires.cache)
    (subst (λ items. NamesFront (seen c.name_marked-named.new.pass) items texts) (sym c.as_slice.ensures.value) named.named)

pub returns-clause-named : goal.returns-clause-named
returns-clause-named g c = ok_numbers _ _ _ _ c.name_marked-named.ensures.ok c.name_marked-named.ensures.named

pub returns-clause-held : goal.returns-clause-held
returns-clause-held g c = let texts = g.T.TextSlice.texts c.args.texts.now in
    let front = not_err c.remember.result (HoldsFront c.remember.new.cache texts (length c.as_slice.result.now)) (sym c.if-is_err.ensures.value) c.remember.ensures.held in
    ok_held _ _ _ _ c.name_marked-named.ensures.ok (subst (λ (items : List ℕ). HoldsFront c.remember.new.cache texts (length items)) c.as_slice.ensures.value front)

pub returns-clause-full : goal.returns-clause-full
returns-clause-full g c = λ count is. let texts = g.T.TextSlice.texts c.args.texts.now in let refused = c.name_marked-named.ensures.full count is in
    let front = not_err c.remember.result (HoldsFront c.remember.new.cache texts (length c.as_slice.result.now)) (sym c.if-is_err.ensures.value) c.remember.ensures.held in record {
      at = length c.name_marked-named.new.numbers.items;
      text = refused.text;
      given = refused.given;
      absent = refused.absent;
      before = subst (λ (items : List ℕ). HoldsFront c.remember.new.cache texts (length items)) c.as_slice.ensures.value front;
      full = refused.full;
    }
