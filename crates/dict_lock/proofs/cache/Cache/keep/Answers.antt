use Rattle.std.proofs.Common.{inl, inr, ◌+◌, ◌++◌, ◌∷◌, [], ℕ, List, length, ap, subst, ◌∙◌, arith}
use Rattle.std.proofs.lemmas.List.{length_push}
use Rattle.dict_core.specs.Books.{BookState}
use Rattle.dict_lock.specs.Cache.{CacheState, GrowsBy, Keeps, StaysSeen}
use Rattle.dict_lock.proofs.CacheLemmas.{same_stays, held_at, more_keeps, more_holds, more_seen, named_last, named_before, named_new}
use Rattle.dict_lock.proofs.cache.Cache.keep.Goals as goal

abbrev state : BookState → List ℕ → CacheState
state known numbers = record { texts = known.texts; numbers = numbers }

pub returns-in_err-reserve-clause-seen : goal.returns-in_err-reserve-clause-seen
returns-in_err-reserve-clause-seen c = same_stays _ _ _ _ (ap (λ (items : List ℕ). state c.self.inside.known items) c.reserve.ensures.items ∙ c.self.view_is)

pub returns-in_default-clause-seen : goal.returns-in_default-clause-seen
returns-in_default-clause-seen c = same_stays _ _ _ _
    (ap (λ (b : BookState). state b c.reserve.new.self.items) c.in_default.ensures.err ∙ (ap (λ (items : List ℕ). state c.self.inside.known items) c.reserve.ensures.items ∙ c.self.view_is))

pub invariant_of-self-then-place-len : goal.invariant_of-self-then-place-len
invariant_of-self-then-place-len c = let texts_are = named_last c.self.inside.known c.intern.new.self c.args.text.now c.in-Ok.place c.in-Ok.ensures.ok (omega (arith, ap length c.reserve.ensures.items, c.self.invariant)) in
    omega (arith, ap length texts_are, length_push c.self.inside.known.texts c.args.text.now, ap length c.push_reserved.ensures.items, length_push c.reserve.new.self.items c.args.number, ap length c.reserve.ensures.items, c.self.invariant)

pub returns-then-place-len-clause-kept : goal.returns-then-place-len-clause-kept
returns-then-place-len-clause-kept c =
    let texts_are = named_last c.self.inside.known c.intern.new.self c.args.text.now c.in-Ok.place c.in-Ok.ensures.ok (omega (arith, ap length c.reserve.ensures.items, c.self.invariant)) in
    subst (λ old. Keeps old (state c.intern.new.self c.push_reserved.new.self.items)) c.self.view_is
    (more_keeps (state c.self.inside.known c.self.inside.numbers.items) (state c.intern.new.self c.push_reserved.new.self.items) c.args.text.now c.args.number c.self.invariant texts_are
    (c.push_reserved.ensures.items ∙ ap (λ items. items ++ c.args.number ∷ []) c.reserve.ensures.items))

pub returns-then-place-len-clause-held : goal.returns-then-place-len-clause-held
returns-then-place-len-clause-held c =
    let texts_are = named_last c.self.inside.known c.intern.new.self c.args.text.now c.in-Ok.place c.in-Ok.ensures.ok (omega (arith, ap length c.reserve.ensures.items, c.self.invariant)) in
    more_holds (state c.self.inside.known c.self.inside.numbers.items) (state c.intern.new.self c.push_reserved.new.self.items) c.args.text.now c.args.number c.self.invariant texts_are
    (c.push_reserved.ensures.items ∙ ap (λ items. items ++ c.args.number ∷ []) c.reserve.ensures.items)

pub returns-then-place-len-clause-seen : goal.returns-then-place-len-clause-seen
returns-then-place-len-clause-seen c =
    let texts_are = named_last c.self.inside.known c.intern.new.self c.args.text.now c.in-Ok.place c.in-Ok.ensures.ok (omega (arith, ap length c.reserve.ensures.items, c.self.invariant)) in
    subst (λ old. StaysSeen old (state c.intern.new.self c.push_reserved.new.self.items) c.args.text.now c.args.number) c.self.view_is
    (more_seen (state c.self.inside.known c.self.inside.numbers.items) (state c.intern.new.self c.push_reserved.new.self.items) c.args.text.now c.args.number c.self.invariant texts_are
    (c.push_reserved.ensures.items ∙ ap (λ items. items ++ c.args.number ∷ []) c.reserve.ensures.items))

pub returns-else-place-len-clause-held : goal.returns-else-place-len-clause-held
returns-else-place-len-clause-held c =
    let known = named_before c.self.inside.known c.intern.new.self c.args.text.now c.in-Ok.place c.in-Ok.ensures.ok (λ last. c.if-place-len.false (omega (arith, last, ap length c.reserve.ensures.items, c.self.invariant))) in
    held_at (state c.intern.new.self c.reserve.new.self.items) c.args.text.now c.in-Ok.place
    (omega (arith, ap length c.reserve.ensures.items, c.self.invariant, ap (λ (b : BookState). length b.texts) known.1))
    (ap (λ (b : BookState). Rattle.std.specs.List.slice_get b.texts c.in-Ok.place) known.1 ∙ known.0)

pub returns-else-place-len-clause-seen : goal.returns-else-place-len-clause-seen
returns-else-place-len-clause-seen c =
    let known = named_before c.self.inside.known c.intern.new.self c.args.text.now c.in-Ok.place c.in-Ok.ensures.ok (λ last. c.if-place-len.false (omega (arith, last, ap length c.reserve.ensures.items, c.self.invariant))) in
    same_stays _ _ _ _ (ap (λ (b : BookState). state b c.reserve.new.self.items) known.1 ∙ (ap (λ (items : List ℕ). state c.self.inside.known items) c.reserve.ensures.items ∙ c.self.view_is))

pub returns-in_err-reserve-clause-grows : goal.returns-in_err-reserve-clause-grows
returns-in_err-reserve-clause-grows c = inl (ap (λ (items : List ℕ). state c.self.inside.known items) c.reserve.ensures.items ∙ c.self.view_is)

pub returns-in_default-clause-grows : goal.returns-in_default-clause-grows
returns-in_default-clause-grows c = inl (ap (λ (b : BookState). state b c.reserve.new.self.items) c.in_default.ensures.err ∙ (ap (λ (items : List ℕ). state c.self.inside.known items) c.reserve.ensures.items ∙ c.self.view_is))

pub returns-then-place-len-clause-grows : goal.returns-then-place-len-clause-grows
returns-then-place-len-clause-grows c =
    let texts_are = named_last c.self.inside.known c.intern.new.self c.args.text.now c.in-Ok.place c.in-Ok.ensures.ok (omega (arith, ap length c.reserve.ensures.items, c.self.invariant)) in
    let absent = named_new c.self.inside.known c.intern.new.self c.args.text.now c.in-Ok.place c.in-Ok.ensures.ok (omega (arith, ap length c.reserve.ensures.items, c.self.invariant)) in
    subst (λ old. GrowsBy old (state c.intern.new.self c.push_reserved.new.self.items) c.args.text.now) c.self.view_is
    (inr (absent, texts_are, ap length c.push_reserved.ensures.items ∙ (length_push c.reserve.new.self.items c.args.number ∙ ap (λ (l : List ℕ). length l + 1) c.reserve.ensures.items)))

pub returns-else-place-len-clause-grows : goal.returns-else-place-len-clause-grows
returns-else-place-len-clause-grows c =
    let known = named_before c.self.inside.known c.intern.new.self c.args.text.now c.in-Ok.place c.in-Ok.ensures.ok (λ last. c.if-place-len.false (omega (arith, last, ap length c.reserve.ensures.items, c.self.invariant))) in
    inl (ap (λ (b : BookState). state b c.reserve.new.self.items) known.1 ∙ (ap (λ (items : List ℕ). state c.self.inside.known items) c.reserve.ensures.items ∙ c.self.view_is))
