-- What a reading accepts, the pattern matches.
use Rattle.std.proofs.Common.{◌≡◌, ℕ, List, [], ◌∷◌, ◌++◌, refl, sym, subst}
use Rattle.wild_match.specs.declared.pattern.Item.{Item}
use Rattle.wild_match.specs.declared.pattern.Item.TheVariants.{Byte, Many}
use Rattle.logtype_text.specs.Parts.{Part, Constant, Variable, joined, text_of_part}
use Rattle.query_plan.specs.declared.pieces.Piece.{Piece}
use Rattle.query_plan.specs.declared.pieces.Piece.TheVariants.{Gap, Mark, Word}
use Rattle.query_plan.specs.Pieces.{Side, Free, After, Inside, bytes, flat, IsCut, IsSomeInner}
use Rattle.query_plan.specs.Readings.{Term, Star, letters, Place, AtWord, AtGap, Goes, shut, last, wide, more, skip, word, lead, Reads, finish, star, mark, text, held, Accepts, nothing, letter, pass, eat, fill}
use Rattle.query_plan.specs.Laws.{IsSmooth, NotNil}
use Rattle.query_plan.proofs.MatchLemmas.{Steps, ended, byte, drops, steps, many_more, bytes_swap, many_swap}

-- the items of the pieces, with any bytes before a token that comes first
abbrev pub front : Side → List Piece → List Item
front Free (Word t ∷ ps) = Many ∷ bytes t (flat ps)
front Free [] = []
front Free (Gap ∷ ps) = Many ∷ flat ps
front Free (Mark d ∷ ps) = Byte d ∷ flat ps
front (After d) ps = flat ps
front Inside ps = flat ps

many_front : (ps : List Piece) (z : List ℕ) → Steps (front Free ps) z → Steps (Many ∷ flat ps) z
many_front [] z m = drops m
many_front (Gap ∷ ps) z m = drops m
many_front (Mark d ∷ ps) z m = drops m
many_front (Word t ∷ ps) z m = m

-- more items come behind a token
abbrev pub Hangs : Place → List Piece → Type 0
Hangs AtWord ps = NotNil (flat ps)
Hangs AtGap ps = Unit {0}

smooth_behind : (t : List ℕ) (q : List Item) → IsSmooth (bytes t q) → IsSmooth q
smooth_behind [] q s = s
smooth_behind (b ∷ t) q s = smooth_behind t q s.1

hangs_inner : (b : ℕ) (t : List ℕ) (q : List Item) → IsSmooth (bytes (b ∷ t) q) → NotNil q
hangs_inner b [] q s = s.0
hangs_inner b (c ∷ t) q s = hangs_inner c t q s.1

hangs : (t : List ℕ) (q : List Item) → IsSomeInner t → IsSmooth (bytes t q) → NotNil q
hangs [] q c s = absurd c
hangs (b ∷ t) q c s = hangs_inner b t q s

pub goes_sound : {l : Place} {ps qs : List Piece} {x : List Item} → Goes l ps x qs → Hangs l ps → IsCut ps → IsSmooth (flat ps)
    → (z : List ℕ) → Steps (flat qs) z → (v : List ℕ) → Steps x v → Steps (flat ps) (v ++ z)
goes_sound shut h c s z m [] ended = m
goes_sound shut h c s z m (_ ∷ _) n = elim n [ ]
goes_sound last h c s z m v n = absurd h
goes_sound wide h c s z m v n = many_more v m
goes_sound (more {ps = ps} {x = x} g) h c s z m v n = many_swap x (flat ps) z (λ u k. goes_sound g tt c s z m u k) v n
goes_sound (skip g) h c s z m v n = drops (goes_sound g tt c s z m v n)
goes_sound (word {t = t} {ps = ps} {x = x} g) h c s z m v n =
    bytes_swap x (flat ps) z (λ u k. goes_sound g (hangs t (flat ps) c.0 s) c.2 (smooth_behind t (flat ps) s) z m u k) t v n

goes_cut : {l : Place} {ps qs : List Piece} {x : List Item} → Goes l ps x qs → IsCut ps → IsCut qs
goes_cut shut c = c
goes_cut last c = c
goes_cut wide c = c
goes_cut (more g) c = goes_cut g c
goes_cut (skip g) c = goes_cut g c
goes_cut (word g) c = goes_cut g c.2

goes_smooth : {l : Place} {ps qs : List Piece} {x : List Item} → Goes l ps x qs → IsSmooth (flat ps) → IsSmooth (flat qs)
goes_smooth shut s = s
goes_smooth last s = s
goes_smooth wide s = s
goes_smooth (more g) s = goes_smooth g s
goes_smooth (skip g) s = goes_smooth g s
goes_smooth (word {t = t} {ps = ps} g) s = goes_smooth g (smooth_behind t (flat ps) s)

-- a star takes parts from the front
star_sound : (q : List Item) {r : List Term} → ((parts : List Part) → Accepts r parts → Steps (Many ∷ q) (joined parts))
    → (parts : List Part) → Accepts (Star ∷ r) parts → Steps (Many ∷ q) (joined parts)
star_sound q f parts (pass a) = f parts a
star_sound q f (a ∷ parts) (eat acc) = many_more (text_of_part a) (star_sound q f parts acc)

letters_sound : (q : List Item) {r : List Term} → ((parts : List Part) → Accepts r parts → Steps q (joined parts))
    → (t : List ℕ) (parts : List Part) → Accepts (letters t r) parts → Steps (bytes t q) (joined parts)
letters_sound q f [] parts a = f parts a
letters_sound q f (b ∷ t) [] a = elim a [ ]
letters_sound q f (b ∷ t) (Variable _ _ ∷ parts) a = elim a [ ]
letters_sound q f (b ∷ t) (Constant c ∷ parts) (letter a) = byte (letters_sound q f t parts a)

free_front : (e : Side) (t : List ℕ) (ps : List Piece) (z : List ℕ) → Steps (bytes t (flat ps)) z → Steps (front e (Word t ∷ ps)) z
free_front Free t ps z m = drops m
free_front (After d) t ps z m = m
free_front Inside t ps z m = m

led_front : (e : Side) (t : List ℕ) (x : List Item) (ps : List Piece) (z : List ℕ) → ((v : List ℕ) → Steps x v → Steps (flat ps) (v ++ z))
    → (v : List ℕ) → Steps (lead e (bytes t x)) v → Steps (front e (Word t ∷ ps)) (v ++ z)
led_front Free t x ps z f v m = many_swap (bytes t x) (bytes t (flat ps)) z (λ u k. bytes_swap x (flat ps) z f t u k) v m
led_front (After d) t x ps z f v m = bytes_swap x (flat ps) z f t v m
led_front Inside t x ps z f v m = bytes_swap x (flat ps) z f t v m

gap_front : (e : Side) (ps : List Piece) → front e (Gap ∷ ps) ≡ Many ∷ flat ps
gap_front Free ps = refl
gap_front (After d) ps = refl
gap_front Inside ps = refl

mark_front : (e : Side) (d : ℕ) (ps : List Piece) → front e (Mark d ∷ ps) ≡ Byte d ∷ flat ps
mark_front Free d ps = refl
mark_front (After c) d ps = refl
mark_front Inside d ps = refl

nil_front : (e : Side) → front e [] ≡ []
nil_front Free = refl
nil_front (After d) = refl
nil_front Inside = refl

pub sound : {e : Side} {ps : List Piece} {r : List Term} → Reads e ps r → IsCut ps → IsSmooth (flat ps)
    → (parts : List Part) → Accepts r parts → Steps (front e ps) (joined parts)
sound (finish {e = e}) c s [] nothing = subst (λ p. Steps p []) (sym (nil_front e)) ended
sound (finish {e = e}) c s (_ ∷ parts) a = elim a [ ]
sound (star {e = e} {ps = ps} n) c s parts a =
    subst (λ p. Steps p (joined parts)) (sym (gap_front e ps)) (star_sound (flat ps) (λ some b. many_front ps (joined some) (sound n c s some b)) parts a)
sound (mark {e = e} {d = d} {ps = ps} n) c s (Constant b ∷ parts) (letter a) =
    subst (λ p. Steps p (d ∷ joined parts)) (sym (mark_front e d ps)) (byte (sound n c.1 s.1 parts a))
sound (mark {e = e} {d = d} {ps = ps} n) c s [] a = elim a [ ]
sound (mark {e = e} {d = d} {ps = ps} n) c s (Variable kind w ∷ parts) a = elim a [ ]
sound (text {e = e} {t = t} {ps = ps} may n) c s parts a =
    free_front e t ps (joined parts) (letters_sound (flat ps) (λ some b. sound n c.2 (smooth_behind t (flat ps) s) some b) t parts a)
sound (held {e = e} {t = t} {ps = ps} {qs = qs} {x = x} may g n) c s [] a = elim a [ ]
sound (held {e = e} {t = t} {ps = ps} {qs = qs} {x = x} may g n) c s (Constant b ∷ parts) a = elim a [ ]
sound (held {e = e} {t = t} {ps = ps} {qs = qs} {x = x} may g n) c s (Variable kind w ∷ parts) (fill m a) =
    let smooth = smooth_behind t (flat ps) s in
    let later = sound n (goes_cut g c.2) (goes_smooth g smooth) parts a in
    led_front e t x ps (joined parts) (λ v k. goes_sound g (hangs t (flat ps) c.0 s) c.2 smooth (joined parts) later v k) w (steps (lead e (bytes t x)) w m)
