-- A text spells one list of items, or has one lone backslash.
use Rattle.std.proofs.Common.{◌≡◌, ◌≢◌, ℕ, ◌+◌, List, [], ◌∷◌, ◌++◌, ◌⊎◌, length, refl, sym, ap, subst, ◌∙◌, inl, inr, ⊎_elim, arith, append_assoc, length-append}
use Rattle.std.proofs.lemmas.Bool.{cases_eq}
use Rattle.std.proofs.lemmas.List.{append-nil}
use Rattle.wild_match.specs.declared.pattern.Item.{Item}
use Rattle.wild_match.specs.declared.pattern.Item.TheVariants.{Byte, One, Many}
use Rattle.wild_match.specs.Reading.{IsPlain, SpellsFirst, Spells, IsSearchPattern, IsLoneBackslash}
use Rattle.wild_match.specs.Laws.{OneSpelling, OneLoneBackslash, SpelledOrLone, NeverBoth}

-- more text behind the rest
first_append : (text tail rest : List ℕ) (item : Item) → SpellsFirst text item rest → SpellsFirst (text ++ tail) item (rest ++ tail)
first_append text tail rest Many h = ap (λ r. r ++ tail) h
first_append text tail rest One h = ap (λ r. r ++ tail) h
first_append text tail rest (Byte b) h =
    ⊎_elim (λ (escaped : text ≡ 92 ∷ b ∷ rest). inl (ap (λ r. r ++ tail) escaped))
    (λ (plain : (text ≡ b ∷ rest) × IsPlain b). inr (ap (λ r. r ++ tail) plain.0, plain.1)) h

-- two texts one after the other spell what each spells
pub Spells-append : (front tail : List ℕ) (p q : List Item) → Spells front p → Spells tail q → Spells (front ++ tail) (p ++ q)
Spells-append front tail [] q h k = rw h k
Spells-append front tail (x ∷ p) q h k = (h.0 ++ tail, first_append front tail h.0 x h.1, Spells-append h.0 tail p q h.2 k)

same_head : (a b : ℕ) (r u : List ℕ) → a ∷ r ≡ b ∷ u → a ≡ b
same_head a b r u e = cc

same_tail : (a b : ℕ) (r u : List ℕ) → a ∷ r ≡ b ∷ u → r ≡ u
same_tail a b r u e = cc

-- a text that spells an item is not empty
not_empty : (rest : List ℕ) (item : Item) → SpellsFirst [] item rest → ⊥
not_empty rest Many h = cc
not_empty rest One h = cc
not_empty rest (Byte b) h = ⊎_elim (λ (escaped : [] ≡ 92 ∷ b ∷ rest). cc) (λ (plain : ([] ≡ b ∷ rest) × IsPlain b). let e = plain.0 in cc) h

-- the first byte of a text decides what it spells first, but for the byte behind a `\`
starts : (text r u : List ℕ) (a b : ℕ) → text ≡ a ∷ r → text ≡ b ∷ u → (a ≡ b) × (r ≡ u)
starts text r u a b h k = (same_head a b r u (sym h ∙ k), same_tail a b r u (sym h ∙ k))

one_byte : (text r u : List ℕ) (b : ℕ) (y : Item) → SpellsFirst text (Byte b) r → SpellsFirst text y u → (Byte b ≡ y) × (r ≡ u)
one_byte text r u b Many h k =
    ⊎_elim (λ (escaped : text ≡ 92 ∷ b ∷ r). let e = (starts text (b ∷ r) u 92 42 escaped k).0 in absurd (omega arith))
    (λ (plain : (text ≡ b ∷ r) × IsPlain b). absurd (plain.1.0 (starts text r u b 42 plain.0 k).0)) h
one_byte text r u b One h k =
    ⊎_elim (λ (escaped : text ≡ 92 ∷ b ∷ r). let e = (starts text (b ∷ r) u 92 63 escaped k).0 in absurd (omega arith))
    (λ (plain : (text ≡ b ∷ r) × IsPlain b). absurd (plain.1.1 (starts text r u b 63 plain.0 k).0)) h
one_byte text r u b (Byte c) h k =
    ⊎_elim (λ (escaped : text ≡ 92 ∷ b ∷ r). ⊎_elim
    (λ (too : text ≡ 92 ∷ c ∷ u).
    let e = (starts text (b ∷ r) (c ∷ u) 92 92 escaped too).1 in (ap (λ n. Byte n) (same_head b c r u e), same_tail b c r u e))
    (λ (plain : (text ≡ c ∷ u) × IsPlain c). absurd (plain.1.2 (sym (starts text (b ∷ r) u 92 c escaped plain.0).0)))
    k)
    (λ (plain : (text ≡ b ∷ r) × IsPlain b). ⊎_elim
    (λ (escaped : text ≡ 92 ∷ c ∷ u). absurd (plain.1.2 (starts text r (c ∷ u) b 92 plain.0 escaped).0))
    (λ (too : (text ≡ c ∷ u) × IsPlain c). let e = starts text r u b c plain.0 too.0 in (ap (λ n. Byte n) e.0, e.1))
    k)
    h

-- a text spells one item first
one_first : (text r u : List ℕ) (x y : Item) → SpellsFirst text x r → SpellsFirst text y u → (x ≡ y) × (r ≡ u)
one_first text r u Many Many h k = (refl, (starts text r u 42 42 h k).1)
one_first text r u Many One h k = let e = (starts text r u 42 63 h k).0 in absurd (omega arith)
one_first text r u One Many h k = let e = (starts text r u 63 42 h k).0 in absurd (omega arith)
one_first text r u One One h k = (refl, (starts text r u 63 63 h k).1)
one_first text r u Many (Byte c) h k = let e = one_byte text u r c Many k h in (sym e.0, sym e.1)
one_first text r u One (Byte c) h k = let e = one_byte text u r c One k h in (sym e.0, sym e.1)
one_first text r u (Byte b) y h k = one_byte text r u b y h k

-- a `\` alone spells no item
not_lone : (rest : List ℕ) (item : Item) → SpellsFirst (92 ∷ []) item rest → ⊥
not_lone rest Many h = let e = same_head 92 42 [] rest h in omega arith
not_lone rest One h = let e = same_head 92 63 [] rest h in omega arith
not_lone rest (Byte b) h =
    ⊎_elim (λ (escaped : 92 ∷ [] ≡ 92 ∷ b ∷ rest). let e = same_tail 92 92 [] (b ∷ rest) escaped in cc)
    (λ (plain : (92 ∷ [] ≡ b ∷ rest) × IsPlain b). plain.1.2 (sym (same_head 92 b [] rest plain.0))) h

-- what is left of the items behind those of the front
record Left (tail : List ℕ) (p q : List Item) : Type 0 where
  rest : List Item
  is : q ≡ p ++ rest
  spelled : Spells tail rest

front_spelled : (front tail : List ℕ) (p q : List Item) → Spells front p → Spells (front ++ tail) q → Left tail p q
front_spelled front tail [] q h k = record { rest = q; is = refl; spelled = subst (λ f. Spells (f ++ tail) q) h k }
front_spelled front tail (x ∷ p) [] h k = absurd (not_empty (h.0 ++ tail) x (subst (λ t. SpellsFirst t x (h.0 ++ tail)) k (first_append front tail h.0 x h.1)))
front_spelled front tail (x ∷ p) (y ∷ q) h k =
    let same = one_first (front ++ tail) (h.0 ++ tail) k.0 x y (first_append front tail h.0 x h.1) k.1 in
    let left = front_spelled h.0 tail p q h.2 (subst (λ r. Spells r q) (sym same.1) k.2) in
    record { rest = left.rest; is = ap (λ i. i ∷ q) (sym same.0) ∙ ap (λ r. x ∷ r) left.is; spelled = left.spelled }

empty_spells : (p : List Item) → Spells [] p → p ≡ []
empty_spells [] h = refl
empty_spells (x ∷ p) h = absurd (not_empty h.0 x h.1)

pub one-spelling : OneSpelling
one-spelling text a b h k =
    let left = front_spelled text [] a b h (subst (λ t. Spells t b) (sym (append-nil text)) k) in
    sym (left.is ∙ (ap (λ r. a ++ r) (empty_spells left.rest left.spelled) ∙ append-nil a))

-- a lone backslash is the last byte
pub IsLoneBackslash-last : (text : List ℕ) (at : ℕ) → IsLoneBackslash text at → at + 1 ≡ length text
IsLoneBackslash-last text at h = let e = ap length h.3 in omega (arith, length-append h.0 (92 ∷ []), h.4)

pub one-lone-backslash : OneLoneBackslash
one-lone-backslash text i j h k = omega (arith, IsLoneBackslash-last text i h, IsLoneBackslash-last text j k)

lone_spells : (p : List Item) → Spells (92 ∷ []) p → ⊥
lone_spells [] h = cc
lone_spells (x ∷ p) h = not_lone h.0 x h.1

pub never-both : NeverBoth
never-both text items at h k =
    let left = front_spelled k.0 (92 ∷ []) k.1 items k.2 (subst (λ t. Spells t items) k.3 h) in
    lone_spells left.rest left.spelled

-- a byte that is no `\` spells an item
pub record OneItem (b : ℕ) : Type 0 where
  pub item : Item
  pub spelled : Spells (b ∷ []) (item ∷ [])

byte_spelled : (b : ℕ) → b ≢ 92 → OneItem b
byte_spelled b ne =
    ⊎_elim (λ (many : b ≡ 42). record { item = Many; spelled = ([], ap (λ n. n ∷ []) many, refl) })
    (λ not_many. ⊎_elim (λ (one : b ≡ 63). record { item = One; spelled = ([], ap (λ n. n ∷ []) one, refl) })
    (λ not_one. record { item = Byte b; spelled = ([], inr (refl, (not_many, not_one, ne)), refl) })
    (cases_eq b 63))
    (cases_eq b 42)

abbrev Told : List ℕ → Type 0
Told text = ((items : List Item) × Spells text items) ⊎ ((at : ℕ) × IsLoneBackslash text at)

told_more : (front text : List ℕ) (p : List Item) → Spells front p → Told text → Told (front ++ text)
told_more front text p h told =
    ⊎_elim (λ (t : (items : List Item) × Spells text items). inl (p ++ t.0, Spells-append front text p t.0 h t.1))
    (λ (t : (at : ℕ) × IsLoneBackslash text at).
    inr (length (front ++ t.1.0), (front ++ t.1.0, p ++ t.1.1, Spells-append front t.1.0 p t.1.1 h t.1.2, ap (λ r. front ++ r) t.1.3 ∙ sym (append_assoc front t.1.0 (92 ∷ [])), refl)))
    told

pub spelled-or-lone : SpelledOrLone
spelled-or-lone [] = inl ([], refl)
spelled-or-lone (b ∷ []) =
    ⊎_elim (λ (escape : b ≡ 92). inr (0, ([], [], refl, ap (λ n. n ∷ []) escape, refl)))
    (λ ne. let t = byte_spelled b ne in inl (t.item ∷ [], t.spelled))
    (cases_eq b 92)
spelled-or-lone (b ∷ c ∷ text) =
    ⊎_elim (λ (escape : b ≡ 92). told_more (b ∷ c ∷ []) text (Byte c ∷ []) ([], inl (ap (λ n. n ∷ c ∷ []) escape), refl) (spelled-or-lone text))
    (λ ne. let t = byte_spelled b ne in told_more (b ∷ []) (c ∷ text) (t.item ∷ []) t.spelled (spelled-or-lone (c ∷ text)))
    (cases_eq b 92)

-- a text has one search pattern at most
pub IsSearchPattern-unique : (text : List ℕ) (a b : List Item) → IsSearchPattern text a → IsSearchPattern text b → a ≡ b
IsSearchPattern-unique text a b h k =
    let same = one-spelling text h.0 k.0 h.1 k.1 in
    h.2 ∙ (ap (λ items. Many ∷ items ++ Many ∷ []) same ∙ sym k.2)

-- a text with a search pattern has no lone backslash
pub IsSearchPattern-not_lone : (text : List ℕ) (pattern : List Item) (at : ℕ) → IsSearchPattern text pattern → IsLoneBackslash text at → ⊥
IsSearchPattern-not_lone text pattern at h k = never-both text h.0 at h.1 k

-- a text with no lone backslash has a search pattern
pub IsSearchPattern-some : (text : List ℕ) → ((at : ℕ) → IsLoneBackslash text at → ⊥) → (pattern : List Item) × IsSearchPattern text pattern
IsSearchPattern-some text none =
    ⊎_elim (λ (t : (items : List Item) × Spells text items). (Many ∷ t.0 ++ Many ∷ [], (t.0, t.1, refl)))
    (λ (t : (at : ℕ) × IsLoneBackslash text at). absurd (none t.0 t.1))
    (spelled-or-lone text)
