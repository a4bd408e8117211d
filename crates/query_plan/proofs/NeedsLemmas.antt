-- What a reading that accepts says of the constant bytes and of the needed words.
use Rattle.std.proofs.Common.{◌≡◌, ℕ, List, [], ◌∷◌, ◌++◌, refl, sym, ap, subst, ◌∙◌}
use Rattle.std.specs.Prelude.{true, false}
use Rattle.logtype_text.specs.Parts.{Part, Constant, Variable}
use Rattle.logtype_text.specs.Cut.{plains}
use Rattle.wild_match.specs.declared.pattern.Item.{Item}
use Rattle.wild_match.specs.declared.pattern.Item.TheVariants.{Many}
use Rattle.query_plan.specs.declared.pieces.Piece.{Piece}
use Rattle.query_plan.specs.declared.pieces.Piece.TheVariants.{Gap, Mark, Word}
use Rattle.query_plan.specs.Pieces.{Side, Free, After, Inside, is_open}
use Rattle.query_plan.specs.Needs.{byte_of, bone, token_bones, bones, constants}
use Rattle.query_plan.specs.Readings.{Term, Star, letters, MayBe, Place, AtWord, Goes, shut, last, wide, more, skip, word, Reads, finish, star, mark, text, held, Accepts, nothing, letter, pass, eat, fill}
use Rattle.query_plan.proofs.MatchLemmas.{Steps, ended, byte, drops, takes, many_more, bytes_match}
use Rattle.query_plan.proofs.BonesLemmas.{bones_inside}

-- the parts behind the bytes of a token
pub record Behind (t : List ℕ) (r : List Term) (parts : List Part) : Type 0 where
  pub rest : List Part
  pub is : parts ≡ plains t rest
  pub accepts : Accepts r rest

pub accepts_letters : (t : List ℕ) (r : List Term) (parts : List Part) → Accepts (letters t r) parts → Behind t r parts
accepts_letters [] r parts a = record { rest = parts; is = refl; accepts = a }
accepts_letters (b ∷ t) r [] a = elim a [ ]
accepts_letters (b ∷ t) r (Constant c ∷ parts) (letter a) =
    let h = accepts_letters t r parts a in record { rest = h.rest; is = ap (λ x. Constant b ∷ x) h.is; accepts = h.accepts }
accepts_letters (b ∷ t) r (Variable kind w ∷ parts) a = elim a [ ]

constants_plains : (t : List ℕ) (parts : List Part) → constants (plains t parts) ≡ t ++ constants parts
constants_plains [] parts = refl
constants_plains (b ∷ t) parts = ap (λ x. b ∷ x) (constants_plains t parts)

-- the skeleton of pieces that were read as a variable
goes_bones : {l : Place} {ps qs : List Piece} {x : List Item} → Goes l ps x qs → (cs : List ℕ)
    → Steps (bones Inside qs) cs → Steps (Many ∷ bones Free ps) cs
goes_bones (shut {ps = ps}) cs m = drops m
goes_bones last cs m = drops m
goes_bones (wide {ps = ps}) cs m = drops m
goes_bones (more g) cs m = drops (goes_bones g cs m)
goes_bones (skip g) cs m = drops (goes_bones g cs m)
goes_bones (word {ps = ps} g) cs m = drops (subst (λ q. Steps (Many ∷ q) cs) (sym (bones_inside ps)) (goes_bones g cs m))

star_bones : (ps : List Piece) (r : List Term) → ((parts : List Part) → Accepts r parts → Steps (bones Free ps) (constants parts))
    → (parts : List Part) → Accepts (Star ∷ r) parts → Steps (Many ∷ bones Free ps) (constants parts)
star_bones ps r f parts (pass a) = drops (f parts a)
star_bones ps r f (Constant b ∷ parts) (eat a) = takes (star_bones ps r f parts a)
star_bones ps r f (Variable kind w ∷ parts) (eat a) = star_bones ps r f parts a

-- a token that is read as constant bytes
text_bones : (e : Side) (t : List ℕ) (ps : List Piece) (cs : List ℕ) → MayBe false e t ps → Steps (bones Inside ps) cs
    → Steps (token_bones (is_open e ps) (byte_of e) t (bones Inside ps)) (t ++ cs)
text_bones Free t ps cs may m = many_more t (drops m)
text_bones Inside t ps cs may m = many_more t (drops m)
text_bones (After d) t [] cs may m = many_more t (drops m)
text_bones (After d) t (Gap ∷ ps) cs may m = many_more t (drops m)
text_bones (After d) t (Word w ∷ ps) cs may m = many_more t (drops m)
text_bones (After d) t (Mark c ∷ ps) cs may m =
    subst (λ v. Steps (bone v t (bones Inside (Mark c ∷ ps))) (t ++ cs)) (sym may) (bytes_match t m)

-- a token with which a variable begins
held_bones : (e : Side) (t : List ℕ) (ps qs : List Piece) (x : List Item) (cs : List ℕ) → MayBe true e t ps → Goes AtWord ps x qs
    → Steps (bones Inside qs) cs → Steps (token_bones (is_open e ps) (byte_of e) t (bones Inside ps)) cs
held_bones Free t ps qs x cs may g m = subst (λ q. Steps (Many ∷ q) cs) (sym (bones_inside ps)) (goes_bones g cs m)
held_bones Inside t ps qs x cs may g m = subst (λ q. Steps (Many ∷ q) cs) (sym (bones_inside ps)) (goes_bones g cs m)
held_bones (After d) t [] qs x cs may g m = goes_bones g cs m
held_bones (After d) t (Gap ∷ ps) qs x cs may g m = goes_bones g cs m
held_bones (After d) t (Word w ∷ ps) qs x cs may g m = goes_bones g cs m
held_bones (After d) t (Mark c ∷ ps) qs x cs may shut m = subst (λ v. Steps (bone v t (bones Inside (Mark c ∷ ps))) cs) (sym may) m

pub read_bones : {e : Side} {ps : List Piece} {r : List Term} → Reads e ps r → (parts : List Part) → Accepts r parts → Steps (bones e ps) (constants parts)
read_bones finish [] nothing = ended
read_bones finish (b ∷ parts) a = elim a [ ]
read_bones (star {ps = ps} {r = r} n) parts a = star_bones ps r (λ u b. read_bones n u b) parts a
read_bones (mark n) [] a = elim a [ ]
read_bones (mark n) (Constant d ∷ parts) (letter a) = byte (read_bones n parts a)
read_bones (mark n) (Variable kind w ∷ parts) a = elim a [ ]
read_bones (text {e = e} {t = t} {ps = ps} {r = r} may n) parts a =
    let h = accepts_letters t r parts a in
    subst (λ cs. Steps (token_bones (is_open e ps) (byte_of e) t (bones Inside ps)) cs) (sym (ap constants h.is ∙ constants_plains t h.rest))
    (text_bones e t ps (constants h.rest) may (read_bones n h.rest h.accepts))
read_bones (held may g n) [] a = elim a [ ]
read_bones (held may g n) (Constant d ∷ parts) a = elim a [ ]
read_bones (held {e = e} {t = t} {ps = ps} {qs = qs} {x = x} may g n) (Variable kind w ∷ parts) (fill m a) =
    held_bones e t ps qs x (constants parts) may g (read_bones n parts a)
