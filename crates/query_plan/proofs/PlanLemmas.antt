-- One step of the loops over a pattern and its pieces.
use Rattle.std.proofs.Common.{◌≡◌, ℕ, zero, suc, List, [], ◌∷◌, ◌++◌, refl, sym, ap, ◌∙◌, arith, length}
use Rattle.std.proofs.lemmas.List.{append_assoc, append-nil}
use Rattle.std.specs.Prelude.{Bool, true, false, not, ◌||◌, nat_lt, IsTrue, ◌↔◌}
use Rattle.token_rules.specs.Tokens.{is_token_byte, IsDelimiter}
use Rattle.wild_match.specs.declared.pattern.Item.{Item}
use Rattle.wild_match.specs.declared.pattern.Item.TheVariants.{Byte}
use Rattle.query_plan.specs.declared.pieces.Piece.{Piece}
use Rattle.query_plan.specs.declared.pieces.Piece.TheVariants.{Gap, Mark, Word}
use Rattle.query_plan.specs.Pieces.{EndsWord, Free, After, Inside, bytes, flat, begun, put, is_open, less, stays, thin}
use Rattle.query_plan.specs.Cutting.{ended, fronted, is_mark, side, opens, kept}

pub fronted_byte : (t : List ℕ) (b : ℕ) (ps : List Piece) → fronted (t ++ b ∷ []) ps ≡ fronted t (begun b ps)
fronted_byte [] b ps = refl
fronted_byte (c ∷ t) b ps = ap (λ x. begun c x) (fronted_byte t b ps)

-- a token at the front ends before a piece that is none
fronted_gap : (b : ℕ) (t : List ℕ) (ps : List Piece) → fronted (b ∷ t) (Gap ∷ ps) ≡ Word (b ∷ t) ∷ Gap ∷ ps
fronted_gap b [] ps = refl
fronted_gap b (c ∷ t) ps = ap (λ x. begun b x) (fronted_gap c t ps)

fronted_mark : (b : ℕ) (t : List ℕ) (d : ℕ) (ps : List Piece) → fronted (b ∷ t) (Mark d ∷ ps) ≡ Word (b ∷ t) ∷ Mark d ∷ ps
fronted_mark b [] d ps = refl
fronted_mark b (c ∷ t) d ps = ap (λ x. begun b x) (fronted_mark c t d ps)

fronted_none : (b : ℕ) (t : List ℕ) → fronted (b ∷ t) [] ≡ Word (b ∷ t) ∷ []
fronted_none b [] = refl
fronted_none b (c ∷ t) = ap (λ x. begun b x) (fronted_none c t)

pub ended_none : (out : List Piece) (t : List ℕ) → ended out t ≡ out ++ fronted t []
ended_none out [] = sym (append-nil out)
ended_none out (b ∷ t) = ap (λ x. out ++ x) (sym (fronted_none b t))

ended_gap : (out : List Piece) (t : List ℕ) (ps : List Piece) → (ended out t ++ Gap ∷ []) ++ ps ≡ out ++ fronted t (Gap ∷ ps)
ended_gap out [] ps = append_assoc out (Gap ∷ []) ps
ended_gap out (b ∷ t) ps =
    append_assoc (out ++ Word (b ∷ t) ∷ []) (Gap ∷ []) ps ∙ append_assoc out (Word (b ∷ t) ∷ []) (Gap ∷ ps) ∙ ap (λ x. out ++ x) (sym (fronted_gap b t ps))

ended_mark : (out : List Piece) (t : List ℕ) (d : ℕ) (ps : List Piece) → (ended out t ++ Mark d ∷ []) ++ ps ≡ out ++ fronted t (Mark d ∷ ps)
ended_mark out [] d ps = append_assoc out (Mark d ∷ []) ps
ended_mark out (b ∷ t) d ps =
    append_assoc (out ++ Word (b ∷ t) ∷ []) (Mark d ∷ []) ps ∙ append_assoc out (Word (b ∷ t) ∷ []) (Mark d ∷ ps) ∙ ap (λ x. out ++ x) (sym (fronted_mark b t d ps))

-- a piece that ends the token at hand
pub ends_with : (p : Piece) (out : List Piece) (t : List ℕ) (ps : List Piece) → EndsWord (p ∷ []) → (ended out t ++ p ∷ []) ++ ps ≡ out ++ fronted t (p ∷ ps)
ends_with Gap out t ps e = ended_gap out t ps
ends_with (Mark d) out t ps e = ended_mark out t d ps
ends_with (Word w) out t ps e = absurd e

-- a byte that goes on with it
pub goes_on : (v : Bool) (b : ℕ) (out : List Piece) (t : List ℕ) (ps : List Piece) → v ≡ true → out ++ fronted (t ++ b ∷ []) ps ≡ out ++ fronted t (put v b ps)
goes_on true b out t ps is = ap (λ x. out ++ x) (fronted_byte t b ps)
goes_on false b out t ps is = absurd (cc)

open_inside : (ps : List Piece) → is_open Inside ps ≡ is_open Free ps
open_inside ps = refl

thin_inside : (n : ℕ) (ps : List Piece) → thin n Inside ps ≡ thin n Free ps
thin_inside n [] = refl
thin_inside n (Gap ∷ ps) = refl
thin_inside n (Mark d ∷ ps) = refl
thin_inside n (Word t ∷ ps) = refl

pub open_after : (d : ℕ) (ps : List Piece) → is_open (After d) ps ≡ is_open (After 0) ps
open_after d [] = refl
open_after d (Gap ∷ ps) = refl
open_after d (Mark c ∷ ps) = refl
open_after d (Word t ∷ ps) = refl

thin_after : (n d : ℕ) (ps : List Piece) → thin n (After d) ps ≡ thin n (After 0) ps
thin_after n d [] = refl
thin_after n d (Gap ∷ ps) = refl
thin_after n d (Mark c ∷ ps) = refl
thin_after n d (Word t ∷ ps) = ap (λ o. stays n o t ∷ thin (less n o) Inside ps) (open_after d ps)

-- as many may stay as before, but for one that does
abbrev pub left_of : ℕ → Bool → ℕ
left_of n o = less n o

stays_is : (n : ℕ) (o : Bool) (t : List ℕ) → stays n o t ≡ kept (not o || nat_lt 0 n) (Word t)
stays_is zero true t = refl
stays_is zero false t = refl
stays_is (suc n) true t = let some : nat_lt 0 (suc n) ≡ true = grind arith in ap (λ v. kept v (Word t)) (sym some)
stays_is (suc n) false t = refl

-- one piece of the loop that thins
pub thin_first : (n : ℕ) (after : Bool) (p : Piece) (ps : List Piece)
    → thin n (side after) (p ∷ ps) ≡ kept (not (opens after p ps) || nat_lt 0 n) p ∷ thin (less n (opens after p ps)) (side (is_mark p)) ps
thin_first n after Gap ps = refl
thin_first n after (Mark d) ps = ap (λ x. Mark d ∷ x) (thin_after n d ps)
thin_first n after (Word t) ps =
    let o = is_open (side after) ps in
    ap (λ x. x ∷ thin (less n o) Inside ps) (stays_is n o t) ∙ ap (λ x. kept (not o || nat_lt 0 n) (Word t) ∷ x) (thin_inside (less n o) ps)

bytes_more : (t : List ℕ) (q : List Item) → bytes t [] ++ q ≡ bytes t q
bytes_more [] q = refl
bytes_more (b ∷ t) q = ap (λ x. Byte b ∷ x) (bytes_more t q)

flat_first : (p : Piece) (ps : List Piece) → flat (p ∷ []) ++ flat ps ≡ flat (p ∷ ps)
flat_first Gap ps = refl
flat_first (Mark d) ps = refl
flat_first (Word t) ps = bytes_more t (flat ps)

-- one piece of the loop that gives the items
pub flat_more : (done : List Item) (p : Piece) (ps : List Piece) → (done ++ flat (p ∷ [])) ++ flat ps ≡ done ++ flat (p ∷ ps)
flat_more done p ps = append_assoc done (flat (p ∷ [])) (flat ps) ∙ ap (λ x. done ++ x) (flat_first p ps)

-- the same, of what the calls gave
pub thin_step : (n : ℕ) (after : Bool) (p : Piece) (ps : List Piece) (o m e : Bool) (k : Piece) (s : ℕ)
    → o ≡ opens after p ps → m ≡ (not o || nat_lt 0 n) → k ≡ kept m p → e ≡ is_mark p → s ≡ less n o
    → k ∷ thin s (side e) ps ≡ thin n (side after) (p ∷ ps)
thin_step n after p ps o m e k s o_is m_is k_is e_is s_is =
    let first : k ≡ kept (not (opens after p ps) || nat_lt 0 n) p = k_is ∙ ap (λ v. kept v p) (m_is ∙ ap (λ v. not v || nat_lt 0 n) o_is) in
    let left : s ≡ less n (opens after p ps) = s_is ∙ ap (λ v. less n v) o_is in
    ap (λ x. x ∷ thin s (side e) ps) first
    ∙ ap (λ x. kept (not (opens after p ps) || nat_lt 0 n) p ∷ thin x (side e) ps) left
    ∙ ap (λ x. kept (not (opens after p ps) || nat_lt 0 n) p ∷ thin (less n (opens after p ps)) (side x) ps) e_is
    ∙ sym (thin_first n after p ps)

token_byte : (v : Bool) (b : ℕ) → is_token_byte b ≡ v → ¬ IsDelimiter b → is_token_byte b ≡ true
token_byte true b is no_mark = is
token_byte false b is no_mark = absurd (no_mark is)

pub no_delimiter : (b : ℕ) (r : Bool) → (IsTrue r ↔ IsDelimiter b) → ¬ IsTrue r → is_token_byte b ≡ true
no_delimiter b r iff not_so = token_byte (is_token_byte b) b refl (λ is. not_so (iff.1 is))

pub no_items : (items : List Item) → length items ≡ 0 → items ≡ []
no_items [] is = refl
no_items (i ∷ items) is = absurd (omega arith)
