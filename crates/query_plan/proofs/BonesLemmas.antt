-- One step of the loops that tell needed variables and make the skeleton, and what a cut gives them.
use Rattle.std.proofs.Common.{◌≡◌, ◌<◌, ℕ, zero, suc, List, [], ◌∷◌, ◌++◌, length, refl, sym, ap, subst, ◌∙◌, arith}
use Rattle.std.proofs.lemmas.List.{append_assoc}
use Rattle.std.specs.Prelude.{Bool, true, false, not, ◌&&◌, Option, Some, None, slice_index, if◌then◌else◌}
use Rattle.std.specs.List.{list_any}
use Rattle.token_rules.specs.Tokens.{IsDelimiter, is_variable}
use Rattle.wild_match.specs.declared.pattern.Item.{Item}
use Rattle.wild_match.specs.declared.pattern.Item.TheVariants.{Byte, Many}
use Rattle.query_plan.specs.declared.pieces.Piece.{Piece}
use Rattle.query_plan.specs.declared.pieces.Piece.TheVariants.{Gap, Mark, Word}
use Rattle.query_plan.specs.Pieces.{Free, After, Inside, IsInner, IsSomeInner, IsCut, EndsWord, bytes, is_open, is_needed, is_stamp_token_byte, stays, thin, less, merge, one_gap, pieces, wide_pieces}
use Rattle.query_plan.specs.Cutting.{side_of, delimiter_of, variable_first, bones_first}
use Rattle.query_plan.specs.Needs.{needed_variables_of, is_behind, back_part, bone, token_bones, bones, skeleton_of}
use Rattle.query_plan.proofs.CompleteLemmas.{clash}
use Rattle.query_plan.proofs.CutLemmas.{pieces_cut}
use Rattle.query_plan.proofs.PlanLemmas.{open_after}

-- what a cut says of a token
pub some_length : (t : List ℕ) → IsSomeInner t → 0 < length t
some_length [] h = absurd h
some_length (b ∷ t) h = omega arith

inner_at : (t : List ℕ) → IsInner t → (k : ℕ) → k < length t → IsDelimiter (slice_index t k) → ⊥
inner_at [] h k lt d = absurd (omega arith)
inner_at (b ∷ t) h zero lt d = clash b h.0 d
inner_at (b ∷ t) h (suc k) lt d = inner_at t h.1 k (omega arith) d

pub some_inner_at : (t : List ℕ) → IsSomeInner t → (k : ℕ) → k < length t → IsDelimiter (slice_index t k) → ⊥
some_inner_at [] h k lt d = absurd h
some_inner_at (b ∷ t) h k lt d = inner_at (b ∷ t) h k lt d

pub word_inner : (p : Piece) (ps : List Piece) (t : List ℕ) → IsCut (p ∷ ps) → p ≡ Word t → IsSomeInner t
word_inner p ps t c is = (subst (λ x. IsCut (x ∷ ps)) is c).0

pub cut_behind : (p : Piece) (ps : List Piece) → IsCut (p ∷ ps) → IsCut ps
cut_behind Gap ps c = c
cut_behind (Mark d) ps c = c.1
cut_behind (Word t) ps c = c.2

-- the planned pieces are a cut
thin_ends : (n : ℕ) (e : _) (ps : List Piece) → EndsWord ps → EndsWord (thin n e ps)
thin_ends n e [] h = tt
thin_ends n e (Gap ∷ ps) h = tt
thin_ends n e (Mark d ∷ ps) h = tt
thin_ends n e (Word t ∷ ps) h = absurd h

stays_cut : (n : ℕ) (o : Bool) (t : List ℕ) (ps : List Piece) → IsSomeInner t → EndsWord ps → IsCut ps → IsCut (stays n o t ∷ ps)
stays_cut zero true t ps i e c = c
stays_cut zero false t ps i e c = (i, e, c)
stays_cut (suc n) o t ps i e c = (i, e, c)

thin_cut : (n : ℕ) (e : _) (ps : List Piece) → IsCut ps → IsCut (thin n e ps)
thin_cut n e [] c = tt
thin_cut n e (Gap ∷ ps) c = thin_cut n Free ps c
thin_cut n e (Mark d ∷ ps) c = (c.0, thin_cut n (After d) ps c.1)
thin_cut n e (Word t ∷ ps) c =
    let o = is_open e ps in
    stays_cut n o t (thin (less n o) Inside ps) c.0 (thin_ends (less n o) Inside ps c.1) (thin_cut (less n o) Inside ps c.2)

one_gap_cut : (ps : List Piece) → IsCut ps → IsCut (one_gap ps)
one_gap_cut [] c = tt
one_gap_cut (Gap ∷ ps) c = c
one_gap_cut (Mark d ∷ ps) c = c
one_gap_cut (Word t ∷ ps) c = c

one_gap_ends : (ps : List Piece) → EndsWord (one_gap ps)
one_gap_ends [] = tt
one_gap_ends (Gap ∷ ps) = tt
one_gap_ends (Mark d ∷ ps) = tt
one_gap_ends (Word t ∷ ps) = tt

merge_ends : (ps : List Piece) → EndsWord ps → EndsWord (merge ps)
merge_ends [] h = tt
merge_ends (Gap ∷ ps) h = one_gap_ends (merge ps)
merge_ends (Mark d ∷ ps) h = tt
merge_ends (Word t ∷ ps) h = absurd h

merge_cut : (ps : List Piece) → IsCut ps → IsCut (merge ps)
merge_cut [] c = tt
merge_cut (Gap ∷ ps) c = one_gap_cut (merge ps) (merge_cut ps c)
merge_cut (Mark d ∷ ps) c = (c.0, merge_cut ps c.1)
merge_cut (Word t ∷ ps) c = (c.0, merge_ends ps c.1, merge_cut ps c.2)

pub wide_cut : (q : List Item) → IsCut (wide_pieces q)
wide_cut q = merge_cut (thin 4 Free (pieces q)) (thin_cut 4 Free (pieces q) (pieces_cut q))

-- the needed variables, piece by piece
pub variables_inside : (ps : List Piece) → needed_variables_of Inside ps ≡ needed_variables_of Free ps
variables_inside [] = refl
variables_inside (Gap ∷ ps) = refl
variables_inside (Mark d ∷ ps) = refl
variables_inside (Word t ∷ ps) = refl

abbrev some_flag : Bool → Bool → List Piece → List Bool
some_flag own v ps = if own then v ∷ needed_variables_of Inside ps else needed_variables_of Inside ps

flag_word : (own v : Bool) (ps : List Piece) → some_flag own v ps ≡ (if own then v ∷ [] else []) ++ needed_variables_of Free ps
flag_word true v ps = ap (λ x. v ∷ x) (variables_inside ps)
flag_word false v ps = variables_inside ps

variable_front : (before : Option ℕ) (p : Piece) (ps : List Piece)
    → needed_variables_of (side_of before) (p ∷ ps) ≡ variable_first before p ps ++ needed_variables_of (side_of (delimiter_of p)) ps
variable_front before Gap ps = refl
variable_front before (Mark d) ps = refl
variable_front None (Word t) ps = flag_word (is_needed Free ps t) (is_variable None t) ps
variable_front (Some d) (Word t) ps =
    ap (λ o. some_flag (not o && list_any (λ b. not (is_stamp_token_byte b)) t) (is_variable (Some d) t) ps) (open_after d ps)
    ∙ flag_word (is_needed (After 0) ps t) (is_variable (Some d) t) ps

-- the flags so far and those of what is left
pub variable_step : (old new : List Bool) (before after : Option ℕ) (p : Piece) (ps : List Piece)
    → new ≡ old ++ variable_first before p ps → after ≡ delimiter_of p
    → new ++ needed_variables_of (side_of after) ps ≡ old ++ needed_variables_of (side_of before) (p ∷ ps)
variable_step old new before after p ps new_is after_is =
    ap (λ x. x ++ needed_variables_of (side_of after) ps) new_is
    ∙ append_assoc old (variable_first before p ps) (needed_variables_of (side_of after) ps)
    ∙ ap (λ x. old ++ (variable_first before p ps ++ needed_variables_of (side_of x) ps)) after_is
    ∙ ap (λ x. old ++ x) (sym (variable_front before p ps))

-- the skeleton, piece by piece
pub bones_inside : (ps : List Piece) → bones Inside ps ≡ bones Free ps
bones_inside [] = refl
bones_inside (Gap ∷ ps) = refl
bones_inside (Mark d ∷ ps) = refl
bones_inside (Word t ∷ ps) = refl

bytes_front : (t : List ℕ) (q : List Item) → bytes t q ≡ bytes t [] ++ q
bytes_front [] q = refl
bytes_front (b ∷ t) q = ap (λ x. Byte b ∷ x) (bytes_front t q)

bone_front : (v : Bool) (t : List ℕ) (q : List Item) → bone v t q ≡ bone v t [] ++ q
bone_front true t q = refl
bone_front false t q = bytes_front t q

token_front : (o : Bool) (before : Option ℕ) (t : List ℕ) (ps : List Piece)
    → token_bones o before t (bones Inside ps) ≡ token_bones o before t [] ++ bones Free ps
token_front true before t ps = ap (λ x. Many ∷ x) (bones_inside ps)
token_front false before t ps =
    bone_front (is_variable before t) t (bones Inside ps) ∙ ap (λ x. bone (is_variable before t) t [] ++ x) (bones_inside ps)

bones_front : (before : Option ℕ) (p : Piece) (ps : List Piece)
    → bones (side_of before) (p ∷ ps) ≡ bones_first before p ps ++ bones (side_of (delimiter_of p)) ps
bones_front before Gap ps = refl
bones_front before (Mark d) ps = refl
bones_front None (Word t) ps = token_front (is_open Free ps) None t ps
bones_front (Some d) (Word t) ps =
    ap (λ o. token_bones o (Some d) t (bones Inside ps)) (open_after d ps) ∙ token_front (is_open (After 0) ps) (Some d) t ps

-- the items so far and those of what is left
pub bones_step : (old new : List Item) (before after : Option ℕ) (p : Piece) (ps : List Piece)
    → new ≡ old ++ bones_first before p ps → after ≡ delimiter_of p
    → new ++ bones (side_of after) ps ≡ old ++ bones (side_of before) (p ∷ ps)
bones_step old new before after p ps new_is after_is =
    ap (λ x. x ++ bones (side_of after) ps) new_is
    ∙ append_assoc old (bones_first before p ps) (bones (side_of after) ps)
    ∙ ap (λ x. old ++ (bones_first before p ps ++ bones (side_of x) ps)) after_is
    ∙ ap (λ x. old ++ x) (sym (bones_front before p ps))

-- the pieces that can lie in no stamp are cut too
back_if : (v : Bool) (p : Piece) (ps : List Piece) → IsCut (p ∷ ps) → IsCut (back_part ps) → IsCut (if v then p ∷ ps else back_part ps)
back_if true p ps c d = c
back_if false p ps c d = d

pub back_cut : (ps : List Piece) → IsCut ps → IsCut (back_part ps)
back_cut [] c = tt
back_cut (p ∷ ps) c = back_if (is_behind p ps) p ps c (back_cut ps (cut_behind p ps c))

pub skeleton_begins : (ps rest : List Piece) (items : List Item) → IsCut ps → rest ≡ back_part ps → items ≡ Many ∷ []
    → IsCut rest × (items ++ bones Free rest ≡ skeleton_of ps)
skeleton_begins ps rest items c rest_is items_is = (
  subst IsCut (sym rest_is) (back_cut ps c),
  ap (λ x. x ++ bones Free rest) items_is ∙ ap (λ x. Many ∷ bones Free x) rest_is,
)
