-- One step of the loops that count the open tokens and gather the needed words.
use Rattle.std.proofs.Common.{◌≡◌, ◌+◌, ◌≤◌, ℕ, suc, List, [], ◌∷◌, ◌++◌, refl, sym, ap, ◌∙◌, arith}
use Rattle.std.proofs.lemmas.List.{append_assoc}
use Rattle.std.specs.Prelude.{Bool, true, false, not, ◌&&◌, if◌then◌else◌}
use Rattle.std.specs.List.{list_any}
use Rattle.query_plan.specs.declared.pieces.Piece.{Piece}
use Rattle.query_plan.specs.declared.pieces.Piece.TheVariants.{Gap, Mark, Word}
use Rattle.query_plan.specs.Pieces.{Free, After, Inside, is_open, more, open_count, is_needed, needed_of, is_stamp_token_byte}
use Rattle.query_plan.specs.Cutting.{is_mark, side, opens, needed_first}
use Rattle.query_plan.proofs.PlanLemmas.{open_after}

count_inside : (ps : List Piece) → open_count Inside ps ≡ open_count Free ps
count_inside [] = refl
count_inside (Gap ∷ ps) = refl
count_inside (Mark d ∷ ps) = refl
count_inside (Word t ∷ ps) = refl

count_after : (d : ℕ) (ps : List Piece) → open_count (After d) ps ≡ open_count (After 0) ps
count_after d [] = refl
count_after d (Gap ∷ ps) = refl
count_after d (Mark c ∷ ps) = refl
count_after d (Word t ∷ ps) = ap (λ o. more o (open_count Inside ps)) (open_after d ps)

count_first : (after : Bool) (p : Piece) (ps : List Piece) → open_count (side after) (p ∷ ps) ≡ more (opens after p ps) (open_count (side (is_mark p)) ps)
count_first after Gap ps = refl
count_first after (Mark d) ps = count_after d ps
count_first after (Word t) ps = ap (λ n. more (is_open (side after) ps) n) (count_inside ps)

more_past : (o : Bool) (n m : ℕ) → more o n + m ≡ n + more o m
more_past true n m = omega arith
more_past false n m = refl

-- what is counted so far and what is left to count
pub count_step : (n : ℕ) (after : Bool) (p : Piece) (ps : List Piece) (o e : Bool) (k : ℕ)
    → o ≡ opens after p ps → e ≡ is_mark p → k ≡ more o n
    → k + open_count (side e) ps ≡ n + open_count (side after) (p ∷ ps)
count_step n after p ps o e k o_is e_is k_is =
    ap (λ x. x + open_count (side e) ps) (k_is ∙ ap (λ v. more v n) o_is)
    ∙ ap (λ x. more (opens after p ps) n + open_count (side x) ps) e_is
    ∙ more_past (opens after p ps) n (open_count (side (is_mark p)) ps)
    ∙ ap (λ x. n + x) (sym (count_first after p ps))

pub needed_inside : (ps : List Piece) → needed_of Inside ps ≡ needed_of Free ps
needed_inside [] = refl
needed_inside (Gap ∷ ps) = refl
needed_inside (Mark d ∷ ps) = refl
needed_inside (Word t ∷ ps) = refl

abbrev some_needed : Bool → List ℕ → List Piece → List (List ℕ)
some_needed own t ps = if own then t ∷ needed_of Inside ps else needed_of Inside ps

needed_after : (d : ℕ) (ps : List Piece) → needed_of (After d) ps ≡ needed_of (After 0) ps
needed_after d [] = refl
needed_after d (Gap ∷ ps) = refl
needed_after d (Mark c ∷ ps) = refl
needed_after d (Word t ∷ ps) = ap (λ o. some_needed (not o && list_any (λ b. not (is_stamp_token_byte b)) t) t ps) (open_after d ps)

needed_word : (v : Bool) (t : List ℕ) (ps : List Piece) → some_needed v t ps ≡ (if v then t ∷ [] else []) ++ needed_of Free ps
needed_word true t ps = ap (λ x. t ∷ x) (needed_inside ps)
needed_word false t ps = needed_inside ps

needed_front : (after : Bool) (p : Piece) (ps : List Piece) → needed_of (side after) (p ∷ ps) ≡ needed_first after p ps ++ needed_of (side (is_mark p)) ps
needed_front after Gap ps = refl
needed_front after (Mark d) ps = needed_after d ps
needed_front after (Word t) ps = needed_word (is_needed (side after) ps t) t ps

-- what is gathered so far and what is left to gather
pub needed_step : (old new : List (List ℕ)) (after : Bool) (p : Piece) (ps : List Piece) (e : Bool)
    → new ≡ old ++ needed_first after p ps → e ≡ is_mark p
    → new ++ needed_of (side e) ps ≡ old ++ needed_of (side after) (p ∷ ps)
needed_step old new after p ps e new_is e_is =
    ap (λ x. x ++ needed_of (side e) ps) new_is
    ∙ append_assoc old (needed_first after p ps) (needed_of (side e) ps)
    ∙ ap (λ x. old ++ (needed_first after p ps ++ needed_of (side x) ps)) e_is
    ∙ ap (λ x. old ++ x) (sym (needed_front after p ps))

pub more_within : (o : Bool) (n m k r : ℕ) → r ≡ more o n → n + suc m ≤ k → r + m ≤ k
more_within true n m k r is small = omega (arith, is, small)
more_within false n m k r is small = omega (arith, is, small)
