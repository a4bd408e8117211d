-- Readings are exact.
use Rattle.std.proofs.Common.{◌≡◌, ◌↔◌, ℕ, List, [], ◌∷◌, ◌++◌, refl, sym, ap, subst, ◌∙◌}
use Rattle.std.specs.Prelude.{Option, None}
use Rattle.token_rules.specs.Tokens.{IsDelimiter}
use Rattle.wild_match.specs.Matches.{Match}
use Rattle.wild_match.specs.declared.pattern.Item.{Item}
use Rattle.wild_match.specs.declared.pattern.Item.TheVariants.{Byte, One, Many}
use Rattle.logtype_text.specs.Parts.{Part, joined}
use Rattle.query_plan.specs.declared.pieces.Piece.{Piece}
use Rattle.query_plan.specs.declared.pieces.Piece.TheVariants.{Gap, Mark, Word}
use Rattle.query_plan.specs.Pieces.{Free, flat, IsCut, pieces}
use Rattle.query_plan.specs.Readings.{Rest, now, same, one, past, stay, BeginsBody, SomeReads, IsBodyBehind}
use Rattle.query_plan.specs.Laws.{IsSmooth, IsWidened, NoOne}
use Rattle.query_plan.proofs.MatchLemmas.{Steps, byte, steps, stepped, rest_match, match_rest}
use Rattle.query_plan.proofs.SoundLemmas.{front, sound}
use Rattle.query_plan.proofs.CompleteLemmas.{Symbols, none, delimiter, constant, variable, complete, clash}
use Rattle.logtype_text.specs.Cut.{plains}
use Rattle.query_plan.proofs.CutLemmas.{flat_pieces, pieces_cut}

pub joined_plains : (w : List ℕ) (parts : List Part) → joined (plains w parts) ≡ w ++ joined parts
joined_plains [] parts = refl
joined_plains (b ∷ w) parts = ap (λ x. b ∷ x) (joined_plains w parts)

pub symbols_text : {e : Option ℕ} {s : List ℕ} {parts : List Part} → Symbols e s parts → joined parts ≡ s
symbols_text none = refl
symbols_text (delimiter {d = d} is n) = ap (λ x. d ∷ x) (symbols_text n)
symbols_text (constant {parts = parts} w k breaks is n) = joined_plains w parts ∙ ap (λ x. w ++ x) (symbols_text n)
symbols_text (variable w kind k breaks is n) = ap (λ x. w ++ x) (symbols_text n)

pub rest_smooth : {p q : List Item} {s : List ℕ} → Rest p s q → IsSmooth p → IsSmooth q
rest_smooth now m = m
rest_smooth (same r) m = rest_smooth r m.1
rest_smooth (one r) m = absurd m
rest_smooth (past r) m = rest_smooth r m
rest_smooth (stay r) m = rest_smooth r m

-- the pattern does not begin with a byte of a token
abbrev pub BeginsOutside : List Item → Type 0
BeginsOutside [] = Unit {0}
BeginsOutside (Byte c ∷ q) = IsDelimiter c
BeginsOutside (One ∷ q) = Unit {0}
BeginsOutside (Many ∷ q) = Unit {0}

pub begins_outside : (p : List Item) → IsWidened p → (s : List ℕ) (q : List Item) → Rest p s q → BeginsBody s q → BeginsOutside q
begins_outside (Many ∷ p) w [] q now b = tt
begins_outside [] w [] q r b = absurd w
begins_outside (Byte _ ∷ p) w [] q r b = absurd w
begins_outside (One ∷ p) w [] q r b = absurd w
begins_outside p w (a ∷ s) [] r b = tt
begins_outside p w (a ∷ s) (Byte c ∷ q) r b = b
begins_outside p w (a ∷ s) (One ∷ q) r b = tt
begins_outside p w (a ∷ s) (Many ∷ q) r b = tt

front_outside : (ps : List Piece) → IsCut ps → BeginsOutside (flat ps) → front Free ps ≡ flat ps
front_outside [] c b = refl
front_outside (Gap ∷ ps) c b = refl
front_outside (Mark d ∷ ps) c b = refl
front_outside (Word [] ∷ ps) c b = absurd c.0
front_outside (Word (x ∷ t) ∷ ps) c b = absurd (clash x c.0.0 b)

pub smooth_one : (q : List Item) → IsSmooth q → NoOne q
smooth_one [] s = tt
smooth_one (Byte b ∷ q) s = smooth_one q s.1
smooth_one (One ∷ q) s = s
smooth_one (Many ∷ q) s = smooth_one q s

pub widened_smooth : (p : List Item) → IsWidened p → IsSmooth p
widened_smooth [] w = absurd w
widened_smooth (Byte b ∷ p) w = absurd w
widened_smooth (One ∷ p) w = absurd w
widened_smooth (Many ∷ p) w = w

accepted : (p : List Item) (s body : List ℕ) (parts : List Part) → IsWidened p → Symbols None body parts → SomeReads p s parts → Match p (s ++ body)
accepted p s body parts w symbols r =
    let ps = r.is_reading.0 in
    let smooth = subst IsSmooth (sym r.is_reading.1) (rest_smooth r.is_tail.0 (widened_smooth p w)) in
    let outside = subst BeginsOutside (sym r.is_reading.1) (begins_outside p w s r.tail r.is_tail.0 r.is_tail.1) in
    let m : Steps (front Free ps) (joined parts) = sound r.is_reading.3 r.is_reading.2 smooth parts r.accepts in
    let n : Steps r.tail (joined parts) = subst (λ q. Steps q (joined parts)) (front_outside ps r.is_reading.2 outside ∙ r.is_reading.1) m in
    let at_body : Steps r.tail body = subst (λ x. Steps r.tail x) (symbols_text symbols) n in
    stepped (rest_match body r.is_tail.0 at_body)

pub begins_body : (s body : List ℕ) (q : List Item) → IsBodyBehind s body → Steps q body → BeginsBody s q
begins_body [] body q b m = tt
begins_body (a ∷ s) body [] b m = tt
begins_body (a ∷ s) [] (Byte c ∷ q) b m = elim m [ ]
begins_body (a ∷ s) (x ∷ body) (Byte c ∷ q) b (byte m) = b
begins_body (a ∷ s) body (One ∷ q) b m = tt
begins_body (a ∷ s) body (Many ∷ q) b m = tt

found : (p : List Item) (s body : List ℕ) (parts : List Part) → IsWidened p → IsBodyBehind s body → Symbols None body parts → Match p (s ++ body) → SomeReads p s parts
found p s body parts w behind symbols m =
    let l = match_rest p body s (steps p (s ++ body) m) in
    let smooth = rest_smooth l.is_rest (widened_smooth p w) in
    let same_items = flat_pieces l.rest (smooth_one l.rest smooth) in
    let f = complete symbols Free (pieces l.rest) (pieces_cut l.rest) tt (subst (λ q. Steps q body) (sym same_items) l.fits) in
    record {
      tail = l.rest;
      reading = f.reading;
      is_tail = (l.is_rest, begins_body s body l.rest behind l.fits);
      is_reading = (pieces l.rest, same_items, pieces_cut l.rest, f.reads);
      accepts = f.accepts;
    }

pub exact : (p : List Item) (s body : List ℕ) (parts : List Part) → IsWidened p → IsBodyBehind s body → Symbols None body parts
    → SomeReads p s parts ↔ Match p (s ++ body)
exact p s body parts w behind symbols = (accepted p s body parts w symbols, found p s body parts w behind symbols)
