-- The pieces of a pattern are its cut.
use Rattle.std.proofs.Common.{◌≡◌, ℕ, List, [], ◌∷◌, refl, ap, ◌∙◌}
use Rattle.std.specs.Prelude.{Bool, true, false}
use Rattle.token_rules.specs.Tokens.{is_token_byte}
use Rattle.wild_match.specs.declared.pattern.Item.{Item}
use Rattle.wild_match.specs.declared.pattern.Item.TheVariants.{Byte, One, Many}
use Rattle.query_plan.specs.declared.pieces.Piece.{Piece}
use Rattle.query_plan.specs.declared.pieces.Piece.TheVariants.{Gap, Mark, Word}
use Rattle.query_plan.specs.Pieces.{flat, IsInner, IsCut, IsSomeInner, put, pieces}
use Rattle.query_plan.specs.Laws.{NoOne}

pub flat_put : (v : Bool) (b : ℕ) (ps : List Piece) → flat (put v b ps) ≡ Byte b ∷ flat ps
flat_put true b [] = refl
flat_put true b (Gap ∷ ps) = refl
flat_put true b (Mark d ∷ ps) = refl
flat_put true b (Word t ∷ ps) = refl
flat_put false b ps = refl

pub flat_pieces : (q : List Item) → NoOne q → flat (pieces q) ≡ q
flat_pieces [] n = refl
flat_pieces (Byte b ∷ q) n = flat_put (is_token_byte b) b (pieces q) ∙ ap (λ x. Byte b ∷ x) (flat_pieces q n)
flat_pieces (One ∷ q) n = absurd n
flat_pieces (Many ∷ q) n = ap (λ x. Many ∷ x) (flat_pieces q n)

inner_of : (t : List ℕ) → IsSomeInner t → IsInner t
inner_of [] c = absurd c
inner_of (b ∷ t) c = c

put_cut : (v : Bool) (b : ℕ) → is_token_byte b ≡ v → (ps : List Piece) → IsCut ps → IsCut (put v b ps)
put_cut true b is [] c = ((is, tt), tt, tt)
put_cut true b is (Gap ∷ ps) c = ((is, tt), tt, c)
put_cut true b is (Mark d ∷ ps) c = ((is, tt), tt, c)
put_cut true b is (Word t ∷ ps) c = ((is, inner_of t c.0), c.1, c.2)
put_cut false b is ps c = (is, c)

pub pieces_cut : (q : List Item) → IsCut (pieces q)
pieces_cut [] = tt
pieces_cut (Byte b ∷ q) = put_cut (is_token_byte b) b refl (pieces q) (pieces_cut q)
pieces_cut (One ∷ q) = pieces_cut q
pieces_cut (Many ∷ q) = pieces_cut q
