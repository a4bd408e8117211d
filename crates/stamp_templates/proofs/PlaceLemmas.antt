-- Where a text stands in a stamp.
use Rattle.std.proofs.Common.{◌≡◌, ℕ, suc, ◌+◌, ◌<◌, List, [], ◌∷◌, ◌++◌, length, take, drop, get_or, refl, sym, ap, subst, ◌∙◌, arith, inl, inr, length-append}
use Rattle.std.specs.Prelude.{IsTrue, slice_index}
use Rattle.std.proofs.lemmas.List.{get_or-take, get_or-drop}
use Rattle.std.proofs.Math.Seq.{drop-append_seam, take-length}
use Rattle.wild_match.specs.Matches.{Match, OfSomeRest}
use Rattle.wild_match.specs.declared.pattern.Item.TheVariants.{Many}
use Rattle.query_plan.specs.Pieces.{bytes}
use Rattle.stamp_templates.specs.Laws.{EndsNone, MatchesStand, PlacesFit, StandsAt, StandsInNone, TextsFit}
use Rattle.stamp_templates.specs.Templates.{Fits, FitsAt, allows, template_of}

-- ---- what matches stands somewhere

front_stands : (text stamp : List ℕ) → Match (bytes text (Many ∷ [])) stamp → StandsAt text stamp 0
front_stands [] stamp m = (omega arith, refl)
front_stands (b ∷ text) [] m = absurd m
front_stands (b ∷ text) (c ∷ stamp) m =
    let r = front_stands text stamp m.1 in
    (omega (arith, r.0), ap (λ x. c ∷ x) r.1 ∙ ap (λ x. x ∷ text) m.0)

some_stands : (text stamp : List ℕ) → OfSomeRest (λ rest. Match (bytes text (Many ∷ [])) rest) stamp → (at : ℕ) × StandsAt text stamp at
some_stands text [] m = (0, front_stands text [] m)
some_stands text (b ∷ stamp) (inl here) = (0, front_stands text (b ∷ stamp) here)
some_stands text (b ∷ stamp) (inr later) = let r = some_stands text stamp later in (suc r.0, (omega (arith, r.1.0), r.1.1))

pub matches_stand : MatchesStand
matches_stand text stamp m = some_stands text stamp m

-- ---- and where the template allows it

pub same_byte : (stamp text : List ℕ) (at : ℕ) → StandsAt text stamp at → (i : ℕ) → i < length text → slice_index stamp (at + i) ≡ slice_index text i
same_byte stamp text at h i small =
    sym (get_or-drop at stamp i 0) ∙ sym (get_or-take (length text) (drop at stamp) i 0 small) ∙ ap (λ x. get_or x i 0) h.1

pub part_fits : (template stamp text : List ℕ) (at : ℕ) → Fits template stamp → StandsAt text stamp at → FitsAt template text at
part_fits template stamp text at fits h = (
  omega (arith, fits.0, h.0),
  λ i small. subst (λ b. IsTrue (allows (slice_index template (at + i)) b)) (same_byte stamp text at h i small) (fits.1 (at + i) (omega (arith, h.0, small))),
)

pub places_fit : TextsFit → PlacesFit
places_fit law k m stamp text at p h = part_fits (template_of k) stamp text at (law k m stamp p) h

-- a text at the end of a stamp stands there
pub end_stands : (before text : List ℕ) → StandsAt text (before ++ text) (length before)
end_stands before text = (
  omega (arith, length-append before text),
  ap (λ x. take (length text) x) (drop-append_seam before text) ∙ take-length text,
)

-- so nothing ends with it where the template does not allow it at its end
pub ends_none : TextsFit → (k : ℕ) (text : List ℕ) → ((at : ℕ) → at + length text ≡ length (template_of k) → ¬ FitsAt (template_of k) text at) → EndsNone k text
ends_none law k text none m before p =
    let fits : Fits (template_of k) (before ++ text) = law k m (before ++ text) p in
    none (length before) (omega (arith, fits.0, length-append before text))
    (part_fits (template_of k) (before ++ text) text (length before) fits (end_stands before text))

-- a text that the template allows nowhere stands in no stamp
pub stands_in_none : MatchesStand → PlacesFit → (k : ℕ) (text : List ℕ) → ((at : ℕ) → ¬ FitsAt (template_of k) text at) → StandsInNone k text
stands_in_none stand law k text none m stamp p found =
    let at = stand text stamp found in
    none at.0 (law k m stamp text at.0 p at.1)
