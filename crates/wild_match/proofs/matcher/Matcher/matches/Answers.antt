use Rattle.std.proofs.Common.{◌≡◌, ◌∷◌, ◌++◌, length, sym, subst, ap, ◌∙◌, refl}
use Rattle.std.proofs.lemmas.Bool.{false≢true, eqb-true, eq-eqb}
use Rattle.std.proofs.lemmas.List.{take_rest}
use Rattle.wild_match.specs.declared.pattern.Item.TheVariants.{Many}
use Rattle.wild_match.specs.Matches.{Match, Fits, joined}
use Rattle.wild_match.proofs.Matching.{Match-front, front-Match, Match-fixed, fixed-Match, whole, whole-front}
use Rattle.wild_match.proofs.matcher.Matcher.matches.Goals as goal

pub returns-then-not-fits : goal.returns-then-not-fits
returns-then-not-fits c =
    let s = c.args.bytes.now in
    let inside = c.self.inside in
    let front = inside.front.items in
    let behind = joined inside.behind.pieces.items inside.behind.tail.items in
    let e : whole front inside.has_many behind ≡ c.args.self.now.items = ap (λ v. v.items) c.self.view_is in (
      λ no. absurd (false≢true no),
      λ m.
          let f = whole-front front inside.has_many behind s c.self.invariant.0 (subst (λ p. Match p s) (sym e) m) in
          c.if-not-fits.ensures.fits.1 (subst (λ p. Fits p s) (sym c.as_slice-front.ensures.value) f),
    )

pub returns-then-not-self : goal.returns-then-not-self
returns-then-not-self c =
    let s = c.args.bytes.now in
    let inside = c.self.inside in
    let front = inside.front.items in
    let behind = joined inside.behind.pieces.items inside.behind.tail.items in
    let same : c.as_slice-front.result.now ≡ front = c.as_slice-front.ensures.value in
    let e : front ≡ c.args.self.now.items =
    ap (λ many. whole front many behind) (sym c.if-not-self.true) ∙ ap (λ v. v.items) c.self.view_is in
    let f : Fits front s = subst (λ p. Fits p s) same (c.if-not-fits.ensures.fits.0 refl) in (
      λ yes. subst (λ p. Match p s) e (fixed-Match front s f (eqb-true _ _ yes ∙ ap length same)),
      λ m. eq-eqb _ _ ((Match-fixed front s c.self.invariant.0 (subst (λ p. Match p s) (sym e) m)).1 ∙ sym (ap length same)),
    )

pub returns : goal.returns
returns c =
    let s = c.args.bytes.now in
    let inside = c.self.inside in
    let front = inside.front.items in
    let behind = joined inside.behind.pieces.items inside.behind.tail.items in
    let same : c.as_slice-front.result.now ≡ front = c.as_slice-front.ensures.value in
    let e : front ++ Many ∷ behind ≡ c.args.self.now.items =
    ap (λ many. whole front many behind) (sym c.if-not-self.false) ∙ ap (λ v. v.items) c.self.view_is in
    let f : Fits front s = subst (λ p. Fits p s) same (c.if-not-fits.ensures.fits.0 refl) in
    let found = rw (take_rest s (length c.as_slice-front.result.now), same, c.as_slice.ensures.value, c.as_slice-2.ensures.value) at c.pieces_match.ensures in (
      λ yes. subst (λ p. Match p s) e (front-Match front (Many ∷ behind) s f (found.0 yes)),
      λ m. found.1 (Match-front front (Many ∷ behind) s c.self.invariant.0 (subst (λ p. Match p s) (sym e) m)).1,
    )
