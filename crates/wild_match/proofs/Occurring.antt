-- Where a pattern matches, its literal bytes stand in the message.
use Rattle.std.proofs.Common.{◌≡◌, ℕ, zero, suc, ◌+◌, ◌-◌, ◌≤◌, List, [], ◌∷◌, length, take, drop, map, get_or, refl, sym, ap, subst, ◌∙◌, arith, length-drop, length-take, get_or-take, get_or-drop}
use Rattle.std.proofs.lemmas.List.{drop-drop}
use Rattle.std.specs.Prelude.{Option, Some, None, option_map}
use Rattle.memchr.specs.Find.{OccursAt, FindsNeedle}
use Rattle.wild_match.specs.declared.pattern.Item.{Item}
use Rattle.wild_match.specs.declared.pattern.Item.TheVariants.{Byte, One, Many}
use Rattle.wild_match.specs.Matches.{Match, Fits, FitsAt}
use Rattle.wild_match.specs.Runs.{RunAt}
use Rattle.wild_match.proofs.Matching.{rest_of, Fits-length}

-- the bytes of a run stand at a place
pub stands : (s run : List ℕ) (k : ℕ) → k ≤ length s → take (length run) (drop k s) ≡ run → OccursAt s run k
stands s run k le e =
    let fits : length run ≤ length s - k = omega (arith, sym (ap length e), length-take (length run) (drop k s), length-drop k s) in
    record {
      fits = omega arith;
      reads = λ j b.
          sym (ap (λ r. get_or r j 0) (sym e) ∙ (get_or-take (length run) (drop k s) j 0 b ∙ get_or-drop k s j 0));
    }

Fits-front : (p : List Item) (run s : List ℕ) → Fits p s → take (length run) p ≡ map (λ b. Byte b) run → take (length run) s ≡ run
Fits-front p [] s f e = refl
Fits-front [] (r ∷ run) s f e = absurd (cc)
Fits-front (Byte c ∷ p) (r ∷ run) [] f e = absurd f
Fits-front (Byte c ∷ p) (r ∷ run) (b ∷ s) f e =
    let rest : take (length run) p ≡ map (λ b. Byte b) run = cc in
    let same : b ≡ c = f.0 in
    let h = Fits-front p run s f.1 rest in cc
Fits-front (One ∷ p) (r ∷ run) s f e = absurd (cc)
Fits-front (Many ∷ p) (r ∷ run) s f e = absurd f

-- the run of items that fit stands in the bytes, as far in
pub Fits-run : (p : List Item) (run : List ℕ) (k : ℕ) (s : List ℕ) → k + length run ≤ length p → RunAt p run k → Fits p s → take (length run) (drop k s) ≡ run
Fits-run p run zero s le e f = Fits-front p run s f e
Fits-run [] run (suc k) s le e f = absurd (omega arith)
Fits-run (Byte c ∷ p) run (suc k) [] le e f = absurd f
Fits-run (Byte c ∷ p) run (suc k) (b ∷ s) le e f = Fits-run p run k s (omega arith) e f.1
Fits-run (One ∷ p) run (suc k) [] le e f = absurd f
Fits-run (One ∷ p) run (suc k) (b ∷ s) le e f = Fits-run p run k s (omega arith) e f
Fits-run (Many ∷ p) run (suc k) s le e f = absurd f

Match-run_front : (p : List Item) (run s : List ℕ) → Match p s → take (length run) p ≡ map (λ b. Byte b) run → take (length run) s ≡ run
Match-run_front p [] s m e = refl
Match-run_front [] (r ∷ run) s m e = absurd (cc)
Match-run_front (Byte c ∷ p) (r ∷ run) [] m e = absurd m
Match-run_front (Byte c ∷ p) (r ∷ run) (b ∷ s) m e =
    let rest : take (length run) p ≡ map (λ b. Byte b) run = cc in
    let same : b ≡ c = m.0 in
    let h = Match-run_front p run s m.1 rest in cc
Match-run_front (One ∷ p) (r ∷ run) s m e = absurd (cc)
Match-run_front (Many ∷ p) (r ∷ run) s m e = absurd (cc)

-- each run of literal bytes of a pattern that matches stands somewhere
pub record Stands (s run : List ℕ) : Type 0 where
  pub at : ℕ
  pub within : at ≤ length s
  pub reads : take (length run) (drop at s) ≡ run

later : (b : ℕ) (s run : List ℕ) → Stands s run → Stands (b ∷ s) run
later b s run h = record { at = suc h.at; within = omega (arith, h.within); reads = h.reads }

none_there : (run s : List ℕ) (k : ℕ) → RunAt [] run (suc k) → Stands s run
none_there [] s k e = record { at = 0; within = omega arith; reads = refl }
none_there (r ∷ run) s k e = absurd (cc)

pub Match-run : (p : List Item) (run : List ℕ) (k : ℕ) (s : List ℕ) → RunAt p run k → Match p s → Stands s run
Match-run p run zero s e m = record { at = 0; within = omega arith; reads = Match-run_front p run s m e }
Match-run [] run (suc k) s e m = none_there run s k e
Match-run (Byte c ∷ p) run (suc k) [] e m = absurd m
Match-run (Byte c ∷ p) run (suc k) (b ∷ s) e m = later b s run (Match-run p run k s e m.1)
Match-run (One ∷ p) run (suc k) [] e m = absurd m
Match-run (One ∷ p) run (suc k) (b ∷ s) e m = later b s run (Match-run p run k s e m)
Match-run (Many ∷ p) run (suc k) s e m =
    let t = rest_of (λ r. Match p r) s m in
    let h = Match-run p run k (drop t.at s) e t.holds in
    let le : h.at ≤ length s - t.at = subst (λ n. h.at ≤ n) (length-drop t.at s) h.within in
    record {
      at = t.at + h.at;
      within = omega (arith, t.within);
      reads = ap (take (length run)) (sym (drop-drop h.at t.at s)) ∙ h.reads;
    }

module _ (fixed : List Item) (s needle : List ℕ) (skip : ℕ) (within : skip + length needle ≤ length fixed) (run : RunAt fixed needle skip) where
  -- items that fit from place k on have their run behind it
  pub FitsAt-OccursAt : (from k : ℕ) → from ≤ k → FitsAt fixed s k → OccursAt (drop (from + skip) s) needle (k - from)
  FitsAt-OccursAt from k le f =
      let long : length fixed ≤ length s - k = subst (λ n. length fixed ≤ n) (length-drop k s) (Fits-length fixed (drop k s) f.1) in
      let inside : k ≤ length s = f.0 in
      let there : drop (k - from) (drop (from + skip) s) ≡ drop skip (drop k s) =
      drop-drop (k - from) (from + skip) s ∙ (ap (λ n. drop n s) (omega arith) ∙ sym (drop-drop skip k s)) in
      stands (drop (from + skip) s) needle (k - from) (rw (length-drop (from + skip) s) (omega arith))
      (ap (take (length needle)) there ∙ Fits-run fixed needle skip (drop k s) within run f.1)

-- a needle that stands in what is left from a place on, and in all
module _ (s needle : List ℕ) (from : ℕ) where
  pub occurs_later : (k : ℕ) → from ≤ length s → OccursAt (drop from s) needle k → OccursAt s needle (from + k)
  occurs_later k le h = record {
    fits = omega (arith, h.fits, length-drop from s);
    reads = λ j b.
        let e : from + k + j ≡ from + (k + j) = omega arith in
        ap (λ n. get_or s n 0) e ∙ (sym (get_or-drop from s (k + j) 0) ∙ h.reads j b);
  }

  pub occurs_earlier : (k : ℕ) → from ≤ k → OccursAt s needle k → OccursAt (drop from s) needle (k - from)
  occurs_earlier k le h = record {
    fits = rw (length-drop from s) (omega (arith, h.fits));
    reads = λ j b.
        let e : from + (k - from + j) ≡ k + j = omega arith in
        get_or-drop from s (k - from + j) 0 ∙ (ap (λ n. get_or s n 0) e ∙ h.reads j b);
  }

  pub finds_later : (r : Option ℕ) → from ≤ length s → FindsNeedle (drop from s) needle 0 r → FindsNeedle s needle from (option_map (λ k. from + k) r)
  finds_later None le none =
      λ k low high h. none (k - from) (omega arith) (rw (length-drop from s) (omega (arith, h.fits))) (occurs_earlier k low h)
  finds_later (Some at) le first = (
    record {
      low = omega arith;
      high = let e = first.0.high in omega (arith, length-drop from s);
      before = λ k low high h. first.0.before (k - from) (omega arith) (omega arith) (occurs_earlier k low h);
    },
    occurs_later at le first.1,
  )
