use Rattle.std.proofs.Common.{◌-◌, [], ◌∷◌, length, refl, ap, arith, ⊎_elim}
use Rattle.word_places.specs.declared.place.WordsPlace.{WordsPlace}
use Rattle.word_places.proofs.HeldLemmas.{all_held, held_before}
use Rattle.word_places.proofs.OrderLemmas.{last_ends}
use Rattle.word_places.proofs.gaps.gap_behind.Goals as goal

-- all were read
pub returns-then-front-records : goal.returns-then-front-records
returns-then-front-records c = λ number beside within.
    let all = all_held c.args.front c.args.records.now (number ∷ []) c.requires.numbered c.requires.read (omega (arith, c.if-front-records.true)) in
    all number (0, omega arith, refl) within

pub returns : goal.returns
returns c = λ number beside within.
    let next = c.place_at-next.ensures in
    let last = c.place_at-last.ensures in
    ⊎_elim
    (λ below. held_before c.args.front number c.args.records.now next.0 c.requires.numbered c.requires.read next.1 (omega (arith, below, ap (λ (p : WordsPlace). p.first) next.2)) within)
    (λ past. absurd (omega (
      arith,
      past,
      within,
      last_ends 0 c.args.records.now (length c.args.records.now - 1) last.0 c.requires.numbered last.1 (omega (arith, c.if-front-records.false)),
      ap (λ (p : WordsPlace). p.first) last.2,
      ap (λ (p : WordsPlace). p.count) last.2,
    )))
    beside
