use Rattle.std.proofs.Common.{◌≡◌, ◌∙◌, ap, refl, rules, subst, sym}
use Rattle.std.specs.Prelude.{Err, IsErrOf}
use Rattle.std.proofs.lemmas.Result.{err_from_is_err_and}
use Rattle.archive_core.specs.Part.{MayFollow}
use Rattle.archive_merge.specs.declared.stop.Stop.TheVariants.{SecondDamaged}
use Rattle.archive_merge.specs.InHand.{sum_in}
use Rattle.archive_merge.specs.Next.{part_of}
use Rattle.archive_merge.proofs.NextLemmas.{may_take_next, not_ending, not_following, not_true, takes_next}
use Rattle.archive_merge.proofs.next.take_next.Goals.{then-not-may_follow-via-then-not-may_follow, then-not-may_follow-via-else-not-may_follow+then-not-ends_well}
use Rattle.archive_merge.proofs.next.take_next.Goals as goal

pub returns-in_err-open_end-clause-damaged : goal.returns-in_err-open_end-clause-damaged
returns-in_err-open_end-clause-damaged g c = λ same bytes told has.
    let refusal = c.in_err-open_end.field-0.0 in
    let p = err_from_is_err_and c.from_residual.result c.from_residual.ensures.1 in
    let was : c.take_segment.result ≡ Err refusal = c.in_err-open_end.was in
    let refused : IsErrOf c.take_segment.result SecondDamaged = cc (p.1, p.2, same, was) in
    c.take_segment.ensures.damaged refused bytes told (may_take_next _ _ _ bytes _ c.requires.empty has)

pub returns-then-not-may_follow-clause-damaged : goal.returns-then-not-may_follow-clause-damaged
returns-then-not-may_follow-clause-damaged g c = λ same bytes told has.
    let took = c.in_ok-open_end.ensures.taken in
    let rows = c.take_segment.new.hand.draft.columns.rows in
    elim c.then-not-may_follow.branch [
      | then-not-may_follow-via-then-not-may_follow w ↦
          not_following _ _ _ _ _ _ _ _ _ took c.requires.empty bytes told
          (λ may.
          let yes = c.may_follow.ensures.1 (subst (λ s. MayFollow s c.part_of-part.result rows) (sym c.sum-sum.ensures) (subst (λ p. MayFollow (sum_in c.args.hand.now) p rows) (sym c.part_of-part.ensures) may)) in
          not_true _ w.if-not-may_follow.true yes) has
      | then-not-may_follow-via-else-not-may_follow+then-not-ends_well w ↦
          not_ending _ _ _ _ _ _ _ _ _ took c.requires.empty bytes told
          (λ may.
          let yes = w.ends_well.ensures.1 (λ last ended. may (sym (ap (λ p. p.last) c.part_of-part.ensures) ∙ last) (sym (ap (λ p. p.ended) c.part_of-part.ensures) ∙ ended)) in
          not_true _ w.if-not-ends_well.true yes) has
    ]

pub returns-clause-taken : goal.returns-clause-taken
returns-clause-taken g c =
    let ends = c.ends_well.ensures.0 (search rules) in
    takes_next _ _ _ _ _ _ _ _ _ c.in_ok-open_end.ensures.taken c.requires.empty _ refl refl refl
    (record { file = c.take_segment.ensures.marks.file; first = c.take_segment.ensures.marks.first; last = ap (λ p. p.last) c.part_of-part.ensures; ended = ap (λ p. p.ended) c.part_of-part.ensures })
    (subst (λ s. MayFollow s (part_of c.args.place.now.head) c.take_segment.new.hand.draft.columns.rows) c.sum-sum.ensures
    (subst (λ p. MayFollow c.sum-sum.result p c.take_segment.new.hand.draft.columns.rows) c.part_of-part.ensures (c.may_follow.ensures.0 (search rules))))
    (λ last ended. ends (ap (λ p. p.last) c.part_of-part.ensures ∙ last) (ap (λ p. p.ended) c.part_of-part.ensures ∙ ended))
