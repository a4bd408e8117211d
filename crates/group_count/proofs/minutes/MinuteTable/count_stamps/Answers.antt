use Rattle.std.proofs.Common.{◌∙◌, Option, arith, refl, rules, subst, List, ℤ, ◌++◌, ◌∷◌, []}
use Rattle.std.specs.Int.{w64}
use Rattle.std.specs.Int.RustNames.{FitsSigned}
use Rattle.std.proofs.lemmas.Int.{to_z-of_z}
use Rattle.group_count.specs.Tables.{AreMinutes, minute_at, minutes_at}
use Rattle.group_count.proofs.ColumnLemmas.{all_taken, further, length_minutes, minutes_further, none_taken}
use Rattle.group_count.proofs.minutes.MinuteTable.count_stamps.Goals as goal

pub loop-place-init : goal.loop-place-init
loop-place-init c = (refl, none_taken AreMinutes c.args.self.now)

pub loop-place-preserved : goal.loop-place-preserved
loop-place-preserved c =
    let micro = c.args.self.now.micro in
    let pattern = c.pattern_at-pattern.result in
    let moment = c.moment_at-moment.result in
    let fits : FitsSigned w64 moment = search rules in
    let counted = rw (to_z-of_z w64 moment fits) at c.in_ok-count.ensures.counted in
    let all = minutes_at micro c.args.patterns.now c.args.moments.now in (
      c.count.ensures.micro ∙ c.loop-place.invariant.0,
      further AreMinutes c.args.self.now c.loop-place.self c.count.new.self all c.loop-place.place (minute_at micro pattern moment) (omega (arith, length_minutes micro c.args.patterns.now c.args.moments.now c.requires))
          (minutes_further micro c.args.patterns.now c.args.moments.now c.loop-place.place pattern moment c.pattern_at-pattern.ensures c.moment_at-moment.ensures) c.loop-place.invariant.1
          (subst (λ m. (keys : List (Option ℤ)) → AreMinutes c.loop-place.self keys → AreMinutes c.count.new.self (keys ++ minute_at m pattern moment ∷ [])) c.loop-place.invariant.0 counted),
    )

pub returns-clause-counted : goal.returns-clause-counted
returns-clause-counted c =
    let micro = c.args.self.now.micro in
    all_taken AreMinutes c.args.self.now c.loop-place.self (minutes_at micro c.args.patterns.now c.args.moments.now) c.loop-place.place (omega (arith, length_minutes micro c.args.patterns.now c.args.moments.now c.requires)) c.loop-place.invariant.1
