use Rattle.std.proofs.Common.{◌≡◌, ◌∷◌, [], ℕ, ℤ, ◌++◌, to_z, of_z, ap, rules}
use Rattle.std.specs.Int.{w64}
use Rattle.std.specs.Int.RustNames.{FitsSigned}
use Rattle.std.proofs.lemmas.Int.{to_z-of_z}
use Rattle.std.proofs.lemmas.List.Elements.{All-push, All-same}
use Rattle.std.proofs.lemmas.Map.Iter.{rest_more}
use Rattle.std.specs.Map.Iter.{deref_pair}
use Rattle.search_meaning.specs.declared.groups.Group.{Group}
use Rattle.group_count.proofs.GroupLemmas.{entry_more}
use Rattle.group_count.proofs.minutes.groups_of.Goals as goal

pub loop-minute-preserved : goal.loop-minute-preserved
loop-minute-preserved c =
    let left = rest_more deref_pair c.loop-minute.minute-iterator c.next.new.self c.next.result (c.in-Some.minute, c.in-Some.count) c.in-Some.is c.next.ensures.steps in
    let minute = c.in-Some.minute.now in
    let groups = c.loop-minute.groups.items in
    let new = c.push.new.self.items in
    let key : c.new-in-loop-minute.result ≡ [] = search rules in
    let fits : FitsSigned w64 minute = search rules in
    let g : Group = record { key = c.new-in-loop-minute.result; moment = to_z w64 (of_z w64 minute); count = c.in-Some.count.now } in (
      entry_more (λ (e : ℤ × ℕ). (e.0, e.1)) (λ (g : Group). (g.moment, g.count)) groups new g c.loop-minute.minute-iterator c.next.new.self c.args.minutes.now.entries
          (minute, c.in-Some.count.now) c.in_ok-push.ensures.items left (ap (λ (m : ℤ). (m, c.in-Some.count.now)) (to_z-of_z w64 minute fits)) c.loop-minute.invariant.0,
      All-same (λ (g : Group). g.key ≡ []) new (groups ++ g ∷ []) c.in_ok-push.ensures.items (All-push (λ (g : Group). g.key ≡ []) groups g c.loop-minute.invariant.1 key),
    )
