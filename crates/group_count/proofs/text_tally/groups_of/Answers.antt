use Rattle.std.proofs.Common.{◌≡◌, ℕ, List, rules, pos, refl}
use Rattle.std.specs.Borrow.{Bor}
use Rattle.std.proofs.lemmas.List.Elements.{All-push, All-same}
use Rattle.std.proofs.lemmas.Map.Iter.{rest_more}
use Rattle.std.specs.Map.Iter.{deref_pair}
use Rattle.search_meaning.specs.declared.groups.Group.{Group}
use Rattle.group_count.proofs.GroupLemmas.{entry_more}
use Rattle.group_count.proofs.text_tally.groups_of.Goals as goal

pub loop-text-preserved : goal.loop-text-preserved
loop-text-preserved c =
    let left = rest_more deref_pair c.loop-text.text-iterator c.next.new.self c.next.result (c.in-Some.text, c.in-Some.count) c.in-Some.is c.next.ensures.steps in
    let is : c.in_ok-from_slice.field-0.items ≡ c.in-Some.text.now.now = search rules in
    let key : c.new.result ≡ c.in-Some.text.now.now = search rules in
    let g : Group = record { key = c.new.result; moment = pos 0; count = c.in-Some.count.now } in (
      entry_more (λ (e : Bor (List ℕ) × ℕ). (e.0.now, e.1)) (λ (g : Group). (g.key, g.count)) c.loop-text.groups.items c.push.new.self.items g c.loop-text.text-iterator c.next.new.self c.args.tally.now.entries
          (c.in-Some.text.now, c.in-Some.count.now) (c.in_ok-push.ensures.items) left (rw key refl) c.loop-text.invariant.0,
      All-same (λ (g : Group). g.moment ≡ pos 0) _ _ c.in_ok-push.ensures.items (All-push (λ (g : Group). g.moment ≡ pos 0) c.loop-text.groups.items g c.loop-text.invariant.1 refl),
    )
