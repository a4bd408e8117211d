use Rattle.std.proofs.Common.{◌≡◌, ◌∙◌, ℕ, List, ap, refl, rules, subst, sym}
use Rattle.group_count.specs.Tables.{AreCounts, HoldTypes, TypeState}
use Rattle.group_count.proofs.JoinLemmas.{types_joined}
use Rattle.group_count.proofs.types.TypeTable.take_in.Goals as goal

pub returns-clause-counted : goal.returns-clause-counted
returns-clause-counted c = λ before numbers same one two.
    let own = c.self.inside in
    let old : TypeState = record { limit = own.limit; counts = own.counts.items; beyond = own.beyond } in
    let is : old ≡ c.args.self.now = c.self.view_is in
    let theirs = c.other.inside in
    let other : TypeState = record { limit = theirs.limit; counts = theirs.counts.items; beyond = theirs.beyond } in
    let other_is : other ≡ c.args.other.now = c.other.view_is in
    let slice : c.as_slice.result.now ≡ other.counts = search rules in
    types_joined old other _ before numbers refl (ap (λ (t : TypeState). t.limit) other_is ∙ same ∙ sym (ap (λ (t : TypeState). t.limit) is)) (search rules)
    (λ xs ys x y. c.in_ok-add_counts.ensures.added xs ys x (subst (λ (l : List ℕ). AreCounts l ys) (sym slice) y))
    (subst (λ (t : TypeState). HoldTypes t before) (sym is) one) (subst (λ (t : TypeState). HoldTypes t numbers) (sym other_is) two)
