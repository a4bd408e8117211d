use Rattle.std.proofs.Common.{◌≡◌, ap, arith, refl}
use Rattle.search_walk.proofs.AnswerLemmas.{on_ok_to}
use Rattle.group_count.specs.Tables.{TypeState}
use Rattle.group_count.proofs.TypeLemmas.{marked_beyond, counted_below}
use Rattle.group_count.proofs.types.TypeTable.count.Goals as goal

pub returns-then-number-self-clause-counted : goal.returns-then-number-self-clause-counted
returns-then-number-self-clause-counted c = λ numbers was.
    let limit : c.self.inside.limit ≡ c.args.self.now.limit = ap (λ (t : TypeState). t.limit) c.self.view_is in
    marked_beyond c.args.self.now _ numbers c.args.number limit refl (omega (arith, limit))

pub returns-clause-counted : goal.returns-clause-counted
returns-clause-counted c =
    let limit : c.self.inside.limit ≡ c.args.self.now.limit = ap (λ (t : TypeState). t.limit) c.self.view_is in
    on_ok_to c.count_at.result _ _
    (λ more numbers was.
    counted_below c.args.self.now (record { limit = c.self.inside.limit; counts = c.count_at.new.counts.items; beyond = c.self.inside.beyond }) _ numbers c.args.number limit (ap (λ (t : TypeState). t.counts) c.self.view_is)
    (ap (λ (t : TypeState). t.beyond) c.self.view_is) (omega (arith, limit)) more was) c.count_at.ensures.counted
