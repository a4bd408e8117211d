use Rattle.std.proofs.Common.{rules, ap, ◌∙◌, ◌∷◌, [], ◌++◌, Some}
use Rattle.turn_lock.specs.History.{entries_of}
use Rattle.turn_lock.proofs.EndLemmas.{starts_with}
use Rattle.turn_lock.proofs.OwnLemmas.{entries_unmarked}
use Rattle.turn_lock.proofs.lock.TurnLock.new.Goals as goal

pub new-requires : goal.new-requires
new-requires g c = starts_with g.V.Grows.entries g.V.Grows.fixed g.V.Grows.may_add c.args.first c.count-count.result c.args.value c.of.result.value c.push.new.self.items c.requires c.of.ensures c.count-count.ensures
    (c.in_default.ensures.items ∙ ap (λ l. l ++ Some c.args.value ∷ []) c.new-slots.ensures.items)

pub returns-in-Ok-clause-maker : goal.returns-in-Ok-clause-maker
returns-in-Ok-clause-maker g c = record {
  seen_is = ap (λ m. entries_of m.0.seen) c.in-Ok.ensures.ok.4 ∙ (entries_unmarked (g.V.Grows.entries c.of.result.value) ∙ ap g.V.Grows.entries c.of.ensures);
  made = search rules;
  ended = search rules;
  about_is = search rules;
}
