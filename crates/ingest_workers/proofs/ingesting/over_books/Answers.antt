use Rattle.std.proofs.Common.{refl, subst}
use Rattle.plain_list.specs.Texts.{AreDistinct}
use Rattle.ingest_workers.specs.Ordered.{OpensTypes, OpensWords}
use Rattle.ingest_workers.proofs.ClosingLemmas.{has_ingested}
use Rattle.ingest_workers.proofs.GivenLemmas.{causes_given}
use Rattle.ingest_workers.proofs.InTurnLemmas.{full_in_turn}
use Rattle.ingest_workers.proofs.LentLemmas.{gone_none}
use Rattle.ingest_workers.proofs.ingesting.over_books.Goals as goal

pub returns-in-Ok-with_workers-clause-done : goal.returns-in-Ok-with_workers-clause-done
returns-in-Ok-with_workers-clause-done g c =
    let left = g.O.Opens.left in
    let order = c.args.crew.now.order in
    let plan = order.plan in
    let over = c.in-Ok-with_workers.ensures.done in
    let after = c.in-Ok-with_workers.journal in
    let of_types : OpensTypes order c.args.journal c.in-Ok.types = record { book = c.args.types; opening = c.in-Ok.ensures.maker; has = c.requires.types } in
    let of_words : OpensWords order c.args.journal c.in-Ok-new.words = record { book = c.args.words; opening = c.in-Ok-new.ensures.maker; has = c.requires.words } in
    let types_apart = subst AreDistinct c.close-types.ensures.entries c.len.ensures.distinct in
    let words_apart = subst AreDistinct c.close-words.ensures.entries c.len-in-Ok-with_workers.ensures.distinct in
    record {
      done = has_ingested left plan _ _ c.args.journal after _ _ _ _ _ _ of_types of_words over.done c.close-types.ensures.owned c.close-words.ensures.owned;
      causes = causes_given left g.O.Opens.name g.O.Opens.faults plan _ _ c.args.journal after _ _ _ _ _ _ of_types of_words over.done c.close-types.ensures.owned c.close-words.ensures.owned types_apart words_apart over.causes;
      in_turn = λ one. full_in_turn left plan _ _ c.args.journal after _ _ _ _ _ _ of_types of_words over.done c.close-types.ensures.owned c.close-words.ensures.owned types_apart words_apart (over.in_turn one);
    }

pub returns-in_default-clause-gone : goal.returns-in_default-clause-gone
returns-in_default-clause-gone g c = gone_none g.O.Opens.idle g.O.Opens.goes _ _ (g.met.O.Opens g.world.𝓛 g.world.𝓜 g.world.𝓡 ((λ s x. x), (λ x. x), (λ x. x), λ x. x)).rests c.requires.openers.closed refl

pub returns-in_default-new-clause-gone : goal.returns-in_default-new-clause-gone
returns-in_default-new-clause-gone g c = gone_none g.O.Opens.idle g.O.Opens.goes _ _ (g.met.O.Opens g.world.𝓛 g.world.𝓜 g.world.𝓡 ((λ s x. x), (λ x. x), (λ x. x), λ x. x)).rests c.requires.openers.closed refl
