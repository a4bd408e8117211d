use Rattle.turn_lock.specs.Words.{noted}
use Rattle.disk_seal.proofs.CollectLemmas.{has_seen_more, knows_types, knows_words, kept_books}
use Rattle.disk_seal.proofs.store.Store.collect.Goals as goal

pub invariant_of-self : goal.invariant_of-self
invariant_of-self g c =
    kept_books _ c.self.invariant c.unsaved-types.new.pass c.unsaved-words.new.pass
    (knows_types _ _ c.self.inside.types c.join.new.self c.unsaved-types.new.pass _ _ (noted c.args.types) c.self.invariant.types
    (has_seen_more c.self.inside.types c.join.new.self c.unsaved-types.new.pass (noted c.args.types) c.join.ensures.still c.join.ensures.learned c.join.ensures.own c.unsaved-types.ensures.pass c.unsaved-types.ensures.own)
    c.join.ensures.still c.unsaved-types.ensures.others)
    (knows_words _ _ c.self.inside.words c.join-2.new.self c.unsaved-words.new.pass _ _ (noted c.args.words) c.self.invariant.words
    (has_seen_more c.self.inside.words c.join-2.new.self c.unsaved-words.new.pass (noted c.args.words) c.join-2.ensures.still c.join-2.ensures.learned c.join-2.ensures.own c.unsaved-words.ensures.pass c.unsaved-words.ensures.own)
    c.join-2.ensures.still c.unsaved-words.ensures.others)
