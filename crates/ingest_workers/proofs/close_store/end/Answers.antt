use Rattle.std.proofs.Common.{[], ◌∷◌, ◌∙◌, subst, sym}
use Rattle.ingest_fork.specs.Passes.{Joined}
use Rattle.ingest_workers.proofs.ClosingLemmas.{joined_one}
use Rattle.ingest_workers.proofs.close_store.end.Goals as goal

pub dismiss-requires-clause-may : goal.dismiss-requires-clause-may
dismiss-requires-clause-may g c = record {
  of_types = λ i p at. let f = c.requires.may.of_types i p at in (f.0 ∙ sym c.join.ensures.lock, f.1);
  of_words = λ i p at. let f = c.requires.may.of_words i p at in (f.0 ∙ sym c.join-2.ensures.lock, f.1);
}

pub returns-clause-ended : goal.returns-clause-ended
returns-clause-ended g c = record {
  types_middle = c.join.new.self;
  words_middle = c.join-2.new.self;
  types_read = subst (λ p. Joined c.args.types.now c.join.new.self (p ∷ []) 0) c.close_store-journal.ensures.types (joined_one _ _ _ (record {
    lock = c.join.ensures.lock;
    about_is = c.join.ensures.about;
    made = c.join.ensures.made;
    own = c.join.ensures.own;
    ended = c.join.ensures.ended;
    learned = c.join.ensures.learned;
    taken = c.join.ensures.taken;
  }));
  words_read = subst (λ p. Joined c.args.words.now c.join-2.new.self (p ∷ []) 0) c.close_store-journal.ensures.words (joined_one _ _ _ (record {
    lock = c.join-2.ensures.lock;
    about_is = c.join-2.ensures.about;
    made = c.join-2.ensures.made;
    own = c.join-2.ensures.own;
    ended = c.join-2.ensures.ended;
    learned = c.join-2.ensures.learned;
    taken = c.join-2.ensures.taken;
  }));
  dismissed = c.dismiss.ensures.dismissed;
}
