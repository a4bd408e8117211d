use Rattle.std.proofs.Common.{[], ◌∷◌, subst}
use Rattle.ingest_fork.specs.Passes.{Joined}
use Rattle.ingest_workers.proofs.ClosingLemmas.{joined_one}
use Rattle.archive_merge.proofs.behind.end.Goals as goal

pub returns-clause-ended : goal.returns-clause-ended
returns-clause-ended g c = record {
  types_middle = c.join.new.self;
  words_middle = c.join-2.new.self;
  types_read = subst (λ p. Joined c.args.types.now c.join.new.self (p ∷ []) 0) c.close_store-journal.ensures.types (joined_one _ _ _ (record {
    lock = c.join.ensures.lock;
    about_is = c.join.ensures.about;
    made = c.join.ensures.made;
    own = c.join.ensures.own;
    ended = c.join.ensures.ended;
    learned = c.join.ensures.learned;
    taken = c.join.ensures.taken;
  }));
  words_read = subst (λ p. Joined c.args.words.now c.join-2.new.self (p ∷ []) 0) c.close_store-journal.ensures.words (joined_one _ _ _ (record {
    lock = c.join-2.ensures.lock;
    about_is = c.join-2.ensures.about;
    made = c.join-2.ensures.made;
    own = c.join-2.ensures.own;
    ended = c.join-2.ensures.ended;
    learned = c.join-2.ensures.learned;
    taken = c.join-2.ensures.taken;
  }));
  types_ended = subst (λ p. Joined c.join.new.self c.join-3.new.self (p ∷ []) 0) c.into_pass.ensures.pass (joined_one _ _ _ (record {
    lock = c.join-3.ensures.lock;
    about_is = c.join-3.ensures.about;
    made = c.join-3.ensures.made;
    own = c.join-3.ensures.own;
    ended = c.join-3.ensures.ended;
    learned = c.join-3.ensures.learned;
    taken = c.join-3.ensures.taken;
  }));
  words_ended = subst (λ p. Joined c.join-2.new.self c.join-4.new.self (p ∷ []) 0) c.into_pass-2.ensures.pass (joined_one _ _ _ (record {
    lock = c.join-4.ensures.lock;
    about_is = c.join-4.ensures.about;
    made = c.join-4.ensures.made;
    own = c.join-4.ensures.own;
    ended = c.join-4.ensures.ended;
    learned = c.join-4.ensures.learned;
    taken = c.join-4.ensures.taken;
  }));
}
