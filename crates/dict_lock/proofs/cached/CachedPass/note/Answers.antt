use Rattle.std.proofs.Common.{ap, ◌∙◌, slice_get}
use Rattle.dict_lock.proofs.cached.CachedPass.note.Goals as goal

pub invariant_of-self : goal.invariant_of-self
invariant_of-self c = let stays = c.note.ensures.stays in record {
  ready = stays.ready c.args.self.now.ready;
  remembered = λ t n r. ap (λ l. slice_get l n) stays.seen_is ∙ c.args.self.now.remembered t n r;
  distinct = c.args.self.now.distinct;
  even = c.args.self.now.even;
}
