use Rattle.turn_lock.specs.Words.{seen}
use Rattle.dict_lock.proofs.NamingLemmas.{seen_on}
use Rattle.dict_lock.proofs.cached.CachedPass.join.Goals as goal

pub invariant_of-self : goal.invariant_of-self
invariant_of-self c = record {
  ready = c.join.ensures.ready;
  remembered = seen_on c.args.self.now.cache (seen c.args.self.now.pass) (seen c.join.new.self) c.join.ensures.learned.mine_first c.args.self.now.remembered;
  distinct = c.args.self.now.distinct;
  even = c.args.self.now.even;
}
