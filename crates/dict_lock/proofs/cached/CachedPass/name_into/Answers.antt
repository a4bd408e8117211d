use Rattle.dict_lock.proofs.NamingLemmas.{names_nothing, all_numbers, learns_in_turn, learns_nothing}
use Rattle.dict_lock.proofs.cached.CachedPass.name_into.Goals as goal

pub returns-in_err-reserve-clause-pass : goal.returns-in_err-reserve-clause-pass
returns-in_err-reserve-clause-pass g c = names_nothing c.args.self.now.pass _ c.args.self.now.ready

pub returns-then-look_up-clause-pass : goal.returns-then-look_up-clause-pass
returns-then-look_up-clause-pass g c = names_nothing c.args.self.now.pass _ c.args.self.now.ready

pub returns-then-look_up-clause-named : goal.returns-then-look_up-clause-named
returns-then-look_up-clause-named g c = all_numbers _ _ _ c.if-look_up.ensures.marked.long (λ k n t a b. c.args.self.now.remembered t n (c.if-look_up.ensures.all.held k n t a b))

pub returns-in_err-reserve-clause-learned : goal.returns-in_err-reserve-clause-learned
returns-in_err-reserve-clause-learned g c = learns_nothing _ _ _ _

pub returns-in_err-copy_into-clause-pass : goal.returns-in_err-copy_into-clause-pass
returns-in_err-copy_into-clause-pass g c = names_nothing c.args.self.now.pass _ c.args.self.now.ready

pub returns-in_err-copy_into-clause-learned : goal.returns-in_err-copy_into-clause-learned
returns-in_err-copy_into-clause-learned g c = learns_nothing _ _ _ _

pub returns-then-look_up-clause-learned : goal.returns-then-look_up-clause-learned
returns-then-look_up-clause-learned g c = learns_nothing _ _ _ _

pub returns-clause-learned : goal.returns-clause-learned
returns-clause-learned g c = let turn = c.name_in_turn.ensures in learns_in_turn _ _ _ _ _ _ turn.knows.grows c.if-look_up.ensures.all turn.turns turn.held
