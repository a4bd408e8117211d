use Rattle.std.proofs.Common.{◌∙◌, ◌≡◌, ◌+◌, length, sym, subst}
use Rattle.turn_lock.proofs.FrontLemmas.{prefix_self}
use Rattle.ingest_fork.specs.Passes.{Joined}
use Rattle.ingest_fork.proofs.PassLemmas.{joined_none, joined_more}
use Rattle.ingest_fork.proofs.PlaceLemmas.{last_of, before_last, one_longer}
use Rattle.ingest_fork.proofs.passes.join_all.Goals as goal

pub loop-pass-init : goal.loop-pass-init
loop-pass-init g c = (prefix_self _, joined_none _ _)

pub join-requires-clause-lock : goal.join-requires-clause-lock
join-requires-clause-lock g c = let i = c.loop-pass.invariant in let at = last_of _ _ _ _ i.0 c.in-Some.ensures.items in
    (c.requires.all _ _ at).0 ∙ sym i.1.lock

pub join-requires-clause-ready : goal.join-requires-clause-ready
join-requires-clause-ready g c = let at = last_of _ _ _ _ c.loop-pass.invariant.0 c.in-Some.ensures.items in (c.requires.all _ _ at).1

pub loop-pass-preserved : goal.loop-pass-preserved
loop-pass-preserved g c = let i = c.loop-pass.invariant in let is = c.in-Some.ensures.items in let at = last_of _ _ _ _ i.0 is in
    let place : length c.loop-pass.passes.items ≡ length c.pop.new.self.items + 1 = one_longer _ _ _ is in (
      before_last _ _ _ _ i.0 is,
      joined_more _ _ _ _ _ _ at (subst (λ n. Joined c.args.maker.now c.loop-pass.maker c.args.passes.items n) place i.1) (record {
        lock = c.join.ensures.lock;
        about_is = c.join.ensures.about;
        made = c.join.ensures.made;
        own = c.join.ensures.own;
        ended = c.join.ensures.ended;
        learned = c.join.ensures.learned;
        taken = c.join.ensures.taken;
      }),
    )
