use Rattle.std.proofs.Common.{sym, ap, ◌∙◌}
use Rattle.disk_seal.specs.View.{StoreView, state_by, store_entries}
use Rattle.turn_lock.specs.Words.{seen, noted}
use Rattle.disk_seal.proofs.PrepareLemmas.{behind_now, is_prepared, given_back, full_at}
use Rattle.disk_seal.proofs.SavedLemmas.{saves_all}
use Rattle.disk_seal.proofs.prepared.prepare.Goals as goal

pub plan-requires-clause-next : goal.plan-requires-clause-next
plan-requires-clause-next g c = λ runs.
    behind_now g.D.Disk.state c.args.pass.now (seen c.take-turn.new.self) c.take-turn.result.value c.facts.ensures runs c.take-turn.ensures.entries c.take-turn.ensures.seen c.take-turn.ensures.fixed c.take-turn.ensures.others
    c.requires.pass.1 c.args.draft.now (noted c.args.types) (noted c.args.words) c.requires.draft.0 c.requires.next

pub returns-in-Ok-clause-prepared : goal.returns-in-Ok-clause-prepared
returns-in-Ok-clause-prepared g c =
    is_prepared g.D.Disk.state c.take-turn.new.self c.take-turn.result.value c.plan.new.self (noted c.args.types) (noted c.args.words) c.take-turn.ensures.turn c.take-turn.ensures.entries
    (λ a is. c.take-turn.ensures.fixed a (sym c.take-turn.ensures.still.about_is ∙ is)) c.plan.ensures.same c.plan.ensures.types c.plan.ensures.words c.args.pass.now c.args.draft.now c.in-Ok.pieces.items c.requires.draft.0
    c.take-turn.ensures.still c.take-turn.ensures.seen c.take-turn.ensures.own c.in-Ok.ensures.planned

pub returns-in-Ok-clause-saves : goal.returns-in-Ok-clause-saves
returns-in-Ok-clause-saves g c =
    saves_all c.args.draft.now c.in-Ok.pieces.items (state_by g.D.Disk.state c.plan.new.self) c.facts-in-Ok.ensures c.in-Ok.ensures.planned.all

pub returns-in-Err-clause-refused : goal.returns-in-Err-clause-refused
returns-in-Err-clause-refused g c =
    given_back g.D.Disk.state c.args.pass.now c.take-turn.new.self c.put.new.pass c.take-turn.result.value c.plan.new.self c.take-turn.ensures.still c.take-turn.ensures.seen c.take-turn.ensures.own c.put.ensures.still
    c.put.ensures.ready c.put.ensures.seen (ap (λ (x : StoreView _). store_entries (state_by g.D.Disk.state x)) c.plan.ensures.same.passes ∙ c.take-turn.ensures.entries) c.put.ensures.own

pub returns-in-Err-clause-full : goal.returns-in-Err-clause-full
returns-in-Err-clause-full g c = λ end need of_types of_words is.
    full_at g.D.Disk.state c.args.draft.now c.args.pass.now c.put.new.pass c.take-turn.result.value c.plan.new.self end need of_types of_words (noted c.args.types) (noted c.args.words) c.take-turn.ensures.fixed c.facts.ensures c.plan.ensures.same
    c.plan.ensures.types c.plan.ensures.words (c.plan.ensures.full end need of_types of_words (cc (c.in-Err.is, is))) c.put.ensures.seen
