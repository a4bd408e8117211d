use Rattle.std.proofs.Common.{rules, arith, ◌≡◌, ◌≤◌, ◌<◌, List, length, get_or, take, take_all, ap, subst}
use Rattle.archive_machine.specs.declared.event.Event.{Event}
use Rattle.archive_machine.specs.Machine.{Runs, nothing_yet}
use Rattle.archive_machine.proofs.KeptLemmas.{always_kept, runs_more}
use Rattle.archive_machine.proofs.run.core_run.Goals as goal

pub step-requires : goal.step-requires
step-requires c = always_kept c.args.header.now (take c.loop-event.event-index c.args.events.now) c.loop-event.core c.loop-event.invariant

pub loop-event-preserved : goal.loop-event-preserved
loop-event-preserved c =
    let events : List Event = c.args.events.now in
    let item : Event = c.event-item.result in
    let low : c.loop-event.event-index < length events = search rules in
    let here : item ≡ get_or events c.loop-event.event-index item = search rules in
    runs_more c.args.header.now events c.loop-event.event-index item c.loop-event.core _ low here c.loop-event.invariant c.in_ok-core.ensures

pub returns-clause-run : goal.returns-clause-run
returns-clause-run c =
    let events : List Event = c.args.events.now in
    let end : length c.as_slice-event-items.result.now ≤ c.loop-event.event-index = search rules in
    let long : length events ≤ c.loop-event.event-index = omega (arith, ap length c.as_slice-event-items.ensures, end) in
    subst (λ (l : List Event). Runs c.args.header.now nothing_yet l c.loop-event.core) (take_all c.loop-event.event-index events long) c.loop-event.invariant

pub returns-clause-kept : goal.returns-clause-kept
returns-clause-kept c =
    let events : List Event = c.args.events.now in
    always_kept c.args.header.now (take c.loop-event.event-index events) c.loop-event.core c.loop-event.invariant
