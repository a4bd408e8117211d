use Rattle.std.proofs.Common.{◌≡◌, ◌≤◌, ◌<◌, ◌∙◌, ◌^◌, All, ap, arith, length, refl, rules, subst, sym}
use Rattle.log_seams.proofs.MomentLemmas.{rests_on}
use Rattle.search_walk.specs.Held.{named}
use Rattle.search_walk.specs.Opened.{NoFronts, ReadsFronts}
use Rattle.search_walk.specs.Ready.{Serves}
use Rattle.search_walk.specs.StepsScope.{IsScope, Scope, scope}
use Rattle.search_walk.specs.Walked.{SearchedFronts, StoppedFronts}
use Rattle.search_walk.proofs.AnswerLemmas.{if_ok_to, on_err, on_err_to}
use Rattle.group_count.specs.StepsCounted.{Passes, Stops, sofar}
use Rattle.group_count.specs.StepsLanes.{IsNewLane, fronts_of}
use Rattle.group_count.specs.StepsServed.{IsWay}
use Rattle.group_count.proofs.LaneLemmas.{unticked}
use Rattle.group_count.proofs.PartLemmas.{lanes_unread, lent_reads, parts_later}
use Rattle.group_count.proofs.beside.count_fronts.Goals as goal

pub returns-in_err-parts-clause-rests : goal.returns-in_err-parts-clause-rests
returns-in_err-parts-clause-rests g c = c.lend_parts.ensures.lends.rests

pub returns-in_err-parts-clause-reads : goal.returns-in_err-parts-clause-reads
returns-in_err-parts-clause-reads g c = lanes_unread (g.D.Disk.state c.args.disk.now) (g.D.Disk.state c.lend_parts.new.disk) c.args.crew.now.context.now c.args.fronts.now c.lend_parts.ensures.lends

pub returns-in_err-parts-clause-stopped : goal.returns-in_err-parts-clause-stopped
returns-in_err-parts-clause-stopped g c =
    let s = c.args.crew.now.context.now in
    on_err c.from_residual.result _ (unticked _ s.names s.files s.query c.args.fronts.now c.args.expanded.now c.args.expanded.now c.args.opened.now c.args.opened.now refl refl)

pub deal-requires-clause-scope : goal.deal-requires-clause-scope
deal-requires-clause-scope g c = λ _ _.
    subst (λ x. IsScope (named x c.args.held.now) c.args.crew.now.lane.query.now c.args.crew.now.lane.layouts.now c.args.crew.now.lane.asked.now c.args.crew.now.lane.found.now) (sym c.lend_parts.ensures.lends.rests.seen) c.requires.scope

pub deal-requires-clause-serves : goal.deal-requires-clause-serves
deal-requires-clause-serves g c = λ _ _.
    subst (λ x. Serves (named x c.args.held.now) c.args.held.now) (sym c.lend_parts.ensures.lends.rests.seen)
    (subst (λ (s : Scope). Serves s.names c.args.held.now) c.requires.is c.requires.served.serves)

pub deal-requires-clause-way : goal.deal-requires-clause-way
deal-requires-clause-way g c = λ _ _.
    subst (IsWay c.args.crew.now.lane.query.now) (sym c.way.ensures) (subst (λ (s : Scope). IsWay s.query c.args.counter.now.way) c.requires.is c.requires.served.way)

pub deal-requires-clause-parts : goal.deal-requires-clause-parts
deal-requires-clause-parts g c = λ _ _.
    parts_later g.D.Part.Disk.state (g.D.Disk.state c.args.disk.now) (g.D.Disk.state c.lend_parts.new.disk) c.in_ok-parts.parts.items c.lend_parts.ensures.lends c.in_ok-parts.ensures.parts

pub returns-in_err-lanes-clause-rests : goal.returns-in_err-lanes-clause-rests
returns-in_err-lanes-clause-rests g c = c.lend_parts.ensures.lends.rests

pub returns-in_err-lanes-clause-reads : goal.returns-in_err-lanes-clause-reads
returns-in_err-lanes-clause-reads g c = lanes_unread (g.D.Disk.state c.args.disk.now) (g.D.Disk.state c.lend_parts.new.disk) c.args.crew.now.context.now c.args.fronts.now c.lend_parts.ensures.lends

pub returns-in_err-lanes-clause-stopped : goal.returns-in_err-lanes-clause-stopped
returns-in_err-lanes-clause-stopped g c =
    let s = c.args.crew.now.context.now in
    on_err c.from_residual-in_err-lanes.result _ (unticked _ s.names s.files s.query c.args.fronts.now c.args.expanded.now c.args.expanded.now c.args.opened.now c.args.opened.now refl refl)

pub count_lent-requires-clause-told : goal.count_lent-requires-clause-told
count_lent-requires-clause-told g c = λ _ _. c.lend_parts.ensures.lends.rests.seen ∙ ap (λ (s : Scope). s.names.told) (sym c.requires.is)

pub count_lent-requires-clause-few : goal.count_lent-requires-clause-few
count_lent-requires-clause-few g c = λ _ _.
    let whole : fronts_of c.in_ok-lanes.lanes.items ≡ c.args.fronts.now = c.in_ok-lanes.ensures.fronts (search rules) in
    let more : 1 < length c.in_ok-parts.parts.items = search rules in
    let bound = c.lanes_for-most.ensures (omega (arith, c.in_ok-parts.ensures.few, more)) in
    let few : length c.args.fronts.now ≤ 2 ^ 31 = search (rules, bound) in
    subst (λ f. length f ≤ 2 ^ 31) (sym whole) few

pub count_lent-requires-clause-lanes : goal.count_lent-requires-clause-lanes
count_lent-requires-clause-lanes g c = λ _ _.
    let q = c.args.crew.now.lane in
    let same : scope (named (g.D.Disk.state c.lend_parts.new.disk).seen c.args.held.now) q.query.now q.files.now ≡ c.args.crew.now.context.now =
    ap (λ x. scope (named x c.args.held.now) q.query.now q.files.now) c.lend_parts.ensures.lends.rests.seen ∙ sym c.requires.is in
    subst (λ (s : Scope). All (IsNewLane g.D.Part.Disk.state g.T.RowTable.counted (g.D.Disk.state c.lend_parts.new.disk) s c.args.counter.now.counts.table) c.in_ok-lanes.lanes.items) same c.in_ok-lanes.ensures.lanes

pub returns-then-len-gt1-clause-rests : goal.returns-then-len-gt1-clause-rests
returns-then-len-gt1-clause-rests g c = rests_on _ (g.D.Disk.state c.lend_parts.new.disk) _ c.lend_parts.ensures.lends.rests c.count_lent.ensures.rests

pub returns-then-len-gt1-clause-reads : goal.returns-then-len-gt1-clause-reads
returns-then-len-gt1-clause-reads g c =
    let s = c.args.crew.now.context.now in
    let d1 = g.D.Disk.state c.lend_parts.new.disk in
    let whole : fronts_of c.in_ok-lanes.lanes.items ≡ c.args.fronts.now = c.in_ok-lanes.ensures.fronts (search rules) in
    lent_reads (g.D.Disk.state c.args.disk.now) d1 (g.D.Disk.state c.count_lent.new.disk) s c.args.fronts.now c.lend_parts.ensures.lends
    (subst (λ f. ReadsFronts d1 (g.D.Disk.state c.count_lent.new.disk) s.names s.files s.query f) whole c.count_lent.ensures.reads)

pub returns-then-len-gt1-clause-kept : goal.returns-then-len-gt1-clause-kept
returns-then-len-gt1-clause-kept g c = if_ok_to c.count_lent.result _ _ (λ _ _. c.requires.served.serves.kept) c.count_lent.ensures.done

pub returns-then-len-gt1-clause-done : goal.returns-then-len-gt1-clause-done
returns-then-len-gt1-clause-done g c =
    let s = c.args.crew.now.context.now in
    let whole : fronts_of c.in_ok-lanes.lanes.items ≡ c.args.fronts.now = c.in_ok-lanes.ensures.fronts (search rules) in
    let a = sofar c.args.counter.now.counts c.args.expanded.now in
    let b = sofar c.count_lent.new.counts c.count_lent.new.expanded in
    if_ok_to c.count_lent.result _ _
    (λ count done.
    subst (λ x. SearchedFronts (λ all. Passes g.T.RowTable.counted s.names s.query all a b) x s.names s.files s.query c.args.fronts.now c.args.opened.now c.count_lent.new.opened count) c.lend_parts.ensures.lends.rests.seen
    (subst (λ f. SearchedFronts (λ all. Passes g.T.RowTable.counted s.names s.query all a b) (g.D.Disk.state c.lend_parts.new.disk).seen s.names s.files s.query f c.args.opened.now c.count_lent.new.opened count) whole done)) c.count_lent.ensures.done

pub returns-then-len-gt1-clause-stopped : goal.returns-then-len-gt1-clause-stopped
returns-then-len-gt1-clause-stopped g c =
    let s = c.args.crew.now.context.now in
    let whole : fronts_of c.in_ok-lanes.lanes.items ≡ c.args.fronts.now = c.in_ok-lanes.ensures.fronts (search rules) in
    on_err_to c.count_lent.result _ _
    (λ stopped.
    subst (λ x. StoppedFronts (λ all. Stops s.names.version s.query all c.args.expanded.now c.count_lent.new.expanded) x s.names s.files s.query c.args.fronts.now c.args.opened.now c.count_lent.new.opened) c.lend_parts.ensures.lends.rests.seen
    (subst (λ f. StoppedFronts (λ all. Stops s.names.version s.query all c.args.expanded.now c.count_lent.new.expanded) (g.D.Disk.state c.lend_parts.new.disk).seen s.names s.files s.query f c.args.opened.now c.count_lent.new.opened) whole stopped)) c.count_lent.ensures.stopped

pub returns-then-len-gt1-clause-damaged : goal.returns-then-len-gt1-clause-damaged
returns-then-len-gt1-clause-damaged g c = λ is.
    let s = c.args.crew.now.context.now in
    let whole : fronts_of c.in_ok-lanes.lanes.items ≡ c.args.fronts.now = c.in_ok-lanes.ensures.fronts (search rules) in
    subst (λ x. NoFronts x s.names s.files c.args.fronts.now) c.lend_parts.ensures.lends.rests.seen
    (subst (λ f. NoFronts (g.D.Disk.state c.lend_parts.new.disk).seen s.names s.files f) whole (c.count_lent.ensures.damaged is))

pub count_segments-requires-clause-told : goal.count_segments-requires-clause-told
count_segments-requires-clause-told g c = c.lend_parts.ensures.lends.rests.seen ∙ ap (λ (s : Scope). s.names.told) (sym c.requires.is)

pub returns-clause-rests : goal.returns-clause-rests
returns-clause-rests g c = rests_on _ (g.D.Disk.state c.lend_parts.new.disk) _ c.lend_parts.ensures.lends.rests c.count_segments.ensures.rests

pub returns-clause-reads : goal.returns-clause-reads
returns-clause-reads g c =
    lent_reads (g.D.Disk.state c.args.disk.now) (g.D.Disk.state c.lend_parts.new.disk) (g.D.Disk.state c.count_segments.new.disk) c.args.crew.now.context.now c.args.fronts.now c.lend_parts.ensures.lends c.count_segments.ensures.reads

pub returns-clause-done : goal.returns-clause-done
returns-clause-done g c =
    let s = c.args.crew.now.context.now in
    let a = sofar c.args.counter.now.counts c.args.expanded.now in
    let b = sofar c.count_segments.new.counter.counts c.count_segments.new.expanded in
    if_ok_to c.count_segments.result _ _
    (λ count done. subst (λ x. SearchedFronts (λ all. Passes g.T.RowTable.counted s.names s.query all a b) x s.names s.files s.query c.args.fronts.now c.args.opened.now c.count_segments.new.opened count) c.lend_parts.ensures.lends.rests.seen done) c.count_segments.ensures.done

pub returns-clause-stopped : goal.returns-clause-stopped
returns-clause-stopped g c =
    let s = c.args.crew.now.context.now in
    on_err_to c.count_segments.result _ _
    (λ stopped. subst (λ x. StoppedFronts (λ all. Stops s.names.version s.query all c.args.expanded.now c.count_segments.new.expanded) x s.names s.files s.query c.args.fronts.now c.args.opened.now c.count_segments.new.opened) c.lend_parts.ensures.lends.rests.seen stopped) c.count_segments.ensures.stopped

pub returns-clause-damaged : goal.returns-clause-damaged
returns-clause-damaged g c = λ is.
    let s = c.args.crew.now.context.now in
    subst (λ x. NoFronts x s.names s.files c.args.fronts.now) c.lend_parts.ensures.lends.rests.seen (c.count_segments.ensures.damaged is)
