use Rattle.std.proofs.Common.{◌∙◌, All, ap, arith, length, subst, sym}
use Rattle.search_walk.specs.StepsScope.{Scope}
use Rattle.search_engine.specs.Lanes.{FaultsOf, IsLane}
use Rattle.search_engine.proofs.TurnLemmas.{back_whole, counts_of}
use Rattle.search_engine.proofs.beside.search_lent.Goals as goal

pub search_turns-answer-requires-clause-lanes : goal.search_turns-answer-requires-clause-lanes
search_turns-answer-requires-clause-lanes g c = λ _ _.
    let s : Scope = c.requires.lanes.0 in
    (s, c.requires.lanes.1, subst (λ l. All (IsLane g.D.Part.Disk.state (g.D.Disk.state c.args.disk.now) s c.args.fronts.now) l) (sym c.as_mut_slice.ensures.value) c.requires.lanes.2)

pub returns-clause-reads : goal.returns-clause-reads
returns-clause-reads g c = λ s lanes.
    let d = g.D.Disk.state c.args.disk.now in
    let is = c.as_mut_slice.ensures.value in
    let whole = back_whole c.args.lanes.len c.search_turns-answer.new.lanes c.args.lanes.items (omega (arith, c.args.lanes.ok.0)) (c.search_turns-answer.ensures.len ∙ ap length is) in
    c.take_back_all.ensures.reads s c.args.fronts.now
    (subst (λ l. All (IsLane g.D.Part.Disk.state d s c.args.fronts.now) l) (sym whole) (c.search_turns-answer.ensures.lanes s (subst (λ l. All (IsLane g.D.Part.Disk.state d s c.args.fronts.now) l) (sym is) lanes)))

pub returns-clause-searched : goal.returns-clause-searched
returns-clause-searched g c = λ s lanes.
    c.search_turns-answer.ensures.searched s (subst (λ l. All (IsLane g.D.Part.Disk.state (g.D.Disk.state c.args.disk.now) s c.args.fronts.now) l) (sym c.as_mut_slice.ensures.value) lanes)

pub returns-clause-disk_counts : goal.returns-clause-disk_counts
returns-clause-disk_counts g c =
    let whole = back_whole c.args.lanes.len c.search_turns-answer.new.lanes c.args.lanes.items (omega (arith, c.args.lanes.ok.0)) (c.search_turns-answer.ensures.len ∙ ap length c.as_mut_slice.ensures.value) in
    counts_of g.D.Part.Disk.state _ _ _ c.search_turns-answer.result (subst (λ l. FaultsOf g.D.Part.Disk.state l c.search_turns-answer.result) (sym whole) c.search_turns-answer.ensures.faults)
    c.take_back_all.ensures.later c.take_back_all.ensures.steady c.take_back_all.ensures.rose
