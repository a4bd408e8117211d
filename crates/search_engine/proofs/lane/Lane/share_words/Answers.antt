use Rattle.std.proofs.Common.{◌≡◌, ◌∙◌, ap, subst, sym}
use Rattle.word_places.specs.Held.{HeldNames}
use Rattle.search_walk.specs.Held.{Named, named}
use Rattle.search_walk.specs.Ready.{Serves}
use Rattle.search_engine.specs.Lanes.{IsWell, LaneView, scope_of}
use Rattle.search_engine.proofs.ServedLemmas.{serves_taken}
use Rattle.search_engine.proofs.TurnLemmas.{ok_of, of_well}
use Rattle.search_engine.proofs.lane.Lane.share_words.Goals as goal

pub take_in-requires : goal.take_in-requires
take_in-requires g c =
    let i = c.self.inside in
    let n : Named = named (g.P.Disk.state i.part).seen i.first.now in
    let own : Serves n i.held = of_well i.answer (Serves n i.held) (subst IsWell (sym c.self.view_is) c.requires.well) c.self.invariant.2 in
    let whole : Serves n c.args.all.now = subst (λ (m : Named). Serves m c.args.all.now) (ap (λ (l : LaneView g.row.P.Denot). (scope_of g.P.Disk.state l).names) (sym c.self.view_is)) c.requires.serves in
    let mine : Serves n c.swap.new.y = subst (λ (h : HeldNames). Serves n h) (sym c.swap.ensures.y_after) own in
    record { same = mine.places ∙ sym whole.places }

pub invariant_of-self : goal.invariant_of-self
invariant_of-self g c =
    let i = c.self.inside in
    let n : Named = named (g.P.Disk.state i.part).seen i.first.now in
    let whole : Serves n c.args.all.now = subst (λ (m : Named). Serves m c.args.all.now) (ap (λ (l : LaneView g.row.P.Denot). (scope_of g.P.Disk.state l).names) (sym c.self.view_is)) c.requires.serves in
    let mine : Serves n c.swap.new.x = subst (λ (h : HeldNames). Serves n h) (sym (c.swap.ensures.x_after ∙ c.in-Ok.ensures)) whole in
    (c.self.invariant.0, c.self.invariant.1, ok_of i.answer _ mine, c.self.invariant.3, c.self.invariant.4)

pub returns-in-Ok-clause-serves : goal.returns-in-Ok-clause-serves
returns-in-Ok-clause-serves g c =
    let i = c.self.inside in
    let n : Named = named (g.P.Disk.state i.part).seen i.first.now in
    let own : Serves n i.held = of_well i.answer (Serves n i.held) (subst IsWell (sym c.self.view_is) c.requires.well) c.self.invariant.2 in
    let m : Named = (scope_of g.P.Disk.state c.args.self.now).names in
    let same : n ≡ m = ap (λ (l : LaneView g.row.P.Denot). (scope_of g.P.Disk.state l).names) c.self.view_is in
    let mine : Serves m c.swap.new.y = subst (λ (h : HeldNames). Serves m h) (sym c.swap.ensures.y_after) (subst (λ (k : Named). Serves k i.held) same own) in
    serves_taken m c.args.all.now c.swap.new.y c.take_in.new.self c.requires.serves mine c.take_in.ensures.same c.take_in.ensures.places c.take_in.ensures.numbered c.take_in.ensures.right
