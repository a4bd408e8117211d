use Rattle.std.proofs.Common.{rules, ◌≡◌, [], ◌∷◌, ◌++◌, get_or, subst, sym}
use Rattle.std.specs.Prelude.{false}
use Rattle.std.proofs.lemmas.List.{take_all}
use Rattle.std.proofs.lemmas.Option.{get_or_from_slice_get, slice_get_within}
use Rattle.archive_core.specs.declared.log_types.LogType.{LogType}
use Rattle.archive_core.specs.LogTypes.{AreKnown}
use Rattle.archive_core.proofs.LogTypeLemmas.{known_next}
use Rattle.archive_core.proofs.log_types.known_of.Goals as goal

pub returns-in_default : goal.returns-in_default
returns-in_default g c =
    let types = g.N.Names.types c.args.names.now in
    let now = c.loop-number in
    subst (λ l. AreKnown l now.known.items) (take_all now.number types c.in_default.ensures) now.invariant

pub loop-number-preserved : goal.loop-number-preserved
loop-number-preserved g c =
    let types = g.N.Names.types c.args.names.now in
    let now = c.loop-number in
    let text = c.in-Some.text.now in
    let k : LogType = record { slots = c.in_ok-slots.slots; tested = false } in
    let more : c.push.new.self.items ≡ now.known.items ++ k ∷ [] = search rules in
    let is : text ≡ get_or types now.number text = sym (get_or_from_slice_get types now.number text text c.in-Some.ensures) in
    known_next [] types now.number text now.known.items c.push.new.self.items k now.invariant (slice_get_within types now.number text c.in-Some.ensures) is
    (record { slots = c.in_ok-slots.ensures; tested = λ yes. absurd (cc (yes)) }) more
