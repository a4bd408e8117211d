use Rattle.std.proofs.Common.{rules, ◌∙◌}
use Rattle.std.proofs.lemmas.List.{take_rest}
use Rattle.host_files.proofs.OffsetLemmas.{Laid-nothing, Laid-more}
use Rattle.host_files.proofs.offsets.write_full.Goals as goal
use Rattle.host_files.proofs.offsets.write_full.Goals.{in-Ok, in-Err}

pub loop-init : goal.loop-init
loop-init g c = (search rules, search rules, λ there. Laid-nothing _ c.args.bytes.now _ there)

pub loop-preserved : goal.loop-preserved
loop-preserved g c =
    elim c.match-write_some.branch [
      | in-Ok w ↦ (search rules, search rules, λ there. rw w.done-is (Laid-more _ _ _ _ _ _ _ there (search rules) (c.loop.invariant.2 there) (rw (take_rest c.args.bytes.now c.loop.done) at w.in-Ok.ensures.written)))
      | in-Err w ↦ (search rules, search rules, λ there. rw w.done-is (w.in-Err.ensures.unwritten ∙ c.loop.invariant.2 there))
    ]
