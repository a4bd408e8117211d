use Rattle.std.proofs.Common.{◌≡◌, vec_capacity}
use Rattle.ingest_fork.specs.Passes.{Fresh}
use Rattle.ingest_fork.proofs.passes.fill.Given as goal

abbrev pub invariant-loop-made : goal.invariant-loop-made
invariant-loop-made g l = (vec_capacity l.passes ≡ vec_capacity l.fn.passes) × Fresh l.fn.maker l.maker l.passes.items l._made
