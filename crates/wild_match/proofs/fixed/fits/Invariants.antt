use Rattle.std.proofs.Common.{drop}
use Rattle.wild_match.specs.Matches.{Fits}
use Rattle.wild_match.proofs.fixed.fits.Given as goal

-- what is left decides
abbrev pub invariant-loop-i : goal.invariant-loop-i
invariant-loop-i l = (Fits (drop l.i l.fixed) (drop l.i l.bytes) → Fits l.fixed l.bytes) × (Fits l.fixed l.bytes → Fits (drop l.i l.fixed) (drop l.i l.bytes))
