-- Which lines begin a message, by what was read of them.
use Rattle.std.proofs.Common.{◌≡◌, ℕ, zero, suc, ◌<◌, ◌≤◌, List, arith}
use Rattle.std.specs.Prelude.{Bool, true, false, IfSome, IfNone, IsTrue, Option, Some, None, is_some, nat_le, ◌↔◌, if◌then◌else◌}
use Rattle.time_patterns.specs.declared.stamps.Stamp.{Stamp}
use Rattle.time_patterns.specs.Stamps.{HasNoStamp, IsStampOf, IsStamped}
use Rattle.time_patterns.proofs.VersionLemmas.{alike_versions}
use Rattle.message_reader.specs.Versions.{IsHead}

pub zero_pattern : (b : Bool) → (if b then 11 else 1) ≤ 0 → ⊥
zero_pattern true low = omega (arith, low)
zero_pattern false low = omega (arith, low)

stamped_alike : (version other : ℕ) (line : List ℕ) → (version < 3 ↔ other < 3) → IsStamped version line → IsStamped other line
stamped_alike version other line same (zero, m, n, is) = absurd (zero_pattern (nat_le 3 version) is.pattern.0)
stamped_alike version other line same (suc k, m, n, is) = (suc k, m, n, alike_versions version other line (suc k) m n same is)

-- what was read in one of two versions that have the same stamps tells whether the line is a head in the other
pub read_tells : (version other : ℕ) (line : List ℕ) (found : Option Stamp) (answer : Bool) → 1 < version → (version < 3 ↔ other < 3) → answer ≡ is_some found
    → IfSome found (λ s. IsStampOf other line s.pattern s.moment s.len) → IfNone found (HasNoStamp other line) → IsTrue answer ↔ IsHead version line
read_tells version other line None answer above same is some none = (
  λ there. absurd (cc (there, is)),
  λ head. let there : IsStamped other line = stamped_alike version other line same head.1 in absurd (none there.0 there.1 there.2 there.3.pattern there.3.fits),
)
read_tells version other line (Some s) answer above same is some none = (
  λ there. (above, stamped_alike other version line (same.1, same.0) (s.pattern, s.moment, s.len, some)),
  λ head. cc (is),
)
