-- Causes, and the disk's count of faults.
use Rattle.std.proofs.Common.{◌≡◌, refl, sym, ap, subst, ◌∙◌, ◌≤◌, ℕ, List, Option, None, Some, drop, false, arith}
use Rattle.std.specs.Prelude.{◌≢◌, IfSome, is_some, option_map}
use Rattle.log_seams.specs.Outside.{Rose}
use Rattle.segment_pages.specs.declared.refusal.PageRefusal.{PageRefusal}
use Rattle.archive_open.specs.Shown.{StandsForNone}
use Rattle.archive_text.specs.declared.cause.TextCause.{TextCause}
use Rattle.archive_text.specs.Caused.{CountsBy, from_page}

-- no cause
pub counts_none : (before now : ℕ) → now ≡ before → CountsBy before now None
counts_none before now same = record { later = omega (arith, same); failed = λ e. absurd (cc e); spared = λ other. same }

-- nothing was given yet
pub kept_all : (given : ℕ) (told : Option (List ℕ)) → given ≡ 0 → option_map (drop given) told ≡ told
kept_all given None none = refl
kept_all given (Some text) none = ap (λ n. Some (drop n text)) none

-- a call that succeeded keeps the count
pub counts_kept : (before mid now : ℕ) → CountsBy before mid None → now ≡ mid → CountsBy before now None
counts_kept before mid now counts same = counts_none before now (same ∙ counts.spared (λ e. absurd (cc e)))

-- a call that was refused
counts_refused : (before mid now : ℕ) (cause : TextCause) → CountsBy before mid None → mid ≤ now → (cause ≡ TextCause.DiskFault → Rose mid now) → (cause ≢ TextCause.DiskFault → now ≡ mid) → CountsBy before now (Some cause)
counts_refused before mid now cause counts later failed spared =
    let same : mid ≡ before = counts.spared (λ e. absurd (cc e)) in
    record {
      later = omega (arith, same, later);
      failed = λ e. let fault : cause ≡ TextCause.DiskFault = cc e in subst (λ n. Rose n now) same (failed fault);
      spared = λ other. spared (λ fault. other (ap (λ c. Some c) fault)) ∙ same;
    }

-- of a page that was refused
fault_is : (r : PageRefusal) → from_page r ≡ TextCause.DiskFault → r ≡ PageRefusal.DiskFault
fault_is PageRefusal.DiskFault e = refl
fault_is PageRefusal.Damaged e = absurd (cc e)
fault_is PageRefusal.OutOfMemory e = absurd (cc e)

pub damage_is : (r : PageRefusal) (cause : TextCause) → cause ≡ from_page r → cause ≡ TextCause.Damaged → r ≡ PageRefusal.Damaged
damage_is PageRefusal.DiskFault cause is e = absurd (cc (is, e))
damage_is PageRefusal.Damaged cause is e = refl
damage_is PageRefusal.OutOfMemory cause is e = absurd (cc (is, e))

pub counts_page : (before mid now : ℕ) (r : PageRefusal) (cause : TextCause) → cause ≡ from_page r → CountsBy before mid None → mid ≤ now → (r ≡ PageRefusal.DiskFault → Rose mid now) → (r ≢ PageRefusal.DiskFault → now ≡ mid)
    → CountsBy before now (Some cause)
counts_page before mid now r cause is counts later failed spared =
    counts_refused before mid now cause counts later (λ e. failed (fault_is r (sym is ∙ e))) (λ other. spared (λ e. other (is ∙ ap from_page e)))

pub no_cause : (cause : Option TextCause) → is_some cause ≡ false → cause ≡ None
no_cause None none = refl
no_cause (Some cause) none = absurd cc

-- a damage that was found in a text that is told cannot be
pub damaged_told : (told seen : Option (List ℕ)) → (told ≡ None → IfSome seen StandsForNone) → ((text : List ℕ) → told ≡ Some text → ⊥) → IfSome seen StandsForNone
damaged_told None seen none some = none refl
damaged_told (Some text) seen none some = absurd (some text refl)

-- before any call
pub counts_first : (count : ℕ) (cause : Option TextCause) → cause ≢ Some TextCause.DiskFault → CountsBy count count cause
counts_first count cause other = record { later = omega arith; failed = λ e. absurd (other e); spared = λ e. refl }
