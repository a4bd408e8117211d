-- Stamps as rows keep them.
use Rattle.std.proofs.Common.{◌≡◌, ℕ, ◌≤◌, zero, suc, true, false, Bool, cond, List, [], ◌++◌, length, take, refl, sym, ◌∙◌, ap, subst, arith, length-append}
use Rattle.std.specs.Prelude.{◌≢◌, ◌↔◌, ℤ, nat_le, IfOk, IsFalse, IsTrue, OnErr, Result, Ok, Err}
use mathlib.Core.List.{IsPrefix}
use Rattle.std.proofs.lemmas.List.{append-nil, take_at}
use Rattle.time_patterns.specs.Stamps.{Fits, HasStamp, IsPrintable, IsStampOf, Prints}
use Rattle.row_codec.specs.Means.{HasStampText}
use Rattle.row_codec.specs.StepsBody.{HasStampWriting}

-- a pattern of a version is not 0
no_pattern : (micro : Bool) → cond micro 11 1 ≤ 0 → ⊥
no_pattern true low = omega arith
no_pattern false low = omega arith

pub has_stamp : (version : ℕ) (line : List ℕ) (k : ℕ) (moment : ℤ) (n : ℕ) → IsStampOf version line k moment n → HasStamp version line k moment n
has_stamp version line zero moment n is = absurd (no_pattern (nat_le 3 version) is.pattern.0)
has_stamp version line (suc k) moment n is = is

-- what fits a line stands at its front
pub fits_front : (line : List ℕ) (k : ℕ) (moment : ℤ) (n : ℕ) → Fits line k moment n → Prints k moment (take n line) × (n ≤ length line)
fits_front line k moment n (text, prints, (rest, cut, ends, long)) =
    let front : take n line ≡ text = ap (λ l. take n l) cut ∙ take_at text rest n long in
    (subst (λ t. Prints k moment t) (sym front) prints, omega (arith, ap length cut, length-append text rest))

pub stamp_front : (version : ℕ) (line : List ℕ) (k : ℕ) (moment : ℤ) (n : ℕ) → HasStamp version line k moment n → HasStampText k moment (take n line) × (n ≤ length line)
stamp_front version line zero moment n has = ((has.1, ap (λ m. take m line) has.2), omega (arith, has.2))
stamp_front version line (suc k) moment n has = fits_front line (suc k) moment n has.fits

-- where there is a stamp, its pattern prints the moment
pub stamp_writing : (k : ℕ) (moment : ℤ) → k ≢ 0 → HasStampWriting k moment ↔ IsPrintable k moment
stamp_writing zero moment some = absurd (some refl)
stamp_writing (suc k) moment some = (λ has. has, λ has. has)

pub stamp_printed : (k : ℕ) (moment : ℤ) (text : List ℕ) → k ≢ 0 → Prints k moment text → HasStampText k moment text
stamp_printed zero moment text some prints = absurd (some refl)
stamp_printed (suc k) moment text some prints = prints

pub stamp_none : (k : ℕ) (moment : ℤ) → k ≡ 0 → HasStampWriting k moment → HasStampText k moment []
stamp_none zero moment none (text, stamped) = (stamped.0, refl)
stamp_none (suc k) moment none has = absurd (omega arith)

-- a stamp that was printed, or nothing, stands behind the old bytes
pub printed_front : {E : Type 0} (answer : Result Bool E) (P : List ℕ → Type 0) (old new : List ℕ) → IfOk answer (λ fits. IsTrue fits → ((text : List ℕ) × P text × (new ≡ old ++ text))) → IfOk answer (λ fits. IsFalse fits → new ≡ old) → OnErr answer (new ≡ old) → IsPrefix old new
printed_front (Ok true) P old new printed left kept = let text = printed refl in (text.0, sym text.2)
printed_front (Ok false) P old new printed left kept = ([], append-nil old ∙ sym (left refl))
printed_front (Err error) P old new printed left kept = ([], append-nil old ∙ sym kept)
