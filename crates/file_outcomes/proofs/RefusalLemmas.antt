-- Causes of jobs and refusals of files, and the first elements of a list.
use Rattle.std.proofs.Common.{◌≡◌, ◌<◌, refl, ℕ, zero, suc, List, [], ◌∷◌, take, Option, Some, None, arith}
use Rattle.std.specs.Prelude.{option_map, slice_get}
use Rattle.std.specs.List.{Contains}
use Rattle.std.proofs.lemmas.Option.{get_or_from_slice_get, slice_get_within}
use Rattle.log_seams.specs.declared.refusals.OpenRefused.TheVariants.{OutOfMemory}
use Rattle.row_codec.specs.declared.namer.Which.{Which}
use Rattle.row_codec.specs.declared.namer.Which.TheVariants.{Types as WhichTypes, Words as WhichWords}
use Rattle.ingest_workers.specs.declared.outcome.Cause.{Cause}
use Rattle.ingest_meaning.specs.Dictionaries.{IsTextOf}
use Rattle.ingest_workers.specs.Outcome.{unsealed_by}
use Rattle.command_answers.specs.Ingested.{unsealed_of}
use Rattle.file_outcomes.specs.Jobs.{of_cause}
use Rattle.command_refusals.specs.declared.outcome.PartCause.{PartCause}

-- ---- the first elements of a list

-- what stands among the first so many stands at the same place of all
pub first_at : {A : Type 0} (xs : List A) (n i : ℕ) (x : A) → slice_get (take n xs) i ≡ Some x → (i < n) × (slice_get xs i ≡ Some x)
first_at xs zero i x at = absurd (cc (at))
first_at [] (suc n) i x at = absurd (cc (at))
first_at (y ∷ xs) (suc n) zero x at = (omega arith, at)
first_at (y ∷ xs) (suc n) (suc i) x at = let rest = first_at xs n i x at in (omega (arith, rest.0), rest.1)

at_first : {A : Type 0} (xs : List A) (n i : ℕ) (x : A) → i < n → slice_get xs i ≡ Some x → slice_get (take n xs) i ≡ Some x
at_first xs zero i x low at = absurd (omega (arith, low))
at_first [] (suc n) i x low at = at
at_first (y ∷ xs) (suc n) zero x low at = at
at_first (y ∷ xs) (suc n) (suc i) x low at = at_first xs n i x (omega (arith, low)) at

pub among_first : {A : Type 0} (xs : List A) (n i : ℕ) (x : A) → i < n → slice_get xs i ≡ Some x → Contains (take n xs) x
among_first xs n i x low at = let here = at_first xs n i x low at in (i, slice_get_within (take n xs) i x here, get_or_from_slice_get (take n xs) i x x here)

pub text_wider : (version : ℕ) (P Q : List ℕ → Type 0) → ((m : List ℕ) → P m → Q m) → (book : Which) (t : List ℕ) → IsTextOf version P book t → IsTextOf version Q book t
text_wider version P Q on WhichTypes t is = (is.0, on is.0 is.1, is.2)
text_wider version P Q on WhichWords t is = (is.0, on is.0 is.1, is.2)

-- ---- causes of jobs, and refusals of files

-- as many messages may have been met by the one as by the other
pub unsealed_same : (rows : ℕ) (cause : Option Cause) → unsealed_of rows (option_map of_cause cause) ≡ unsealed_by rows cause
unsealed_same rows None = refl
unsealed_same rows (Some Cause.ReadFault) = refl
unsealed_same rows (Some (Cause.LineTooLong line)) = refl
unsealed_same rows (Some Cause.TooManyLines) = refl
unsealed_same rows (Some (Cause.Full book count)) = refl
unsealed_same rows (Some (Cause.DiskFault opened now)) = refl
unsealed_same rows (Some Cause.OutOfMemory) = refl
unsealed_same rows (Some (Cause.ArchiveFull end need)) = refl

pub full_cause : (cause : Option Cause) (book : Which) (count : ℕ) → option_map of_cause cause ≡ Some (PartCause.Full book count) → cause ≡ Some (Cause.Full book count)
full_cause None book count is = absurd (cc (is))
full_cause (Some Cause.ReadFault) book count is = absurd (cc (is))
full_cause (Some (Cause.LineTooLong line)) book count is = absurd (cc (is))
full_cause (Some Cause.TooManyLines) book count is = absurd (cc (is))
full_cause (Some (Cause.Full b n)) book count is = cc (is)
full_cause (Some (Cause.DiskFault opened now)) book count is = absurd (cc (is))
full_cause (Some Cause.OutOfMemory) book count is = absurd (cc (is))
full_cause (Some (Cause.ArchiveFull end need)) book count is = absurd (cc (is))
