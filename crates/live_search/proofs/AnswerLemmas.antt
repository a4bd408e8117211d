-- What holds by an answer.
use Rattle.std.proofs.Common.{◌≡◌, ℕ, refl, arith}
use Rattle.std.specs.Prelude.{Result, Ok, Err, OnOk, OnErr, IsErrOf}
use Rattle.log_seams.specs.Outside.{CountsOf}

pub on_err_to : {T E : Type 0} (r : Result T E) (P Q : Type 0) → (P → Q) → OnErr r P → OnErr r Q
on_err_to (Ok t) P Q step p = tt
on_err_to (Err e) P Q step p = step p

pub on_err : {T E : Type 0} (r : Result T E) (P : Type 0) → P → OnErr r P
on_err (Ok t) P p = tt
on_err (Err e) P p = p

pub on_ok : {T E : Type 0} (r : Result T E) (P : Type 0) → P → OnOk r P
on_ok (Ok t) P p = p
on_ok (Err e) P p = tt

-- what has no fault of this kind leaves the count
pub counts_none : {T E : Type 0} (fault : E) (n : ℕ) (r : Result T E) → ¬ IsErrOf r fault → CountsOf fault n n r
counts_none fault n r none = record { later = omega arith; steady = on_ok r (n ≡ n) refl; failed = λ is. absurd (none is); spared = λ e is other. refl }
