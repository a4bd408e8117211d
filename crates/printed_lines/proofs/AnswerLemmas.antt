-- What holds by an answer.
use Rattle.std.specs.Prelude.{Result, Ok, Err, OnErr}

pub on_err_to : {T E : Type 0} (r : Result T E) (P Q : Type 0) → (P → Q) → OnErr r P → OnErr r Q
on_err_to (Ok t) P Q step p = tt
on_err_to (Err e) P Q step p = step p

pub on_err : {T E : Type 0} (r : Result T E) (P : Type 0) → P → OnErr r P
on_err (Ok t) P p = tt
on_err (Err e) P p = p
