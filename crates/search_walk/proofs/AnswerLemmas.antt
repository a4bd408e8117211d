-- What holds by an answer.
use Rattle.std.specs.Prelude.{Option, Some, None, Result, Ok, Err, IfOk, IfSome, OnErr, OnOk}

pub on_ok_to : {T E : Type 0} (r : Result T E) (P Q : Type 0) → (P → Q) → OnOk r P → OnOk r Q
on_ok_to (Ok t) P Q step p = step p
on_ok_to (Err e) P Q step p = tt

pub on_err_to : {T E : Type 0} (r : Result T E) (P Q : Type 0) → (P → Q) → OnErr r P → OnErr r Q
on_err_to (Ok t) P Q step p = tt
on_err_to (Err e) P Q step p = step p

pub on_err : {T E : Type 0} (r : Result T E) (P : Type 0) → P → OnErr r P
on_err (Ok t) P p = tt
on_err (Err e) P p = p

pub if_ok_to : {T E : Type 0} (r : Result T E) (P Q : T → Type 0) → ((t : T) → P t → Q t) → IfOk r P → IfOk r Q
if_ok_to (Ok t) P Q step has = step t has
if_ok_to (Err e) P Q step has = tt

pub if_some_to : {T : Type 0} (o : Option T) (P Q : T → Type 0) → ((t : T) → P t → Q t) → IfSome o P → IfSome o Q
if_some_to (Some t) P Q step has = step t has
if_some_to None P Q step has = tt
