-- An output that only took more.
use Rattle.std.proofs.Common.{◌≡◌, ◌≤◌, refl, sym, ap, subst, ◌∙◌, ℕ, List, ◌++◌, true, length, take, drop, Option, None, Some, arith}
use Rattle.std.specs.Prelude.{IfOk, OnErr, Result, Ok, Err}
use Rattle.std.proofs.lemmas.List.{drop_at, length-take, take_all, take-append-drop, take-append-le}
use Rattle.std.proofs.lemmas.Slice.Eq.{bytes_eq-Decides}
use Rattle.sink_pieces.specs.Output.{Grew}
use Rattle.watch_command.specs.Extended.{has_more, text_behind}

-- it has more exactly where what it had is a front of what it has
has_front : (had has : List ℕ) → has_more (Some had) (Some has) ≡ true → had ≡ take (length had) has
has_front had has more = (bytes_eq-Decides had (take (length had) has)).0 more

front_has : (had has : List ℕ) → had ≡ take (length had) has → has_more (Some had) (Some has) ≡ true
front_has had has front = (bytes_eq-Decides had (take (length had) has)).1 front

-- what it has when it is lent
pub has_all : (had : Option (List ℕ)) → has_more had had ≡ true
has_all None = refl
has_all (Some had) = front_has had had (sym (take_all (length had) had (omega arith)))

pub lent_has : (had has : Option (List ℕ)) → has ≡ had → has_more had has ≡ true
lent_has had has same = subst (λ w. has_more had w ≡ true) (sym same) (has_all had)

-- and when it took more
has_more_on : (had mid new : Option (List ℕ)) (text : List ℕ) → has_more had mid ≡ true → Grew mid new text → has_more had new ≡ true
has_more_on None None new text more grew = subst (λ w. has_more None w ≡ true) (sym grew) refl
has_more_on None (Some mid) new text more grew = absurd (cc (more))
has_more_on (Some had) None new text more grew = absurd (cc (more))
has_more_on (Some had) (Some mid) new text more grew =
    let front : had ≡ take (length had) mid = has_front had mid more in
    let within : length had ≤ length mid = omega (arith, ap length front, length-take (length had) mid) in
    subst (λ w. has_more (Some had) w ≡ true) (sym grew) (front_has had (mid ++ text) (front ∙ sym (take-append-le (length had) mid text within)))

pub write_keeps : {E : Type 0} (had mid new : Option (List ℕ)) (bytes : List ℕ) (result : Result ℕ E) → has_more had mid ≡ true → IfOk result (λ n. Grew mid new (take n bytes)) → OnErr result (new ≡ mid)
    → has_more had new ≡ true
write_keeps had mid new bytes (Ok n) more grew same = has_more_on had mid new (take n bytes) more grew
write_keeps had mid new bytes (Err e) more grew same = subst (λ w. has_more had w ≡ true) (sym same) more

-- the text behind what it had is what it took
pub grew_behind : (had has : Option (List ℕ)) → has_more had has ≡ true → Grew had has (text_behind had has)
grew_behind None None more = refl
grew_behind None (Some has) more = absurd (cc (more))
grew_behind (Some had) None more = absurd (cc (more))
grew_behind (Some had) (Some has) more =
    ap (λ (w : List ℕ). Some w) (sym (take-append-drop (length had) has) ∙ ap (λ w. w ++ drop (length had) has) (sym (has_front had has more)))

pub grew_since : (old had has : Option (List ℕ)) → old ≡ had → has_more had has ≡ true → Grew old has (text_behind old has)
grew_since old had has same more = subst (λ w. Grew w has (text_behind w has)) (sym same) (grew_behind had has more)

-- and no other text is
pub text_is : (had : List ℕ) (has : Option (List ℕ)) (text : List ℕ) → Grew (Some had) has text → text ≡ text_behind (Some had) has
text_is had has text grew = sym (ap (λ (w : Option (List ℕ)). text_behind (Some had) w) grew ∙ drop_at had text (length had) refl)
