-- A line that is too long, behind whole lines.
use Rattle.std.proofs.Common.{◌≡◌, refl, ◌∙◌, ap, subst, ℕ, ◌+◌, ◌<◌, ◌≤◌, List, [], ◌∷◌, ◌++◌, length, take, get_or, arith, Bool, true, false, Some}
use Rattle.std.specs.Prelude.{slice_get}
use Rattle.std.proofs.lemmas.List.{append_assoc, length-append, length-take, get_or-take}
use Rattle.std.proofs.Math.Seq.{get_or-append_seam}
use Rattle.std.proofs.Math.Logic.{dite}
use Rattle.std.proofs.Math.Decide.{dec_le}
use Rattle.std.proofs.Math.Nat.{lt_of_not-le}
use Rattle.log_messages.specs.Messages.{IsLine, joined, Messages}
use Rattle.log_messages.proofs.StepLemmas.{Begins, Messages-after}
use Rattle.log_messages.proofs.ExistenceLemmas.{HasMessages, messages_exist}
use Rattle.command_refusals.specs.LogLimits.{IsLong, most_bytes}

-- the element behind a front
slice_get-seam : (front : List (List ℕ)) (x : List ℕ) (back : List (List ℕ)) → slice_get (front ++ x ∷ back) (length front) ≡ Some x
slice_get-seam [] x back = refl
slice_get-seam (f ∷ front) x back = slice_get-seam front x back

-- The first message of bytes that begin with no newline for so long is longer.
record FirstIsLong (messages : List (List ℕ)) (limit : ℕ) : Type 0 where
  first : List ℕ
  others : List (List ℕ)
  are : messages ≡ first ∷ others
  long : limit < length first

-- a line that a newline follows is no shorter
line_is_long : (line rest : List ℕ) (limit : ℕ) → IsLine (take (limit + 1) (line ++ 10 ∷ rest)) → limit < length line
line_is_long line rest limit is = dite (dec_le (length line) limit) (λ (short : length line ≤ limit). absurd (is (length line) 0 (within short) (at short))) lt_of_not-le
  where
    within : length line ≤ limit → length line < length (take (limit + 1) (line ++ 10 ∷ rest))
    within short = omega (arith, length-take (limit + 1) (line ++ 10 ∷ rest), length-append line (10 ∷ rest))

    at : length line ≤ limit → get_or (take (limit + 1) (line ++ 10 ∷ rest)) (length line) 0 ≡ 10
    at short = get_or-take (limit + 1) (line ++ 10 ∷ rest) (length line) 0 (omega arith) ∙ get_or-append_seam line 10 rest 0

first_is_long : (bytes : List ℕ) (messages : List (List ℕ)) (ended : Bool) (limit : ℕ) → Messages bytes messages ended → limit < length bytes → IsLine (take (limit + 1) bytes) → FirstIsLong messages limit
first_is_long bytes [] true limit m more is = absurd (omega (arith, ap length m.1))
first_is_long bytes (first ∷ others) true limit m more is = record { first = first; others = others; are = refl; long = line_is_long first (joined others) limit (subst (λ b. IsLine (take (limit + 1) b)) m.1 is) }
first_is_long bytes messages false limit m more is = open_is_long m.1.front m.1.last m.1.splits m.1.is
  where
    open_is_long : (front : List (List ℕ)) (last : List ℕ) → messages ≡ front ++ last ∷ [] → bytes ≡ joined front ++ last → FirstIsLong messages limit
    open_is_long [] last e f = record { first = last; others = []; are = e; long = omega (arith, ap length f) }
    open_is_long (first ∷ front) last e f = record { first = first; others = front ++ last ∷ []; are = e; long = line_is_long first (joined front ++ last) limit (subst (λ b. IsLine (take (limit + 1) b)) (f ∙ append_assoc first (10 ∷ joined front) last) is) }

-- the line behind so many is too long
pub Begins-long : (bytes left : List ℕ) (lines : List (List ℕ)) → Begins bytes lines left → most_bytes < length left → IsLine (take (most_bytes + 1) left) → IsLong bytes (length lines + 1)
Begins-long bytes left lines begin more is = record {
  before = length lines;
  follows = refl;
  messages = lines ++ rest.messages;
  ended = rest.ended;
  are = Messages-after bytes lines left rest.messages rest.ended begin rest.are;
  message = long.first;
  stands = ap (λ ms. slice_get (lines ++ ms) (length lines)) long.are ∙ slice_get-seam lines long.first long.others;
  long = long.long;
}
  where
    rest : HasMessages left
    rest = messages_exist left

    long : FirstIsLong rest.messages most_bytes
    long = first_is_long left rest.messages rest.ended most_bytes rest.are more is
