-- The lines of messages that may have several.
use Rattle.std.proofs.Common.{◌≡◌, ◌≢◌, ◌+◌, ◌==◌, if◌then◌else◌, refl, sym, ap, ap₂, subst, ◌∙◌, ℕ, Bool, true, false, List, [], ◌∷◌, ◌++◌, length, arith, append_assoc}
use Rattle.std.specs.Prelude.{All}
use Rattle.std.proofs.lemmas.List.{length-append}
use Rattle.std.proofs.lemmas.List.Elements.{All-append, All-cons, All-head, All-nil, All-tail}
use Rattle.std.proofs.lemmas.Bool.Decides.{nat_tests}
use Rattle.log_messages.specs.Messages.{IsLine, joined}
use Rattle.log_messages.proofs.StepLemmas.{Begins, joined-append}
use Rattle.message_reader.specs.Taken.{IsBeforeLong, lines_count}
use Rattle.message_reader.specs.Versions.{line_count}
use Rattle.command_refusals.specs.LogLimits.{IsLong}
use Rattle.command_refusals.proofs.LongLemmas.{Begins-long}

-- these are the lines of the bytes, so many
record AreLines (bytes : List ℕ) (count : ℕ) : Type 0 where
  lines : List (List ℕ)
  each : All IsLine lines
  are : joined lines ≡ bytes
  counted : length lines ≡ count

-- one byte more in front
newline_more : (bytes : List ℕ) (b : ℕ) → b ≡ 10 → AreLines (bytes ++ 10 ∷ []) (line_count bytes) → AreLines (b ∷ bytes ++ 10 ∷ []) (1 + line_count bytes)
newline_more bytes b is rest = record {
  lines = [] ∷ rest.lines;
  each = All-cons IsLine [] rest.lines (All-nil (λ x. x ≢ 10)) rest.each;
  are = ap₂ (λ (x : ℕ) (l : List ℕ). x ∷ l) (sym is) rest.are;
  counted = omega (arith, rest.counted);
}

byte_more : (bytes : List ℕ) (b : ℕ) → b ≢ 10 → AreLines (bytes ++ 10 ∷ []) (line_count bytes) → AreLines (b ∷ bytes ++ 10 ∷ []) (0 + line_count bytes)
byte_more bytes b not rest = go rest.lines rest.each rest.are rest.counted
  where
    go : (lines : List (List ℕ)) → All IsLine lines → joined lines ≡ bytes ++ 10 ∷ [] → length lines ≡ line_count bytes → AreLines (b ∷ bytes ++ 10 ∷ []) (0 + line_count bytes)
    go [] each are counted = absurd (omega (arith, ap length are, length-append bytes (10 ∷ [])))
    go (first ∷ lines) each are counted = record {
      lines = (b ∷ first) ∷ lines;
      each = All-cons IsLine (b ∷ first) lines (All-cons (λ x. x ≢ 10) b first not (All-head IsLine first lines each)) (All-tail IsLine first lines each);
      are = ap (λ l. b ∷ l) are;
      counted = omega (arith, counted);
    }

same_byte : (b : ℕ) → b == 10 ≡ true → b ≡ 10
same_byte b is = grind (arith, nat_tests)

other_byte : (b : ℕ) → b == 10 ≡ false → b ≢ 10
other_byte b is same = grind (arith, nat_tests)

lines_of : (message : List ℕ) → AreLines (message ++ 10 ∷ []) (line_count message)
lines_of [] = record { lines = [] ∷ []; each = All-cons IsLine [] [] (All-nil (λ x. x ≢ 10)) (All-nil IsLine); are = refl; counted = refl }
lines_of (b ∷ bytes) = by_test (b == 10) refl (lines_of bytes)
  where
    by_test : (t : Bool) → b == 10 ≡ t → AreLines (bytes ++ 10 ∷ []) (line_count bytes) → AreLines (b ∷ bytes ++ 10 ∷ []) ((if b == 10 then 1 else 0) + line_count bytes)
    by_test true is rest = subst (λ (t : Bool). AreLines (b ∷ bytes ++ 10 ∷ []) ((if t then 1 else 0) + line_count bytes)) (sym is) (newline_more bytes b (same_byte b is) rest)
    by_test false is rest = subst (λ (t : Bool). AreLines (b ∷ bytes ++ 10 ∷ []) ((if t then 1 else 0) + line_count bytes)) (sym is) (byte_more bytes b (other_byte b is) rest)

lines_of_all : (messages : List (List ℕ)) → AreLines (joined messages) (lines_count messages)
lines_of_all [] = record { lines = []; each = All-nil IsLine; are = refl; counted = refl }
lines_of_all (message ∷ messages) = let one = lines_of message in let rest = lines_of_all messages in record {
  lines = one.lines ++ rest.lines;
  each = All-append IsLine one.lines rest.lines one.each rest.each;
  are = joined-append one.lines rest.lines ∙ (ap₂ (λ (a b : List ℕ). a ++ b) one.are rest.are ∙ append_assoc message (10 ∷ []) (joined messages));
  counted = omega (arith, length-append one.lines rest.lines, one.counted, rest.counted);
}

-- a line above the limit comes behind the lines of these messages
pub long_behind : (version : ℕ) (taken : List (List ℕ)) (bytes : List ℕ) (line : ℕ) → line ≡ lines_count taken + 1 → IsBeforeLong version taken bytes → IsLong bytes line
long_behind version taken bytes line is before =
    let of = lines_of_all taken in
    let begin : Begins bytes of.lines before.1.0 = record { lines_are = of.each; splits = before.1.1 ∙ ap (λ l. l ++ before.1.0) (sym of.are) } in
    subst (λ n. IsLong bytes n) (ap (λ n. n + 1) of.counted ∙ sym is) (Begins-long bytes before.1.0 of.lines begin before.1.2.0 before.1.2.1)
