-- The lines of a generated log.
use Rattle.std.proofs.Common.{◌≡◌, ◌≢◌, refl, sym, ◌∙◌, ap, subst, ℕ, zero, suc, ◌+◌, ◌*◌, ◌/◌, ◌%◌, ◌^◌, ◌<◌, ◌≤◌, Bool, true, false, List, [], ◌∷◌, ◌++◌, length, All, arith}
use Rattle.std.specs.Prelude.{◌==◌, codes, not, if◌then◌else◌}
use Rattle.std.specs.Fmt.{decimal}
use Rattle.std.specs.List.{list_all}
use Rattle.std.specs.Str.Parse.{AllDigits}
use Rattle.std.proofs.lemmas.Fmt.{decimal_is_IsNumeral, length-decimal-le}
use Rattle.std.proofs.lemmas.List.{append_assoc, length-append}
use Rattle.std.proofs.lemmas.List.Elements.{All-append, All-cons, All-nil}
use Rattle.std.proofs.lemmas.List.Sums.{AllPass-from_list_all}
use Rattle.std.proofs.lemmas.Str.Parse.{digit_from_value}
use Rattle.log_messages.specs.Messages.{IsLine}
use Rattle.generated_logs.specs.Laws.{HasLines, LogsHaveLines}
use Rattle.generated_logs.specs.Logs.{level_of, line_of, lines_from, stamp_at, stamp_of_seconds, task_of, three_digits, time_words, two_digits, worker_words}

-- ---- parts of a line

-- the text has at most so many bytes, and none of them is a newline
record IsPart (most : ℕ) (text : List ℕ) : Type 0 where
  line : IsLine text
  short : length text ≤ most

part_before : (m n : ℕ) (a b : List ℕ) → IsPart m a → IsPart n b → IsPart (m + n) (a ++ b)
part_before m n a b first rest = record {
  line = All-append (λ c. c ≢ 10) a b first.line rest.line;
  short = omega (arith, length-append a b, first.short, rest.short);
}

-- words that are written out
abbrev is_ordinary : ℕ → Bool
is_ordinary b = not (b == 10)

words_line : (text : List ℕ) → list_all is_ordinary text ≡ true → IsLine text
words_line text all i d within same =
    let kept : false ≡ true = subst (λ b. is_ordinary b ≡ true) same (AllPass-from_list_all is_ordinary text all i d within) in
    absurd (cc (kept))

words : (text : List ℕ) → list_all is_ordinary text ≡ true → IsPart (length text) text
words text all = record { line = words_line text all; short = omega arith }

-- digits
one_digit : (d : ℕ) → 48 + d ≢ 10
one_digit d same = omega (arith, same)

two : (n : ℕ) → IsPart 2 (two_digits n)
two n = record {
  line = All-cons (λ c. c ≢ 10) (48 + n / 10) ((48 + n % 10) ∷ []) (one_digit (n / 10)) (All-cons (λ c. c ≢ 10) (48 + n % 10) [] (one_digit (n % 10)) (All-nil (λ c. c ≢ 10)));
  short = omega arith;
}

three : (n : ℕ) → IsPart 3 (three_digits n)
three n = record {
  line = All-cons (λ c. c ≢ 10) (48 + n / 100) (two_digits (n % 100)) (one_digit (n / 100)) (two (n % 100)).line;
  short = omega arith;
}

digits_line : (ds : List ℕ) → AllDigits 10 ds → IsLine ds
digits_line [] all = All-nil (λ c. c ≢ 10)
digits_line (c ∷ ds) all = All-cons (λ b. b ≢ 10) c ds (λ same. omega (arith, same, digit_from_value c all.0)) (digits_line ds all.1)

number : (k n : ℕ) → 0 < k → n < 10 ^ k → n < 2 ^ 64 → IsPart k (decimal n)
number k n some below small = record { line = digits_line (decimal n) (decimal_is_IsNumeral n small).0.1; short = length-decimal-le k n some below small }

-- ---- the parts

seconds : (s : ℕ) → IsPart 19 (stamp_of_seconds s)
seconds s =
    part_before 8 11 (codes "2023-11-") _ (words (codes "2023-11-") refl)
    (part_before 2 9 (two_digits (14 + s / 86400)) _ (two (14 + s / 86400))
    (part_before 1 8 (codes " ") _ (words (codes " ") refl)
    (part_before 2 6 (two_digits (s % 86400 / 3600)) _ (two (s % 86400 / 3600))
    (part_before 1 5 (codes ":") _ (words (codes ":") refl)
    (part_before 2 3 (two_digits (s % 3600 / 60)) _ (two (s % 3600 / 60))
    (part_before 1 2 (codes ":") (two_digits (s % 60)) (words (codes ":") refl) (two (s % 60))))))))

stamp : (i : ℕ) → IsPart 23 (stamp_at i)
stamp i = part_before 19 4 (stamp_of_seconds (80000 + i / 100)) _ (seconds (80000 + i / 100)) (part_before 1 3 (codes ",") (three_digits (i % 100 * 10)) (words (codes ",") refl) (three (i % 100 * 10)))

level : (warns : Bool) → IsPart 4 (if warns then codes "WARN" else codes "INFO")
level true = words (codes "WARN") refl
level false = words (codes "INFO") refl

worker : (f task : ℕ) → f ≤ 3 → task < 1000 → IsPart 23 (worker_words f task)
worker f task four small =
    part_before 1 22 (codes " ") _ (words (codes " ") refl)
    (part_before 4 18 (level_of task) _ (level (task % 10 == 3))
    (part_before 8 10 (codes " worker_") _ (words (codes " worker_") refl)
    (part_before 1 9 (decimal f) _ (number 1 f (omega arith) (omega (arith, four)) (omega (arith, four)))
    (part_before 6 3 (codes " task_") (decimal task) (words (codes " task_") refl) (number 3 task (omega arith) (omega (arith, small)) (omega (arith, small)))))))

-- ---- a line

-- the bytes are one line of at most so many bytes, and its newline
record IsRow (most : ℕ) (bytes : List ℕ) : Type 0 where
  message : List ℕ
  is : bytes ≡ message ++ 10 ∷ []
  part : IsPart most message

row_before : (m n : ℕ) (a b : List ℕ) → IsPart m a → IsRow n b → IsRow (m + n) (a ++ b)
row_before m n a b first row = record {
  message = a ++ row.message;
  is = ap (λ t. a ++ t) row.is ∙ sym (append_assoc a row.message (10 ∷ []));
  part = part_before m n a row.message first row.part;
}

time : (i task : ℕ) → IsRow 12 (time_words i task)
time i task =
    let minute : i % 60 < 60 = omega arith in
    let last : task % 10 < 10 = omega arith in
    row_before 6 6 (codes " took ") _ (words (codes " took ") refl)
    (row_before 2 4 (decimal (i % 60)) _ (number 2 (i % 60) (omega arith) (omega (arith, minute)) (omega (arith, minute)))
    (row_before 1 3 (codes ".") _ (words (codes ".") refl)
    (row_before 1 2 (decimal (task % 10)) (codes " s\n") (number 1 (task % 10) (omega arith) (omega (arith, last)) (omega (arith, last)))
    (record { message = codes " s"; is = refl; part = words (codes " s") refl }))))

row : (number f i : ℕ) → f ≤ 3 → IsRow 58 (line_of number f i)
row number f i four =
    let task = task_of number f i in
    let small : task < 1000 = omega arith in
    row_before 23 35 (stamp_at i) (worker_words f task ++ time_words i task) (stamp i) (row_before 23 12 (worker_words f task) (time_words i task) (worker f task four small) (time i task))

-- ---- the lines

rows : (number f i count : ℕ) → f ≤ 3 → HasLines (lines_from number f i count) count
rows number f i zero four = record { lines = []; are = (All-nil IsLine, refl); counted = refl; short = All-nil (λ line. length line ≤ 58) }
rows number f i (suc count) four =
    let one = row number f i four in
    let rest = rows number f (i + 1) count four in
    record {
      lines = one.message ∷ rest.lines;
      are = (
        All-cons IsLine one.message rest.lines one.part.line rest.are.0,
        ap (λ a. a ++ lines_from number f (i + 1) count) one.is ∙ (append_assoc one.message (10 ∷ []) (lines_from number f (i + 1) count) ∙ ap (λ b. one.message ++ (10 ∷ b)) rest.are.1),
      );
      counted = omega (arith, rest.counted);
      short = All-cons (λ line. length line ≤ 58) one.message rest.lines one.part.short rest.short;
    }

pub logs_have_lines : LogsHaveLines
logs_have_lines number lines f four = rows number f 1 lines four
