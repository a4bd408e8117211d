-- How far the printing of a log's bytes is.
use Rattle.std.proofs.Common.{◌≡◌, ◌≢◌, refl, sym, ◌∙◌, ap, subst, ℕ, ◌+◌, ◌<◌, ◌≤◌, List, [], ◌∷◌, ◌++◌, length, take, arith, Bool, true, false}
use Rattle.std.proofs.lemmas.List.{append-nil, length-append}
use Rattle.std.proofs.Math.Seq.{take-append_seam}
use Rattle.std.proofs.lemmas.List.Elements.{All-nil, All-push}
use Rattle.log_messages.specs.Messages.{IsLine, joined, Messages}
use Rattle.log_messages.proofs.StepLemmas.{Begins, begins, Begins-line, Messages-ended, Messages-open, Messages-after}
use Rattle.log_messages.proofs.ExistenceLemmas.{HasMessages, messages_exist}
use Rattle.command_answers.specs.Printing.{Prints, PrintsAll, PrintsFirst, PrintsBefore, PrintsSome, HasMore, AreShort}
use Rattle.command_refusals.proofs.LongLemmas.{Begins-long}
use Rattle.command_refusals.specs.LogLimits.{IsLong, most_bytes, most_messages}
use Rattle.log_commands.proofs.PrintingLemmas.{Prints-more}

-- Whole lines were printed, and these bytes are left.
pub record Reads (tells : ℕ → List ℕ → List ℕ → Type 0) (bytes left : List ℕ) (given : ℕ) (text : List ℕ) : Type 0 where
  pub lines : List (List ℕ)
  pub begin : Begins bytes lines left
  pub count : length lines ≡ given
  pub few : given ≤ most_messages
  pub short : AreShort lines
  pub prints : Prints tells 1 lines text

pub Reads-nothing : (tells : ℕ → List ℕ → List ℕ → Type 0) (bytes : List ℕ) → Reads tells bytes bytes 0 []
Reads-nothing tells bytes = record { lines = []; begin = begins bytes; count = refl; few = omega arith; short = All-nil (λ m. length m ≤ most_bytes); prints = refl }

-- one more line
pub Reads-line : (tells : ℕ → List ℕ → List ℕ → Type 0) (bytes left line rest : List ℕ) (given : ℕ) (text more : List ℕ) → Reads tells bytes left given text → IsLine line → length line ≤ most_bytes → given < most_messages → left ≡ line ++ 10 ∷ rest → tells (given + 1) line more → Reads tells bytes rest (given + 1) (text ++ more)
Reads-line tells bytes left line rest given text more r is fits few e told = record {
  lines = r.lines ++ line ∷ [];
  begin = Begins-line bytes r.lines left line rest r.begin is e;
  count = length-append r.lines (line ∷ []) ∙ ap (λ n. n + 1) r.count;
  few = omega arith;
  short = All-push (λ m. length m ≤ most_bytes) r.lines line r.short fits;
  prints = Prints-more tells 1 r.lines line text more r.prints (subst (λ n. tells n line more) (omega (arith, r.count)) told);
}

-- a last line without its newline
pub Reads-last : (tells : ℕ → List ℕ → List ℕ → Type 0) (bytes left line : List ℕ) (given : ℕ) (text more : List ℕ) → Reads tells bytes left given text → IsLine line → line ≢ [] → length line ≤ most_bytes → given < most_messages → left ≡ line → tells (given + 1) line more → PrintsAll tells bytes (text ++ more)
Reads-last tells bytes left line given text more r is some fits few e told = record {
  messages = r.lines ++ line ∷ [];
  ended = false;
  are = Messages-open bytes r.lines line (subst (λ l. Begins bytes r.lines l) e r.begin) is some;
  few = omega (arith, length-append r.lines (line ∷ []), r.count);
  short = All-push (λ m. length m ≤ most_bytes) r.lines line r.short fits;
  prints = Prints-more tells 1 r.lines line text more r.prints (subst (λ n. tells n line more) (omega (arith, r.count)) told);
}

-- the end of the bytes
pub Reads-end : (tells : ℕ → List ℕ → List ℕ → Type 0) (bytes left : List ℕ) (given : ℕ) (text : List ℕ) → Reads tells bytes left given text → left ≡ [] → PrintsAll tells bytes text
Reads-end tells bytes left given text r none = record {
  messages = r.lines;
  ended = true;
  are = Messages-ended bytes r.lines (subst (λ l. Begins bytes r.lines l) none r.begin);
  few = omega (arith, r.count, r.few);
  short = r.short;
  prints = r.prints;
}

-- what was printed so far
pub Reads-first : (tells : ℕ → List ℕ → List ℕ → Type 0) (bytes left : List ℕ) (given : ℕ) (text : List ℕ) → Reads tells bytes left given text → PrintsFirst tells bytes given text
Reads-first tells bytes left given text r = record {
  messages = r.lines ++ rest.messages;
  ended = rest.ended;
  are = Messages-after bytes r.lines left rest.messages rest.ended r.begin rest.are;
  enough = omega (arith, length-append r.lines rest.messages, r.count);
  few = r.few;
  short = subst AreShort (sym front) r.short;
  prints = subst (λ ms. Prints tells 1 ms text) (sym front) r.prints;
}
  where
    rest : HasMessages left
    rest = messages_exist left

    front : take given (r.lines ++ rest.messages) ≡ r.lines
    front = ap (λ n. take n (r.lines ++ rest.messages)) (sym r.count) ∙ take-append_seam r.lines rest.messages

-- a read failed behind a line that was begun
pub Reads-before : (tells : ℕ → List ℕ → List ℕ → Type 0) (bytes left begun unread : List ℕ) (given : ℕ) (text : List ℕ) → Reads tells bytes left given text → IsLine begun → length begun ≤ most_bytes → (given ≡ most_messages → begun ≡ []) → left ≡ begun ++ unread → PrintsBefore tells bytes unread text
Reads-before tells bytes left begun unread given text r is short none e = record {
  lines = r.lines;
  begun = begun;
  are = r.begin.lines_are;
  no_newline = is;
  begins = r.begin.splits ∙ ap (λ l. joined r.lines ++ l) e;
  few = omega (arith, r.count, r.few);
  short = r.short;
  short_yet = short;
  none_behind = λ full. none (sym r.count ∙ full);
  prints = r.prints;
}

pub PrintsBefore-some : (tells : ℕ → List ℕ → List ℕ → Type 0) (bytes unread text : List ℕ) → PrintsBefore tells bytes unread text → PrintsSome tells bytes text
PrintsBefore-some tells bytes unread text p = (
  length p.lines,
  Reads-first tells bytes (p.begun ++ unread) (length p.lines) text (record {
    lines = p.lines;
    begin = record { lines_are = p.are; splits = p.begins };
    count = refl;
    few = p.few;
    short = p.short;
    prints = p.prints;
  }),
)

pub PrintsAll-some : (tells : ℕ → List ℕ → List ℕ → Type 0) (bytes text : List ℕ) → PrintsAll tells bytes text → PrintsSome tells bytes text
PrintsAll-some tells bytes text p = (
  length p.messages,
  record {
    messages = p.messages;
    ended = p.ended;
    are = p.are;
    enough = omega arith;
    few = p.few;
    short = subst AreShort (sym (take_whole p.messages)) p.short;
    prints = subst (λ ms. Prints tells 1 ms text) (sym (take_whole p.messages)) p.prints;
  },
)
  where
    take_whole : (xs : List (List ℕ)) → take (length xs) xs ≡ xs
    take_whole xs = ap (take (length xs)) (sym (append-nil xs)) ∙ take-append_seam xs []

-- the next line is too long
pub Reads-long : (tells : ℕ → List ℕ → List ℕ → Type 0) (bytes left : List ℕ) (given : ℕ) (text : List ℕ) → Reads tells bytes left given text → most_bytes < length left → IsLine (take (most_bytes + 1) left) → IsLong bytes (given + 1)
Reads-long tells bytes left given text r more is = subst (λ n. IsLong bytes (n + 1)) r.count (Begins-long bytes left r.lines r.begin more is)

-- something has messages
some_messages : (bytes : List ℕ) (messages : List (List ℕ)) (ended : Bool) → Messages bytes messages ended → 0 < length bytes → 0 < length messages
some_messages bytes [] true m some = absurd (omega (arith, ap length m.1))
some_messages bytes [] false m some = omega (arith, ap length m.1.splits, length-append m.1.front (m.1.last ∷ []))
some_messages bytes (first ∷ others) ended m some = omega arith

-- a further line begins
pub Reads-more : (tells : ℕ → List ℕ → List ℕ → Type 0) (bytes left : List ℕ) (given : ℕ) (text : List ℕ) → Reads tells bytes left given text → 0 < length left → HasMore bytes given
Reads-more tells bytes left given text r some = record {
  messages = r.lines ++ rest.messages;
  ended = rest.ended;
  are = Messages-after bytes r.lines left rest.messages rest.ended r.begin rest.are;
  more = omega (arith, length-append r.lines rest.messages, r.count, some_messages left rest.messages rest.ended rest.are some);
}
  where
    rest : HasMessages left
    rest = messages_exist left
