-- The text of a file of an archive.
use Rattle.std.proofs.Common.{◌≡◌, ◌≢◌, ◌+◌, ◌-◌, ◌≤◌, ◌<◌, ◌==◌, ◌&&◌, ◌||◌, refl, sym, ap, ap₂, subst, ◌∙◌, ℕ, zero, suc, Bool, true, false, if◌then◌else◌, List, [], ◌∷◌, ◌++◌, length, take, Some, arith, append-nil, ne_eqb}
use Rattle.std.specs.Prelude.{All, not, slice_get}
use Rattle.std.proofs.lemmas.List.{length-append}
use Rattle.std.proofs.lemmas.List.Elements.{All-append, All-head, All-nil, All-tail, All-weaker}
use Rattle.std.proofs.lemmas.Bool.Decides.{nat_tests}
use Rattle.std.proofs.Math.Decide.{dec_le}
use Rattle.std.proofs.Math.Logic.{dite}
use Rattle.std.proofs.Math.Nat.{lt_of_not-le}
use Rattle.log_messages.specs.Messages.{IsLine, Messages, joined}
use Rattle.record_format.specs.declared.header.Header.{Header}
use Rattle.line_cut.specs.declared.cutter.TheConstants.{MAX_LINE_LEN}
use Rattle.row_codec.specs.Messages.{IsMessage}
use Rattle.archive_meaning.specs.Held.{File, Held, Piece, content_of, ends_open, file_text, files_from, is_ended, is_whole, last_is_open, messages_of, nothing_held, text_from}
use Rattle.archive_meaning.specs.Legal.{Accepts, Run, piece_of}
use Rattle.archive_meaning.specs.Stands.{IsLegal}
use Rattle.archive_meaning.specs.declared.entry.JournalEntry.{JournalEntry}
use Rattle.archive_meaning.specs.declared.entry.JournalEntry.TheVariants.{Files, Segment, Types, Words}
use Rattle.archive_meaning.proofs.SumsLemmas.{messages_joined, whole_joined}
use Rattle.message_reader.specs.Taken.{IsBeforeLong}
use Rattle.message_reader.specs.Versions.{MessagesOf}
use Rattle.file_outcomes.proofs.JoinLemmas.{ended_joined}

-- ---- messages are short

abbrev IsShortOne : List ℕ → Type 0
IsShortOne m = length m ≤ MAX_LINE_LEN

module _ (h : Header) (file : ℕ) where
  short_step : (old mid : Held) (e : JournalEntry) → Accepts h old e mid → All IsShortOne (messages_of file old.pieces) → All IsShortOne (messages_of file mid.pieces)
  short_step old mid (Files names) takes each = subst (λ (x : Held). All IsShortOne (messages_of file x.pieces)) (sym takes) each
  short_step old mid (Types first texts) takes each = subst (λ (x : Held). All IsShortOne (messages_of file x.pieces)) (sym takes.1) each
  short_step old mid (Words first texts) takes each = subst (λ (x : Held). All IsShortOne (messages_of file x.pieces)) (sym takes.1) each
  short_step old mid (Segment s) (messages, adds, is) each = subst (λ (x : Held). All IsShortOne (messages_of file x.pieces)) (sym is)
      (subst (All IsShortOne) (sym (messages_joined file old.pieces (piece_of s messages ∷ [])))
      (All-append IsShortOne (messages_of file old.pieces) (messages_of file (piece_of s messages ∷ [])) each (of_piece (s.file == file))))
    where
      all : All IsShortOne messages
      all = All-weaker (IsMessage h.version) IsShortOne (λ m is. is.short) messages adds.each

      of_piece : (mine : Bool) → All IsShortOne ((if mine then messages else []) ++ [])
      of_piece true = subst (All IsShortOne) (sym (append-nil messages)) all
      of_piece false = All-nil IsShortOne

  short_run : (old more : Held) (es : List JournalEntry) → Run h old es more → All IsShortOne (messages_of file old.pieces) → All IsShortOne (messages_of file more.pieces)
  short_run old more [] run each = subst (λ (x : Held). All IsShortOne (messages_of file x.pieces)) (sym run) each
  short_run old more (e ∷ es) run each = short_run run.0 more es run.2 (short_step old run.0 e run.1 each)

-- ---- no line of them is too long

-- a newline among the first bytes
line_behind : (m rest : List ℕ) (n : ℕ) → length m < n → IsLine (take n (m ++ 10 ∷ rest)) → ⊥
line_behind [] rest zero low line = absurd (omega (arith, low))
line_behind [] rest (suc n) low line = All-head (λ b. b ≢ 10) 10 (take n rest) line refl
line_behind (b ∷ m) rest zero low line = absurd (omega (arith, low))
line_behind (b ∷ m) rest (suc n) low line = line_behind m rest n (omega (arith, low)) (All-tail (λ x. x ≢ 10) b (take n (m ++ 10 ∷ rest)) line)

-- two splits of a list, whose first part is no longer than a text
split_in : (m behind front rest : List ℕ) → m ++ behind ≡ front ++ rest → length front ≤ length m → (m' : List ℕ) × (length m' ≤ length m) × (rest ≡ m' ++ behind)
split_in m behind [] rest same low = (m, omega arith, sym same)
split_in [] behind (x ∷ front) rest same low = absurd (omega (arith, low))
split_in (y ∷ m) behind (x ∷ front) rest same low = let on = split_in m behind front rest (cc (same)) (omega (arith, low)) in (on.0, omega (arith, on.1), on.2)

-- or goes past it and one byte
split_past : (m behind front rest : List ℕ) (b : ℕ) → m ++ (b ∷ behind) ≡ front ++ rest → length m < length front → (front' : List ℕ) × (behind ≡ front' ++ rest)
split_past m behind [] rest b same low = absurd (omega (arith, low))
split_past [] behind (x ∷ front) rest b same low = (front, cc (same))
split_past (y ∷ m) behind (x ∷ front) rest b same low = split_past m behind front rest b (cc (same)) (omega (arith, low))

-- the bytes without a newline begin behind this message
past_one : (m behind front rest : List ℕ) → IsShortOne m → m ++ (10 ∷ behind) ≡ front ++ rest → IsLine (take (MAX_LINE_LEN + 1) rest) → (front' : List ℕ) × (behind ≡ front' ++ rest)
past_one m behind front rest short same line =
    dite (dec_le (length front) (length m))
    (λ (low : length front ≤ length m).
    let in_it = split_in m (10 ∷ behind) front rest same low in
    absurd (line_behind in_it.0 behind (MAX_LINE_LEN + 1) (omega (arith, in_it.1, short)) (subst (λ l. IsLine (take (MAX_LINE_LEN + 1) l)) in_it.2 line)))
    (λ far. split_past m behind front rest 10 same (lt_of_not-le far))

none_long : (open_end : Bool) (messages : List (List ℕ)) (front rest : List ℕ) → All IsShortOne messages → text_from open_end messages ≡ front ++ rest → MAX_LINE_LEN < length rest → IsLine (take (MAX_LINE_LEN + 1) rest) → ⊥
none_long open_end [] front rest short same long line = omega (arith, ap length same, length-append front rest, long)
none_long true (m ∷ []) front rest short same long line = omega (arith, ap length same, length-append front rest, long, All-head IsShortOne m [] short)
none_long false (m ∷ []) front rest short same long line =
    let on = past_one m [] front rest (All-head IsShortOne m [] short) same line in
    omega (arith, ap length on.1, length-append on.0 rest, long)
none_long open_end (m ∷ n ∷ messages) front rest short same long line =
    let on = past_one m (text_from open_end (n ∷ messages)) front rest (All-head IsShortOne m (n ∷ messages) short) same line in
    none_long open_end (n ∷ messages) on.0 rest (All-tail IsShortOne m (n ∷ messages) short) on.1 long line

-- ---- whether the text ends with a newline

ends_behind : (a b : List ℕ) (x : ℕ) → ends_open (a ++ x ∷ b) ≡ ends_open (x ∷ b)
ends_behind [] b x = refl
ends_behind (y ∷ []) b x = refl
ends_behind (y ∷ z ∷ a) b x = ends_behind (z ∷ a) b x

closed_behind : (t : List ℕ) → ends_open t ≡ false → ends_open (10 ∷ t) ≡ false
closed_behind [] is = refl
closed_behind (c ∷ t) is = is

open_behind : (t : List ℕ) → ends_open t ≡ true → ends_open (10 ∷ t) ≡ true
open_behind [] is = absurd (cc (is))
open_behind (c ∷ t) is = is

closed_text : (messages : List (List ℕ)) → ends_open (text_from false messages) ≡ false
closed_text [] = refl
closed_text (m ∷ []) = ends_behind m [] 10
closed_text (m ∷ n ∷ messages) = ends_behind m (text_from false (n ∷ messages)) 10 ∙ closed_behind (text_from false (n ∷ messages)) (closed_text (n ∷ messages))

open_text : (messages : List (List ℕ)) → last_is_open messages ≡ true → ends_open (text_from true messages) ≡ true
open_text [] is = absurd (cc (is))
open_text (m ∷ []) is = is
open_text (m ∷ n ∷ messages) is = ends_behind m (text_from true (n ∷ messages)) 10 ∙ open_behind (text_from true (n ∷ messages)) (open_text (n ∷ messages) is)

closed_lines : (lines : List (List ℕ)) → ends_open (joined lines) ≡ false
closed_lines [] = refl
closed_lines (m ∷ lines) = ends_behind m (joined lines) 10 ∙ closed_behind (joined lines) (closed_lines lines)

other_byte : (b : ℕ) → b ≢ 10 → not (b == 10) ≡ true
other_byte b other = ap not (ne_eqb b 10 other)

open_line : (line : List ℕ) → IsLine line → line ≢ [] → ends_open line ≡ true
open_line [] is some = absurd (some refl)
open_line (b ∷ []) is some = other_byte b (All-head (λ x. x ≢ 10) b [] is)
open_line (b ∷ c ∷ line) is some = open_line (c ∷ line) (All-tail (λ x. x ≢ 10) b (c ∷ line) is) (λ none. cc (none))

open_after : (front line : List ℕ) → IsLine line → line ≢ [] → ends_open (front ++ line) ≡ true
open_after front [] is some = absurd (some refl)
open_after front (b ∷ line) is some = ends_behind front line b ∙ open_line (b ∷ line) is some

-- the bytes end with a newline as their lines say
line_at_end : (front : List (List ℕ)) (last : List ℕ) → All IsLine (front ++ last ∷ []) → IsLine last
line_at_end [] last each = All-head IsLine last [] each
line_at_end (m ∷ front) last each = line_at_end front last (All-tail IsLine m (front ++ last ∷ []) each)

ends_as_lines : (bytes : List ℕ) (lines : List (List ℕ)) (e : Bool) → Messages bytes lines e → ends_open bytes ≡ not e
ends_as_lines bytes lines true are = ap ends_open are.1 ∙ closed_lines lines
ends_as_lines bytes lines false are =
    ap ends_open are.1.is ∙ open_after (joined are.1.front) are.1.last (line_at_end are.1.front are.1.last (subst (All IsLine) are.1.splits are.0)) are.1.some

-- ---- marks of a legal journal's files

same_number : (a b : ℕ) → (a == b) ≡ true → a ≡ b
same_number a b is = grind (arith, nat_tests)

or_false : (a : Bool) → (a || false) ≡ a
or_false true = refl
or_false false = refl

or_true : (a : Bool) → (a || true) ≡ true
or_true true = refl
or_true false = refl

module _ (h : Header) (file : ℕ) where
  -- a whole file whose last line had no newline has such a line
  abbrev EndsAs : List Piece → Type 0
  EndsAs ps = is_whole file ps ≡ true → is_ended file ps ≡ false → last_is_open (messages_of file ps) ≡ true

  ends_step : (old mid : Held) (e : JournalEntry) → Accepts h old e mid → EndsAs old.pieces → EndsAs mid.pieces
  ends_step old mid (Files names) takes ends = subst (λ (x : Held). EndsAs x.pieces) (sym takes) ends
  ends_step old mid (Types first texts) takes ends = subst (λ (x : Held). EndsAs x.pieces) (sym takes.1) ends
  ends_step old mid (Words first texts) takes ends = subst (λ (x : Held). EndsAs x.pieces) (sym takes.1) ends
  ends_step old mid (Segment s) (messages, adds, is) ends = subst (λ (x : Held). EndsAs x.pieces) (sym is) (by_file (s.file == file) refl)
    where
      whole_is : (b : Bool) → (s.file == file) ≡ b → is_whole file (old.pieces ++ piece_of s messages ∷ []) ≡ (is_whole file old.pieces || ((b && s.last) || false))
      whole_is b same = whole_joined file old.pieces (piece_of s messages ∷ []) ∙ ap (λ t. is_whole file old.pieces || ((t && s.last) || false)) same

      ended_is : (b : Bool) → (s.file == file) ≡ b → is_ended file (old.pieces ++ piece_of s messages ∷ []) ≡ (is_ended file old.pieces || ((b && s.last && s.ended) || false))
      ended_is b same = ended_joined file old.pieces (piece_of s messages ∷ []) ∙ ap (λ t. is_ended file old.pieces || ((t && s.last && s.ended) || false)) same

      messages_is : (b : Bool) → (s.file == file) ≡ b → messages_of file (old.pieces ++ piece_of s messages ∷ []) ≡ messages_of file old.pieces ++ ((if b then messages else []) ++ [])
      messages_is b same = messages_joined file old.pieces (piece_of s messages ∷ []) ∙ ap (λ t. messages_of file old.pieces ++ ((if t then messages else []) ++ [])) same

      by_marks : (s.file == file) ≡ true → (l m : Bool) → s.last ≡ l → s.ended ≡ m → EndsAs (old.pieces ++ piece_of s messages ∷ [])
      by_marks same false m last_is mark_is whole mark =
          let mine : s.file ≡ file = same_number s.file file same in
          let before : is_whole file old.pieces ≡ false = subst (λ n. is_whole n old.pieces ≡ false) mine adds.goes_on in
          let none : is_whole file (old.pieces ++ piece_of s messages ∷ []) ≡ false = whole_is true same ∙ (ap (λ t. is_whole file old.pieces || ((true && t) || false)) last_is ∙ (or_false (is_whole file old.pieces) ∙ before)) in
          absurd (cc (none, whole))
      by_marks same true true last_is mark_is whole mark =
          let some : is_ended file (old.pieces ++ piece_of s messages ∷ []) ≡ true = ended_is true same ∙ (ap₂ (λ t u. is_ended file old.pieces || ((true && t && u) || false)) last_is mark_is ∙ or_true (is_ended file old.pieces)) in
          absurd (cc (some, mark))
      by_marks same true false last_is mark_is whole mark =
          let mine : s.file ≡ file = same_number s.file file same in
          let all : messages_of file (old.pieces ++ piece_of s messages ∷ []) ≡ messages_of file old.pieces ++ messages = messages_is true same ∙ ap (λ l. messages_of file old.pieces ++ l) (append-nil messages) in
          ap last_is_open all ∙ subst (λ n. last_is_open (messages_of n old.pieces ++ messages) ≡ true) mine (adds.end last_is mark_is)

      by_file : (b : Bool) → (s.file == file) ≡ b → EndsAs (old.pieces ++ piece_of s messages ∷ [])
      by_file true same whole mark = by_marks same s.last s.ended refl refl whole mark
      by_file false other whole mark =
          let was : is_whole file old.pieces ≡ true = sym (whole_is false other ∙ or_false (is_whole file old.pieces)) ∙ whole in
          let mark_was : is_ended file old.pieces ≡ false = sym (ended_is false other ∙ or_false (is_ended file old.pieces)) ∙ mark in
          ap last_is_open (messages_is false other ∙ append-nil (messages_of file old.pieces)) ∙ ends was mark_was

  ends_run : (old more : Held) (es : List JournalEntry) → Run h old es more → EndsAs old.pieces → EndsAs more.pieces
  ends_run old more [] run ends = subst (λ (x : Held). EndsAs x.pieces) (sym run) ends
  ends_run old more (e ∷ es) run ends = ends_run run.0 more es run.2 (ends_step old run.0 e run.1 ends)

-- ---- a file of a legal journal

pub record IsOldFile (o : File) : Type 0 where
  pub short : All IsShortOne o.messages
  pub open_end : o.whole ≡ true → o.ended ≡ false → last_is_open o.messages ≡ true

old_from : (h : Header) (es : List JournalEntry) (legal : IsLegal h es) (k : ℕ) (names : List (List ℕ)) (i : ℕ) (o : File) → slice_get (files_from k names legal.held.pieces) i ≡ Some o → IsOldFile o
old_from h es legal k [] i o at = absurd (cc (at))
old_from h es legal k (name ∷ names) zero o at =
    subst IsOldFile (some_is at) (record {
      short = short_run h k nothing_held legal.held es legal.run (All-nil IsShortOne);
      open_end = ends_run h k nothing_held legal.held es legal.run (λ whole mark. absurd (cc (whole)));
    })
  where
    some_is : {a b : File} → Some a ≡ Some b → a ≡ b
    some_is e = cc (e)
old_from h es legal k (name ∷ names) (suc i) o at = old_from h es legal (k + 1) names i o at

pub old_file : (h : Header) (es : List JournalEntry) (legal : IsLegal h es) (i : ℕ) (o : File) → slice_get (content_of legal.held) i ≡ Some o → IsOldFile o
old_file h es legal i o at = old_from h es legal 0 legal.held.names i o at

-- no line of its text is too long
pub none_too_long : (version : ℕ) (o : File) (taken : List (List ℕ)) → IsOldFile o → ¬ IsBeforeLong version taken (file_text o)
none_too_long version o taken is before = none_long (o.whole && not o.ended) o.messages (joined taken) before.1.0 is.short before.1.1 before.1.2.0 before.1.2.1

-- its text ends as it does
pub ends_as_file : (version : ℕ) (o : File) (messages : List (List ℕ)) (e : Bool) → IsOldFile o → o.whole ≡ true → MessagesOf version (file_text o) messages e → e ≡ o.ended
ends_as_file version o messages e is whole are = by_mark o.ended refl
  where
    lines : ends_open (file_text o) ≡ not e
    lines = ends_as_lines (file_text o) are.lines e are.are_lines

    text_is : (b : Bool) → o.ended ≡ b → file_text o ≡ text_from (true && not b) o.messages
    text_is b same = ap₂ (λ t u. text_from (t && not u) o.messages) whole same

    back : (a b : Bool) → not a ≡ not b → a ≡ b
    back true true same = refl
    back true false same = absurd (cc (same))
    back false true same = absurd (cc (same))
    back false false same = refl

    by_mark : (b : Bool) → o.ended ≡ b → e ≡ o.ended
    by_mark true mark = back e true (sym lines ∙ (ap ends_open (text_is true mark) ∙ closed_text o.messages)) ∙ sym mark
    by_mark false mark = back e false (sym lines ∙ (ap ends_open (text_is false mark) ∙ open_text o.messages (is.open_end whole mark))) ∙ sym mark
