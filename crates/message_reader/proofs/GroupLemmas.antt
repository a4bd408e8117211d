-- A group of lines as a message of its version.
use Rattle.std.proofs.Common.{◌≡◌, ◌≢◌, ◌⊎◌, inl, inr, ℕ, zero, suc, ◌+◌, ◌<◌, ◌≤◌, List, [], ◌∷◌, ◌++◌, All, length, refl, sym, ◌∙◌, ap, subst, arith}
use Rattle.std.specs.Prelude.{if◌then◌else◌, nat_le}
use Rattle.std.specs.List.{flat_map}
use Rattle.std.proofs.lemmas.Bool.{ne_eqb}
use Rattle.std.proofs.lemmas.List.{append-nil, append_assoc}
use Rattle.std.proofs.lemmas.List.Elements.{All-head, All-tail}
use Rattle.log_messages.specs.Messages.{IsLine}
use Rattle.log_messages.specs.Groups.{Group, lines_of, text_of, last_line, IsGroup, IsFollowed}
use Rattle.log_messages.proofs.GroupLawLemmas.{followed_by_lines, group_messages_first}
use Rattle.time_patterns.specs.Stamps.{IsStamped}
use Rattle.time_patterns.proofs.VersionLemmas.{first_line_tells}
use Rattle.row_codec.specs.Messages.{EndsLine, HasLaterStamp, IsMessage}
use Rattle.line_cut.specs.Joining.{IsTornGroup}
use Rattle.line_cut.specs.declared.cutter.TheConstants.{MAX_LINE_LEN}
use Rattle.line_cut.proofs.GroupLemmas.{first_none, torn_message}
use Rattle.message_reader.specs.Versions.{AreWholeLines, IsFirstOfLines, IsHead, MessagesOf, line_count}
use Rattle.message_reader.specs.Reading.{HasOpenEnd, IsTornMessage}
use Rattle.message_reader.proofs.HeadLemmas.{zero_pattern}

-- ---- how many lines

count_line : (line : List ℕ) → IsLine line → line_count line ≡ 1
count_line [] is = refl
count_line (b ∷ line) is =
    omega (arith, ap {B = ℕ} (λ t. if t then 1 else 0) (ne_eqb b 10 (All-head (λ c. c ≢ 10) b line is)), count_line line (All-tail (λ c. c ≢ 10) b line is))

count_more : (line rest : List ℕ) → line_count (line ++ 10 ∷ rest) ≡ line_count line + line_count rest
count_more [] rest = refl
count_more (b ∷ line) rest = omega (arith, count_more line rest)

count_lines : (first : List ℕ) (later : List (List ℕ)) → IsLine first → All IsLine later → line_count (first ++ flat_map (λ line. 10 ∷ line) later) ≡ 1 + length later
count_lines first [] is all = ap line_count (append-nil first) ∙ count_line first is
count_lines first (line ∷ later) is all =
    let rest = line ++ flat_map (λ l. 10 ∷ l) later in
    omega (arith, count_more first rest, count_line first is, count_lines line later (All-head IsLine line later all) (All-tail IsLine line later all))

pub count_of_line : (line : List ℕ) → IsLine line → line_count line ≡ 1
count_of_line = count_line

pub count_of_group : (group : Group) (text : List ℕ) (count : ℕ) → text_of group ≡ text → All IsLine (lines_of group) → length (lines_of group) ≡ count → line_count text ≡ count
count_of_group group text count is all size =
    let n = count_lines group.first group.later (All-head IsLine group.first group.later all) (All-tail IsLine group.first group.later all) in
    ap line_count (sym is) ∙ omega (arith, n, size)

-- ---- the last byte of a message without its newline

pub open_of_line : (line : List ℕ) → IsLine line → line ≢ [] → HasOpenEnd line
open_of_line [] is some = absurd (some refl)
open_of_line (b ∷ []) is some = ([], b, refl, All-head (λ c. c ≢ 10) b [] is)
open_of_line (b ∷ c ∷ line) is some =
    let o = open_of_line (c ∷ line) (All-tail (λ c. c ≢ 10) b (c ∷ line) is) (λ e. absurd (cc (e))) in (b ∷ o.0, o.1, ap (λ l. b ∷ l) o.2, o.3)

open_behind : (front text : List ℕ) → HasOpenEnd text → HasOpenEnd (front ++ text)
open_behind front text o = (front ++ o.0, o.1, ap (λ l. front ++ l) o.2 ∙ sym (append_assoc front o.0 (o.1 ∷ [])), o.3)

open_lines : (first : List ℕ) (later : List (List ℕ)) → IsLine first → All IsLine later → last_line first later ≢ [] → HasOpenEnd (first ++ flat_map (λ line. 10 ∷ line) later)
open_lines first [] is all some = subst HasOpenEnd (sym (append-nil first)) (open_of_line first is some)
open_lines first (line ∷ later) is all some =
    let rest = line ++ flat_map (λ l. 10 ∷ l) later in
    open_behind first (10 ∷ rest) (open_behind (10 ∷ []) rest (open_lines line later (All-head IsLine line later all) (All-tail IsLine line later all) some))

pub open_of_group : (group : Group) (text : List ℕ) → text_of group ≡ text → All IsLine (lines_of group) → last_line group.first group.later ≢ [] → HasOpenEnd text
open_of_group group text is all some =
    subst HasOpenEnd is (open_lines group.first group.later (All-head IsLine group.first group.later all) (All-tail IsLine group.first group.later all) some)

-- ---- the stamp of a group is that of its first line

head_more : (version : ℕ) (line more : List ℕ) → IsHead version line → IsHead version (line ++ 10 ∷ more)
head_more version line more (above, (zero, m, n, is)) = absurd (zero_pattern (nat_le 3 version) is.pattern.0)
head_more version line more (above, (suc k, m, n, is)) = (above, (suc k, m, n, (first_line_tells version line more (suc k) m n).0 is))

head_text : (version : ℕ) (first : List ℕ) (later : List (List ℕ)) → IsHead version first → IsHead version (first ++ flat_map (λ line. 10 ∷ line) later)
head_text version first [] head = subst (IsHead version) (sym (append-nil first)) head
head_text version first (line ∷ later) head = head_more version first (line ++ flat_map (λ l. 10 ∷ l) later) head

-- ---- no later line has a stamp

-- a newline is the first one behind a line, or stands behind that one
first_newline : (line front x y : List ℕ) → IsLine line → line ++ (10 ∷ x) ≡ front ++ (10 ∷ y)
    → ((line ≡ front) × (x ≡ y)) ⊎ ((more : List ℕ) × ((front ≡ line ++ (10 ∷ more)) × (x ≡ more ++ (10 ∷ y))))
first_newline [] [] x y is same = inl (refl, cc (same))
first_newline [] (b ∷ front) x y is same = let one : 10 ≡ b = cc (same) in inr (front, (ap (λ c. c ∷ front) (sym one), cc (same)))
first_newline (b ∷ line) [] x y is same = let one : b ≡ 10 = cc (same) in absurd (All-head (λ c. c ≢ 10) b line is one)
first_newline (b ∷ line) (c ∷ front) x y is same =
    let one : b ≡ c = cc (same) in
    let back : line ++ (10 ∷ x) ≡ front ++ (10 ∷ y) = cc (same) in
    elim (first_newline line front x y (All-tail (λ d. d ≢ 10) b line is) back) as (λ z. ((b ∷ line ≡ c ∷ front) × (x ≡ y)) ⊎ ((more : List ℕ) × ((c ∷ front ≡ (b ∷ line) ++ (10 ∷ more)) × (x ≡ more ++ (10 ∷ y))))) [
      | inl here ↦ inl (ap (λ l. b ∷ l) here.0 ∙ ap (λ d. d ∷ front) one, here.1)
      | inr past ↦ inr (past.0, (ap (λ d. d ∷ front) (sym one) ∙ ap (λ l. b ∷ l) past.1.0, past.1.1))
    ]

-- a line is cut off bytes in one way
one_line : (line other x y : List ℕ) → IsLine line → IsLine other → EndsLine x → EndsLine y → line ++ x ≡ other ++ y → line ≡ other
one_line [] [] x y a b ends_x ends_y same = refl
one_line [] (c ∷ other) [] y a b ends_x ends_y same = absurd (cc (same))
one_line [] (c ∷ other) (d ∷ x) y a b ends_x ends_y same =
    let one : c ≡ d = cc (same) in absurd (All-head (λ e. e ≢ 10) c other b (one ∙ ends_x))
one_line (c ∷ line) [] x [] a b ends_x ends_y same = absurd (cc (same))
one_line (c ∷ line) [] x (d ∷ y) a b ends_x ends_y same =
    let one : c ≡ d = cc (same) in absurd (All-head (λ e. e ≢ 10) c line a (one ∙ ends_y))
one_line (c ∷ line) (d ∷ other) x y a b ends_x ends_y same =
    let one : c ≡ d = cc (same) in
    let back : line ++ x ≡ other ++ y = cc (same) in
    ap (λ e. e ∷ line) one ∙ ap (λ l. d ∷ l) (one_line line other x y (All-tail (λ e. e ≢ 10) c line a) (All-tail (λ e. e ≢ 10) d other b) ends_x ends_y back)

-- nothing follows a line that has no newline behind it
none_later : (version : ℕ) (line : List ℕ) → IsLine line → HasLaterStamp version line → ⊥
none_later version line is later = no_newline line later.front (later.line ++ later.back) is later.cut
  where
    no_newline : (line front y : List ℕ) → IsLine line → line ≡ front ++ (10 ∷ y) → ⊥
    no_newline [] [] y is same = absurd (cc (same))
    no_newline [] (b ∷ front) y is same = absurd (cc (same))
    no_newline (b ∷ line) [] y is same = let one : b ≡ 10 = cc (same) in All-head (λ c. c ≢ 10) b line is one
    no_newline (b ∷ line) (c ∷ front) y is same = let back : line ≡ front ++ (10 ∷ y) = cc (same) in no_newline line front y (All-tail (λ d. d ≢ 10) b line is) back

-- behind the line and its newline stands the next line, which has a stamp, or a line behind that has one
later_next : (version : ℕ) (front line back : List ℕ) → IsLine front → IsLine line → EndsLine back
    → HasLaterStamp version (front ++ (10 ∷ (line ++ back))) → IsStamped version line ⊎ HasLaterStamp version (line ++ back)
later_next version front line back is_front is_line ends later =
    elim (first_newline front later.front (line ++ back) (later.line ++ later.back) is_front later.cut) as (λ z. IsStamped version line ⊎ HasLaterStamp version (line ++ back)) [
      | inl here ↦ inl (subst (λ l. IsStamped version l) (sym (one_line line later.line back later.back is_line later.is_line ends later.ends here.1)) later.stamped)
      | inr past ↦ inr (record { front = past.0; line = later.line; back = later.back; cut = past.1.1; is_line = later.is_line; ends = later.ends; stamped = later.stamped })
    ]

ends_line : (later : List (List ℕ)) → EndsLine (flat_map (λ line. 10 ∷ line) later)
ends_line [] = tt
ends_line (line ∷ later) = refl

none_stamped : (version : ℕ) (first : List ℕ) (later : List (List ℕ)) → IsLine first → All IsLine later
    → ((before : List (List ℕ)) (line : List ℕ) (behind : List (List ℕ)) → later ≡ before ++ line ∷ behind → IsStamped version line → ⊥)
    → HasLaterStamp version (first ++ flat_map (λ line. 10 ∷ line) later) → ⊥
none_stamped version first [] is all none has = none_later version first is (subst (HasLaterStamp version) (append-nil first) has)
none_stamped version first (line ∷ later) is all none has =
    let is_line = All-head IsLine line later all in
    elim (later_next version first line (flat_map (λ l. 10 ∷ l) later) is is_line (ends_line later) has) as (λ z. ⊥) [
      | inl stamped ↦ none [] line later refl stamped
      | inr rest ↦ none_stamped version line later is_line (All-tail IsLine line later all) (λ before l behind e. none (line ∷ before) l behind (ap (λ ls. line ∷ ls) e)) rest
    ]

-- ---- so a group is a message

lines_are : (version : ℕ) (first : List ℕ) (later : List (List ℕ)) → 1 < version → All IsLine (first ∷ later) → IsGroup (IsHead version) MAX_LINE_LEN (record { first = first; later = later })
    → length (first ++ flat_map (λ line. 10 ∷ line) later) ≤ MAX_LINE_LEN → IsMessage version (first ++ flat_map (λ line. 10 ∷ line) later)
lines_are version first [] above all is fits = record { short = fits; lines = inl (subst IsLine (sym (append-nil first)) (All-head IsLine first [] all)) }
lines_are version first (line ∷ later) above all is fits = record {
  short = fits;
  lines = inr (
    above,
    record {
      stamped = (head_text version first (line ∷ later) (is [] line later refl).1).1;
      alone = none_stamped version first (line ∷ later) (All-head IsLine first (line ∷ later) all) (All-tail IsLine first (line ∷ later) all) (λ before l behind e stamped. (is before l behind e).0 (above, stamped));
    },
  );
}

pub message_of_group : (version : ℕ) (group : Group) (text : List ℕ) → 1 < version → text_of group ≡ text → All IsLine (lines_of group) → IsGroup (IsHead version) MAX_LINE_LEN group → length text ≤ MAX_LINE_LEN → IsMessage version text
message_of_group version group text above same all is fits =
    subst (IsMessage version) same (lines_are version group.first group.later above all is (subst (λ t. length t ≤ MAX_LINE_LEN) (sym same) fits))

-- a group that might go on
pub torn_group : (version : ℕ) (bytes : List ℕ) → IsTornGroup (IsHead version) MAX_LINE_LEN bytes → IsTornMessage version bytes
torn_group version bytes t = record {
  text = text_of t.group;
  part = t.part;
  splits = t.splits;
  is_message = (torn_message (IsHead version) MAX_LINE_LEN bytes t).1;
  stamped = head_text version t.group.first t.group.later t.has_stamp;
  no_newline = t.no_newline;
  fits = t.fits;
  short = t.short;
}

-- ---- a group is the first message

followed_front : (stamped : List ℕ → Type 0) (limit : ℕ) (group : Group) (front after : List ℕ) → AreWholeLines front after → IsFollowed stamped limit group after → IsFollowed stamped limit group front
followed_front stamped limit group front after (inl none) f = λ line first. absurd (first_none front line none first)
followed_front stamped limit group front after (inr whole) f =
    subst (IsFollowed stamped limit group) (sym whole.2)
    (followed_by_lines stamped limit group whole.0 whole.1 (subst (IsFollowed stamped limit group) whole.3 f))

pub first_of_lines : (version : ℕ) (group : Group) (text after : List ℕ) → text_of group ≡ text → All IsLine (lines_of group) → IsGroup (IsHead version) MAX_LINE_LEN group → IsFollowed (IsHead version) MAX_LINE_LEN group after → IsFirstOfLines version text after
first_of_lines version group text after same all is f = λ front ms e whole m.
    subst (λ t. MessagesOf version (t ++ 10 ∷ front) (t ∷ ms) e) same
    (group_messages_first (IsHead version) MAX_LINE_LEN group front ms e all is (followed_front (IsHead version) MAX_LINE_LEN group front after whole f) m)
