-- Whether a later line of a message has a stamp.
use Rattle.std.proofs.Common.{◌≡◌, ◌≢◌, ◌⊎◌, inl, inr, ℕ, zero, suc, ◌<◌, ◌≤◌, List, [], ◌∷◌, ◌++◌, refl, sym, ◌∙◌, ap, subst, arith}
use Rattle.std.specs.Prelude.{ℤ, Bool, true, false, not, IfSome, IfNone, IsTrue, Option, Some, None, is_some, nat_le, ◌↔◌, if◌then◌else◌}
use Rattle.std.proofs.lemmas.Bool.{le-leb, leb-true}
use Rattle.std.proofs.lemmas.List.{append_assoc}
use Rattle.std.proofs.lemmas.List.Elements.{All-head, All-tail}
use Rattle.log_messages.specs.Messages.{IsLine}
use Rattle.row_codec.specs.Messages.{EndsLine, HasLaterStamp}
use Rattle.time_patterns.specs.declared.stamps.Stamp.{Stamp}
use Rattle.time_patterns.specs.Stamps.{HasNoStamp, HasStamp, IsStampOf, IsStamped}
use Rattle.time_patterns.proofs.VersionLemmas.{alike_versions, one_stamp_of}

-- a newline is the first one behind a line, or stands behind that one
first_newline : (line front x y : List ℕ) → IsLine line → line ++ (10 ∷ x) ≡ front ++ (10 ∷ y)
    → ((line ≡ front) × (x ≡ y)) ⊎ ((more : List ℕ) × ((front ≡ line ++ (10 ∷ more)) × (x ≡ more ++ (10 ∷ y))))
first_newline [] [] x y is same = inl (refl, cc (same))
first_newline [] (b ∷ front) x y is same = let one : 10 ≡ b = cc (same) in inr (front, (ap (λ c. c ∷ front) (sym one), cc (same)))
first_newline (b ∷ line) [] x y is same = let one : b ≡ 10 = cc (same) in absurd (All-head (λ c. c ≢ 10) b line is one)
first_newline (b ∷ line) (c ∷ front) x y is same =
    let one : b ≡ c = cc (same) in
    let back : line ++ (10 ∷ x) ≡ front ++ (10 ∷ y) = cc (same) in
    elim (first_newline line front x y (All-tail (λ d. d ≢ 10) b line is) back) as (λ z. ((b ∷ line ≡ c ∷ front) × (x ≡ y)) ⊎ ((more : List ℕ) × ((c ∷ front ≡ (b ∷ line) ++ (10 ∷ more)) × (x ≡ more ++ (10 ∷ y))))) [
      | inl here ↦ inl (ap (λ l. b ∷ l) here.0 ∙ ap (λ d. d ∷ front) one, here.1)
      | inr past ↦ inr (past.0, (ap (λ d. d ∷ front) (sym one) ∙ ap (λ l. b ∷ l) past.1.0, past.1.1))
    ]

-- a line is cut off bytes in one way
one_line : (line other x y : List ℕ) → IsLine line → IsLine other → EndsLine x → EndsLine y → line ++ x ≡ other ++ y → line ≡ other
one_line [] [] x y a b ends_x ends_y same = refl
one_line [] (c ∷ other) [] y a b ends_x ends_y same = absurd (cc (same))
one_line [] (c ∷ other) (d ∷ x) y a b ends_x ends_y same =
    let one : c ≡ d = cc (same) in absurd (All-head (λ e. e ≢ 10) c other b (one ∙ ends_x))
one_line (c ∷ line) [] x [] a b ends_x ends_y same = absurd (cc (same))
one_line (c ∷ line) [] x (d ∷ y) a b ends_x ends_y same =
    let one : c ≡ d = cc (same) in absurd (All-head (λ e. e ≢ 10) c line a (one ∙ ends_y))
one_line (c ∷ line) (d ∷ other) x y a b ends_x ends_y same =
    let one : c ≡ d = cc (same) in
    let back : line ++ x ≡ other ++ y = cc (same) in
    ap (λ e. e ∷ line) one ∙ ap (λ l. d ∷ l) (one_line line other x y (All-tail (λ e. e ≢ 10) c line a) (All-tail (λ e. e ≢ 10) d other b) ends_x ends_y back)

-- nothing follows a line that has no newline behind it
pub none_later : (version : ℕ) (line : List ℕ) → IsLine line → HasLaterStamp version line → ⊥
none_later version line is later = no_newline line later.front (later.line ++ later.back) is later.cut where
  no_newline : (line front y : List ℕ) → IsLine line → line ≡ front ++ (10 ∷ y) → ⊥
  no_newline [] [] y is same = absurd (cc (same))
  no_newline [] (b ∷ front) y is same = absurd (cc (same))
  no_newline (b ∷ line) [] y is same = let one : b ≡ 10 = cc (same) in All-head (λ c. c ≢ 10) b line is one
  no_newline (b ∷ line) (c ∷ front) y is same = let back : line ≡ front ++ (10 ∷ y) = cc (same) in no_newline line front y (All-tail (λ d. d ≢ 10) b line is) back

-- behind the line and its newline stands the next line, which has a stamp, or a line behind that has one
pub later_next : (version : ℕ) (front line back : List ℕ) → IsLine front → IsLine line → EndsLine back
    → HasLaterStamp version (front ++ (10 ∷ (line ++ back))) → IsStamped version line ⊎ HasLaterStamp version (line ++ back)
later_next version front line back is_front is_line ends later =
    elim (first_newline front later.front (line ++ back) (later.line ++ later.back) is_front later.cut) as (λ z. IsStamped version line ⊎ HasLaterStamp version (line ++ back)) [
      | inl here ↦ inl (subst (λ l. IsStamped version l) (sym (one_line line later.line back later.back is_line later.is_line ends later.ends here.1)) later.stamped)
      | inr past ↦ inr (record { front = past.0; line = later.line; back = later.back; cut = past.1.1; is_line = later.is_line; ends = later.ends; stamped = later.stamped })
    ]

-- and the other way round
pub next_later : (version : ℕ) (front line back : List ℕ) → IsLine line → EndsLine back → IsStamped version line → HasLaterStamp version (front ++ (10 ∷ (line ++ back)))
next_later version front line back is_line ends stamped = record { front = front; line = line; back = back; cut = refl; is_line = is_line; ends = ends; stamped = stamped }

pub behind_later : (version : ℕ) (front rest : List ℕ) → HasLaterStamp version rest → HasLaterStamp version (front ++ (10 ∷ rest))
behind_later version front rest later = record {
  front = front ++ (10 ∷ later.front);
  line = later.line;
  back = later.back;
  cut = ap (λ l. front ++ (10 ∷ l)) later.cut ∙ sym (append_assoc front (10 ∷ later.front) (10 ∷ (later.line ++ later.back)));
  is_line = later.is_line;
  ends = later.ends;
  stamped = later.stamped;
}

-- ---- stamps of versions that are alike

zero_pattern : (b : Bool) → (if b then 11 else 1) ≤ 0 → ⊥
zero_pattern true low = omega (arith, low)
zero_pattern false low = omega (arith, low)

pub stamped_alike : (version other : ℕ) (line : List ℕ) → (version < 3 ↔ other < 3) → IsStamped version line → IsStamped other line
stamped_alike version other line same (zero, m, n, is) = absurd (zero_pattern (nat_le 3 version) is.pattern.0)
stamped_alike version other line same (suc k, m, n, is) = (suc k, m, n, alike_versions version other line (suc k) m n same is)

pub stamp_tells : (version other : ℕ) (line : List ℕ) (found : Option Stamp) (answer : Bool) → (version < 3 ↔ other < 3) → answer ≡ is_some found
    → IfSome found (λ s. IsStampOf other line s.pattern s.moment s.len) → IfNone found (HasNoStamp other line) → (IsTrue answer → IsStamped version line) × (IsStamped version line → IsTrue answer)
stamp_tells version other line None answer same is some none = (
  λ yes. absurd (cc (yes, is)),
  λ stamped. let there : IsStamped other line = stamped_alike version other line same stamped in absurd (none there.0 there.1 there.2 there.3.pattern there.3.fits),
)
stamp_tells version other line (Some s) answer same is some none = (
  λ yes. stamped_alike other version line (same.1, same.0) (s.pattern, s.moment, s.len, some),
  λ stamped. cc (is),
)

pub not_both : (b : Bool) → IsTrue b → IsTrue (not b) → ⊥
not_both true one other = cc (other)
not_both false one other = cc (one)

pub not_true : (b : Bool) → (IsTrue b → ⊥) → IsTrue (not b)
not_true true other = absurd (other refl)
not_true false other = refl

pub from_three : (version : ℕ) → IsTrue (nat_le 3 version) ↔ (3 ≤ version)
from_three version = (leb-true 3 version, le-leb 3 version)

-- the stamp that was found tells which one the message has
pub stamp_found : (version : ℕ) (message : List ℕ) (k j : ℕ) (m l : ℤ) (n : ℕ) → HasStamp version message k m n → ((k ≡ j) × (m ≡ l)) ↔ ((o : ℕ) × HasStamp version message j l o)
stamp_found version message k j m l n has = (
  λ same. (n, subst (λ x. HasStamp version message j x n) same.1 (subst (λ x. HasStamp version message x m n) same.0 has)),
  λ (o, other). let same = one_stamp_of version message k j m l n o has other in (same.0, same.1),
)
