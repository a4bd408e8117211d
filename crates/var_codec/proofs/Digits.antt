-- Reading digits and a point, one byte after another.
use Rattle.std.proofs.Common.{◌≡◌, ◌≢◌, ℕ, zero, suc, ◌+◌, ◌-◌, ◌*◌, ◌^◌, ◌<◌, ◌≤◌, List, [], ◌∷◌, ◌++◌, length, get_or, take, Option, Some, None, refl, sym, ap, ◌∙◌, subst, arith, append_assoc, append-nil, length-append, length-take-le, get_or-take, true, false, true≢false, is_some}
use Rattle.std.specs.Int.{IsInRange}
use Rattle.std.specs.Str.Parse.{AllDigits, digits_value}
use Rattle.std.proofs.Math.Nat.{pow-le-pow_right}
use Rattle.std.proofs.lemmas.Str.{digit_value_digit}
use Rattle.std.proofs.lemmas.Str.Parse.{digit_at, digit_from_value, digits_value_short}
use Rattle.std.proofs.lemmas.Int.Digits.{digits_value_push, digits_value-lt}
use Rattle.std.proofs.lemmas.List.{take_more, get_or_at}
use Rattle.var_codec.specs.Digits.{HasPoint, Reads, IsOther}
use Rattle.var_codec.proofs.Texts.{own}
use Rattle.var_codec.proofs.Words.{digits-append}

-- a digit at the end
push_digits : (s : List ℕ) (c : ℕ) → 48 ≤ c → c ≤ 57 → AllDigits 10 s → AllDigits 10 (s ++ (c ∷ []))
push_digits s c lo hi d = digits-append s (c ∷ []) d (omega (arith, digit_value_digit c (lo, hi)), tt)

push_value : (s : List ℕ) (n c : ℕ) → 48 ≤ c → c ≤ 57 → n ≡ digits_value 10 s → n * 10 + (c - 48) ≡ digits_value 10 (s ++ (c ∷ []))
push_value s n c lo hi e = omega (arith, digits_value_push 10 s c, digit_value_digit c (lo, hi))

pub reads_digit : (s : List ℕ) (n : ℕ) (p : Option ℕ) (c : ℕ) → 48 ≤ c → c ≤ 57 → Reads s n p → Reads (s ++ (c ∷ [])) (n * 10 + (c - 48)) p
reads_digit s n None c lo hi r = record { digits = push_digits s c lo hi r.digits; value = push_value s n c lo hi r.value }
reads_digit s n (Some p) c lo hi r = record {
  before = r.before;
  after = r.after ++ (c ∷ []);
  joined = ap (λ t. t ++ (c ∷ [])) r.joined ∙ append_assoc r.before (46 ∷ r.after) (c ∷ []);
  digits_before = r.digits_before;
  digits_after = push_digits r.after c lo hi r.digits_after;
  value = push_value (r.before ++ r.after) n c lo hi r.value ∙ ap (digits_value 10) (append_assoc r.before r.after (c ∷ []));
  place = r.place;
}

pub reads_point : (s : List ℕ) (n i : ℕ) → i ≡ length s → Reads s n None → Reads (s ++ (46 ∷ [])) n (Some i)
reads_point s n i e r = record {
  before = s;
  after = [];
  joined = refl;
  digits_before = r.digits;
  digits_after = tt;
  value = r.value ∙ ap (digits_value 10) (sym (append-nil s));
  place = e;
}

-- the number is below ten to the count of bytes
pub reads_small : (s : List ℕ) (n : ℕ) (p : Option ℕ) → Reads s n p → n < 10 ^ length s
reads_small s n None r = omega (arith, r.value, digits_value-lt 10 s r.digits)
reads_small s n (Some p) r =
    let l = ap length r.joined ∙ length-append r.before (46 ∷ r.after) in
    let k = length-append r.before r.after in
    omega (arith, r.value, digits_value_short own (r.before ++ r.after) (length s) (digits-append r.before r.after r.digits_before r.digits_after) (omega arith))

-- room for one more digit
pub reads_fits : (s : List ℕ) (n : ℕ) (p : Option ℕ) → Reads s n p → length s ≤ 18 → n < 10 ^ 18
reads_fits s n p r l = omega (arith, reads_small s n p r, pow-le-pow_right {n = 10} (omega arith) l)

-- past the end there is no point
past_digits : (b : List ℕ) → AllDigits 10 b → (k : ℕ) → get_or b k 0 ≢ 46
past_digits [] q k e = omega arith
past_digits (c ∷ b) q zero e = omega (arith, digit_from_value c q.0)
past_digits (c ∷ b) q (suc k) e = past_digits b q.1 k e

-- of digits around one point only that place has the point
one_point : (a b : List ℕ) → AllDigits 10 a → AllDigits 10 b → (k : ℕ) → get_or (a ++ (46 ∷ b)) k 0 ≡ 46 → k ≡ length a
one_point [] b p q zero e = refl
one_point [] b p q (suc k) e = absurd (past_digits b q k e)
one_point (c ∷ a) b p q zero e = absurd (omega (arith, digit_from_value c p.0))
one_point (c ∷ a) b p q (suc k) e = omega (arith, one_point a b p.1 q k e)

-- each byte is a digit or the point
each_byte : (a b : List ℕ) → AllDigits 10 a → AllDigits 10 b → (k : ℕ) → k < length (a ++ (46 ∷ b)) → get_or (a ++ (46 ∷ b)) k 0 ≢ 46 → IsInRange 48 57 (get_or (a ++ (46 ∷ b)) k 0)
each_byte [] b p q zero l n = absurd (n refl)
each_byte [] b p q (suc k) l n = digit_at b k q (omega arith)
each_byte (c ∷ a) b p q zero l n = digit_from_value c p.0
each_byte (c ∷ a) b p q (suc k) l n = each_byte a b p.1 q k (omega arith) n

-- a byte that is neither
pub other_byte : (s : List ℕ) (i : ℕ) → i < length s → ¬ IsInRange 48 57 (get_or s i 0) → get_or s i 0 ≢ 46 → IsOther s
other_byte s i l out n m None r = out (digit_at s i r.digits l)
other_byte s i l out n m (Some p) r =
    let at : get_or s i 0 ≡ get_or (r.before ++ (46 ∷ r.after)) i 0 = ap (λ t. get_or t i 0) r.joined in
    out (subst (IsInRange 48 57) (sym at) (each_byte r.before r.after r.digits_before r.digits_after i (omega (arith, ap length r.joined)) (λ e. n (at ∙ e))))

-- a second point
pub other_point : (s : List ℕ) (i n p : ℕ) → i < length s → HasPoint (take i s) n p → get_or s i 0 ≡ 46 → IsOther s
other_point s i n p l h e m None r = omega (arith, digit_at s i r.digits l)
other_point s i n p l h e m (Some q) r =
    let first : length h.before < i = omega (arith, ap length h.joined, length-append h.before (46 ∷ h.after), length-take-le i s (omega arith)) in
    let seen : get_or s (length h.before) 0 ≡ 46 = sym (get_or-take i s (length h.before) 0 first) ∙ ap (λ t. get_or t (length h.before) 0) h.joined ∙ get_or_at h.before 46 h.after 0 (length h.before) refl in
    let at = λ (k : ℕ) (x : get_or s k 0 ≡ 46). one_point r.before r.after r.digits_before r.digits_after k (sym (ap (λ t. get_or t k 0) r.joined) ∙ x) in
    omega (arith, at (length h.before) seen, at i e)

pub second_point : (s : List ℕ) (i n : ℕ) (p : Option ℕ) → is_some p ≡ true → i < length s → Reads (take i s) n p → get_or s i 0 ≡ 46 → IsOther s
second_point s i n None some l r e = λ m q w. cc
second_point s i n (Some p) some l r e = other_point s i n p l r e

-- one byte more is read
pub next_digit : (s : List ℕ) (i n m : ℕ) (p : Option ℕ) → i < length s → IsInRange 48 57 (get_or s i 0) → Reads (take i s) n p → m ≡ n * 10 + (get_or s i 0 - 48) → Reads (take (i + 1) s) m p
next_digit s i n m p l d r e =
    subst (λ t. Reads t m p) (sym (take_more s i 0 l)) (subst (λ k. Reads (take i s ++ (get_or s i 0 ∷ [])) k p) (sym e) (reads_digit (take i s) n p (get_or s i 0) d.0 d.1 r))

pub next_point : (s : List ℕ) (i n : ℕ) (p : Option ℕ) → is_some p ≡ false → i < length s → get_or s i 0 ≡ 46 → Reads (take i s) n p → Reads (take (i + 1) s) n (Some i)
next_point s i n None none l e r =
    subst (λ t. Reads t n (Some i)) (sym (take_more s i 0 l ∙ ap (λ c. take i s ++ (c ∷ [])) e)) (reads_point (take i s) n i (sym (length-take-le i s (omega arith))) r)
next_point s i n (Some p) none l e r = absurd (true≢false none)
