-- The lines of bytes are what stands between their newlines.
use Rattle.std.proofs.Common.{◌≡◌, ◌≢◌, ◌⊎◌, inl, inr, ℕ, zero, suc, ◌+◌, ◌-◌, ◌<◌, ◌≤◌, true, false, List, [], ◌∷◌, ◌++◌, length, take, drop, get_or, refl, sym, ◌∙◌, ap, subst, arith, ⊎_elim, get_or-take, get_or-drop, take-append-drop, drop-drop, length-drop}
use Rattle.std.specs.Prelude.{◌↔◌, Option, Some, None}
use Rattle.std.specs.Borrow.{Bor}
use Rattle.std.proofs.lemmas.Bool.{and_from, and_parts, cases_Bool, cases_lt, cond-true, cond-false, le-leb}
use Rattle.std.proofs.lemmas.Slice.Eq.{bytes_eq-Decides}
use Rattle.std.proofs.lemmas.List.{append-nil, length-take}
use Rattle.bstr.specs.Find.{matches, matches_from, occurs_at}
use Rattle.bstr.specs.Text.{TakesFirstRef, split_at}
use Rattle.log_messages.specs.Messages.{IsLine}
use Rattle.row_codec.specs.Messages.{EndsLine, HasLaterStamp}
use Rattle.time_patterns.specs.Stamps.{IsStamped}
use Rattle.archive_core.proofs.MessageLemmas.{behind_later, later_next, next_later, none_later}

-- what is between two newlines, or at an end, one behind the other
abbrev AreLines : List ℕ → List (List ℕ) → Type 0
AreLines bytes [] = ⊥
AreLines bytes (line ∷ lines) =
    IsLine line × (((lines ≡ []) × (bytes ≡ line)) ⊎ ((rest : List ℕ) × (bytes ≡ line ++ (10 ∷ rest)) × AreLines rest lines))

one_at : (bytes : List ℕ) (i d : ℕ) → i < length bytes → take 1 (drop i bytes) ≡ get_or bytes i d ∷ []
one_at [] i d inside = absurd (omega arith)
one_at (b ∷ bytes) zero d inside = refl
one_at (b ∷ bytes) (suc i) d inside = one_at bytes i d (omega arith)

module _ (hay : List ℕ) where
  -- no newline stands from one place up to another
  abbrev NoneFrom : ℕ → ℕ → Type 0
  NoneFrom i j = (k d : ℕ) → i ≤ k → k < j → k < length hay → get_or hay k d ≢ 10

  -- where a newline stands, a splitter finds it, and nowhere else
  found : (i d : ℕ) → i < length hay → get_or hay i d ≡ 10 → occurs_at hay (10 ∷ []) i ≡ true
  found i d inside is =
      let fits : i + 1 ≤ length hay = omega arith in
      and_from _ _ (le-leb _ _ fits) ((bytes_eq-Decides (take 1 (drop i hay)) (10 ∷ [])).1 (one_at hay i d inside ∙ ap (λ b. b ∷ []) is))

  behind : (i : ℕ) → occurs_at hay (10 ∷ []) i ≡ true → drop i hay ≡ 10 ∷ drop (i + 1) hay
  behind i hit =
      let one : take 1 (drop i hay) ≡ 10 ∷ [] = (bytes_eq-Decides (take 1 (drop i hay)) (10 ∷ [])).0 (and_parts _ _ hit).1 in
      sym (take-append-drop 1 (drop i hay)) ∙ (ap (λ front. front ++ drop 1 (drop i hay)) one ∙ ap (λ back. 10 ∷ back) (drop-drop 1 i hay))

  none_further : (last i : ℕ) → NoneFrom last i → occurs_at hay (10 ∷ []) i ≡ false → NoneFrom last (i + 1)
  none_further last i none miss k d low high inside is = ⊎_elim
      (λ (before : k < i). none k d low before inside is)
      (λ (here : i ≤ k). let same : k ≡ i = omega arith in absurd (cc (found i d (omega arith) (subst (λ n. get_or hay n d ≡ 10) same is), miss)))
      (cases_lt k i)

  front_is_line : (last i : ℕ) → last ≤ i → NoneFrom last i → IsLine (take (i - last) (drop last hay))
  front_is_line last i le none k d inside is =
      let short = length-take (i - last) (drop last hay) in
      let left = length-drop last hay in
      none (last + k) d (omega arith) (omega arith) (omega arith) (sym (get_or-take (i - last) (drop last hay) k d (omega arith) ∙ get_or-drop last hay k d) ∙ is)

  rest_is_line : (last i : ℕ) → length hay < i → NoneFrom last i → IsLine (drop last hay)
  rest_is_line last i past none k d inside is =
      let left = length-drop last hay in
      none (last + k) d (omega arith) (omega arith) (omega arith) (sym (get_or-drop last hay k d) ∙ is)

  cut_at : (last i : ℕ) → last ≤ i → occurs_at hay (10 ∷ []) i ≡ true → drop last hay ≡ take (i - last) (drop last hay) ++ (10 ∷ drop (i + 1) hay)
  cut_at last i le hit =
      let place : last + (i - last) ≡ i = omega arith in
      sym (take-append-drop (i - last) (drop last hay))
      ∙ ap (λ back. take (i - last) (drop last hay) ++ back) (drop-drop (i - last) last hay ∙ ap (λ n. drop n hay) place ∙ behind i hit)

  lines_from : (n i last : ℕ) → last ≤ i → i + n ≡ length hay + 1 → NoneFrom last i → AreLines (drop last hay) (split_at hay 1 last (matches_from hay (10 ∷ []) 0 i n))
  unfolding matches_from split_at
  lines_from zero i last le sum none = (rest_is_line last i (omega arith) none, inl (refl, refl))
  lines_from (suc n) i last le sum none = ⊎_elim
      (λ hit.
      subst (λ ks. AreLines (drop last hay) (split_at hay 1 last ks)) (sym (cond-true _ _ _ hit))
      (front_is_line last i le none, inr (drop (i + 1) hay, cut_at last i le hit, lines_from n (i + 1) (i + 1) (omega arith) (omega arith) (λ k d low high. absurd (omega arith)))))
      (λ miss.
      subst (λ ks. AreLines (drop last hay) (split_at hay 1 last ks)) (sym (cond-false _ _ _ miss))
      (lines_from n (i + 1) last (omega arith) (omega arith) (none_further last i none miss)))
      (cases_Bool (occurs_at hay (10 ∷ []) i))

  split_is_lines : AreLines hay (split_at hay 1 0 (matches hay (10 ∷ []) 0))
  split_is_lines =
      let count : length hay + 1 ≡ length hay + 1 - 0 = omega arith in
      subst (λ n. AreLines hay (split_at hay 1 0 (matches_from hay (10 ∷ []) 0 0 n))) count (lines_from (length hay + 1) 0 0 (omega arith) (omega arith) (λ k d low high. absurd (omega arith)))

-- one of the lines has a stamp
abbrev pub AnyStamped : ℕ → List (List ℕ) → Type 0
AnyStamped version [] = ⊥
AnyStamped version (line ∷ lines) = IsStamped version line ⊎ AnyStamped version lines

-- the bytes begin with the first line, and end or go on behind a newline
record Begins (bytes line : List ℕ) : Type 0 where
  back : List ℕ
  cut : bytes ≡ line ++ back
  ends : EndsLine back

begins : (bytes line : List ℕ) (lines : List (List ℕ)) → AreLines bytes (line ∷ lines) → Begins bytes line
begins bytes line lines (is, inl (none, same)) = record { back = []; cut = same ∙ sym (append-nil line); ends = tt }
begins bytes line lines (is, inr (rest, cut, are)) = record { back = 10 ∷ rest; cut = cut; ends = refl }

later_step : (version : ℕ) (bytes line rest next : List ℕ) (lines : List (List ℕ)) → IsLine line → bytes ≡ line ++ (10 ∷ rest) → AreLines rest (next ∷ lines)
    → HasLaterStamp version rest ↔ AnyStamped version lines → HasLaterStamp version bytes ↔ AnyStamped version (next ∷ lines)
later_step version bytes line rest next lines is cut are further = (forth, back)
  where
    here : Begins rest next
    here = begins rest next lines are

    whole : bytes ≡ line ++ (10 ∷ (next ++ here.back))
    whole = cut ∙ ap (λ l. line ++ (10 ∷ l)) here.cut

    forth : HasLaterStamp version bytes → AnyStamped version (next ∷ lines)
    forth later = ⊎_elim
        (λ stamped. inl stamped)
        (λ more. inr (further.0 (subst (λ l. HasLaterStamp version l) (sym here.cut) more)))
        (later_next version line next here.back is are.0 here.ends (subst (λ l. HasLaterStamp version l) whole later))

    back : AnyStamped version (next ∷ lines) → HasLaterStamp version bytes
    back (inl stamped) = subst (λ l. HasLaterStamp version l) (sym whole) (next_later version line next here.back are.0 here.ends stamped)
    back (inr any) = subst (λ l. HasLaterStamp version l) (sym cut) (behind_later version line rest (further.1 any))

-- whether a later line has a stamp is whether one behind the first one has
later_lines : (version : ℕ) (bytes line : List ℕ) (lines : List (List ℕ)) → AreLines bytes (line ∷ lines) → HasLaterStamp version bytes ↔ AnyStamped version lines
later_lines version bytes line [] (is, inl (none, same)) = (λ later. absurd (none_later version line is (subst (λ l. HasLaterStamp version l) same later)), λ any. absurd any)
later_lines version bytes line [] (is, inr (rest, cut, are)) = absurd are
later_lines version bytes line (next ∷ lines) (is, inl (none, same)) = absurd (cc (none))
later_lines version bytes line (next ∷ lines) (is, inr (rest, cut, are)) = later_step version bytes line rest next lines is cut are (later_lines version rest next lines are)

-- ---- the loop along the lines

-- the first line is taken off
pub after_first : (version : ℕ) (bytes : List ℕ) (lines rest : List (List ℕ)) (first : Option (Bor (List ℕ))) → lines ≡ split_at bytes 1 0 (matches bytes (10 ∷ []) 0) → TakesFirstRef lines first rest
    → HasLaterStamp version bytes ↔ AnyStamped version rest
after_first version bytes lines rest None is taken = absurd (subst (λ ls. AreLines bytes ls) (sym is ∙ taken.0) (split_is_lines bytes))
after_first version bytes lines rest (Some first) is taken = later_lines version bytes first.now rest (subst (λ ls. AreLines bytes ls) (sym is ∙ taken) (split_is_lines bytes))

-- a line that has a stamp, and one that has none
pub stamped_here : (version : ℕ) (lines rest : List (List ℕ)) (line : List ℕ) → lines ≡ line ∷ rest → IsStamped version line → AnyStamped version lines
stamped_here version lines rest line is stamped = subst (λ ls. AnyStamped version ls) (sym is) (inl stamped)

pub past_plain : (version : ℕ) (lines rest : List (List ℕ)) (line : List ℕ) → lines ≡ line ∷ rest → (IsStamped version line → ⊥) → AnyStamped version lines ↔ AnyStamped version rest
past_plain version lines rest line is plain = (
  λ any. ⊎_elim (λ stamped. absurd (plain stamped)) (λ more. more) (subst (λ ls. AnyStamped version ls) is any),
  λ more. subst (λ ls. AnyStamped version ls) (sym is) (inr more),
)

pub none_stamped : (version : ℕ) (lines : List (List ℕ)) → lines ≡ [] → AnyStamped version lines → ⊥
none_stamped version lines is any = subst (λ ls. AnyStamped version ls) is any
