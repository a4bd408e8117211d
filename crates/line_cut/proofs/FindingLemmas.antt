-- What a search for the end of a line has found out.
use Rattle.std.proofs.Common.{◌≡◌, ◌≢◌, ◌<◌, ◌≤◌, ◌+◌, ◌-◌, sym, ◌∙◌, ap, subst, arith, ℕ, List, Option, None, Some, length, take, drop, get_or, true, false}
use Rattle.std.specs.Prelude.{slice_get, slice_range, leb}
use Rattle.std.proofs.Math.Logic.{⊎_elim}
use Rattle.std.proofs.Math.Seq.{take-length}
use Rattle.std.proofs.lemmas.Bool.{eq-eqb, eqb-true}
use Rattle.std.proofs.lemmas.Bool.Decides.{leb_tells}
use Rattle.std.proofs.lemmas.List.{get_or-take, get_or-drop, get_or_default, length-take, length-drop, drop-take}
use Rattle.std.proofs.lemmas.List.Elements.{All-take}
use Rattle.std.proofs.lemmas.Option.{slice_get-get_or}
use Rattle.std.proofs.lemmas.Slice.{between_to_end}
use Rattle.memchr.specs.Find.{IsFirstByte, Nowhere, Passes, is_byte}
use Rattle.log_messages.specs.Messages.{IsLine}

-- the search did not meet a newline
none_in : (hay : List ℕ) (j k : ℕ) → Nowhere (Passes (is_byte 10) hay) 0 j → k < j → get_or hay k 0 ≢ 10
none_in hay j k none lt e = none k (omega arith) lt (eq-eqb (get_or hay k 0) 10 e)

-- so the front is free of newlines up to where the search came
searched_more : (held : List ℕ) (s j : ℕ) → IsLine (take s held) → Nowhere (Passes (is_byte 10) (drop s held)) 0 j → IsLine (take (s + j) held)
searched_more held s j front none k d lt e =
    let size = length-take (s + j) held in
    let low : k < s + j = omega (arith, lt, size) in
    let high : k < length held = omega (arith, lt, size) in
    let read : get_or held k d ≡ 10 = sym (get_or-take (s + j) held k d low) ∙ e in
    ⊎_elim
    (λ (h : (leb s k ≡ true) × (s ≤ k)).
    let place : s + (k - s) ≡ k = omega (arith, h.1) in
    let near : k - s < j = omega (arith, low, h.1) in
    none_in (drop s held) j (k - s) none near (get_or-drop s held (k - s) 0 ∙ (ap (λ i. get_or held i 0) place ∙ (get_or_default held k 0 d high ∙ read))))
    (λ (h : (leb s k ≡ false) × (k < s)).
    let within : k < length (take s held) = omega (arith, length-take s held, h.1, high) in
    front k d within (get_or-take s held k d h.1 ∙ read))
    (leb_tells s k)

-- the part of the bytes held that was searched: `hay` is how the code has them
rest_is : (hay held : List ℕ) (s : ℕ) (r : Option ℕ) → hay ≡ held → IsFirstByte (is_byte 10) (slice_range hay s (length hay)) r → IsFirstByte (is_byte 10) (drop s held) r
rest_is hay held s r same h =
    subst (λ part. IsFirstByte (is_byte 10) part r) (between_to_end hay s (length hay) (omega arith) ∙ ap (drop s) same) h

-- a newline that was found
pub record NewlineAt (held : List ℕ) (len : ℕ) : Type 0 where
  pub within : len < length held
  pub line : IsLine (take len held)
  pub newline : slice_get held len ≡ Some 10

pub newline_at : (hay held : List ℕ) (s more : ℕ) → hay ≡ held → IsLine (take s held) → IsFirstByte (is_byte 10) (slice_range hay s (length hay)) (Some more) → NewlineAt held (s + more)
newline_at hay held s more same front h =
    let found = rest_is hay held s (Some more) same h in
    let within : s + more < length held = omega (arith, found.0.high, length-drop s held) in
    let read : get_or held (s + more) 0 ≡ 10 = sym (get_or-drop s held more 0) ∙ eqb-true (get_or (drop s held) more 0) 10 found.1 in
    record {
      within = within;
      line = searched_more held s more front found.0.before;
      newline = slice_get-get_or held (s + more) 0 within ∙ ap (λ b. Some b) read;
    }

-- the bytes held are free of newlines where none was found
pub no_newline : (hay held : List ℕ) (s : ℕ) → hay ≡ held → s ≤ length held → IsLine (take s held) → IsFirstByte (is_byte 10) (slice_range hay s (length hay)) None → IsLine held
no_newline hay held s same le front h =
    let all : s + length (drop s held) ≡ length held = omega (arith, length-drop s held, le) in
    subst IsLine (ap (λ n. take n held) all ∙ take-length held)
    (searched_more held s (length (drop s held)) front (rest_is hay held s None same h))

-- a shorter front of a front without newlines
pub shorter : (held : List ℕ) (n m : ℕ) → m ≤ n → IsLine (take n held) → IsLine (take m held)
shorter held n m le line k d lt e =
    let low : k < m = omega (arith, lt, length-take m held) in
    let high : k < length held = omega (arith, lt, length-take m held) in
    let less : k < n = omega arith in
    let within : k < length (take n held) = omega (arith, less, high, length-take n held) in
    line k d within (get_or-take n held k d less ∙ (sym (get_or-take m held k d low) ∙ e))

pub front : (held : List ℕ) (m : ℕ) → IsLine held → IsLine (take m held)
front held m line = All-take (λ b. b ≢ 10) m held line

-- a read of no bytes leaves what was held
pub same_held : (held new : List ℕ) (n : ℕ) → length new ≡ length held + n → n ≡ 0 → take (length held) new ≡ held → new ≡ held
same_held held new n grown zero first =
    let size : length new ≡ length held = omega arith in
    sym (take-length new) ∙ (ap (λ k. take k new) size ∙ first)

-- what stands ahead: `hay` is how the code has the bytes held
pub ahead_is : (hay held : List ℕ) (from : ℕ) → hay ≡ held → slice_range hay from (length hay) ≡ drop from held
ahead_is hay held from same = between_to_end hay from (length hay) (omega arith) ∙ ap (drop from) same

-- a longer list with the same front has the same front behind its first bytes
pub front_ahead : (old new : List ℕ) (from : ℕ) → from ≤ length old → take (length old) new ≡ old → take (length (drop from old)) (drop from new) ≡ drop from old
front_ahead old new from within front =
    let size : from + length (drop from old) ≡ length old = omega (arith, length-drop from old, within) in
    sym (drop-take from (length (drop from old)) new) ∙ (ap (λ n. drop from (take n new)) size ∙ ap (drop from) front)
