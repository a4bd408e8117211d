-- Heads: their parts, and that no bytes spell two.
use Rattle.std.proofs.Common.{◌≡◌, ℕ, ◌*◌, List, ◌++◌, length, take, drop, sym, ap, subst, ◌∙◌, arith, length-append}
use Rattle.std.specs.List.{flat_map}
use Rattle.std.proofs.lemmas.List.{take_at, drop_at, take-append-drop, length-take, length-drop}
use Rattle.record_format.specs.Lists.{four_bytes}
use Rattle.record_format.proofs.ListLemmas.{length-four_bytes}
use Rattle.segment_format.specs.declared.fixed.Fixed.{Fixed}
use Rattle.segment_format.specs.declared.head.Head.{Head}
use Rattle.segment_format.specs.Layout.{fixed_bytes, fixed_of, head_bytes, head_length, IsFixed, IsHead, IsNumberSet}
use Rattle.segment_format.proofs.FixedLemmas.{length-fixed_bytes}
use Rattle.segment_format.proofs.UniqueLemmas.{length_column, fixed_once}

pub length_numbers : (ns : List ℕ) → length (flat_map four_bytes ns) ≡ 4 * length ns
length_numbers ns = length_column 4 four_bytes length-four_bytes ns

pub length-head_bytes : (h : Head) → length (head_bytes h) ≡ head_length (fixed_of h)
length-head_bytes h =
    omega (
      arith,
      length-append (fixed_bytes (fixed_of h)) (flat_map four_bytes h.types ++ flat_map four_bytes h.words),
      length-fixed_bytes (fixed_of h),
      length-append (flat_map four_bytes h.types) (flat_map four_bytes h.words),
      length_numbers h.types,
      length_numbers h.words,
    )

module _ (bytes : List ℕ) (h : Head) (e : bytes ≡ head_bytes h) where
  pub head_front : take 45 bytes ≡ fixed_bytes (fixed_of h)
  head_front = ap (take 45) e ∙ take_at (fixed_bytes (fixed_of h)) (flat_map four_bytes h.types ++ flat_map four_bytes h.words) 45 (length-fixed_bytes (fixed_of h))

  pub head_behind : drop 45 bytes ≡ flat_map four_bytes h.types ++ flat_map four_bytes h.words
  head_behind = ap (drop 45) e ∙ drop_at (fixed_bytes (fixed_of h)) (flat_map four_bytes h.types ++ flat_map four_bytes h.words) 45 (length-fixed_bytes (fixed_of h))

  pub head_length_is : length bytes ≡ head_length (fixed_of h)
  head_length_is = ap (λ (l : List ℕ). length l) e ∙ length-head_bytes h

  pub head_fixed : (f : Fixed) → IsFixed f → IsHead h → take 45 bytes ≡ fixed_bytes f → f ≡ fixed_of h
  head_fixed f is_f is_h front = fixed_once f (fixed_of h) is_f is_h.fixed (sym front ∙ head_front)

  pub head_types : (n : ℕ) → n ≡ length h.types → take (4 * n) (drop 45 bytes) ≡ flat_map four_bytes h.types
  head_types n is =
      ap (take (4 * n)) head_behind ∙ take_at (flat_map four_bytes h.types) (flat_map four_bytes h.words) (4 * n) (length_numbers h.types ∙ ap (λ (k : ℕ). 4 * k) (sym is))

  pub head_words : (n : ℕ) → n ≡ length h.types → drop (4 * n) (drop 45 bytes) ≡ flat_map four_bytes h.words
  head_words n is =
      ap (drop (4 * n)) head_behind ∙ drop_at (flat_map four_bytes h.types) (flat_map four_bytes h.words) (4 * n) (length_numbers h.types ∙ ap (λ (k : ℕ). 4 * k) (sym is))

-- what was read of the three parts is a head
abbrev pub with_lists : Fixed → List ℕ → List ℕ → Head
with_lists f types words = record {
  file = f.file;
  first = f.first;
  rows = f.rows;
  last = f.last;
  ended = f.ended;
  stamped = f.stamped;
  least = f.least;
  greatest = f.greatest;
  types = types;
  words = words;
  variables = f.variables;
}

module _ (bytes : List ℕ) (f : Fixed) (types words : List ℕ) (front : take 45 bytes ≡ fixed_bytes f) (is_f : IsFixed f) (is_types : IsNumberSet types) (is_words : IsNumberSet words)
    (spells_types : take (4 * f.types) (drop 45 bytes) ≡ flat_map four_bytes types) (spells_words : drop (4 * f.types) (drop 45 bytes) ≡ flat_map four_bytes words)
    (long : length bytes ≡ head_length f) where
  lists : drop 45 bytes ≡ flat_map four_bytes types ++ flat_map four_bytes words
  lists = sym (take-append-drop (4 * f.types) (drop 45 bytes)) ∙ ap (λ (l : List ℕ). l ++ drop (4 * f.types) (drop 45 bytes)) spells_types
      ∙ ap (λ (l : List ℕ). flat_map four_bytes types ++ l) spells_words

  types_counted : length types ≡ f.types
  types_counted = omega (arith, long, ap (λ (l : List ℕ). length l) spells_types, length_numbers types, length-take (4 * f.types) (drop 45 bytes), length-drop 45 bytes)

  words_counted : length words ≡ f.words
  words_counted = omega (arith, long, ap (λ (l : List ℕ). length l) spells_words, length_numbers words, length-drop (4 * f.types) (drop 45 bytes), length-drop 45 bytes)

  fixed_is : fixed_of (with_lists f types words) ≡ f
  fixed_is = λ i. record f { types = types_counted i; words = words_counted i }

  pub read_is : IsHead (with_lists f types words)
  read_is = record { fixed = subst IsFixed (sym fixed_is) is_f; types = is_types; words = is_words }

  pub read_spelled : bytes ≡ head_bytes (with_lists f types words)
  read_spelled = sym (take-append-drop 45 bytes) ∙ ap (λ (l : List ℕ). l ++ drop 45 bytes) (front ∙ ap fixed_bytes (sym fixed_is))
      ∙ ap (λ (l : List ℕ). fixed_bytes (fixed_of (with_lists f types words)) ++ l) lists
