-- Whether a payload begins with a head.
use Rattle.std.proofs.Common.{◌≡◌, ◌<◌, ◌^◌, ◌*◌, ℕ, List, ◌++◌, length, take, drop, get_or, All, sym, ap, ◌∙◌, append_assoc, arith}
use mathlib.Core.List.{IsPrefix}
use Rattle.std.specs.List.{flat_map}
use Rattle.std.proofs.lemmas.List.{take_at, drop_at, take-append-drop}
use Rattle.std.proofs.lemmas.List.FromFn.{get_or-map-range_with_len, length-map-range_with_len}
use Rattle.record_format.specs.Lists.{four_bytes}
use Rattle.record_format.proofs.NumberLemmas.{IsBytes}
use Rattle.segment_format.specs.declared.head.Head.{Head}
use Rattle.segment_format.specs.Layout.{fixed_bytes, fixed_of, head_bytes}
use Rattle.segment_format.proofs.ColumnLemmas.{numbers_spelled}
use Rattle.segment_format.proofs.FixedLemmas.{length-fixed_bytes}
use Rattle.segment_format.proofs.HeadLemmas.{length_numbers}
use Rattle.segment_format.proofs.PagesLemmas.{number_at, numbers_in, numbers_in_are}
use Rattle.segment_format.proofs.UniqueLemmas.{column_once, numbers_tell}

-- ---- numbers

-- bytes that spell numbers tell each of them
pub number_told : (bytes ns : List ℕ) → IsBytes bytes → All (λ n. n < 2 ^ 32) ns → length bytes ≡ 4 * length ns → bytes ≡ flat_map four_bytes ns
    → (k : ℕ) → k < length ns → number_at bytes k ≡ get_or ns k 0
number_told bytes ns fits fit long e k lt =
    let are = numbers_in_are bytes (length ns) fits long in
    let count : length (numbers_in (length ns) bytes) ≡ length ns = length-map-range_with_len (number_at bytes) 0 (length ns) in
    let same : numbers_in (length ns) bytes ≡ ns = column_once 4 four_bytes (λ n. n < 2 ^ 32) numbers_tell (numbers_in (length ns) bytes) ns are.0 fit count (sym are.1 ∙ e) in
    sym (get_or-map-range_with_len (number_at bytes) 0 (length ns) k k 0 lt (omega arith)) ∙ ap (λ (l : List ℕ). get_or l k 0) same

-- bytes that tell each of the numbers spell them
pub numbers_told : (bytes ns : List ℕ) → IsBytes bytes → length bytes ≡ 4 * length ns → ((k : ℕ) → k < length ns → number_at bytes k ≡ get_or ns k 0) → bytes ≡ flat_map four_bytes ns
numbers_told bytes ns fits long is = numbers_spelled bytes ns fits long (λ k lt. sym (is k lt))

-- ---- the three parts of a head

module _ (payload : List ℕ) (h : Head) (n m : ℕ) (types : n ≡ 4 * length h.types) (words : m ≡ 4 * length h.words) where
  parts : (rest : List ℕ) → head_bytes h ++ rest ≡ fixed_bytes (fixed_of h) ++ (flat_map four_bytes h.types ++ (flat_map four_bytes h.words ++ rest))
  parts rest =
      append_assoc (fixed_bytes (fixed_of h)) (flat_map four_bytes h.types ++ flat_map four_bytes h.words) rest
      ∙ ap (λ (l : List ℕ). fixed_bytes (fixed_of h) ++ l) (append_assoc (flat_map four_bytes h.types) (flat_map four_bytes h.words) rest)

  pub front_fixed : IsPrefix (head_bytes h) payload → take 45 payload ≡ fixed_bytes (fixed_of h)
  front_fixed begins = ap (take 45) (sym begins.1 ∙ parts begins.0) ∙ take_at (fixed_bytes (fixed_of h)) _ 45 (length-fixed_bytes (fixed_of h))

  behind_fixed : (begins : IsPrefix (head_bytes h) payload) → drop 45 payload ≡ flat_map four_bytes h.types ++ (flat_map four_bytes h.words ++ begins.0)
  behind_fixed begins = ap (drop 45) (sym begins.1 ∙ parts begins.0) ∙ drop_at (fixed_bytes (fixed_of h)) _ 45 (length-fixed_bytes (fixed_of h))

  pub front_types : IsPrefix (head_bytes h) payload → take n (drop 45 payload) ≡ flat_map four_bytes h.types
  front_types begins = ap (take n) (behind_fixed begins) ∙ take_at (flat_map four_bytes h.types) _ n (length_numbers h.types ∙ sym types)

  pub front_words : IsPrefix (head_bytes h) payload → take m (drop n (drop 45 payload)) ≡ flat_map four_bytes h.words
  front_words begins =
      ap (λ (l : List ℕ). take m (drop n l)) (behind_fixed begins)
      ∙ ap (take m) (drop_at (flat_map four_bytes h.types) _ n (length_numbers h.types ∙ sym types))
      ∙ take_at (flat_map four_bytes h.words) begins.0 m (length_numbers h.words ∙ sym words)

  -- a payload with these three parts in front begins with the head
  pub begins_so : take 45 payload ≡ fixed_bytes (fixed_of h) → take n (drop 45 payload) ≡ flat_map four_bytes h.types → take m (drop n (drop 45 payload)) ≡ flat_map four_bytes h.words
      → IsPrefix (head_bytes h) payload
  begins_so fixed first second =
      let behind : List ℕ = drop n (drop 45 payload) in
      let rest : List ℕ = drop m behind in
      let third : flat_map four_bytes h.words ++ rest ≡ behind = ap (λ (l : List ℕ). l ++ rest) (sym second) ∙ take-append-drop m behind in
      let both : flat_map four_bytes h.types ++ behind ≡ drop 45 payload = ap (λ (l : List ℕ). l ++ behind) (sym first) ∙ take-append-drop n (drop 45 payload) in
      let all : fixed_bytes (fixed_of h) ++ drop 45 payload ≡ payload = ap (λ (l : List ℕ). l ++ drop 45 payload) (sym fixed) ∙ take-append-drop 45 payload in
      (rest, parts rest ∙ ap (λ (l : List ℕ). fixed_bytes (fixed_of h) ++ (flat_map four_bytes h.types ++ l)) third ∙ ap (λ (l : List ℕ). fixed_bytes (fixed_of h) ++ l) both ∙ all)
