-- The texts of a payload by their starts.
use Rattle.std.proofs.Common.{◌≡◌, ℕ, zero, suc, ◌+◌, ◌-◌, ◌^◌, ◌<◌, ◌≤◌, List, [], ◌∷◌, ◌++◌, length, map, get_or, take, drop, All, refl, sym, ap, subst, ◌∙◌, append_assoc, arith, length-append}
use Rattle.std.specs.List.{flat_map}
use Rattle.std.specs.Prelude.{Option, Some, None, IfNone, option_map, slice_get}
use Rattle.std.proofs.lemmas.List.{drop-drop, drop_at, take_at, map-append, length-drop, length-map}
use Rattle.std.proofs.lemmas.List.Elements.{All-nil, All-cons, All-append}
use Rattle.std.proofs.lemmas.Option.{slice_get-get_or, slice_get-map}
use Rattle.byteorder.specs.Endian.{little_number}
use Rattle.byteorder.specs.Numbers.{little_number-reads_back}
use Rattle.record_format.specs.Lists.{four_bytes, list_bytes, text_bytes}
use Rattle.record_format.proofs.ListLemmas.{IsReadTo, length-four_bytes, read_all, read_more, same_number}
use Rattle.word_places.specs.declared.place.WordsPlace.{WordsPlace}
use Rattle.word_places.specs.Places.{Spells}
use Rattle.word_places.specs.Record.{AreBeside, AreWalked, IsTextAt, text_from}

number_read : (n : ℕ) (rest : List ℕ) → n < 2 ^ 32 → little_number 4 (four_bytes n ++ rest) ≡ n
unfolding four_bytes
number_read n rest lt = little_number-reads_back 4 n rest lt

-- what stands behind the length of a text
behind_is : (bytes text rest : List ℕ) (start : ℕ) → drop start bytes ≡ text_bytes text ++ rest → drop (start + 4) bytes ≡ text ++ rest
behind_is bytes text rest start is =
    sym (drop-drop 4 start bytes) ∙ ap (λ (l : List ℕ). drop 4 l) (is ∙ append_assoc (four_bytes (length text)) text rest)
    ∙ drop_at (four_bytes (length text)) (text ++ rest) 4 (length-four_bytes (length text))

-- what stands at a start is its text
pub text_is : (bytes text rest : List ℕ) (start : ℕ) → length text < 2 ^ 32 → drop start bytes ≡ text_bytes text ++ rest → text_from bytes start ≡ text
text_is bytes text rest start fits is =
    let apart : drop start bytes ≡ four_bytes (length text) ++ (text ++ rest) = is ∙ append_assoc (four_bytes (length text)) text rest in
    let number : little_number 4 (drop start bytes) ≡ length text = ap (little_number 4) apart ∙ number_read (length text) (text ++ rest) fits in
    (λ i. take (number i) (behind_is bytes text rest start is i)) ∙ take_at text rest (length text) refl

-- ---- looking a text up

pub start_within : (bytes : List ℕ) (start : ℕ) → IsTextAt bytes start → start ≤ length bytes
start_within bytes start is =
    omega (arith, ap (λ (l : List ℕ). length l) is.3, length-drop start bytes, length-append (text_bytes is.0) is.1, length-append (four_bytes (length is.0)) is.0, length-four_bytes (length is.0))

-- a text ends where the next one begins
pub ends_at : (bytes : List ℕ) (all : ℕ) (starts : List ℕ) (at : ℕ) → AreBeside bytes all starts → at < length starts
    → get_or starts (at + 1) all ≡ get_or starts at 0 + 4 + length (text_from bytes (get_or starts at 0))
ends_at bytes all starts at beside within = ap (λ (n : ℕ). get_or starts n all) (omega arith) ∙ next starts at beside within
  where
    next : (starts : List ℕ) (at : ℕ) → AreBeside bytes all starts → at < length starts → get_or starts (suc at) all ≡ get_or starts at 0 + 4 + length (text_from bytes (get_or starts at 0))
    next [] at beside within = absurd (omega (arith, within))
    next (start ∷ starts) zero beside within = beside.0
    next (start ∷ starts) (suc at) beside within = next starts at beside.1 (omega (arith, within))

-- a text and its length are bytes of the payload
pub end_within : (bytes : List ℕ) (start : ℕ) → IsTextAt bytes start → start + 4 + length (text_from bytes start) ≤ length bytes
end_within bytes start is =
    let same : length (text_from bytes start) ≡ length is.0 = ap (λ (l : List ℕ). length l) (text_is bytes is.0 is.1 start is.2 is.3) in
    omega (arith, same, ap (λ (l : List ℕ). length l) is.3, length-drop start bytes, length-append (text_bytes is.0) is.1, length-append (four_bytes (length is.0)) is.0, length-four_bytes (length is.0))

-- what is cut out from behind the length of a text up to its end
pub text_cut : (bytes : List ℕ) (start end : ℕ) → IsTextAt bytes start → end ≡ start + 4 + length (text_from bytes start)
    → take (end - (start + 4)) (drop (start + 4) bytes) ≡ text_from bytes start
text_cut bytes start end is ends =
    let text = text_is bytes is.0 is.1 start is.2 is.3 in
    let count : end - (start + 4) ≡ length is.0 = omega (arith, ends, ap (λ (l : List ℕ). length l) text) in
    (λ i. take (count i) (behind_is bytes is.0 is.1 start is.3 i)) ∙ take_at is.0 is.1 (length is.0) refl ∙ sym text

pub text_got : (bytes starts text : List ℕ) (at : ℕ) → at < length starts → text ≡ text_from bytes (get_or starts at 0) → slice_get (map (text_from bytes) starts) at ≡ Some text
text_got bytes starts text at within is =
    slice_get-map (text_from bytes) starts at ∙ ap (option_map (text_from bytes)) (slice_get-get_or starts at 0 within) ∙ ap Some (sym is)

-- ---- walking a payload

-- one text more, which begins where the rest did
pub walk_more : (bytes texts front rest text after starts : List ℕ) (count start : ℕ) → IsReadTo (four_bytes count ++ texts) count (map (text_from bytes) starts) rest
    → bytes ≡ front ++ rest → start ≡ length bytes - length rest → length text < 2 ^ 32 → rest ≡ text_bytes text ++ after
    → IsReadTo (four_bytes count ++ texts) count (map (text_from bytes) (starts ++ start ∷ [])) after
walk_more bytes texts front rest text after starts count start read parts is fits begins =
    let at : start ≡ length front = omega (arith, is, ap (λ (l : List ℕ). length l) parts, length-append front rest) in
    let stands : drop start bytes ≡ text_bytes text ++ after = ap (λ (n : ℕ). drop n bytes) at ∙ ap (λ (l : List ℕ). drop (length front) l) parts ∙ drop_at front rest (length front) refl ∙ begins in
    let one : map (text_from bytes) (starts ++ start ∷ []) ≡ map (text_from bytes) starts ++ text ∷ [] =
    map-append (text_from bytes) starts (start ∷ []) ∙ ap (λ (t : List ℕ). map (text_from bytes) starts ++ t ∷ []) (text_is bytes text after start fits stands) in
    subst (λ (ts : List (List ℕ)). IsReadTo (four_bytes count ++ texts) count ts after) (sym one) (read_more (four_bytes count ++ texts) count (map (text_from bytes) starts) rest text after read fits begins)

pub starts_more : (bytes front rest text after starts : List ℕ) (start : ℕ) → All (IsTextAt bytes) starts
    → bytes ≡ front ++ rest → start ≡ length bytes - length rest → length text < 2 ^ 32 → rest ≡ text_bytes text ++ after
    → All (IsTextAt bytes) (starts ++ start ∷ [])
starts_more bytes front rest text after starts start all parts is fits begins =
    let at : start ≡ length front = omega (arith, is, ap (λ (l : List ℕ). length l) parts, length-append front rest) in
    let stands : drop start bytes ≡ text_bytes text ++ after = ap (λ (n : ℕ). drop n bytes) at ∙ ap (λ (l : List ℕ). drop (length front) l) parts ∙ drop_at front rest (length front) refl ∙ begins in
    All-append (IsTextAt bytes) starts (start ∷ []) all (All-cons (IsTextAt bytes) start [] (text, after, fits, stands) (All-nil (IsTextAt bytes)))

-- a text that begins where those before it end
beside_put : (bytes starts : List ℕ) (start end : ℕ) → AreBeside bytes start starts → end ≡ start + 4 + length (text_from bytes start) → AreBeside bytes end (starts ++ start ∷ [])
beside_put bytes [] start end beside ends = (ends, tt)
beside_put bytes (one ∷ []) start end beside ends = (beside.0, (ends, tt))
beside_put bytes (one ∷ two ∷ starts) start end beside ends = (beside.0, beside_put bytes (two ∷ starts) start end beside.1 ends)

pub beside_more : (bytes front rest text after starts : List ℕ) (start : ℕ) → AreBeside bytes (length bytes - length rest) starts
    → bytes ≡ front ++ rest → start ≡ length bytes - length rest → length text < 2 ^ 32 → rest ≡ text_bytes text ++ after
    → AreBeside bytes (length bytes - length after) (starts ++ start ∷ [])
beside_more bytes front rest text after starts start beside parts is fits begins =
    let whole : length bytes ≡ length front + length rest = ap (λ (l : List ℕ). length l) parts ∙ length-append front rest in
    let at : start ≡ length front = omega (arith, is, whole) in
    let stands : drop start bytes ≡ text_bytes text ++ after = ap (λ (n : ℕ). drop n bytes) at ∙ ap (λ (l : List ℕ). drop (length front) l) parts ∙ drop_at front rest (length front) refl ∙ begins in
    let same : length (text_from bytes start) ≡ length text = ap (λ (l : List ℕ). length l) (text_is bytes text after start fits stands) in
    let long : length rest ≡ 4 + length text + length after =
    ap (λ (l : List ℕ). length l) begins ∙ length-append (text_bytes text) after
    ∙ ap (λ (n : ℕ). n + length after) (length-append (four_bytes (length text)) text ∙ ap (λ (n : ℕ). n + length text) (length-four_bytes (length text))) in
    beside_put bytes starts start (length bytes - length after) (subst (λ (n : ℕ). AreBeside bytes n starts) (sym is) beside) (omega (arith, same, long, whole, at))

pub front_more : (bytes front rest text after : List ℕ) → bytes ≡ front ++ rest → rest ≡ text_bytes text ++ after → (longer : List ℕ) × (bytes ≡ longer ++ after)
front_more bytes front rest text after parts begins =
    (front ++ text_bytes text, parts ∙ ap (λ (l : List ℕ). front ++ l) begins ∙ sym (append_assoc front (text_bytes text) after))

pub walk_none : (bytes texts : List ℕ) (count : ℕ) → IsReadTo (four_bytes count ++ texts) count (map (text_from bytes) []) texts
walk_none bytes texts count = record { parts = refl; lengths = All-nil (λ text. length text < 2 ^ 32) }

pub walk_all : (bytes texts rest starts : List ℕ) (count : ℕ) → count < 2 ^ 32 → IsReadTo (four_bytes count ++ texts) count (map (text_from bytes) starts) rest
    → All (IsTextAt bytes) starts → AreBeside bytes (length bytes - length rest) starts → length starts ≡ count → rest ≡ [] → AreWalked count texts bytes starts
walk_all bytes texts rest starts count lt read all beside len none = record {
  stand = all;
  beside = subst (λ (n : ℕ). AreBeside bytes n starts) (omega (arith, ap (λ (l : List ℕ). length l) none)) beside;
  are = record { count = omega (arith, lt, len, length-map starts (text_from bytes)); lengths = read.lengths };
  spelled = read_all (four_bytes count ++ texts) count (map (text_from bytes) starts) rest read (length-map starts (text_from bytes) ∙ len) none;
}

-- ---- what a payload spells

pub none_then : {X P Q : Type 0} (o : Option X) → IfNone o P → (P → Q) → IfNone o Q
none_then None p f = f p
none_then (Some x) p f = tt

-- the numbers at the front of a payload that spells texts, and what stands behind them
pub spells_parts : (p : WordsPlace) (bytes rest : List ℕ) (texts : List (List ℕ)) (first count : ℕ) → Spells p bytes texts → first < 2 ^ 32 → count < 2 ^ 32
    → bytes ≡ four_bytes first ++ (four_bytes count ++ rest) → (first ≡ p.first) × (count ≡ p.count) × (four_bytes count ++ rest ≡ list_bytes texts)
spells_parts p bytes rest texts first count spells lt_first lt_count parts =
    let one = same_number first p.first (four_bytes count ++ rest) (list_bytes texts) lt_first spells.first (sym parts ∙ spells.spelled) in
    let two = same_number count (length texts) rest (flat_map text_bytes texts) lt_count spells.are.count one.1 in
    (one.0, two.0 ∙ spells.count, one.1)

-- what stands behind them
pub spells_rest : (p : WordsPlace) (bytes rest : List ℕ) (texts : List (List ℕ)) → Spells p bytes texts → p.first < 2 ^ 32 → p.count < 2 ^ 32
    → bytes ≡ four_bytes p.first ++ (four_bytes p.count ++ rest) → rest ≡ flat_map text_bytes texts
spells_rest p bytes rest texts spells lt_first lt_count parts =
    (same_number p.count (length texts) rest (flat_map text_bytes texts) lt_count spells.are.count (spells_parts p bytes rest texts p.first p.count spells lt_first lt_count parts).2).1

-- texts that were walked are spelled
pub walked_spells : (p : WordsPlace) (bytes rest starts : List ℕ) → length bytes ≡ p.length → p.first < 2 ^ 32 → p.count < 2 ^ 32
    → bytes ≡ four_bytes p.first ++ (four_bytes p.count ++ rest) → AreWalked p.count rest bytes starts → Spells p bytes (map (text_from bytes) starts)
walked_spells p bytes rest starts size lt lt_count parts walked = record {
  size = size;
  are = walked.are;
  first = lt;
  count = sym (same_number p.count (length (map (text_from bytes) starts)) rest (flat_map text_bytes (map (text_from bytes) starts)) lt_count walked.are.count walked.spelled).0;
  spelled = parts ∙ ap (λ (l : List ℕ). four_bytes p.first ++ l) walked.spelled;
}
