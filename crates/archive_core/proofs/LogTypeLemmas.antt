-- What is known of log types, and rows of them.
use Rattle.std.proofs.Common.{◌≡◌, ℕ, zero, suc, ◌+◌, ◌<◌, ◌≤◌, List, [], ◌∷◌, ◌++◌, length, map, set, take, get_or, append_assoc, refl, sym, ◌∙◌, ap, subst, arith}
use Rattle.std.specs.Prelude.{◌↔◌, ℤ, true, None, Some, slice_get}
use Rattle.std.proofs.lemmas.List.{length-take, take-append-le, take_more}
use Rattle.std.proofs.lemmas.Option.{get_or_from_slice_get, slice_get_within}
use Rattle.logtype_text.specs.Parts.{joined, symbol_of}
use Rattle.logtype_text.specs.TypeText.{type_text}
use Rattle.time_patterns.specs.Stamps.{HasStamp}
use Rattle.time_patterns.proofs.LawLemmas.{one_text as one_stamp_text}
use Rattle.column_store.specs.declared.row.Row.{Row}
use Rattle.row_codec.specs.Means.{HasSpelling, HasStampText, IsCanonical, IsEncoding, IsSpelling}
use Rattle.row_codec.specs.StepsCut.{IsCutText}
use Rattle.row_codec.proofs.CanonicalLemmas.{canonical_cut, cut_canonical}
use Rattle.row_codec.proofs.MeansLemmas.{meaning_is_spelling, one_spelling}
use Rattle.archive_core.specs.declared.log_types.LogType.{LogType}
use Rattle.archive_core.specs.LogTypes.{AreKnown, IsCutRow, IsKnown}
use Rattle.archive_core.specs.declared.slots.Slot.{Slot}
use Rattle.archive_core.specs.Slots.{AreHeld, slots_of}
use Rattle.archive_core.proofs.SlotsLemmas.{well_cut}

pub known_long : (texts : List (List ℕ)) (known : List LogType) → AreKnown texts known → length known ≡ length texts
known_long [] [] are = refl
known_long [] (k ∷ known) are = absurd are
known_long (t ∷ texts) [] are = absurd are
known_long (t ∷ texts) (k ∷ known) are = let rest = known_long texts known are.1 in omega (arith, rest)

pub known_at : (texts : List (List ℕ)) (known : List LogType) (n : ℕ) (k : LogType) → AreKnown texts known → slice_get known n ≡ Some k → (text : List ℕ) × (slice_get texts n ≡ Some text) × IsKnown text k
known_at [] [] n k are at = absurd (cc (at))
known_at [] (j ∷ known) n k are at = absurd are
known_at (t ∷ texts) [] n k are at = absurd are
known_at (t ∷ texts) (j ∷ known) zero k are at = let same : j ≡ k = cc (at) in (t, refl, subst (IsKnown t) same are.0)
known_at (t ∷ texts) (j ∷ known) (suc n) k are at = known_at texts known n k are.1 at

pub known_set : (texts : List (List ℕ)) (known : List LogType) (n : ℕ) (text : List ℕ) (k : LogType) → AreKnown texts known → slice_get texts n ≡ Some text → IsKnown text k → AreKnown texts (set known n k)
known_set [] [] n text k are at is = absurd (cc (at))
known_set [] (j ∷ known) n text k are at is = absurd are
known_set (t ∷ texts) [] n text k are at is = absurd are
known_set (t ∷ texts) (j ∷ known) zero text k are at is = let same : t ≡ text = cc (at) in (subst (λ x. IsKnown x k) (sym same) is, are.1)
known_set (t ∷ texts) (j ∷ known) (suc n) text k are at is = (are.0, known_set texts known n text k are.1 at is)

pub known_push : (texts : List (List ℕ)) (known : List LogType) (text : List ℕ) (k : LogType) → AreKnown texts known → IsKnown text k → AreKnown (texts ++ text ∷ []) (known ++ k ∷ [])
known_push [] [] text k are is = (is, tt)
known_push [] (j ∷ known) text k are is = absurd are
known_push (t ∷ texts) [] text k are is = absurd are
known_push (t ∷ texts) (j ∷ known) text k are is = (are.0, known_push texts known text k are.1 is)

-- ---- rows

-- what is an encoding is cut by the rule of tokens
pub encoding_cut : (version : ℕ) (row : Row) (types words : List (List ℕ)) → IsEncoding version row types words → IsCutRow types words row
encoding_cut version row types words (m, is) =
    (type_text (map symbol_of is.means.parts), is.means.typed, canonical_cut version row types words m (type_text (map symbol_of is.means.parts)) is.means.typed is)

-- so one row tells of its log type
pub encoding_known : (version : ℕ) (row : Row) (types words : List (List ℕ)) (known : List LogType) (k : LogType) → AreKnown types known → slice_get known row.log_type ≡ Some k → IsEncoding version row types words
    → AreKnown types (set known row.log_type (let tested : LogType = record { slots = k.slots; tested = true } in tested))
encoding_known version row types words known k are at (m, is) =
    let (text, there, of) = known_at types known row.log_type k are at in
    known_set types known row.log_type text (record { slots = k.slots; tested = true }) are there
    (record { slots = of.slots; tested = λ yes. well_cut words text row.words (canonical_cut version row types words m text there is) })

-- and then the words tell of others
pub held_cut : (types words : List (List ℕ)) (known : List LogType) (row : Row) (k : LogType) (slots : List Slot) → AreKnown types known → slice_get known row.log_type ≡ Some k → k.tested ≡ true → slots ≡ k.slots.items
    → AreHeld words slots row.words ↔ IsCutRow types words row
held_cut types words known row k slots are at tested same =
    let (text, there, of) = known_at types known row.log_type k are at in
    let well = of.tested tested words row.words in
    let spelled : slots ≡ slots_of text = same ∙ of.slots in (
      λ held. (text, there, well.1 (subst (λ (l : List Slot). AreHeld words l row.words) spelled held)),
      λ (other, here, cut).
          let found : Some other ≡ Some text = sym here ∙ there in
          let texts : other ≡ text = cc in
          subst (λ (l : List Slot). AreHeld words l row.words) (sym spelled) (well.0 (subst (λ t. IsCutText words None t row.words) texts cut)),
    )

-- a row has a log type of which something is known
pub unknown_row : (version : ℕ) (row : Row) (types words : List (List ℕ)) (known : List LogType) → AreKnown types known → length known ≤ row.log_type → ¬ IsEncoding version row types words
unknown_row version row types words known are past encoding =
    let (text, at, cut) = encoding_cut version row types words encoding in
    omega (arith, past, known_long types known are, slice_get_within types row.log_type text at)

pub encoding_spelled : (version : ℕ) (row : Row) (types words : List (List ℕ)) (m : List ℕ) → IsCanonical version row types words m → HasSpelling row types words
encoding_spelled version row types words m is = (m, meaning_is_spelling row types words m is.means)

-- a message's stamp is as long as its text
stamp_long : (version : ℕ) (message : List ℕ) (k : ℕ) (m : ℤ) (n : ℕ) (stamp : List ℕ) → HasStamp version message k m n → HasStampText k m stamp → n ≡ length stamp
stamp_long version message zero m n stamp has text = has.2 ∙ sym (ap length text.1)
stamp_long version message (suc k) m n stamp has text =
    let fits = has.fits in
    sym fits.2.3 ∙ ap length (one_stamp_text (suc k) m fits.0 stamp fits.1 text)

-- a row that is cut by the rule of tokens is the encoding of what it is written as, where the stamp is the row's
pub cut_means : (version : ℕ) (row : Row) (types words : List (List ℕ)) (message : List ℕ) (n : ℕ) → IsCutRow types words row → IsSpelling row types words message → HasStamp version message row.pattern row.moment n
    → IsCanonical version row types words message
cut_means version row types words message n (text, at, cut) spelling has =
    let again : IsSpelling row types words (spelling.stamp ++ joined cut.parts) = record {
      stamp = spelling.stamp;
      parts = cut.parts;
      typed = at ∙ ap (λ t. Some t) cut.typed;
      written = cut.written;
      stamped = spelling.stamped;
      is = refl;
    } in
    let same = one_spelling row types words message (spelling.stamp ++ joined cut.parts) spelling again in
    let long = stamp_long version message row.pattern row.moment n spelling.stamp has spelling.stamped in
    subst (IsCanonical version row types words) (sym same)
    (cut_canonical version row types words text spelling.stamp at spelling.stamped cut
    (subst (λ l. HasStamp version l row.pattern row.moment (length spelling.stamp)) same (subst (λ x. HasStamp version message row.pattern row.moment x) long has)))

-- and no encoding where it is not
pub stamp_means : (version : ℕ) (row : Row) (types words : List (List ℕ)) (message m : List ℕ) → IsSpelling row types words message → IsCanonical version row types words m
    → (n : ℕ) × HasStamp version message row.pattern row.moment n
stamp_means version row types words message m spelling is =
    let same = one_spelling row types words m message (meaning_is_spelling row types words m is.means) spelling in
    (length is.means.stamp, subst (λ l. HasStamp version l row.pattern row.moment (length is.means.stamp)) same is.stamp)

-- ---- the slots by the number of a log type

pub slots_known : (texts : List (List ℕ)) (known : List LogType) (n : ℕ) (k : LogType) (slots : List Slot) → AreKnown texts known → slice_get known n ≡ Some k → slots ≡ k.slots.items → slots ≡ slots_of (get_or texts n [])
slots_known texts known n k slots are at same =
    let (text, there, is) = known_at texts known n k are at in
    same ∙ is.slots ∙ ap slots_of (sym (get_or_from_slice_get texts n text [] there))

past_end : (texts : List (List ℕ)) (n : ℕ) → length texts ≤ n → get_or texts n [] ≡ []
past_end [] n past = refl
past_end (t ∷ texts) zero past = absurd (omega (arith, past))
past_end (t ∷ texts) (suc n) past = past_end texts n (omega (arith, past))

pub slots_past : (texts : List (List ℕ)) (known : List LogType) (n : ℕ) → AreKnown texts known → length known ≤ n → (let none : List Slot = [] in none) ≡ slots_of (get_or texts n [])
slots_past texts known n are past = ap slots_of (sym (past_end texts n (omega (arith, past, known_long texts known are))))

-- one log type more
pub known_next : (old texts : List (List ℕ)) (i : ℕ) (text : List ℕ) (known new : List LogType) (k : LogType) → AreKnown (old ++ take i texts) known → i < length texts → text ≡ get_or texts i text
    → IsKnown text k → new ≡ known ++ k ∷ [] → AreKnown (old ++ take (i + 1) texts) new
known_next old texts i text known new k are within is of more =
    let texts_are : old ++ take (i + 1) texts ≡ (old ++ take i texts) ++ text ∷ [] =
    ap (λ l. old ++ l) (take_more texts i text within ∙ ap (λ t. take i texts ++ t ∷ []) (sym is)) ∙ sym (append_assoc old (take i texts) (text ∷ [])) in
    subst (λ l. AreKnown l new) (sym texts_are) (subst (AreKnown ((old ++ take i texts) ++ text ∷ [])) (sym more) (known_push (old ++ take i texts) known text k are of))

pub front_kept : (old known more : List LogType) → take (length old) known ≡ old → take (length old) (known ++ more) ≡ old
front_kept old known more is = take-append-le (length old) known more (omega (arith, ap length is, length-take (length old) known)) ∙ is
