-- Texts in one buffer: where each lies, and one text more.
use Rattle.std.proofs.Common.{◌≡◌, ℕ, zero, suc, ◌+◌, ◌-◌, ◌<◌, ◌≤◌, List, [], ◌∷◌, ◌++◌, length, get_or, take, drop, refl, sym, ap, subst, ◌∙◌, arith, Some, slice_get, slice_index, slice_range}
use Rattle.std.proofs.lemmas.List.{take-append-le, drop-append-le, drop_at, take_all, take_more, take-take, drop-take, length-drop, get_or-drop, get_or-take}
use Rattle.std.proofs.lemmas.Option.{slice_get_within, get_or_from_slice_get}
use Rattle.dict_core.specs.Buffer.{texts_from, Rise, start_from}

-- there is a text for each end
pub length-texts_from : (bytes : List ℕ) (start : ℕ) (ends : List ℕ) → length (texts_from bytes start ends) ≡ length ends
length-texts_from bytes start [] = refl
length-texts_from bytes start (end ∷ ends) = ap suc (length-texts_from bytes end ends)

-- the text at a number lies between its ends
pub texts_get : (bytes : List ℕ) (start : ℕ) (ends : List ℕ) (k : ℕ) → k < length ends → slice_get (texts_from bytes start ends) k ≡ Some (slice_range bytes (start_from start ends k) (slice_index ends k))
texts_get bytes start [] k h = absurd (omega (arith, h))
texts_get bytes start (end ∷ ends) zero h = refl
texts_get bytes start (end ∷ ends) (suc zero) h = texts_get bytes end ends zero (omega (arith, h))
texts_get bytes start (end ∷ ends) (suc (suc k)) h = texts_get bytes end ends (suc k) (omega (arith, h))

-- no end is past the last
pub rise_last : (start : ℕ) (ends : List ℕ) (last : ℕ) → Rise start ends last → start ≤ last
rise_last start [] last h = omega (arith, h)
rise_last start (end ∷ ends) last h = omega (arith, h.0, rise_last end ends last h.1)

pub rise_end : (start : ℕ) (ends : List ℕ) (last k : ℕ) → Rise start ends last → k < length ends → slice_index ends k ≤ last
rise_end start [] last k h l = absurd (omega (arith, l))
rise_end start (end ∷ ends) last zero h l = rise_last end ends last h.1
rise_end start (end ∷ ends) last (suc k) h l = rise_end end ends last k h.1 (omega (arith, l))

-- a text begins at or before its end
pub rise_start : (start : ℕ) (ends : List ℕ) (last k : ℕ) → Rise start ends last → k < length ends → start_from start ends k ≤ slice_index ends k
rise_start start [] last k h l = absurd (omega (arith, l))
rise_start start (end ∷ ends) last zero h l = h.0
rise_start start (end ∷ ends) last (suc zero) h l = rise_start end ends last zero h.1 (omega (arith, l))
rise_start start (end ∷ ends) last (suc (suc k)) h l = rise_start end ends last (suc k) h.1 (omega (arith, l))

-- bytes behind the end of a part leave it
pub range_stays : (bytes more : List ℕ) (start end : ℕ) → start ≤ end → end ≤ length bytes → slice_range (bytes ++ more) start end ≡ slice_range bytes start end
range_stays bytes more start end h l =
    ap (take (end - start)) (drop-append-le start bytes more (omega (arith, h, l)))
    ∙ take-append-le (end - start) (drop start bytes) more (omega (arith, l, length-drop start bytes))

-- the bytes of one text more, and its end, add it last
pub texts_more : (bytes text : List ℕ) (start : ℕ) (ends : List ℕ) (last : ℕ) → Rise start ends (length bytes) → last ≡ length bytes + length text →
    texts_from (bytes ++ text) start (ends ++ last ∷ []) ≡ texts_from bytes start ends ++ text ∷ []
texts_more bytes text start [] last h e =
    let tail : drop start (bytes ++ text) ≡ text = drop_at bytes text start (sym h) in
    let all : take (last - start) text ≡ text = take_all (last - start) text (omega (arith, h, e)) in
    ap (λ part. part ∷ []) (ap (take (last - start)) tail ∙ all)
texts_more bytes text start (end ∷ ends) last h e =
    let here = range_stays bytes text start end h.0 (rise_last end ends (length bytes) h.1) in
    let there = texts_more bytes text end ends last h.1 e in
    ap (λ part. part ∷ texts_from (bytes ++ text) end (ends ++ last ∷ [])) here ∙ ap (λ rest. slice_range bytes start end ∷ rest) there

pub rise_more : (start : ℕ) (ends : List ℕ) (last more : ℕ) → Rise start ends last → last ≤ more → Rise start (ends ++ more ∷ []) more
rise_more start [] last more h l = (omega (arith, h, l), refl)
rise_more start (end ∷ ends) last more h l = (h.0, rise_more end ends last more h.1 l)

-- one text more is copied of those from a number on
pub copied : (texts done : List (List ℕ)) (from next : ℕ) (text : List ℕ) → from ≤ next → slice_get texts next ≡ Some text →
    done ≡ take (next - from) (drop from texts) → done ++ text ∷ [] ≡ take (next + 1 - from) (drop from texts)
copied texts done from next text low found so_far =
    let rest = drop from texts in
    let below : next < length texts = slice_get_within texts next text found in
    let more = take_more rest (next - from) text (omega (arith, low, below, length-drop from texts)) in
    let same : from + (next - from) ≡ next = omega (arith, low) in
    let last : get_or rest (next - from) text ≡ text = get_or-drop from texts (next - from) text ∙ ap (λ k. get_or texts k text) same ∙ get_or_from_slice_get texts next text text found in
    let count : next - from + 1 ≡ next + 1 - from = omega (arith, low) in
    (λ i. so_far i ++ sym last i ∷ []) ∙ sym more ∙ ap (λ k. take k rest) count

-- where the text behind the first begins
pub start_next : (start end : ℕ) (ends : List ℕ) (n : ℕ) → start_from start (end ∷ ends) (suc n) ≡ start_from end ends n
start_next start end ends zero = refl
start_next start end ends (suc n) = refl

-- the first ends rise to where the next text begins
pub rise_less : (start : ℕ) (ends : List ℕ) (last n : ℕ) → Rise start ends last → n ≤ length ends → Rise start (take n ends) (start_from start ends n)
rise_less start ends last zero h l = refl
rise_less start [] last (suc n) h l = absurd (omega (arith, l))
rise_less start (end ∷ ends) last (suc n) h l =
    (h.0, subst (Rise end (take n ends)) (sym (start_next start end ends n)) (rise_less end ends last n h.1 (omega (arith, l))))

-- and that is not past the last
pub start_last : (start : ℕ) (ends : List ℕ) (last n : ℕ) → Rise start ends last → n ≤ length ends → start_from start ends n ≤ last
start_last start ends last zero h l = rise_last start ends last h
start_last start ends last (suc n) h l = rise_end start ends last n h (omega (arith, l))

pub start_take : (start : ℕ) (ends : List ℕ) (n : ℕ) → start_from start (take n ends) n ≡ start_from start ends n
start_take start ends zero = refl
start_take start ends (suc n) = get_or-take (suc n) ends n 0 (omega arith)

-- a part that ends before the cut
range_kept : (bytes : List ℕ) (cut start end : ℕ) → start ≤ end → end ≤ cut → slice_range (take cut bytes) start end ≡ slice_range bytes start end
range_kept bytes cut start end h l =
    let whole : start + (cut - start) ≡ cut = omega (arith, h, l) in
    let tail : drop start (take cut bytes) ≡ take (cut - start) (drop start bytes) = ap (λ n. drop start (take n bytes)) (sym whole) ∙ drop-take start (cut - start) bytes in
    ap (take (end - start)) tail ∙ take-take (end - start) (cut - start) (drop start bytes) (omega (arith, h, l))

-- the first texts lie in the first bytes
pub texts_less : (bytes : List ℕ) (cut start : ℕ) (ends : List ℕ) (n : ℕ) → Rise start ends (length bytes) → n ≤ length ends → start_from start ends n ≤ cut →
    texts_from (take cut bytes) start (take n ends) ≡ take n (texts_from bytes start ends)
texts_less bytes cut start ends zero h l e = refl
texts_less bytes cut start [] (suc n) h l e = absurd (omega (arith, l))
texts_less bytes cut start (end ∷ ends) (suc n) h l e =
    let low : start_from end ends n ≤ cut = omega (arith, e, start_next start end ends n) in
    let begins = rise_last end (take n ends) (start_from end ends n) (rise_less end ends (length bytes) n h.1 (omega (arith, l))) in
    (λ i. range_kept bytes cut start end h.0 (omega (arith, begins, low)) i ∷ texts_less bytes cut end ends n h.1 (omega (arith, l)) low i)
