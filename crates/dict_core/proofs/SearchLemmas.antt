-- Finding a text in a buffer: where it stands, and what is passed over.
use Rattle.std.proofs.Common.{◌≡◌, ◌≢◌, ◌⊎◌, ⊎_elim, inl, inr, ◌↔◌, ℕ, zero, suc, ◌+◌, ◌-◌, ◌<◌, ◌≤◌, true, false, leb, List, [], ◌∷◌, length, get_or, take, drop, refl, sym, ap, subst, ◌∙◌, arith, Option, None, Some, slice_get, slice_index, slice_range}
use Rattle.std.proofs.lemmas.Bool.{leb-true, leb-false, cases_lt}
use Rattle.std.proofs.lemmas.List.{length-drop, length-take-le, get_or-drop, get_or-take, take_at, nil_from_length}
use Rattle.std.proofs.lemmas.List.Prefix.{at_from_reads}
use Rattle.std.proofs.lemmas.Option.{same_Some}
use Rattle.std.specs.List.Sorted.{IsPartitionPoint}
use Rattle.memchr.specs.Find.{OccursAt, Nowhere, IsFirst}
use Rattle.dict_core.specs.Buffer.{texts_from, Rise, start_from, start_at, text_at}
use Rattle.dict_core.proofs.BufferLemmas.{rise_end, rise_start, start_last, start_next, texts_get}

-- no end is before the start
rise_low : (start : ℕ) (ends : List ℕ) (last k : ℕ) → Rise start ends last → k < length ends → start ≤ slice_index ends k
rise_low start [] last k h l = absurd (omega (arith, l))
rise_low start (end ∷ ends) last zero h l = h.0
rise_low start (end ∷ ends) last (suc k) h l = omega (arith, h.0, rise_low end ends last k h.1 (omega (arith, l)))

-- the ends rise
pub rise_all : (start : ℕ) (ends : List ℕ) (last : ℕ) → Rise start ends last → (j k : ℕ) → j ≤ k → k < length ends → slice_index ends j ≤ slice_index ends k
rise_all start [] last h j k le l = absurd (omega (arith, l))
rise_all start (end ∷ ends) last h zero zero le l = omega arith
rise_all start (end ∷ ends) last h zero (suc k) le l = rise_low end ends last k h.1 (omega (arith, l))
rise_all start (end ∷ ends) last h (suc j) zero le l = absurd (omega (arith, le))
rise_all start (end ∷ ends) last h (suc j) (suc k) le l = rise_all end ends last h.1 j k (omega (arith, le)) (omega (arith, l))

-- and come to the last
pub rise_final : (start : ℕ) (ends : List ℕ) (last : ℕ) → Rise start ends last → 0 < length ends → slice_index ends (length ends - 1) ≡ last
rise_final start [] last h l = absurd (omega (arith, l))
rise_final start (end ∷ []) last h l = h.1
rise_final start (end ∷ next ∷ ends) last h l =
    let whole : length (end ∷ next ∷ ends) - 1 ≡ suc (length (next ∷ ends) - 1) = omega arith in
    rw whole (rise_final end (next ∷ ends) last h.1 (omega arith))

-- texts begin one behind the other
pub starts_rise : (ends : List ℕ) (last j k : ℕ) → Rise 0 ends last → j ≤ k → k < length ends → start_at ends j ≤ start_at ends k
starts_rise ends last zero k h le l = omega arith
starts_rise ends last (suc j) zero h le l = absurd (omega (arith, le))
starts_rise ends last (suc j) (suc k) h le l = rise_all 0 ends last h j k (omega (arith, le)) (omega (arith, l))

-- of some of the ends, the first that is past a place
pub held : (ends : List ℕ) (at low high r : ℕ) → low < high → high ≤ length ends → at < slice_index ends (high - 1) →
    IsPartitionPoint (λ y. leb y at ≡ true) (λ y. leb y at ≡ false) (slice_range ends low high) r → r ≤ length (slice_range ends low high) →
    (low + r < high) × ((k : ℕ) → low ≤ k → k < low + r → slice_index ends k ≤ at) × (at < slice_index ends (low + r))
held ends at low high r some within past point bound =
    let count : length (slice_range ends low high) ≡ high - low = length-take-le (high - low) (drop low ends) (omega (arith, length-drop low ends, within)) in
    let read : (k : ℕ) → k < high - low → get_or (slice_range ends low high) k 0 ≡ slice_index ends (low + k) = λ k l. get_or-take (high - low) (drop low ends) k 0 l ∙ get_or-drop low ends k 0 in
    let before : (k : ℕ) → low ≤ k → k < low + r → slice_index ends k ≤ at = λ k l m.
    let same : low + (k - low) ≡ k = omega (arith, l) in
    subst (λ j. slice_index ends j ≤ at) same (subst (λ e. e ≤ at) (read (k - low) (omega (arith, l, m, bound, count))) (leb-true (get_or (slice_range ends low high) (k - low) 0) at (point.0 (k - low) 0 (omega arith) (omega (arith, l, m))))) in
    let inside : low + r < high = ⊎_elim
    (λ l. l)
    (λ all. absurd (omega (arith, before (high - 1) (omega (arith, some)) (omega (arith, some, all)), past)))
    (cases_lt (low + r) high) in
    (inside, before, subst (λ e. at < e) (read r (omega (arith, inside))) (leb-false (get_or (slice_range ends low high) r 0) at (point.1 r 0 (omega arith) (omega (arith, inside, count)))))

-- a text stands in the buffer where it begins
pub text_stands : (bytes ends : List ℕ) (k : ℕ) → Rise 0 ends (length bytes) → k < length ends → OccursAt bytes (text_at bytes ends k) (start_at ends k)
text_stands bytes ends k h l =
    let start = start_at ends k in let end = slice_index ends k in
    let rises = rise_start 0 ends (length bytes) k h l in
    let ends_in = rise_end 0 ends (length bytes) k h l in
    let count : length (text_at bytes ends k) ≡ end - start = length-take-le (end - start) (drop start bytes) (omega (arith, ends_in, length-drop start bytes)) in
    record {
      fits = omega (arith, rises, ends_in, count);
      reads = λ j low. sym (get_or-take (end - start) (drop start bytes) j 0 (omega (arith, low, count)) ∙ get_or-drop start bytes j 0);
    }

-- what stands between the ends of a text is that text
pub stands_text : (bytes ends text : List ℕ) (k : ℕ) → OccursAt bytes text (start_at ends k) → slice_index ends k ≡ start_at ends k + length text → text_at bytes ends k ≡ text
stands_text bytes ends text k o e =
    let start = start_at ends k in
    let count : slice_index ends k - start ≡ length text = omega (arith, e) in
    ap (λ n. take n (drop start bytes)) count ∙ ap (take (length text)) (at_from_reads 0 bytes text start o.fits o.reads) ∙ take_at text (drop (start + length text) bytes) (length text) refl

-- a place behind the front of the buffer
pub stands_behind : (bytes text : List ℕ) (from at : ℕ) → from ≤ at → OccursAt bytes text at → OccursAt (drop from bytes) text (at - from)
stands_behind bytes text from at l o =
    let whole : from + (at - from) ≡ at = omega (arith, l) in record {
      fits = omega (arith, o.fits, length-drop from bytes);
      reads = λ j low.
          let place : from + (at - from + j) ≡ at + j = omega (arith, l) in
          get_or-drop from bytes (at - from + j) 0 ∙ ap (slice_index bytes) place ∙ o.reads j low;
    }

pub stands_before : (bytes text : List ℕ) (from k : ℕ) → from ≤ length bytes → OccursAt (drop from bytes) text k → OccursAt bytes text (from + k)
stands_before bytes text from k l o = record {
  fits = omega (arith, o.fits, length-drop from bytes, l);
  reads = λ j low.
      let place : from + (k + j) ≡ from + k + j = omega arith in
      ap (slice_index bytes) (sym place) ∙ sym (get_or-drop from bytes (k + j) 0) ∙ o.reads j low;
}

-- a text behind others stands in what is behind them
text_behind : (bytes ends text : List ℕ) (next k : ℕ) → Rise 0 ends (length bytes) → next ≤ k → k < length ends → text_at bytes ends k ≡ text →
    OccursAt (drop (start_at ends next) bytes) text (start_at ends k - start_at ends next)
text_behind bytes ends text next k h le l is =
    stands_behind bytes text (start_at ends next) (start_at ends k) (starts_rise ends (length bytes) next k h le l) (subst (λ t. OccursAt bytes t (start_at ends k)) is (text_stands bytes ends k h l))

-- where the text stands nowhere behind others, it is none of those behind them
pub none_behind : (bytes ends text : List ℕ) (next : ℕ) → Rise 0 ends (length bytes) → Nowhere (OccursAt (drop (start_at ends next) bytes) text) 0 (length (drop (start_at ends next) bytes) + 1) →
    (k : ℕ) → next ≤ k → k < length ends → text_at bytes ends k ≢ text
none_behind bytes ends text next h nowhere k le l is =
    let o = text_behind bytes ends text next k h le l is in nowhere (start_at ends k - start_at ends next) (omega arith) (omega (arith, o.fits)) o

-- and none that begins before the first place where it stands
pub none_passed : (bytes ends text : List ℕ) (next skipped : ℕ) → Rise 0 ends (length bytes) → Nowhere (OccursAt (drop (start_at ends next) bytes) text) 0 skipped →
    (k : ℕ) → next ≤ k → k < length ends → start_at ends k < start_at ends next + skipped → text_at bytes ends k ≢ text
none_passed bytes ends text next skipped h nowhere k le l low is =
    nowhere (start_at ends k - start_at ends next) (omega arith) (omega (arith, low, starts_rise ends (length bytes) next k h le l)) (text_behind bytes ends text next k h le l is)

-- the length of a text is between its ends
pub text_long : (bytes ends : List ℕ) (k : ℕ) → Rise 0 ends (length bytes) → k < length ends → slice_index ends k ≡ start_at ends k + length (text_at bytes ends k)
text_long bytes ends k h l =
    let start = start_at ends k in let end = slice_index ends k in
    omega (
      arith,
      rise_start 0 ends (length bytes) k h l,
      length-take-le (end - start) (drop start bytes) (omega (arith, rise_end 0 ends (length bytes) k h l, length-drop start bytes)),
    )

-- two facts that hold together at each place have one first place
pub first_same : (P Q : ℕ → Type 0) (n : ℕ) (r : Option ℕ) → ((k : ℕ) → k < n → P k ↔ Q k) → IsFirst P 0 n r → IsFirst Q 0 n r
first_same P Q n None same h = λ k low high q. h k low high ((same k high).1 q)
first_same P Q n (Some k) same h = (
  record {
    low = h.0.low;
    high = h.0.high;
    before = λ j low below q. h.0.before j low below ((same j (omega (arith, below, h.0.high))).1 q);
  },
  (same k h.0.high).0 h.1,
)

-- a text is empty where it ends as it begins
pub empty_text : (bytes ends text : List ℕ) (k : ℕ) → text ≡ [] → Rise 0 ends (length bytes) → k < length ends →
    (start_at ends k ≡ slice_index ends k) ↔ (slice_get (texts_from bytes 0 ends) k ≡ Some text)
empty_text bytes ends text k empty h l =
    let long = text_long bytes ends k h l in
    let got = texts_get bytes 0 ends k l in (
      (λ same. got ∙ ap (λ t. Some t) (nil_from_length (text_at bytes ends k) (omega (arith, long, same)) ∙ sym empty)),
      (λ is. omega (arith, long, ap length (same_Some (text_at bytes ends k) text (sym got ∙ is) ∙ empty))),
    )

-- the text at a number is that of the buffer
pub same_text_at : (bytes ends text : List ℕ) (k : ℕ) → k < length ends → (text_at bytes ends k ≡ text) ↔ (slice_get (texts_from bytes 0 ends) k ≡ Some text)
same_text_at bytes ends text k l =
    let got = texts_get bytes 0 ends k l in
    ((λ is. got ∙ ap (λ t. Some t) is), (λ is. same_Some (text_at bytes ends k) text (sym got ∙ is)))

-- behind the last text there is nothing
pub start_final : (start : ℕ) (ends : List ℕ) (last : ℕ) → Rise start ends last → start_from start ends (length ends) ≡ last
start_final start [] last h = h
start_final start (end ∷ ends) last h = start_next start end ends (length ends) ∙ start_final end ends last h.1

-- a match behind others lies in a text
pub some_behind : (bytes ends needle : List ℕ) (next skipped : ℕ) → Rise 0 ends (length bytes) → next ≤ length ends → 0 < length needle → OccursAt (drop (start_at ends next) bytes) needle skipped →
    (next < length ends) × (start_at ends next + skipped < slice_index ends (length ends - 1))
some_behind bytes ends needle next skipped h le some o =
    let reach : start_at ends next + skipped < length bytes = omega (arith, o.fits, some, length-drop (start_at ends next) bytes) in
    let below : next < length ends = ⊎_elim (λ l. l)
    (λ all.
    let same : next ≡ length ends = omega (arith, le, all) in
    absurd (omega (arith, reach, start_final 0 ends (length bytes) h, ap (start_at ends) same)))
    (cases_lt next (length ends)) in
    (below, omega (arith, reach, rise_final 0 ends (length bytes) h (omega (arith, below))))

-- a text begins at or before a place that the ones before it end at or before
start_before : (ends : List ℕ) (next number at : ℕ) → start_at ends next ≤ at → ((k : ℕ) → next ≤ k → k < number → slice_index ends k ≤ at) → next ≤ number → start_at ends number ≤ at
start_before ends next zero at l before le = omega arith
start_before ends next (suc number) at l before le = ⊎_elim
    (λ reaches. subst (λ n. start_at ends n ≤ at) (antisymmetric next (suc number) le reaches) l)
    (λ low. before number low (omega arith))
    (later next number)
  where
    antisymmetric : (m n : ℕ) → m ≤ n → n ≤ m → m ≡ n
    antisymmetric m n a b = omega (arith, a, b)

    later : (m n : ℕ) → (suc n ≤ m) ⊎ (m ≤ n)
    later m n = ⊎_elim (λ l. inl (omega (arith, l))) (λ l. inr l) (cases_lt n m)

-- what is known of a match at a place, and of the text that holds the place
pub record Hit (bytes ends needle : List ℕ) (next skipped number : ℕ) : Type 0 where
  pub rise : Rise 0 ends (length bytes)
  pub some : 0 < length needle
  pub first : Nowhere (OccursAt (drop (start_at ends next) bytes) needle) 0 skipped
  pub match : OccursAt (drop (start_at ends next) bytes) needle skipped
  pub low : next ≤ number
  pub high : number < length ends
  pub before : (k : ℕ) → next ≤ k → k < number → slice_index ends k ≤ start_at ends next + skipped

-- the texts before it are others
pub hit_passes : (bytes ends needle : List ℕ) (next skipped number : ℕ) → Hit bytes ends needle next skipped number → (k : ℕ) → next ≤ k → k < number → text_at bytes ends k ≢ needle
hit_passes bytes ends needle next skipped number hit k le l is =
    let high : k < length ends = omega (arith, l, hit.high) in
    let early : start_at ends k < start_at ends next + skipped = omega (arith, hit.before k le l, text_long bytes ends k hit.rise high, ap length is, hit.some) in
    none_passed bytes ends needle next skipped hit.rise hit.first k le high early is

-- it is the needle where it begins and ends with the match
pub hit_is : (bytes ends needle : List ℕ) (next skipped number : ℕ) → Hit bytes ends needle next skipped number → start_at ends number ≡ start_at ends next + skipped →
    slice_index ends number ≡ start_at ends next + skipped + length needle → text_at bytes ends number ≡ needle
hit_is bytes ends needle next skipped number hit begins ends_so =
    let from = start_last 0 ends (length bytes) next hit.rise (omega (arith, hit.low, hit.high)) in
    let stands = stands_before bytes needle (start_at ends next) skipped from hit.match in
    stands_text bytes ends needle number (subst (OccursAt bytes needle) (sym begins) stands) (omega (arith, begins, ends_so))

-- and another text where it does not
pub hit_is_other : (bytes ends needle : List ℕ) (next skipped number : ℕ) → Hit bytes ends needle next skipped number →
    (start_at ends number ≡ start_at ends next + skipped → slice_index ends number ≡ start_at ends next + skipped + length needle → ⊥) → text_at bytes ends number ≢ needle
hit_is_other bytes ends needle next skipped number hit differs is =
    let at = start_at ends next + skipped in
    let begins : start_at ends number ≤ at = start_before ends next number at (omega arith) hit.before hit.low in
    let long = text_long bytes ends number hit.rise hit.high in
    ⊎_elim
    (λ early. none_passed bytes ends needle next skipped hit.rise hit.first number hit.low hit.high early is)
    (λ late.
    let same : start_at ends number ≡ at = omega (arith, begins, late) in
    differs same (omega (arith, long, ap length is, same)))
    (cases_lt (start_at ends number) at)
