-- What reading leaves, one read after the other.
use Rattle.std.proofs.Common.{◌≡◌, ◌≤◌, ◌+◌, ◌*◌, ◌<◌, ℕ, List, [], ◌∷◌, ◌++◌, take, drop, IfSome, Option, Some, None, option_map, refl, sym, ◌∙◌, ap, subst, arith}
use Rattle.std.specs.Prelude.{Result, Ok, Err, OnOk}
use Rattle.std.proofs.lemmas.List.{append-nil, append_assoc, drop-drop}
use Rattle.std.proofs.lemmas.List.Elements.{All-nil, All-cons, All-append, All-weaker}
use Rattle.log_seams.specs.Disk.{DiskState, with_range}
use Rattle.log_seams.proofs.MomentLemmas.{rests_on}
use Rattle.segment_format.specs.declared.ask.PageAsk.{PageAsk}
use Rattle.segment_format.specs.Pages.{pieces}
use Rattle.segment_format.specs.Laws.{piece}
use Rattle.segment_pages.specs.Paged.{Paged, columns_size}
use Rattle.record_format.specs.declared.refusal.FormatRefusal.{FormatRefusal}
use Rattle.segment_pages.specs.declared.refusal.PageRefusal.{PageRefusal}
use Rattle.segment_pages.specs.Refused.{from_format}
use Rattle.segment_pages.specs.Reads.{OnlyReadsIn, ReadsWithin}
use Rattle.segment_pages.specs.StepsLoaded.{FixedTold}

abbrev pub Ranges : Type 0
Ranges = Option (List (ℕ × ℕ))

none_added : (old : Ranges) → old ≡ option_map (λ ranges. ranges ++ []) old
none_added None = refl
none_added (Some ranges) = ap Some (sym (append-nil ranges))

two_added : (old mid new : Ranges) (a b : List (ℕ × ℕ)) → mid ≡ option_map (λ ranges. ranges ++ a) old → new ≡ option_map (λ ranges. ranges ++ b) mid
    → new ≡ option_map (λ ranges. ranges ++ (a ++ b)) old
two_added None mid new a b one two = two ∙ ap (option_map (λ ranges. ranges ++ b)) one
two_added (Some ranges) mid new a b one two = two ∙ ap (option_map (λ ranges. ranges ++ b)) one ∙ ap Some (append_assoc ranges a b)

pub none_within : (at n : ℕ) (old new : Ranges) → new ≡ old → ReadsWithin at n old new
none_within at n old new same = record { more = []; added = same ∙ none_added old; within = All-nil (λ r. (at ≤ r.0) × (r.0 + r.1 ≤ at + n)) }

pub one_within : (at n k : ℕ) (old new : Ranges) → k ≤ n → new ≡ with_range at k old → ReadsWithin at n old new
one_within at n k old new few added = record {
  more = (at, k) ∷ [];
  added = added;
  within = All-cons (λ r. (at ≤ r.0) × (r.0 + r.1 ≤ at + n)) (at, k) [] (omega arith, omega (arith, few)) (All-nil (λ r. (at ≤ r.0) × (r.0 + r.1 ≤ at + n)));
}

pub reads_on : (at n : ℕ) (old mid new : DiskState) → OnlyReadsIn at n old mid → OnlyReadsIn at n mid new → OnlyReadsIn at n old new
reads_on at n old mid new one two = record {
  rests = rests_on old mid new one.rests two.rests;
  ranges = record {
    more = one.ranges.more ++ two.ranges.more;
    added = two_added old.ranges mid.ranges new.ranges one.ranges.more two.ranges.more one.ranges.added two.ranges.added;
    within = All-append (λ r. (at ≤ r.0) × (r.0 + r.1 ≤ at + n)) one.ranges.more two.ranges.more one.ranges.within two.ranges.within;
  };
}

-- bytes behind a place, by their place in the payload
pub piece_is : (at x n m : ℕ) (bytes : List ℕ) → n ≡ m → take n (drop (at + x) bytes) ≡ piece x m (drop at bytes)
piece_is at x n m bytes same = ap (λ (k : ℕ). take k (drop (at + x) bytes)) same ∙ ap (take m) (sym (drop-drop x at bytes))

pub reads_wider : (at n : ℕ) (old new : DiskState) → OnlyReadsIn at n old new → (from size : ℕ) → from ≤ at → at + n ≤ from + size → OnlyReadsIn from size old new
reads_wider at n old new reads from size low high = record {
  rests = reads.rests;
  ranges = record {
    more = reads.ranges.more;
    added = reads.ranges.added;
    within = All-weaker (λ r. (at ≤ r.0) × (r.0 + r.1 ≤ at + n)) (λ r. (from ≤ r.0) × (r.0 + r.1 ≤ from + size))
        (λ r is. (omega (arith, is.0, low), omega (arith, is.1, high))) reads.ranges.more reads.ranges.within;
  };
}

-- ---- the pieces of a page

-- the four fixed pieces were read, one after the other
pub fixed_told : {E : Type 0} (s0 s1 s2 s3 : Option (List ℕ)) (at : ℕ) (ask : PageAsk) (a b c d : List ℕ) (na nb nc nd : ℕ) (r : Result Unit E) → s1 ≡ s0 → s2 ≡ s1 → s3 ≡ s2
    → na ≡ ask.rows → nb ≡ 8 * ask.rows → nc ≡ 4 * ask.rows → nd ≡ 4 * ask.rows
    → IfSome s0 (λ bytes. a ≡ take na (drop (at + ask.patterns) bytes)) → IfSome s1 (λ bytes. b ≡ take nb (drop (at + ask.moments) bytes))
    → IfSome s2 (λ bytes. c ≡ take nc (drop (at + ask.types) bytes)) → OnOk r (IfSome s3 (λ bytes. d ≡ take nd (drop (at + ask.counts) bytes)))
    → OnOk r (FixedTold s0 at ask (a ++ (b ++ (c ++ d))))
fixed_told s0 s1 s2 s3 at ask a b c d na nb nc nd (Err e) e1 e2 e3 la lb lc ld ia ib ic id = tt
fixed_told None s1 s2 s3 at ask a b c d na nb nc nd (Ok u) e1 e2 e3 la lb lc ld ia ib ic id = tt
fixed_told (Some bytes) s1 s2 s3 at ask a b c d na nb nc nd (Ok u) e1 e2 e3 la lb lc ld ia ib ic id =
    let ib' : b ≡ take nb (drop (at + ask.moments) bytes) = subst (λ s. IfSome s (λ bytes. b ≡ take nb (drop (at + ask.moments) bytes))) e1 ib in
    let ic' : c ≡ take nc (drop (at + ask.types) bytes) = subst (λ s. IfSome s (λ bytes. c ≡ take nc (drop (at + ask.types) bytes))) (e2 ∙ e1) ic in
    let id' : d ≡ take nd (drop (at + ask.counts) bytes) = subst (λ s. IfSome s (λ bytes. d ≡ take nd (drop (at + ask.counts) bytes))) (e3 ∙ (e2 ∙ e1)) id in
    let pa = ia ∙ piece_is at ask.patterns na ask.rows bytes la in
    let pb = ib' ∙ piece_is at ask.moments nb (8 * ask.rows) bytes lb in
    let pc = ic' ∙ piece_is at ask.types nc (4 * ask.rows) bytes lc in
    let pd = id' ∙ piece_is at ask.counts nd (4 * ask.rows) bytes ld in
    λ i. pa i ++ (pb i ++ (pc i ++ pd i))

-- where the fixed pieces of the next page lie
pub columns_fixed : (p : Paged) (ask : PageAsk) → ask ≡ pieces p.pages → p.pages.row < p.pages.rows
    → (p.at + p.pages.start ≤ p.at + ask.patterns) × (p.at + ask.counts + 4 * ask.rows ≤ p.at + p.pages.start + columns_size p.pages)
columns_fixed p ask is left =
    (omega (arith, ap (λ (a : PageAsk). a.patterns) is), omega (arith, ap (λ (a : PageAsk). a.counts) is, ap (λ (a : PageAsk). a.rows) is, left))

-- and its variables
pub columns_words : (p : Paged) (ask : PageAsk) (v : ℕ) → ask ≡ pieces p.pages → p.pages.row < p.pages.rows → p.pages.variable + v ≤ p.pages.variables
    → (p.at + p.pages.start ≤ p.at + ask.variables) × (p.at + ask.variables + 8 * v ≤ p.at + p.pages.start + columns_size p.pages)
columns_words p ask v is left few =
    (omega (arith, ap (λ (a : PageAsk). a.variables) is), omega (arith, ap (λ (a : PageAsk). a.variables) is, few))

-- a refusal of columns that is damage is of bytes that are none
pub format_damaged : (e : FormatRefusal) → from_format e ≡ PageRefusal.Damaged → e ≡ FormatRefusal.Malformed
format_damaged FormatRefusal.Malformed is = refl
format_damaged FormatRefusal.OutOfMemory is = absurd (cc (is))
