-- The head that a payload begins with, by what two loads gave.
use Rattle.std.proofs.Common.{◌≡◌, ◌≢◌, ℕ, ◌+◌, ◌<◌, ◌≤◌, List, ◌++◌, length, take, drop, Option, Some, None, sym, ◌∙◌, ap, subst, arith, length-append}
use Rattle.std.specs.Prelude.{IfSome}
use Rattle.std.specs.List.{flat_map}
use Rattle.std.proofs.lemmas.List.{append_assoc, length-drop, length-take-le, take-append-drop, take-take, take_at}
use Rattle.log_seams.specs.Disk.{DiskState, ReadsOnly}
use Rattle.record_format.specs.Lists.{four_bytes}
use Rattle.segment_format.specs.declared.fixed.Fixed.{Fixed}
use Rattle.segment_format.specs.declared.head.Head.{Head}
use Rattle.segment_format.specs.Layout.{IsFixed, IsHead, fixed_bytes, fixed_of, head_bytes, head_length}
use Rattle.segment_format.proofs.FixedLemmas.{length-fixed_bytes}
use Rattle.segment_format.proofs.HeadLemmas.{length-head_bytes}
use Rattle.segment_format.proofs.UniqueLemmas.{fixed_once}
use Rattle.disk_journal.specs.declared.walk.RecordPlace.{RecordPlace}
use Rattle.archive_open.specs.StepsNext.{HasHead, HeadTold, NoHeadTold, ReadsHead}
use Rattle.archive_open.specs.Walk.{StandsWhole, payload_in}
use Rattle.archive_open.proofs.ReadLemmas.{both_within, read_within}

payload_long : (p : RecordPlace) (bytes : List ℕ) → StandsWhole p (Some bytes) → length (payload_in p bytes) ≡ p.length
payload_long p bytes whole =
    length-take-le p.length (drop p.payload bytes) (omega (arith, whole.found.within, whole.payload, length-drop p.payload bytes))

head_long : (head : Head) → 45 ≤ length (head_bytes head)
head_long head = omega (arith, length-head_bytes head)

head_within : (p : RecordPlace) (bytes : List ℕ) (head : Head) → StandsWhole p (Some bytes) → HasHead head (payload_in p bytes) → length (head_bytes head) ≤ p.length
head_within p bytes head whole has =
    let all : length (payload_in p bytes) ≡ length (head_bytes head) + length has.rest = ap length has.spells ∙ length-append (head_bytes head) has.rest in
    omega (arith, all, payload_long p bytes whole)

-- the first 45 bytes are the head's fixed part
fixed_front : (p : RecordPlace) (bytes : List ℕ) (head : Head) → StandsWhole p (Some bytes) → HasHead head (payload_in p bytes) → take 45 (drop p.payload bytes) ≡ fixed_bytes (fixed_of head)
fixed_front p bytes head whole has =
    let lists : List ℕ = flat_map four_bytes head.types ++ flat_map four_bytes head.words in
    let low : 45 ≤ p.length = omega (arith, head_long head, head_within p bytes head whole has) in
    sym (take-take 45 p.length (drop p.payload bytes) low) ∙ ap (λ (l : List ℕ). take 45 l) (has.spells ∙ append_assoc (fixed_bytes (fixed_of head)) lists has.rest)
    ∙ take_at (fixed_bytes (fixed_of head)) (lists ++ has.rest) 45 (length-fixed_bytes (fixed_of head))

-- so its length is the one that they say
one_length : (p : RecordPlace) (bytes text : List ℕ) (head : Head) (f : Fixed) → StandsWhole p (Some bytes) → HasHead head (payload_in p bytes)
    → text ≡ take 45 (drop p.payload bytes) → IsFixed f → text ≡ fixed_bytes f → length (head_bytes head) ≡ head_length f
one_length p bytes text head f whole has these fits spells =
    let same : f ≡ fixed_of head = fixed_once f (fixed_of head) fits has.fits.fixed (sym spells ∙ these ∙ fixed_front p bytes head whole has) in
    length-head_bytes head ∙ ap head_length (sym same)

pub too_short : (p : RecordPlace) (seen : Option (List ℕ)) → StandsWhole p seen → p.length < 45 → NoHeadTold p seen
too_short p None whole short = tt
too_short p (Some bytes) whole short = λ head has. omega (arith, short, head_long head, head_within p bytes head whole has)

pub not_fixed : (p : RecordPlace) (seen : Option (List ℕ)) (text : List ℕ) → StandsWhole p seen → IfSome seen (λ bytes. text ≡ take 45 (drop p.payload bytes))
    → ((f : Fixed) → IsFixed f → text ≢ fixed_bytes f) → NoHeadTold p seen
not_fixed p None text whole these none = tt
not_fixed p (Some bytes) text whole these none = λ head has. none (fixed_of head) has.fits.fixed (these ∙ fixed_front p bytes head whole has)

-- the length of the head whose fixed part was read
abbrev pub IsLengthOf : List ℕ → ℕ → Type 0
IsLengthOf text len = (f : Fixed) × IsFixed f × (text ≡ fixed_bytes f) × (len ≡ head_length f)

pub too_long : (p : RecordPlace) (seen : Option (List ℕ)) (text : List ℕ) (len : ℕ) → StandsWhole p seen → IfSome seen (λ bytes. text ≡ take 45 (drop p.payload bytes))
    → IsLengthOf text len → p.length < len → NoHeadTold p seen
too_long p None text len whole these is long = tt
too_long p (Some bytes) text len whole these is long = λ head has.
    omega (arith, long, is.3, one_length p bytes text head is.0 whole has these is.1 is.2, head_within p bytes head whole has)

front_of_payload : (p : RecordPlace) (bytes : List ℕ) (len : ℕ) → len ≤ p.length → take len (payload_in p bytes) ≡ take len (drop p.payload bytes)
front_of_payload p bytes len few = take-take len p.length (drop p.payload bytes) few

pub head_read : (p : RecordPlace) (seen later : Option (List ℕ)) (text : List ℕ) (len : ℕ) (head : Head) → later ≡ seen → len ≤ p.length
    → IfSome later (λ bytes. text ≡ take len (drop p.payload bytes)) → IsHead head → text ≡ head_bytes head → HeadTold head p seen
head_read p None later text len head same few these fits spells = tt
head_read p (Some bytes) later text len head same few these fits spells =
    let here : text ≡ take len (drop p.payload bytes) = subst (λ s. IfSome s (λ b. text ≡ take len (drop p.payload b))) same these in
    record {
      fits = fits;
      rest = drop len (payload_in p bytes);
      spells = sym (take-append-drop len (payload_in p bytes)) ∙ ap (λ (l : List ℕ). l ++ drop len (payload_in p bytes)) (front_of_payload p bytes len few ∙ sym here ∙ spells);
    }

pub no_head_read : (p : RecordPlace) (seen later : Option (List ℕ)) (fixed text : List ℕ) (len : ℕ) → StandsWhole p seen → IfSome seen (λ bytes. fixed ≡ take 45 (drop p.payload bytes))
    → IsLengthOf fixed len → later ≡ seen → len ≤ p.length → IfSome later (λ bytes. text ≡ take len (drop p.payload bytes))
    → ((head : Head) → IsHead head → text ≢ head_bytes head) → NoHeadTold p seen
no_head_read p None later fixed text len whole first is same few these none = tt
no_head_read p (Some bytes) later fixed text len whole first is same few these none = λ head has.
    let here : text ≡ take len (drop p.payload bytes) = subst (λ s. IfSome s (λ b. text ≡ take len (drop p.payload b))) same these in
    let long : length (head_bytes head) ≡ len = one_length p bytes fixed head is.0 whole has first is.1 is.2 ∙ sym is.3 in
    none head has.fits (
    here ∙ sym (front_of_payload p bytes len few) ∙ ap (λ (l : List ℕ). take len l) has.spells ∙ take_at (head_bytes head) has.rest len long
    )

-- ---- ranges

pub fixed_ranges : (p : RecordPlace) (seen : Option (List ℕ)) (old new : DiskState) → ReadsOnly p.payload 45 old new → ReadsHead p seen old.ranges new.ranges
fixed_ranges p None old new reads = tt
fixed_ranges p (Some bytes) old new reads = λ head has. read_within p.payload 45 (length (head_bytes head)) old new (head_long head) reads

pub head_ranges : (p : RecordPlace) (seen : Option (List ℕ)) (text : List ℕ) (len : ℕ) (old mid new : DiskState) → StandsWhole p seen
    → IfSome seen (λ bytes. text ≡ take 45 (drop p.payload bytes)) → IsLengthOf text len → ReadsOnly p.payload 45 old mid → ReadsOnly p.payload len mid new
    → ReadsHead p seen old.ranges new.ranges
head_ranges p None text len old mid new whole these is one two = tt
head_ranges p (Some bytes) text len old mid new whole these is one two = λ head has.
    let long : length (head_bytes head) ≡ head_length is.0 = one_length p bytes text head is.0 whole has these is.1 is.2 in
    both_within p.payload (length (head_bytes head)) old.ranges mid.ranges new.ranges
    (read_within p.payload 45 (length (head_bytes head)) old mid (head_long head) one)
    (read_within p.payload len (length (head_bytes head)) mid new (omega (arith, long, is.3)) two)
