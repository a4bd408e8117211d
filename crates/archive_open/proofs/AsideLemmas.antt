-- What is read beside the columns of segments.
use Rattle.std.proofs.Common.{◌≡◌, ◌⊎◌, inl, inr, ℕ, zero, suc, ◌+◌, ◌<◌, ◌≤◌, List, [], ◌∷◌, ◌++◌, length, take, drop, Option, Some, None, refl, sym, ◌∙◌, ap, ap₂, subst, arith, length-append}
use Rattle.std.proofs.lemmas.List.{append-nil, append_assoc}
use Rattle.std.proofs.lemmas.List.Elements.{All-nil, All-append, All-weaker}
use Rattle.log_seams.specs.Disk.{DiskState, ReadsOnly}
use Rattle.record_format.specs.declared.header.Header.{Header}
use Rattle.segment_format.specs.Layout.{columns_bytes, head_bytes}
use Rattle.disk_journal.specs.Record.{spelled}
use Rattle.disk_journal.specs.Place.{HasRecord}
use Rattle.disk_journal.specs.declared.walk.RecordPlace.{RecordPlace}
use Rattle.archive_meaning.specs.declared.entry.SegmentEntry.{SegmentEntry}
use Rattle.archive_meaning.specs.declared.entry.JournalEntry.{JournalEntry}
use Rattle.archive_meaning.specs.declared.entry.JournalEntry.TheVariants.{Files, Types, Words, Segment}
use Rattle.archive_meaning.specs.Spelled.{front_of, record_of, records_from, types_of}
use Rattle.archive_meaning.proofs.JudgeLemmas.{end_more}
use Rattle.archive_meaning.proofs.UniqueLemmas.{front_joined, stands_begins}
use Rattle.archive_open.specs.Shown.{Misses, ReadsAside, Spares, columns_begin, columns_end, head_in}
use Rattle.archive_open.specs.StepsNext.{IsOpening}
use Rattle.archive_open.specs.Walk.{Keeping, ReadsOf, ReadsWithin, shown_len}
use Rattle.archive_open.proofs.NextLemmas.{front_length}
use Rattle.archive_open.proofs.ReadLemmas.{Ranges, none_added, read_within, two_added}
use Rattle.archive_open.proofs.WalkLemmas.{entry_at, goes_on, next_here}

-- ---- ranges aside

pub within_aside : (h : Header) (es : List JournalEntry) (at n : ℕ) (old new : Ranges) → ReadsWithin at n old new
    → ((x k : ℕ) → at ≤ x → x + k ≤ at + n → Misses h es x k) → ReadsAside h es old new
within_aside h es at n old new reads misses = record {
  more = reads.more;
  added = reads.added;
  aside = All-weaker (λ r. (at ≤ r.0) × (r.0 + r.1 ≤ at + n)) (λ r. Misses h es r.0 r.1) (λ r in_range. misses r.0 r.1 in_range.0 in_range.1) reads.more reads.within;
}

pub both_aside : (h : Header) (es : List JournalEntry) (old mid new : Ranges) → ReadsAside h es old mid → ReadsAside h es mid new → ReadsAside h es old new
both_aside h es old mid new one two = record {
  more = one.more ++ two.more;
  added = two_added old mid new one.more two.more one.added two.added;
  aside = All-append (λ r. Misses h es r.0 r.1) one.more two.more one.aside two.aside;
}

pub spares_on : (seen later : Option (List ℕ)) (old mid new : Ranges) → later ≡ seen → Spares seen old mid → Spares later mid new → Spares seen old new
spares_on None later old mid new same one two = tt
spares_on (Some bytes) later old mid new same one two = λ h es stood.
    both_aside h es old mid new (one h es stood) (subst (λ s. Spares s mid new) same two h es stood)

pub spares_none : (seen : Option (List ℕ)) (old : Ranges) → Spares seen old old
spares_none None old = tt
spares_none (Some bytes) old = λ h es stood. record {
  more = [];
  added = none_added old;
  aside = All-nil (λ r. Misses h es r.0 r.1);
}

-- ---- which ranges are aside

longer : (h : Header) (es more : List JournalEntry) → length (front_of h es) ≤ length (front_of h (es ++ more))
longer h es more = omega (arith, ap length (front_joined h es more), length-append (front_of h es) (spelled (records_from (types_of es) more)))

pub header_aside : (h : Header) (es : List JournalEntry) (x k : ℕ) → x + k ≤ 32 → Misses h es x k
header_aside h es x k low before after s is = inl (omega (arith, low, front_length h before))

-- where a list is cut in two ways
cut : (done rest before after : List JournalEntry) (x : JournalEntry) → done ++ rest ≡ before ++ x ∷ after
    → ((more : List JournalEntry) × (done ≡ before ++ x ∷ more)) ⊎ ((mid : List JournalEntry) × ((before ≡ done ++ mid) × (rest ≡ mid ++ x ∷ after)))
cut [] rest before after x is = inr (before, (refl, is))
cut (d ∷ done) rest [] after x is = inl (done, ap (λ (y : JournalEntry). y ∷ done) (cc (is)))
cut (d ∷ done) rest (b ∷ before) after x is =
    let same : d ≡ b = cc (is) in
    let tail : done ++ rest ≡ before ++ x ∷ after = ap (λ (l : List JournalEntry). drop 1 l) is in
    elim (cut done rest before after x tail) as (λ z. ((more : List JournalEntry) × (d ∷ done ≡ (b ∷ before) ++ x ∷ more)) ⊎ ((mid : List JournalEntry) × ((b ∷ before ≡ (d ∷ done) ++ mid) × (rest ≡ mid ++ x ∷ after)))) [
      | inl more ↦ inl (more.0, ap₂ (λ (y : JournalEntry) (l : List JournalEntry). y ∷ l) same more.1)
      | inr mid ↦ inr (mid.0, (ap₂ (λ (y : JournalEntry) (l : List JournalEntry). y ∷ l) (sym same) mid.1.0, mid.1.1))
    ]

-- how many bytes behind the front are read, gate and all
abbrev pub shown_behind : List JournalEntry → List JournalEntry → ℕ
shown_behind done [] = 10
shown_behind done (e ∷ rest) = 10 + shown_len (types_of done) e

shown_short : (types : List (List ℕ)) (e : JournalEntry) → shown_len types e ≤ length (record_of types e).payload
shown_short types (Files names) = omega arith
shown_short types (Types first texts) = omega arith
shown_short types (Words first texts) = omega arith
shown_short types (Segment s) = omega (arith, length-append (head_bytes (head_in types s)) (columns_bytes s.rows))

before_columns : (h : Header) (done mid rest after before : List JournalEntry) (s : SegmentEntry) (x k : ℕ) → before ≡ done ++ mid → rest ≡ mid ++ Segment s ∷ after
    → x + k ≤ length (front_of h done) + shown_behind done rest → x + k ≤ columns_begin h before s
before_columns h done [] rest after before s x k cuts behind few =
    let same : before ≡ done = cuts ∙ append-nil done in
    subst (λ b. x + k ≤ columns_begin h b s) (sym same) (omega (arith, subst (λ l. x + k ≤ length (front_of h done) + shown_behind done l) behind few))
before_columns h done (m ∷ mid) rest after before s x k cuts behind few =
    let here : x + k ≤ length (front_of h done) + (10 + shown_len (types_of done) m) = subst (λ l. x + k ≤ length (front_of h done) + shown_behind done l) behind few in
    let whole : before ≡ (done ++ m ∷ []) ++ mid = cuts ∙ sym (append_assoc done (m ∷ []) mid) in
    let long : length (front_of h (done ++ m ∷ [])) ≤ length (front_of h before) = subst (λ b. length (front_of h (done ++ m ∷ [])) ≤ length (front_of h b)) (sym whole) (longer h (done ++ m ∷ []) mid) in
    omega (arith, here, long, end_more h done m, shown_short (types_of done) m)

pub front_aside : (h : Header) (done rest es : List JournalEntry) → es ≡ done ++ rest → (x k : ℕ) → length (front_of h done) ≤ x
    → x + k ≤ length (front_of h done) + shown_behind done rest → Misses h es x k
front_aside h done rest es is x k past few before after s cuts =
    elim (cut done rest before after (Segment s) (sym is ∙ cuts)) as (λ z. (x + k ≤ columns_begin h before s) ⊎ (columns_end h before s ≤ x)) [
      | inl more ↦
          let whole : done ≡ (before ++ Segment s ∷ []) ++ more.0 = more.1 ∙ sym (append_assoc before (Segment s ∷ []) more.0) in
          let long : columns_end h before s ≤ length (front_of h done) = subst (λ b. columns_end h before s ≤ length (front_of h b)) (sym whole) (longer h (before ++ Segment s ∷ []) more.0) in
          inr (omega (arith, long, past))
      | inr mid ↦ inl (before_columns h done mid.0 rest after before s x k mid.1.0 mid.1.1 few)
    ]

-- the first n entries and those behind
take_drop : (es : List JournalEntry) (n : ℕ) → es ≡ take n es ++ drop n es
take_drop es zero = refl
take_drop [] (suc n) = refl
take_drop (e ∷ es) (suc n) = ap (λ l. e ∷ l) (take_drop es n)

ten_shown : (done rest : List JournalEntry) → 10 ≤ shown_behind done rest
ten_shown done [] = omega arith
ten_shown done (e ∷ rest) = omega arith

-- ---- the reads of the walk

module _ (b : Keeping) (header : Header) (place count : ℕ) (bytes : List ℕ) (o : IsOpening b header place count bytes) where
  pub gate_spared : (old new : DiskState) → ReadsOnly place 10 old new → Spares (Some bytes) old.ranges new.ranges
  gate_spared old new reads = λ h es stood.
      let at : place ≡ length (front_of h (take count es)) = o.stood h es (stands_begins bytes h es stood) (o.far h es stood) in
      within_aside h es place 10 old.ranges new.ranges (read_within place 10 10 old new (omega arith) reads)
      (λ x k low high. front_aside h (take count es) (drop count es) es (take_drop es count) x k (omega (arith, at, low))
      (omega (arith, at, high, ten_shown (take count es) (drop count es))))

  pub record_spared : (p : RecordPlace) → p.at ≡ place → p.payload ≡ p.at + 10 → HasRecord p.at p.kind p.length bytes → (old new : Ranges)
      → ReadsOf p (Some bytes) old new → Spares (Some bytes) old new
  record_spared p here payload found old new reads = λ h es stood.
      let begins = stands_begins bytes h es stood in
      let less : count < length es = goes_on b header place count bytes o p here payload found h es stood in
      let has = entry_at es count less in
      let next = next_here b header place count bytes o p here payload found h es begins less in
      within_aside h es p.payload (shown_len (types_of (take count es)) has.e) old new (reads h (take count es) has.e next)
      (λ x k low high. front_aside h (take count es) (has.e ∷ has.rest) es has.all x k (omega (arith, next.gate, payload, low)) (omega (arith, next.gate, payload, high)))
