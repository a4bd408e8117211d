-- Bytes begin with one row of legal journals, each the front of the next; they stand for one of them, or are damaged first at one place.
use Rattle.std.proofs.Common.{◌≡◌, ◌≢◌, inl, inr, ℕ, ◌+◌, ◌≤◌, List, [], ◌∷◌, ◌++◌, length, take, drop, refl, sym, ◌∙◌, ap, subst, arith, length-append}
use Rattle.std.proofs.lemmas.List.{append-nil, append_assoc, append_cancel_left, take_at}
use Rattle.std.proofs.lemmas.Bool.{cases_lt}
use Rattle.disk_journal.specs.Record.{Saved, body, spelled}
use Rattle.record_format.specs.declared.header.Header.{Header}
use Rattle.record_format.specs.Header.{IsHeader, header_bytes}
use Rattle.record_format.proofs.HeaderLemmas.{length-header_bytes, one_header}
use Rattle.archive_meaning.specs.declared.entry.JournalEntry.{JournalEntry}
use Rattle.archive_meaning.specs.declared.entry.JournalEntry.TheVariants.{Files, Types, Words, Segment}
use Rattle.archive_meaning.specs.Held.{nothing_held}
use Rattle.archive_meaning.specs.Legal.{AreNamed}
use Rattle.archive_meaning.specs.Spelled.{front_of, record_of, records_from, records_of, types_in, types_of}
use Rattle.archive_meaning.specs.Stands.{Begins, HasHeader, IsBadBehind, IsDamagedAt, IsLegal, StandsFor}
use Rattle.archive_meaning.specs.Laws.{DamageIsBehind, EntriesReadBack, JournalsAreWhole, OneDamage, OneJournal}
use Rattle.archive_meaning.proofs.BackLemmas.{entries_back}
use Rattle.archive_meaning.proofs.LegalLemmas.{run_forms}
use Rattle.archive_meaning.proofs.RunLemmas.{runs_split}
use Rattle.archive_meaning.proofs.SpellingLemmas.{one_front}
use Rattle.archive_meaning.specs.StepsForms.{HaveForms}

pub legal_forms : (h : Header) (es : List JournalEntry) → IsHeader h → IsLegal h es → HaveForms [] es
legal_forms h es header legal =
    let size : length (front_of h es) ≡ length (header_bytes h) + length (spelled (records_of es)) = length-append (header_bytes h) (spelled (records_of es)) in
    run_forms h nothing_held legal.held es 0 header (omega arith) legal.run legal.named (omega arith) (omega (arith, legal.short, header.most_length, size))

pub legal_back : EntriesReadBack
legal_back h es header legal = entries_back [] es (legal_forms h es header legal)

-- ---- records of entries one behind the other

pub records_joined : (types : List (List ℕ)) (es fs : List JournalEntry) → records_from types (es ++ fs) ≡ records_from types es ++ records_from (types ++ types_of es) fs
records_joined types [] fs = ap (λ t. records_from t fs) (sym (append-nil types))
records_joined types (e ∷ es) fs =
    ap (λ (l : List Saved). record_of types e ∷ l) (
    records_joined (types ++ types_in e) es fs
    ∙ ap (λ t. records_from (types ++ types_in e) es ++ records_from t fs) (append_assoc types (types_in e) (types_of es))
    )

pub spelled_joined : (rs ss : List Saved) → spelled (rs ++ ss) ≡ spelled rs ++ spelled ss
spelled_joined [] ss = refl
spelled_joined (r ∷ rs) ss = ap (λ (l : List ℕ). 1 ∷ body r ++ l) (spelled_joined rs ss) ∙ sym (append_assoc (1 ∷ body r) (spelled rs) (spelled ss))

pub front_joined : (h : Header) (es fs : List JournalEntry) → front_of h (es ++ fs) ≡ front_of h es ++ spelled (records_from (types_of es) fs)
front_joined h es fs =
    ap (λ (l : List Saved). header_bytes h ++ spelled l) (records_joined [] es fs)
    ∙ ap (λ (l : List ℕ). header_bytes h ++ l) (spelled_joined (records_of es) (records_from (types_of es) fs))
    ∙ sym (append_assoc (header_bytes h) (spelled (records_of es)) (spelled (records_from (types_of es) fs)))

-- ---- fronts of legal journals

named_front : (count : ℕ) (es fs : List JournalEntry) → AreNamed count (es ++ fs) → AreNamed count es
named_front count [] fs named = tt
named_front count (Files names ∷ es) fs named = (named.0, named.1, named.2, named.3, named_front (count + length names) es fs named.4)
named_front count (Types first texts ∷ es) fs named = named_front count es fs named
named_front count (Words first texts ∷ es) fs named = named_front count es fs named
named_front count (Segment s ∷ es) fs named = (named.0, named_front count es fs named.1)

-- the front of a legal journal is one
pub legal_front : (h : Header) (es fs : List JournalEntry) → IsLegal h (es ++ fs) → IsLegal h es
legal_front h es fs legal =
    let split = runs_split h nothing_held legal.held es fs legal.run in
    record {
      held = split.0;
      run = split.1;
      named = named_front 0 es fs legal.named;
      short = omega (arith, legal.short, ap length (front_joined h es fs), length-append (front_of h es) (spelled (records_from (types_of es) fs)));
    }

-- ---- what bytes begin with

same_head : (g h : Header) (x y : List ℕ) → IsHeader g → IsHeader h → header_bytes g ++ x ≡ header_bytes h ++ y → g ≡ h
same_head g h x y header_g header_h same =
    one_header g h header_g header_h (
    sym (take_at (header_bytes g) x 32 (length-header_bytes g)) ∙ ap (λ (l : List ℕ). take 32 l) same
    ∙ take_at (header_bytes h) y 32 (length-header_bytes h)
    )

pub one_beginning : (bytes : List ℕ) (g h : Header) (es fs : List JournalEntry) → Begins bytes g es → Begins bytes h fs
    → length es ≤ length fs → (g ≡ h) × ((rest : List JournalEntry) × (fs ≡ es ++ rest))
one_beginning bytes g h es fs one two few =
    let both : header_bytes g ++ (spelled (records_of es) ++ one.rest) ≡ header_bytes h ++ (spelled (records_of fs) ++ two.rest) =
    sym (append_assoc (header_bytes g) (spelled (records_of es)) one.rest) ∙ sym one.spells ∙ two.spells
    ∙ append_assoc (header_bytes h) (spelled (records_of fs)) two.rest in
    let same : g ≡ h = same_head g h _ _ one.header two.header both in
    let behind : spelled (records_of es) ++ one.rest ≡ spelled (records_of fs) ++ two.rest =
    append_cancel_left (header_bytes h) _ _ (subst (λ k. header_bytes k ++ (spelled (records_of es) ++ one.rest) ≡ header_bytes h ++ (spelled (records_of fs) ++ two.rest)) same both) in
    (same, one_front [] es fs one.rest two.rest (legal_forms g es one.header one.legal) (legal_forms h fs two.header two.legal) behind few)

-- where a longer journal goes on, the gate behind the shorter is open and the next record follows
goes_on : (h : Header) (es more : List JournalEntry) (e : JournalEntry) (x y : List ℕ) → front_of h es ++ x ≡ front_of h (es ++ e ∷ more) ++ y
    → x ≡ 1 ∷ body (record_of (types_of es) e) ++ (spelled (records_from (types_of es ++ types_in e) more) ++ y)
goes_on h es more e x y same =
    let next : List ℕ = spelled (records_from (types_of es ++ types_in e) more) in
    let here : List ℕ = 1 ∷ body (record_of (types_of es) e) in
    append_cancel_left (front_of h es) _ _ (
    same ∙ ap (λ (l : List ℕ). l ++ y) (front_joined h es (e ∷ more)) ∙ append_assoc (front_of h es) (here ++ next) y
    ∙ ap (λ (l : List ℕ). front_of h es ++ l) (append_assoc here next y)
    )

next_legal : (h : Header) (es more : List JournalEntry) (e : JournalEntry) → IsLegal h (es ++ e ∷ more) → IsLegal h (es ++ e ∷ [])
next_legal h es more e legal = legal_front h (es ++ e ∷ []) more (subst (λ l. IsLegal h l) (sym (append_assoc es (e ∷ []) more)) legal)

not_bad : (h : Header) (es more : List JournalEntry) (e : JournalEntry) (rest after : List ℕ) → IsLegal h (es ++ e ∷ more)
    → rest ≡ 1 ∷ body (record_of (types_of es) e) ++ after → IsBadBehind h es rest → ⊥
not_bad h es more e [] after legal is bad = absurd (cc (is))
not_bad h es more e (gate ∷ rest) after legal is bad = bad.1 e after (next_legal h es more e legal) (ap (λ (l : List ℕ). drop 1 l) is)

-- no journal that the bytes begin with goes past a bad place
pub bad_stops : (bytes : List ℕ) (h : Header) (es fs rest : List JournalEntry) → (one : Begins bytes h es) → Begins bytes h fs → fs ≡ es ++ rest
    → IsBadBehind h es one.rest → rest ≡ []
bad_stops bytes h es fs [] one two is bad = refl
bad_stops bytes h es fs (e ∷ more) one two is bad =
    let same : front_of h es ++ one.rest ≡ front_of h (es ++ e ∷ more) ++ two.rest =
    sym one.spells ∙ two.spells ∙ ap (λ l. front_of h l ++ two.rest) is in
    absurd (not_bad h es more e one.rest _ (subst (λ l. IsLegal h l) is two.legal) (goes_on h es more e one.rest two.rest same) bad)

-- nor past a closed gate
pub closed_stops : (bytes : List ℕ) (h : Header) (es fs rest : List JournalEntry) (gate : ℕ) (after : List ℕ) → bytes ≡ front_of h es ++ gate ∷ after
    → gate ≢ 1 → Begins bytes h fs → fs ≡ es ++ rest → rest ≡ []
closed_stops bytes h es fs [] gate after spells shut two is = refl
closed_stops bytes h es fs (e ∷ more) gate after spells shut two is =
    let same : front_of h es ++ gate ∷ after ≡ front_of h (es ++ e ∷ more) ++ two.rest =
    sym spells ∙ two.spells ∙ ap (λ l. front_of h l ++ two.rest) is in
    absurd (shut (cc (goes_on h es more e (gate ∷ after) two.rest same)))

-- ---- the laws

begins_of : (bytes : List ℕ) (h : Header) (es : List JournalEntry) → (stood : StandsFor bytes h es) → bytes ≡ front_of h es ++ stood.stands.gate ∷ stood.stands.rest
begins_of bytes h es stood = stood.stands.spells

pub stands_begins : (bytes : List ℕ) (h : Header) (es : List JournalEntry) → StandsFor bytes h es → Begins bytes h es
stands_begins bytes h es stood = record {
  header = stood.header;
  legal = stood.legal;
  rest = stood.stands.gate ∷ stood.stands.rest;
  spells = begins_of bytes h es stood;
}

-- the journal that bytes stand for is not shorter than one that they begin with
stood_long : (bytes : List ℕ) (g h : Header) (es fs : List JournalEntry) → StandsFor bytes g es → Begins bytes h fs → length es ≤ length fs → (g ≡ h) × (es ≡ fs)
stood_long bytes g h es fs one two few =
    let both = one_beginning bytes g h es fs (stands_begins bytes g es one) two few in
    let end : both.1.0 ≡ [] = closed_stops bytes g es fs both.1.0 one.stands.gate one.stands.rest (begins_of bytes g es one) one.stands.closed
    (subst (λ k. Begins bytes k fs) (sym both.0) two) both.1.1 in
    (both.0, sym (both.1.1 ∙ ap (λ l. es ++ l) end ∙ append-nil es))

pub one_journal : OneJournal
one_journal bytes g h es fs one two = elim (cases_lt (length es) (length fs)) as (λ x. (g ≡ h) × (es ≡ fs)) [
  | inl less ↦ stood_long bytes g h es fs one (stands_begins bytes h fs two) (omega (arith, less))
  | inr few ↦
      let back : (h ≡ g) × (fs ≡ es) = stood_long bytes h g fs es two (stands_begins bytes g es one) few in
      (sym back.0, sym back.1)
]

-- a journal that bytes begin with is not longer than one behind which they are bad
damage_long : (bytes : List ℕ) (g h : Header) (es fs : List JournalEntry) → (one : Begins bytes g es) → IsBadBehind g es one.rest → Begins bytes h fs
    → length es ≤ length fs → (g ≡ h) × (es ≡ fs)
damage_long bytes g h es fs one bad two few =
    let both = one_beginning bytes g h es fs one two few in
    let end : both.1.0 ≡ [] = bad_stops bytes g es fs both.1.0 one (subst (λ k. Begins bytes k fs) (sym both.0) two) both.1.1 bad in
    (both.0, sym (both.1.1 ∙ ap (λ l. es ++ l) end ∙ append-nil es))

has_header : (bytes : List ℕ) (h : Header) (es : List JournalEntry) → Begins bytes h es → HasHeader bytes
has_header bytes h es begins = record {
  h = h;
  header = begins.header;
  spells = ap (λ (l : List ℕ). take 32 l) (begins.spells ∙ append_assoc (header_bytes h) (spelled (records_of es)) begins.rest)
      ∙ take_at (header_bytes h) _ 32 (length-header_bytes h);
}

same_place : (g h : Header) (es fs : List JournalEntry) → g ≡ h → es ≡ fs → length (front_of g es) ≡ length (front_of h fs)
same_place g h es fs heads entries = ap (λ k. length (front_of k es)) heads ∙ ap (λ l. length (front_of h l)) entries

two_damages : (bytes : List ℕ) (a b : ℕ) → IsDamagedAt bytes a → IsDamagedAt bytes b → a ≡ b
two_damages bytes a b one two = elim (cases_lt (length one.es) (length two.es)) as (λ x. a ≡ b) [
  | inl less ↦
      let same = damage_long bytes one.h two.h one.es two.es one.begins one.bad two.begins (omega (arith, less)) in
      one.gate ∙ same_place one.h two.h one.es two.es same.0 same.1 ∙ sym two.gate
  | inr few ↦
      let same = damage_long bytes two.h one.h two.es one.es two.begins two.bad one.begins few in
      one.gate ∙ sym (same_place two.h one.h two.es one.es same.0 same.1) ∙ sym two.gate
]

pub one_damage : OneDamage
one_damage bytes a b (inl one) (inl two) = one.0 ∙ sym two.0
one_damage bytes a b (inl one) (inr two) = absurd (one.1 (has_header bytes two.h two.es two.begins))
one_damage bytes a b (inr one) (inl two) = absurd (two.1 (has_header bytes one.h one.es one.begins))
one_damage bytes a b (inr one) (inr two) = two_damages bytes a b one two

-- bad is neither a closed gate nor the next one's
closed_bad : (h : Header) (es : List JournalEntry) (rest : List ℕ) (gate : ℕ) (after : List ℕ) → rest ≡ gate ∷ after → gate ≢ 1 → IsBadBehind h es rest → ⊥
closed_bad h es [] gate after is shut bad = absurd (cc (is))
closed_bad h es (g ∷ rest) gate after is shut bad = shut (sym (cc (is)) ∙ bad.0)

whole_or_bad : (bytes : List ℕ) (h : Header) (es : List JournalEntry) (at : ℕ) → StandsFor bytes h es → IsDamagedAt bytes at → ⊥
whole_or_bad bytes h es at stood bad =
    let begins = stands_begins bytes h es stood in
    let same : (bad.h ≡ h) × (bad.es ≡ es) = elim (cases_lt (length es) (length bad.es)) as (λ x. (bad.h ≡ h) × (bad.es ≡ es)) [
      | inl less ↦
          let back : (h ≡ bad.h) × (es ≡ bad.es) = stood_long bytes h bad.h es bad.es stood bad.begins (omega (arith, less)) in
          (sym back.0, sym back.1)
      | inr few ↦ damage_long bytes bad.h h bad.es es bad.begins bad.bad begins few
    ] in
    let rest : bad.begins.rest ≡ stood.stands.gate ∷ stood.stands.rest =
    append_cancel_left (front_of h es) _ _ (
    ap (λ l. l ++ bad.begins.rest) (sym (ap (λ k. front_of k bad.es) same.0 ∙ ap (λ l. front_of h l) same.1))
    ∙ sym bad.begins.spells ∙ begins_of bytes h es stood
    ) in
    closed_bad bad.h bad.es bad.begins.rest stood.stands.gate stood.stands.rest rest stood.stands.closed bad.bad

pub journals_are_whole : JournalsAreWhole
journals_are_whole bytes h es at stood (inl none) = none.1 (has_header bytes h es (stands_begins bytes h es stood))
journals_are_whole bytes h es at stood (inr bad) = whole_or_bad bytes h es at stood bad

longer_front : (h : Header) (es rest : List JournalEntry) → length (front_of h es) ≤ length (front_of h (es ++ rest))
longer_front h es rest = omega (arith, ap length (front_joined h es rest), length-append (front_of h es) (spelled (records_from (types_of es) rest)))

pub damage_is_behind : DamageIsBehind
damage_is_behind bytes h es at begins (inl none) = absurd (none.1 (has_header bytes h es begins))
damage_is_behind bytes h es at begins (inr bad) = elim (cases_lt (length es) (length bad.es)) as (λ x. length (front_of h es) ≤ at) [
  | inl less ↦
      let both = one_beginning bytes h bad.h es bad.es begins bad.begins (omega (arith, less)) in
      let place : length (front_of bad.h bad.es) ≡ length (front_of h (es ++ both.1.0)) = same_place bad.h h bad.es (es ++ both.1.0) (sym both.0) both.1.1 in
      omega (arith, bad.gate, place, longer_front h es both.1.0)
  | inr few ↦
      let same = damage_long bytes bad.h h bad.es es bad.begins bad.bad begins few in
      omega (arith, bad.gate, same_place bad.h h bad.es es same.0 same.1)
]
