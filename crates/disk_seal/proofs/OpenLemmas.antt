-- From a legal journal to what a store is opened over.
use Rattle.std.proofs.Common.{◌≡◌, ℕ, ◌+◌, ◌≤◌, List, [], ◌∷◌, ◌++◌, map, length, refl, sym, ap, ◌∙◌, subst, Some, None, Option, arith}
use Rattle.std.specs.Prelude.{is_some, replicate, drop, IfSome}
use Rattle.record_format.specs.declared.header.Header.{Header}
use Rattle.record_format.specs.Header.{IsHeader, header_bytes}
use Rattle.disk_journal.specs.Record.{AllFit, Saved, records}
use Rattle.disk_journal.specs.Place.{entries, Added, AtEnd}
use Rattle.disk_journal.specs.State.{JournalState, IsAtEnd}
use Rattle.disk_journal.specs.Calls.{GoesOn, HasAdded}
use Rattle.disk_journal.proofs.SpellingLemmas.{length-frame, stands_one}
use Rattle.archive_meaning.specs.Spelled.{end_of, record_of, records_from, records_of, types_in, types_of}
use Rattle.archive_meaning.specs.StepsForms.{HaveForms}
use Rattle.archive_meaning.specs.Sums.{AddsNames, Admits, AreSums, Sums, end_with as Sums_end_with, no_messages, sums_from}
use Rattle.archive_meaning.proofs.JudgeLemmas.{admitted, end_more, same_types}
use Rattle.archive_meaning.proofs.SumsLemmas.{length-sums}
use Rattle.archive_meaning.specs.Stands.{IsLegal, StandsFor}
use Rattle.archive_meaning.specs.declared.entry.JournalEntry.{JournalEntry}
use Rattle.archive_meaning.specs.declared.entry.JournalEntry.TheVariants.{Files}
use Rattle.archive_meaning.proofs.UniqueLemmas.{legal_back, legal_forms, records_joined}
use Rattle.disk_seal.specs.Told.{IfTold, entry_of, journal_in}
use Rattle.disk_seal.specs.Opening.{MayOpen}
use Rattle.disk_seal.specs.Registered.{StaysOpen}
use Rattle.ingest_meaning.specs.Room.{files_record, files_size}
use Rattle.disk_seal.proofs.NextLemmas.{gate_at}

-- each record of a legal journal gives back its entry
pub entries_of_records : (h : Header) (es : List JournalEntry) → IsHeader h → IsLegal h es → map entry_of (records_of es) ≡ es
unfolding entry_of
entries_of_records h es header legal = legal_back h es header legal

module _ (h : Header) (header : IsHeader h) (es : List JournalEntry) where
  -- what the bytes are told to hold, where their records are those of a legal journal
  pub journal_is : (told : Option (List ℕ)) (n : ℕ) → IfTold (is_some told) ((entries told n ≡ records_of es) × IsLegal h es) → IfTold (is_some told) (journal_in told n ≡ es)
  journal_is None n is = tt
  journal_is (Some bytes) n is = ap (map entry_of) is.0 ∙ entries_of_records h es header is.1

  spelled_by : (told : Option (List ℕ)) (n : ℕ) → IfTold (is_some told) ((entries told n ≡ records_of es) × IsLegal h es) → entries told n ≡ records_of (journal_in told n)
  spelled_by None n is = refl
  spelled_by (Some bytes) n is = is.0 ∙ ap records_of (sym (journal_is (Some bytes) n is))

  legal_by : (told : Option (List ℕ)) (n : ℕ) → IfTold (is_some told) ((entries told n ≡ records_of es) × IsLegal h es) → IfTold (is_some told) (IsLegal h (journal_in told n))
  legal_by None n is = tt
  legal_by (Some bytes) n is = subst (IsLegal h) (sym (journal_is (Some bytes) n is)) is.1

-- a journal at its end that holds a legal one makes a store
pub may_open : (j : JournalState) (es : List JournalEntry) → IsAtEnd j → IsHeader j.header → IfTold (is_some j.disk.seen) ((entries j.disk.seen j.count ≡ records_of es) × IsLegal j.header es) → MayOpen j
may_open j es ends header is = record {
  ends = ends;
  header = header;
  spelled = spelled_by j.header header es j.disk.seen j.count is;
  legal = legal_by j.header header es j.disk.seen j.count is;
}

-- ---- an archive that was opened

forms_fit : (types : List (List ℕ)) (es : List JournalEntry) → HaveForms types es → AllFit (records_from types es)
forms_fit types [] forms = tt
forms_fit types (e ∷ es) forms = (forms.1, forms_fit (types ++ types_in e) es forms.2)

stood_told : (h : Header) (told : Option (List ℕ)) (place n : ℕ) (images : List ℕ → Type 0) → IsHeader h → AtEnd (header_bytes h) place n told images → IfSome told (λ bytes. (es : List JournalEntry) × StandsFor bytes h es)
    → (es : List JournalEntry) × IfTold (is_some told) ((entries told n ≡ records_of es) × IsLegal h es)
stood_told h None place n images header ends stood = ([], tt)
stood_told h (Some bytes) place n images header ends stood = (
  stood.0,
  (
    stands_one (header_bytes h) (records n (drop 32 bytes)) (records_of stood.0) bytes ends.stands stood.1.stands ends.fit (forms_fit [] stood.0 (legal_forms h stood.0 header stood.1.legal)),
    stood.1.legal,
  ),
)

-- a walk that has come to the end of bytes that stand for a legal journal makes a store
pub stood_opens : (j : JournalState) → IsAtEnd j → IsHeader j.header → IfSome j.disk.seen (λ bytes. (es : List JournalEntry) × StandsFor bytes j.header es) → MayOpen j
stood_opens j ends header stood =
    let told = stood_told j.header j.disk.seen j.place j.count j.disk.images header ends.ends stood in
    may_open j told.0 ends header told.1

-- ---- the names of further files

module _ (h : Header) (header : IsHeader h) (es : List JournalEntry) (names : List (List ℕ)) where
  -- a legal journal with names more is one
  names_legal : (legal : IsLegal h es) → AddsNames (length legal.held.names) names → end_of h (es ++ Files names ∷ []) ≤ h.length_limit → IsLegal h (es ++ Files names ∷ [])
  names_legal legal adds short =
      let sums : Sums = record { header = h; types = legal.held.types; words = legal.held.words; files = sums_from 0 legal.held.names legal.held.pieces; end = end_of h es } in
      let are : AreSums sums es = record { header = header; held = legal.held; run = legal.run; named = legal.named; types = refl; words = refl; files = refl; end = refl; short = legal.short } in
      let more : Sums = record sums { files = sums.files ++ replicate (length names) no_messages; end = Sums_end_with sums (Files names) } in
      let types : types_of es ≡ sums.types = sym (same_types sums es are) in
      let end : end_of h (es ++ Files names ∷ []) ≡ end_of h es + 10 + length (record_of (types_of es) (Files names)).payload = end_more h es (Files names) in
      let admits : Admits sums (Files names) more = ((subst (λ n. AddsNames n names) (sym (length-sums 0 legal.held.names legal.held.pieces)) adds, refl), omega (arith, end, short)) in
      let all : AreSums more (es ++ Files names ∷ []) = admitted sums more es (Files names) are admits in
      record { held = all.held; run = all.run; named = all.named; short = subst (λ n. n ≤ h.length_limit) (sym end) (omega (arith, end, short)) }

  records_named : records_of (es ++ Files names ∷ []) ≡ records_of es ++ files_record names ∷ []
  records_named = records_joined [] es (Files names ∷ [])

module _ (h : Header) (header : IsHeader h) (names : List (List ℕ)) (held place : ℕ) where
  -- what is told of a journal, and of the journal with the names
  named_told : (told now : Option (List ℕ)) (count more : ℕ) → is_some now ≡ is_some told → Added told count (files_record names ∷ []) now more
      → entries told count ≡ records_of (journal_in told count) → IfTold (is_some told) (IsLegal h (journal_in told count))
      → IfTold (is_some told) ((legal : IsLegal h (journal_in told count)) → held ≡ length legal.held.names)
      → AddsNames held names → IfTold (is_some told) (place + 1 ≡ end_of h (journal_in told count)) → place + 1 + files_size names ≤ h.length_limit
      → IfTold (is_some now) ((entries now more ≡ records_of (journal_in told count ++ Files names ∷ [])) × IsLegal h (journal_in told count ++ Files names ∷ []))
  named_told None None count more same added spelled legal holds adds gate fits = tt
  named_told None (Some c) count more same added spelled legal holds adds gate fits = absurd (cc (same))
  named_told (Some b) None count more same added spelled legal holds adds gate fits = absurd (cc (same))
  named_told (Some b) (Some c) count more same added spelled legal holds adds gate fits =
      let es = journal_in (Some b) count in
      let end : end_of h (es ++ Files names ∷ []) ≡ end_of h es + 10 + length (record_of (types_of es) (Files names)).payload = end_more h es (Files names) in
      let long : files_size names ≡ 10 + length (files_record names).payload = length-frame (files_record names) in (
        added ∙ (ap (λ (l : List Saved). l ++ files_record names ∷ []) spelled ∙ sym (records_named h header es names)),
        names_legal h header es names legal (subst (λ n. AddsNames n names) (holds legal) adds) (omega (arith, end, long, gate, fits)),
      )

-- behind names a store can be opened over the journal where one could be before
pub registered : (old new : JournalState) (names : List (List ℕ)) (held : ℕ) → AddsNames held names → GoesOn old new → HasAdded (files_record names ∷ []) (files_size names) old new
    → old.place + 1 + files_size names ≤ old.header.length_limit → StaysOpen held old new
registered old new names held adds goes added fits may holds =
    let header : IsHeader new.header = subst IsHeader (sym goes.header) may.header in
    may_open new (journal_in old.disk.seen old.count ++ Files names ∷ []) added.ends header
    (subst (λ h. IfTold (is_some new.disk.seen) ((entries new.disk.seen new.count ≡ records_of (journal_in old.disk.seen old.count ++ Files names ∷ [])) × IsLegal h (journal_in old.disk.seen old.count ++ Files names ∷ []))) (sym goes.header)
    (named_told old.header may.header names held old.place old.disk.seen new.disk.seen old.count new.count goes.tells added.added may.spelled may.legal holds adds
    (gate_at old.header old.disk.seen old.place old.count old.disk.images may.ends.ends may.spelled) fits))
