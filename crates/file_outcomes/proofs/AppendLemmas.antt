-- From an archive that was opened to one in which new files have their names.
use Rattle.std.proofs.Common.{◌≡◌, ◌+◌, ◌<◌, ◌≤◌, refl, sym, ap, subst, ◌∙◌, ℕ, suc, List, [], ◌∷◌, ◌++◌, false, length, map, Option, Some, None}
use Rattle.std.specs.Prelude.{IfSome, is_some}
use Rattle.std.proofs.lemmas.List.{length-map}
use Rattle.record_format.specs.declared.header.Header.{Header}
use Rattle.record_format.specs.Header.{IsHeader, header_bytes}
use Rattle.dict_core.specs.Books.{BookState}
use Rattle.disk_journal.specs.Record.{Stands}
use Rattle.disk_journal.specs.Place.{AtEnd, entries}
use Rattle.disk_journal.specs.State.{BeginsWith, IsAtEnd, JournalState}
use Rattle.archive_meaning.specs.declared.entry.JournalEntry.{JournalEntry}
use Rattle.archive_meaning.specs.declared.entry.JournalEntry.TheVariants.{Files}
use Rattle.archive_meaning.specs.Held.{Held, Piece, content_of, files_from}
use Rattle.archive_meaning.specs.Spelled.{records_of, types_of}
use Rattle.archive_meaning.specs.Stands.{IsLegal, StandsFor}
use Rattle.archive_meaning.specs.Sums.{AddsNames}
use Rattle.archive_open.specs.Kept.{Kept}
use Rattle.archive_open.specs.Shown.{IsArchiveOf, Looks, Opens, Shown}
use Rattle.disk_seal.specs.Told.{IfTold, journal_in}
use Rattle.disk_seal.specs.Opening.{MayOpen}
use Rattle.disk_seal.specs.Registered.{HoldsNames}
use Rattle.ingest_meaning.specs.WordsIn.{words_of}
use Rattle.disk_seal.proofs.OpenLemmas.{stood_opens}
use Rattle.disk_seal.proofs.ToldLemmas.{told_both, told_map}
use Rattle.ingest_workers.specs.Ingested.{told_entries}
use Rattle.ingest_workers.specs.Journal.{Holds}
use Rattle.name_records.specs.Named.{HasNames}
use Rattle.command_answers.specs.Names.{RefusesMore, RefusesNames}
use Rattle.file_outcomes.specs.Naming.{HasNamesMore, IsHeldBy, IsNamed}
use Rattle.command_refusals.specs.Reading.{IsArchive}
use Rattle.file_outcomes.proofs.JoinLemmas.{new_file, types_held, types_named, words_held, words_named}

-- ---- the names

-- names that are not refused may be added
pub may_add : (held : ℕ) (names : List (List ℕ)) → RefusesNames names None → 1 ≤ length names → RefusesMore held (length names) None → AddsNames held names
may_add held names fine some few = record { some = some; few = fine.1; short = fine.0; all = few }

pub length-files : (k : ℕ) (names : List (List ℕ)) (ps : List Piece) → length (files_from k names ps) ≡ length names
length-files k [] ps = refl
length-files k (name ∷ names) ps = ap suc (length-files (k + 1) names ps)

-- the archive has as many files as names
pub files_counted : (h : Header) (es : List JournalEntry) (a : Shown) (held : Held) (count : ℕ) → IsArchiveOf a h es held → count ≡ length a.files → count ≡ length held.names
files_counted h es a held count is same = same ∙ (ap length is.files ∙ (length-map (content_of held) _ ∙ length-files 0 held.names held.pieces))

-- ---- the archive that was opened

stood_by : (told : Option (List ℕ)) (h : Header) (a : Shown) → IfSome told IsArchive → Opens told a → a.header ≡ h → IfSome told (λ bytes. (es : List JournalEntry) × StandsFor bytes h es)
stood_by None h a is opens same = tt
stood_by (Some bytes) h a is opens same =
    let one : IsArchiveOf a is.h is.es is.stands.legal.held = opens is.h is.es is.stands in
    (is.es, subst (λ x. StandsFor bytes x is.es) (sym one.header ∙ same) is.stands)

-- what the archive shows of the journal that is read
abbrev ShowsOf : Shown → Header → List JournalEntry → Type 0
ShowsOf a h es = (legal : IsLegal h es) → IsArchiveOf a h es legal.held

shows_of : (h : Header) (told : Option (List ℕ)) (place n : ℕ) (images : List ℕ → Type 0) (a : Shown) → IsHeader h → Opens told a → AtEnd (header_bytes h) place n told images → entries told n ≡ records_of (journal_in told n)
    → IfTold (is_some told) (ShowsOf a h (journal_in told n))
shows_of h None place n images a header opens ends spelled = tt
shows_of h (Some bytes) place n images a header opens ends spelled =
    λ legal. opens h (journal_in (Some bytes) n) (record { header = header; legal = legal; stands = subst (λ rs. Stands (header_bytes h) rs bytes) spelled ends.stands })

-- The archive was opened from the first record on, and the journal is at its end.
pub record OpensFrom (old now : JournalState) (a : Shown) : Type 0 where
  pub begins : BeginsWith old.header old.disk
  pub archive : IfSome old.disk.seen IsArchive
  pub looks : Looks old now
  pub opened : Opens old.disk.seen a
  pub header : a.header ≡ old.header
  pub ends : IsAtEnd now

module _ (old now : JournalState) (a : Shown) (from : OpensFrom old now a) where
  pub may_append : MayOpen now
  may_append =
      let stood = stood_by old.disk.seen old.header a from.archive from.opened from.header in
      stood_opens now from.ends (subst IsHeader (sym from.looks.header) from.begins.legal)
      (subst (λ told. IfSome told (λ bytes. (es : List JournalEntry) × StandsFor bytes now.header es)) (sym from.looks.rests.seen)
      (subst (λ h. IfSome old.disk.seen (λ bytes. (es : List JournalEntry) × StandsFor bytes h es)) (sym from.looks.header) stood))

  shows_now : IfTold (is_some now.disk.seen) (ShowsOf a now.header (told_entries now))
  shows_now = shows_of now.header now.disk.seen now.place now.count now.disk.images a may_append.header (subst (λ told. Opens told a) (sym from.looks.rests.seen) from.opened) may_append.ends.ends may_append.spelled

  pub holds_names : (held : ℕ) → held ≡ length a.files → HoldsNames held now
  holds_names held same = told_map (is_some now.disk.seen) (λ (shows : ShowsOf a now.header (told_entries now)). λ legal. files_counted now.header (told_entries now) a legal.held held (shows legal) same) shows_now

-- ---- both books, and the new files

-- what an ingest needs of the entries, by the archive that was opened
record IsReady (h : Header) (es : List JournalEntry) (types words : BookState) (first count : ℕ) : Type 0 where
  pub types_are : (types.texts ≡ types_of es) × (types.limit ≡ h.types_limit)
  pub words_are : (words.texts ≡ words_of es) × (words.limit ≡ h.words_limit)
  pub empty : (i : ℕ) → i < count → Holds h es (first + i) [] false false

-- the texts that are kept are those of both books
pub record HasBooks (k : Kept) (types words : BookState) : Type 0 where
  pub types_are : k.types ≡ types.texts
  pub words_are : k.words ≡ words.texts
  pub types_limit : k.types_limit ≡ types.limit
  pub words_limit : k.words_limit ≡ words.limit

-- both books have the texts of the entries
abbrev AreTextsOf : Header → List JournalEntry → BookState → BookState → Type 0
AreTextsOf h es types words =
    ((types.texts ≡ types_of es) × (types.limit ≡ h.types_limit)) × ((words.texts ≡ words_of es) × (words.limit ≡ h.words_limit))

texts_shown : (h : Header) (es : List JournalEntry) (legal : IsLegal h es) (a : Shown) (types words : BookState) → IsArchiveOf a h es legal.held → HasBooks a.kept types words → AreTextsOf h es types words
texts_shown h es legal a types words is books = (
  (sym books.types_are ∙ (ap (λ (k : Kept). k.types) is.kept ∙ types_held h es legal), sym books.types_limit ∙ ap (λ (k : Kept). k.types_limit) is.kept),
  (sym books.words_are ∙ (ap (λ (k : Kept). k.words) is.kept ∙ words_held h es legal), sym books.words_limit ∙ ap (λ (k : Kept). k.words_limit) is.kept),
)

-- an archive that was opened, with the books of one that was opened from the same bytes
pub is_held : (old now : JournalState) (a b : Shown) → OpensFrom old now a → Opens old.disk.seen b → (types words : BookState) → HasBooks b.kept types words → (files : ℕ) → files ≡ length a.files → IsHeldBy now types words files
is_held old now a b from opens types words books files same = record {
  opens = may;
  texts = record { types_are = told_map (is_some now.disk.seen) (λ (t : AreTextsOf now.header (told_entries now) types words). t.0) texts; words_are = told_map (is_some now.disk.seen) (λ (t : AreTextsOf now.header (told_entries now) types words). t.1) texts };
  names = holds_names old now a from files same;
}
  where
    may : MayOpen now
    may = may_append old now a from

    texts : IfTold (is_some now.disk.seen) (AreTextsOf now.header (told_entries now) types words)
    texts =
        told_both (is_some now.disk.seen) (λ (legal : IsLegal now.header (told_entries now)) (shows : ShowsOf b now.header (told_entries now)). texts_shown now.header (told_entries now) legal b types words (shows legal) books)
        may.legal (shows_of now.header now.disk.seen now.place now.count now.disk.images b may.header (subst (λ told. Opens told b) (sym from.looks.rests.seen) opens) may.ends.ends may.spelled)

-- where its bytes are told, they stand for its entries
pub held_stands : (j : JournalState) → MayOpen j → (bytes : List ℕ) → j.disk.seen ≡ Some bytes → StandsFor bytes j.header (told_entries j)
held_stands j may bytes told = go j.disk.seen told may.spelled may.legal may.ends.ends
  where
    go : (seen : Option (List ℕ)) → seen ≡ Some bytes → entries seen j.count ≡ records_of (journal_in seen j.count) → IfTold (is_some seen) (IsLegal j.header (journal_in seen j.count))
        → AtEnd (header_bytes j.header) j.place j.count seen j.disk.images → StandsFor bytes j.header (journal_in seen j.count)
    go None is spelled legal ends = absurd (cc (is))
    go (Some b) is spelled legal ends =
        let same : b ≡ bytes = cc (is) in
        record { header = may.header; legal = legal; stands = subst (λ rs. Stands (header_bytes j.header) rs bytes) spelled (subst (λ x. Stands (header_bytes j.header) (entries (Some b) j.count) x) same ends.stands) }

-- and so does each image of it
pub held_only : (j : JournalState) → MayOpen j → (bytes : List ℕ) → j.disk.seen ≡ Some bytes → (c : List ℕ) → j.disk.images c → StandsFor c j.header (told_entries j)
held_only j may bytes told c image = subst (λ x. StandsFor x j.header (told_entries j)) (sym (go j.disk.seen told may.ends.ends)) (held_stands j may bytes told)
  where
    go : (seen : Option (List ℕ)) → seen ≡ Some bytes → AtEnd (header_bytes j.header) j.place j.count seen j.disk.images → c ≡ bytes
    go None is ends = absurd (cc (is))
    go (Some b) is ends = let same : b ≡ bytes = cc (is) in ends.only c image ∙ same

-- ---- the new files

ready : (h : Header) (es : List JournalEntry) (types words : BookState) (names : List (List ℕ)) (first : ℕ) (legal : IsLegal h es) → AreTextsOf h es types words → first ≡ length legal.held.names
    → IsReady h (es ++ Files names ∷ []) types words first (length names)
ready h es types words names first legal texts number = record {
  types_are = (texts.0.0 ∙ sym (types_named es names), texts.0.1);
  words_are = (texts.1.0 ∙ sym (words_named es names), texts.1.1);
  empty = λ i within. subst (λ n. Holds h (es ++ Files names ∷ []) (n + i) [] false false) (sym number) (holds i within);
}
  where
    holds : (i : ℕ) → i < length names → Holds h (es ++ Files names ∷ []) (length legal.held.names + i) [] false false
    holds i within =
        let f = new_file h es names legal i within in
        record { held = _; run = f.run; named = f.named; messages_are = f.none.messages; whole_is = f.none.whole; ended_is = f.none.ended }

-- the names were appended behind an archive with so many files
module _ (j new : JournalState) (types words : BookState) (files : ℕ) (held : IsHeldBy j types words files) (names : List (List ℕ)) (adds : AddsNames files names) (named : HasNames files names (Files names ∷ []) j new) where
  told_named : IfTold (is_some new.disk.seen) (told_entries new ≡ told_entries j ++ Files names ∷ [])
  told_named = subst (λ b. IfTold b (told_entries new ≡ told_entries j ++ Files names ∷ [])) (sym named.tells) named.entries

  -- the journal has the names more
  pub names_more : new.count ≡ j.count + 1 → HasNamesMore names j new
  names_more count = record { header = named.header; count = count; tells = named.tells; entries = told_named }

  told_ready : IfTold (is_some new.disk.seen) (IsReady new.header (told_entries new) types words files (length names))
  told_ready =
      let es = told_entries j ++ Files names ∷ [] in
      let texts : IfTold (is_some j.disk.seen) (AreTextsOf j.header (told_entries j) types words) = told_both (is_some j.disk.seen) (λ t w. (t, w)) held.texts.types_are held.texts.words_are in
      let numbered : IfTold (is_some j.disk.seen) ((legal : IsLegal j.header (told_entries j)) × (files ≡ length legal.held.names)) =
      told_both (is_some j.disk.seen) (λ legal number. (legal, number legal)) held.opens.legal held.names in
      let here : IfTold (is_some j.disk.seen) (IsReady j.header es types words files (length names)) =
      told_both (is_some j.disk.seen) (λ (n : (legal : IsLegal j.header (told_entries j)) × (files ≡ length legal.held.names)) (t : AreTextsOf j.header (told_entries j) types words). ready j.header (told_entries j) types words names files n.0 t n.1) numbered texts in
      let there : IfTold (is_some new.disk.seen) (IsReady new.header es types words files (length names)) =
      subst (λ h. IfTold (is_some new.disk.seen) (IsReady h es types words files (length names))) (sym named.header)
      (subst (λ b. IfTold b (IsReady j.header es types words files (length names))) (sym named.tells) here) in
      told_both (is_some new.disk.seen) (λ (is : told_entries new ≡ es) (r : IsReady new.header es types words files (length names)). subst (λ x. IsReady new.header x types words files (length names)) (sym is) r) told_named there

  all_named : IsNamed new types words files (length names)
  all_named =
      let r = told_ready in
      let told = is_some new.disk.seen in
      let Is : Type 0 = IsReady new.header (told_entries new) types words files (length names) in
      record {
        opens = named.opens;
        texts = record { types_are = told_map told (λ (x : Is). x.types_are) r; words_are = told_map told (λ (x : Is). x.words_are) r };
        few = adds.all;
        empty = told_map told (λ (x : Is). x.empty) r;
      }

  pub is_named : (first count : ℕ) → first ≡ files → count ≡ length names → IsNamed new types words first count
  is_named first count number counted =
      subst (λ n. IsNamed new types words n count) (sym number) (subst (λ n. IsNamed new types words files n) (sym counted) all_named)
