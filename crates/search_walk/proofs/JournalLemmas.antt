-- What was done over the segments of an archive is said of the journal that the bytes stand for.
use Rattle.std.proofs.Common.{◌≡◌, ⊎_elim, refl, sym, ap, ap₂, subst, ◌∙◌, ℕ, All, List, [], ◌++◌, map, Option, None, Some, length}
use Rattle.std.specs.Prelude.{option_map}
use Rattle.std.proofs.lemmas.List.{append-nil}
use Rattle.std.proofs.lemmas.List.Elements.{All-nil}
use Rattle.std.proofs.lemmas.List.Sorted.{All-permutation}
use Rattle.record_format.specs.declared.header.Header.{Header}
use Rattle.archive_meaning.specs.declared.entry.JournalEntry.{JournalEntry}
use Rattle.archive_meaning.specs.Held.{Held, content_of, nothing_held}
use Rattle.archive_meaning.specs.Stands.{StandsFor}
use Rattle.archive_open.specs.declared.files.FileEntry.{FileEntry}
use Rattle.archive_open.specs.declared.segments.SegmentPlace.{SegmentPlace}
use Rattle.archive_meaning.specs.Spelled.{end_of}
use Rattle.archive_open.specs.Shown.{IsArchiveOf, Shown, kept_of, places_of as segments_of}
use Rattle.column_store.specs.declared.range.Range.{Range}
use Rattle.wild_match.specs.declared.pattern.Item.{Item}
use Rattle.printed_lines.specs.Lines.{Placed}
use Rattle.search_meaning.specs.Scan.{Asked, all_placed}
use Rattle.archive_places.specs.declared.front.SegmentFront.{SegmentFront}
use Rattle.archive_places.specs.declared.places.Places.{Places}
use Rattle.archive_places.specs.Heads.{HasHeadAt}
use Rattle.archive_places.specs.Laws.{HeadsStand, TypesStand, WordsStand}
use Rattle.archive_places.specs.Opened.{ArePlacesOf, OpensPlaces}
use Rattle.word_places.specs.declared.place.WordsPlace.{WordsPlace}
use Rattle.word_places.specs.Held.{HeldNames, places_of, unread}
use Rattle.search_walk.specs.Held.{Named, OfSegments, named, words_told}
use Rattle.search_walk.specs.Opened.{OfFronts, NoFronts, ReadsFronts, ReadsOpened}
use Rattle.search_walk.specs.Prepared.{LacksTexts, ReadsTexts}
use Rattle.search_meaning.specs.Journal.{MissesBarren, OfJournal, ReadsNoBarren, asked}
use Rattle.search_walk.proofs.HeldLemmas.{nothing_distinct, run_distinct}
use Rattle.search_walk.proofs.ReadyLemmas.{words_are, places_unread}
use Rattle.search_walk.proofs.RowsHeld.{names_in, rows_told}
use Rattle.search_walk.proofs.GroupLemmas.{shown_have}
use Rattle.log_seams.specs.Disk.{DiskState}
use Rattle.word_places.specs.Places.{AreWords}
use Rattle.word_places.specs.Reads.{IsOfWords}
use Rattle.search_walk.proofs.AsideLemmas.{reads_aside, texts_places_of, texts_read_aside}
use Rattle.search_walk.proofs.PagesReadLemmas.{none_added}

-- the names that the code asks are those at the places
pub record Knows (seen : Option (List ℕ)) (a : Places) (n : Named) : Type 0 where
  pub types : n.types ≡ words_told seen a.types
  pub version : n.version ≡ a.header.version
  pub words : n.words ≡ words_told seen a.words
  pub told : n.told ≡ seen
  pub places : n.places ≡ a.words

pub knows : (seen later : Option (List ℕ)) (a : Places) (held : HeldNames) (n : Named) → later ≡ seen → held.type_places ≡ a.types → held.version ≡ a.header.version → held.records ≡ map unread a.words → n ≡ named later held → Knows seen a n
knows seen later a held n same types version records is =
    let places : places_of held.records ≡ a.words = ap places_of records ∙ places_unread a.words in
    subst (Knows seen a) (sym is) (record {
      types = ap₂ words_told same types;
      version = version;
      words = ap₂ words_told same places;
      told = same;
      places = places;
    })

-- the log types of a journal stand at the places, and so do its words
types_at : (bytes : List ℕ) (h : Header) (es : List JournalEntry) (stood : StandsFor bytes h es) (a : Places) → TypesStand → ArePlacesOf a h es stood.legal.held → AreWords 0 a.types bytes stood.legal.held.types
types_at bytes h es stood a law is = subst (λ (l : List WordsPlace). AreWords 0 l bytes stood.legal.held.types) (sym is.types) (law bytes h es stood)

words_at : (bytes : List ℕ) (h : Header) (es : List JournalEntry) (stood : StandsFor bytes h es) (a : Places) → WordsStand → ArePlacesOf a h es stood.legal.held → AreWords 0 a.words bytes stood.legal.held.words
words_at bytes h es stood a law is = subst (λ (l : List WordsPlace). AreWords 0 l bytes stood.legal.held.words) (sym is.words) (law bytes h es stood)

named_so : (bytes : List ℕ) (h : Header) (es : List JournalEntry) (stood : StandsFor bytes h es) (a : Places) (n : Named) → TypesStand → WordsStand → Knows (Some bytes) a n → ArePlacesOf a h es stood.legal.held
    → n ≡ names_in bytes h es stood.legal.held n.kept
named_so bytes h es stood a n types_law words_law known is = λ i. record {
  version = (known.version ∙ ap (λ (x : Header). x.version) is.header) i;
  types = (known.types ∙ words_are 0 a.types bytes stood.legal.held.types (types_at bytes h es stood a types_law is)) i;
  words = (known.words ∙ words_are 0 a.words bytes stood.legal.held.words (words_at bytes h es stood a words_law is)) i;
  told = known.told i;
  places = (known.places ∙ is.words) i;
  kept = n.kept;
}

-- ---- from segments to the journal

-- the places as an archive that is shown whole
abbrev shown_whole : (a : Places) (h : Header) (es : List JournalEntry) (held : Held) → ArePlacesOf a h es held → Shown
shown_whole a h es held is = record { header = h; kept = kept_of h held; files = a.files; segments = is.ordered; entries = length es; end = end_of h es }

whole_is : (a : Places) (h : Header) (es : List JournalEntry) (held : Held) (is : ArePlacesOf a h es held) → IsArchiveOf (shown_whole a h es held is) h es held
whole_is a h es held is = record { header = refl; kept = refl; files = is.files; segments = is.are; sorted = is.sorted; entries = refl; end = refl }

pub of_journal : (seen : Option (List ℕ)) (a : Places) (n : Named) (files : List FileEntry) (fronts : List SegmentFront) (P : Named → List SegmentPlace → List ℕ → List Placed → Type 0) (Q : Header → List JournalEntry → Held → Type 0)
    → TypesStand → WordsStand → HeadsStand → files ≡ a.files → fronts ≡ a.segments → OpensPlaces seen a → Knows seen a n → OfFronts fronts (λ ps. OfSegments seen n files ps (P n ps))
    → ((bytes : List ℕ) (h : Header) (es : List JournalEntry) (stood : StandsFor bytes h es) (is : ArePlacesOf a h es stood.legal.held)
    → P (names_in bytes h es stood.legal.held n.kept) is.ordered bytes (all_placed (content_of stood.legal.held)) → Q h es stood.legal.held)
    → OfJournal seen Q
of_journal None a n files fronts P Q types_law words_law heads_law same_files same_fronts opens known has step = tt
of_journal (Some bytes) a n files fronts P Q types_law words_law heads_law same_files same_fronts opens known has step = λ h es stood.
    let is = opens h es stood in
    let held = stood.legal.held in
    let m : Named = names_in bytes h es held n.kept in
    let same : n ≡ m = named_so bytes h es stood a n types_law words_law known is in
    let all : List Placed = all_placed (content_of held) in
    let told : OfSegments (Some bytes) m a.files is.ordered (P m is.ordered) =
    subst (λ x. OfSegments (Some bytes) x a.files is.ordered (P x is.ordered)) same
    (subst (λ l. OfSegments (Some bytes) n l is.ordered (P n is.ordered)) same_files (has is.ordered (sym is.segments ∙ sym same_fronts))) in
    let heads : All (HasHeadAt bytes) is.ordered = All-permutation (HasHeadAt bytes) (segments_of es) is.ordered is.are (heads_law bytes h es stood) in
    let have = rows_told bytes h es held a.files is.ordered all n.kept (words_law bytes h es stood) heads (shown_have bytes h es (shown_whole a h es held is) stood (whole_is a h es held is)) in
    step bytes h es stood is (told all (run_distinct h nothing_held held es nothing_distinct stood.legal.run) have)

pub asked_is : (q : Asked) (pattern : List Item) (range : Range) → q.pattern ≡ pattern → q.range ≡ range → q ≡ asked pattern range
asked_is q pattern range one two = λ i. record { pattern = one i; range = two i }

-- ---- nothing was done

pub nothing_more : (old : Option (List (ℕ × ℕ))) → old ≡ option_map (λ (ranges : List (ℕ × ℕ)). ranges ++ []) old
nothing_more None = refl
nothing_more (Some ranges) = ap Some (sym (append-nil ranges))

pub reads_nothing : (seen : Option (List ℕ)) (q : Asked) (old new : Option (List (ℕ × ℕ))) → new ≡ old → OfJournal seen (λ h es held. ReadsNoBarren h es held q old new)
reads_nothing None q old new same = tt
reads_nothing (Some bytes) q old new same = λ h es stood. record {
  more = [];
  added = same ∙ nothing_more old;
  each = All-nil (λ r. MissesBarren h es stood.legal.held q r.0 r.1);
}

-- ---- before a search

-- a disk that was only read shows the same places
pub opens_later : (old new : Option (List ℕ)) (a : Places) → new ≡ old → OpensPlaces old a → OpensPlaces new a
opens_later old new a same opens = subst (λ s. OpensPlaces s a) (sym same) opens

nothing_aside : (bytes : List ℕ) (h : Header) (es : List JournalEntry) (q : Asked) (old : Option (List (ℕ × ℕ))) (stood : StandsFor bytes h es) → ReadsNoBarren h es stood.legal.held q old old
nothing_aside bytes h es q old stood = record { more = []; added = none_added old; each = All-nil (λ r. MissesBarren h es stood.legal.held q r.0 r.1) }

-- where the records of a journal's texts stand
texts_are : (a : Places) (h : Header) (es : List JournalEntry) (held : Held) → ArePlacesOf a h es held → a.types ++ a.words ≡ texts_places_of es
texts_are a h es held is = ap₂ (λ (x y : List WordsPlace). x ++ y) is.types is.words

-- log types and words alone were read
pub texts_only : (seen : Option (List ℕ)) (a : Places) (q : Asked) (d0 d1 : DiskState) → OpensPlaces seen a → ReadsTexts a d0 d1 → OfJournal seen (λ h es held. ReadsNoBarren h es held q d0.ranges d1.ranges)
texts_only None a q d0 d1 opens reads = tt
texts_only (Some bytes) a q d0 d1 opens reads = λ h es stood.
    texts_read_aside bytes h es q d0.ranges d1.ranges d1.ranges stood reads.more reads.added
    (subst (λ (l : List WordsPlace). All (λ r. IsOfWords l r.0 r.1) reads.more) (texts_are a h es stood.legal.held (opens h es stood)) reads.within)
    (nothing_aside bytes h es q d1.ranges stood)

-- the bytes have no log types or no words there
pub texts_damaged : (seen : Option (List ℕ)) (a : Places) → TypesStand → WordsStand → OpensPlaces seen a → LacksTexts seen a → OfJournal seen (λ _ _ _. ⊥)
texts_damaged None a types_law words_law opens lacks = tt
texts_damaged (Some bytes) a types_law words_law opens lacks = λ h es stood.
    ⊎_elim (λ none. none stood.legal.held.types (types_at bytes h es stood a types_law (opens h es stood)))
    (λ none. none stood.legal.held.words (words_at bytes h es stood a words_law (opens h es stood))) lacks

module _ (seen later : Option (List ℕ)) (a : Places) (n : Named) (files : List FileEntry) (fronts : List SegmentFront) (types_law : TypesStand) (words_law : WordsStand) (heads_law : HeadsStand) (same_files : files ≡ a.files)
    (same_fronts : fronts ≡ a.segments) (opens : OpensPlaces seen a) (known : Knows seen a n) (same : later ≡ seen) where
  pub all_read : (q : Asked) (d0 d1 d2 : DiskState) → d1.seen ≡ seen → ReadsTexts a d0 d1 → ReadsFronts d1 d2 n files q fronts → OfJournal seen (λ h es held. ReadsNoBarren h es held q d0.ranges d2.ranges)
  all_read q d0 d1 d2 rest before reads =
      of_journal seen a n files fronts (λ m l _ _. ReadsOpened m q l d1.ranges d2.ranges) (λ h es held. ReadsNoBarren h es held q d0.ranges d2.ranges) types_law words_law heads_law same_files same_fronts opens known
      (λ l is. subst (λ s. OfSegments s n files l (λ _ _. ReadsOpened n q l d1.ranges d2.ranges)) rest (reads l is))
      (λ bytes h es stood is has.
      texts_read_aside bytes h es q d0.ranges d1.ranges d2.ranges stood before.more before.added
      (subst (λ (l : List WordsPlace). All (λ r. IsOfWords l r.0 r.1) before.more) (texts_are a h es stood.legal.held is) before.within)
      (reads_aside bytes h es is.ordered q n.kept d1.ranges d2.ranges stood is.are has))

  pub all_damaged : NoFronts later n files fronts → OfJournal seen (λ _ _ _. ⊥)
  all_damaged none =
      of_journal seen a n files fronts (λ _ _ _ _. ⊥) (λ _ _ _. ⊥) types_law words_law heads_law same_files same_fronts opens known
      (λ l is. subst (λ s. OfSegments s n files l (λ _ _. ⊥)) same (none l is)) (λ bytes h es stood is has. has)
