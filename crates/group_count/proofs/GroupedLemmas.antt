-- The groups of what was counted are those of the messages that are found.
use Rattle.std.proofs.Common.{◌≡◌, ◌++◌, false, nat_le, ◌↔◌, sym, ap, subst, ◌∙◌, ℕ, ℤ, ◌<◌, ◌≤◌, ◌^◌, pos, Bool, IsTrue, List, [], length, All, Option, None, Some, arith}
use Rattle.std.specs.Prelude.{count_by, is_none}
use Rattle.std.specs.Ordering.{int_cmp}
use Rattle.std.proofs.lemmas.Bool.{le-leb, leb-true}
use Rattle.std.proofs.lemmas.List.{length-map}
use Rattle.std.proofs.lemmas.Slice.Zip.{AllZip-long}
use Rattle.std.specs.List.{Contains}
use Rattle.std.proofs.lemmas.List.Elements.{All-append, All-weaker, Contains-append_left}
use Rattle.log_seams.specs.Disk.{DiskState}
use Rattle.word_places.specs.declared.place.WordsPlace.{WordsPlace}
use Rattle.word_places.specs.Held.{HeldNames, kept_of}
use Rattle.word_places.specs.Kept.{AreKeptOf, KeptTypes}
use Rattle.word_places.specs.Laws.{WordsAreOne}
use Rattle.word_places.specs.Places.{AreWords, OfWords, SomeWords}
use Rattle.word_places.specs.Reads.{IsOfWords, ReadsWords}
use Rattle.archive_places.specs.Laws.{TypesStand}
use Rattle.search_walk.specs.Prepared.{ReadsTexts}
use Rattle.search_walk.proofs.JournalLemmas.{texts_only}
use Rattle.search_walk.proofs.PagesReadLemmas.{two_added}
use Rattle.record_format.specs.declared.header.Header.{Header}
use Rattle.archive_meaning.specs.declared.entry.JournalEntry.{JournalEntry}
use Rattle.archive_meaning.specs.Held.{Held, content_of}
use Rattle.archive_open.specs.declared.segments.SegmentPlace.{SegmentPlace}
use Rattle.archive_places.specs.declared.places.Places.{Places}
use Rattle.archive_places.specs.Opened.{ArePlacesOf, OpensPlaces}
use Rattle.column_store.specs.declared.row.Row.{Row}
use Rattle.row_codec.specs.Means.{IsCanonical}
use Rattle.search_meaning.specs.Journal.{MissesBarren, OfJournal, ReadsNoBarren}
use Rattle.search_meaning.specs.Opened.{IsBarrenFor}
use Rattle.printed_lines.specs.Lines.{Placed}
use Rattle.search_meaning.specs.Scan.{Asked, IsFound, all_placed}
use Rattle.search_walk.proofs.PickLemmas.{picks_once, picks_short}
use Rattle.group_count.specs.declared.archive_counting.Gone.{Gone}
use Rattle.search_meaning.specs.declared.groups.GroupBy.{GroupBy}
use Rattle.search_meaning.specs.declared.groups.GroupBy.TheVariants.{Minute, Shape}
use Rattle.search_meaning.specs.declared.groups.Grouped.{Grouped}
use Rattle.search_meaning.specs.Grouped.{IsExpanded, IsGrouped, messages_of}
use Rattle.group_count.specs.Grouped.{HasGrouped, HasStoppedCounting}
use Rattle.search_meaning.specs.Groups.{AreGroups, by_moment, stamped}
use Rattle.group_count.specs.Laws.{RowsHaveMinutes, RowsHaveTypes, minutes_of, numbers_of}
use Rattle.group_count.specs.declared.counts.Counts.{Counts}
use Rattle.group_count.specs.StepsArchive.{HasCounted, HoldsTypes, reported}
use Rattle.group_count.specs.StepsCounted.{Sofar, sofar}
use Rattle.group_count.specs.Tables.{AreGroupsBy, AreMinutes, AreNumbered, AreTypes, LackTexts, MinuteState, TypeState, minute_at, texts_at}

-- what follows for each journal that the places are of
pub of_places : (seen : Option (List ℕ)) (a : Places) (P Q : Header → List JournalEntry → Held → Type 0) → OpensPlaces seen a
    → ((h : Header) (es : List JournalEntry) (held : Held) → ArePlacesOf a h es held → P h es held → Q h es held) → OfJournal seen P → OfJournal seen Q
of_places None a P Q opens step has = tt
of_places (Some bytes) a P Q opens step has = λ h es stood. step h es stood.legal.held (opens h es stood) (has h es stood)

-- ---- nothing was done

pub stopped_nothing : (seen : Option (List ℕ)) (a : Places) (q : Asked) (o e o2 e2 : ℕ) → OpensPlaces seen a → o2 ≡ o → e2 ≡ e → OfJournal seen (λ h es held. HasStoppedCounting h es held q o o2 e e2)
stopped_nothing None a q o e o2 e2 opens same_o same_e = tt
stopped_nothing (Some bytes) a q o e o2 e2 opens same_o same_e = λ h es stood.
    let is = opens h es stood in
    record {
      all = is.ordered;
      are_all = record { are = is.are; sorted = is.sorted };
      opens = λ segments are. omega (arith, same_o);
      expands = λ expansions are. omega (arith, same_e);
    }

module _ {T : Type 0} (counted : T → ℕ → List Row → Type 0) (h : Header) (es : List JournalEntry) (held : Held) (q : Asked) (gone : Gone) (x y : Sofar T) (o0 o1 : ℕ) where
  -- all was counted, but it gave no groups
  pub counted_stopped : HasCounted counted h es held q gone x y o0 o1 → HasStoppedCounting h es held q o0 o1 x.ticks y.ticks
  counted_stopped has = record {
    all = has.all;
    are_all = has.are_all;
    opens = λ segments are.
        let same : segments ≡ has.segments = picks_once (λ p. ¬ IsBarrenFor held.types held.words q p) has.all segments has.segments are has.are_opened in
        omega (arith, has.opens, ap (λ (l : List SegmentPlace). length l) same);
    expands = λ expansions are.
        let same : expansions ≡ has.expansions = picks_once (λ p. IsExpanded h.version q p.message) (all_placed (content_of held)) expansions has.expansions are has.are_expanded in
        omega (arith, has.adds.ticks, ap (λ (l : List Placed). length l) same);
  }

  module _ (has : HasCounted counted h es held q gone x y o0 o1) where
    -- as many rows were counted as messages are found
    rows_long : length has.found ≡ length has.rows
    rows_long =
        sym (length-map has.found (λ (p : Placed). p.message))
        ∙ AllZip-long (λ row message. IsCanonical h.version row held.types held.words message) has.rows (messages_of has.found) has.are

    pub rows_few : length has.rows < 2 ^ 64
    rows_few = omega (arith, rows_long, has.few, picks_short (λ p. IsFound h.version q p.message) (all_placed (content_of held)) has.found has.are_found)

    -- the groups are those of the messages
    pub has_grouped : (by : GroupBy) (g : Grouped) → x.matched ≡ 0 → x.expanded ≡ 0 → g.report ≡ record { matched = y.matched; expanded = y.expanded; opened = gone.opened; segments = gone.segments }
        → IsGrouped h.version by (messages_of has.found) g.groups g.without → HasGrouped h es held q by g o0 o1 x.ticks y.ticks
    has_grouped by g none_matched none_expanded report groups =
        let few = picks_short (λ p. IsExpanded h.version q p.message) (all_placed (content_of held)) has.expansions has.are_expanded in
        let matched : y.matched ≡ length has.found = has.adds.matched (omega (arith, rows_few, none_matched)) ∙ omega (arith, none_matched, rows_long) in
        let expanded : y.expanded ≡ length has.expansions = has.adds.expanded (omega (arith, few, has.few, none_expanded)) ∙ omega (arith, none_expanded) in
        record {
          found = has.found;
          expansions = has.expansions;
          all = has.all;
          segments = has.segments;
          are_all = has.are_all;
          are_found = has.are_found;
          are_expanded = has.are_expanded;
          are_opened = has.are_opened;
          groups = groups;
          opens = has.opens;
          expands = has.adds.ticks;
          report =
              report ∙ (λ i. record { matched = matched i; expanded = expanded i; opened = has.opened_count i; segments = has.segment_count i });
        }

-- ---- by log type

abbrev pub counted_types : TypeState → ℕ → List Row → Type 0
counted_types table types rows = AreTypes types table (numbers_of rows)

module _ (law : RowsHaveTypes) (h : Header) (es : List JournalEntry) (held : Held) (q : Asked) (gone : Gone) (x y : Sofar TypeState) (o0 o1 : ℕ) (none : AreTypes (length held.types) x.table [])
    (has : HasCounted counted_types h es held q gone x y o0 o1) where
  table_counts : AreTypes (length held.types) y.table (numbers_of has.rows)
  table_counts = has.adds.table (length held.types) [] none

  table_numbered : AreNumbered held.types (numbers_of has.rows)
  table_numbered =
      let few = rows_few counted_types h es held q gone x y o0 o1 has in
      record {
        few = omega (arith, few, length-map has.rows (λ (r : Row). r.log_type));
        within = (law h.version has.rows held.types held.words (messages_of has.found) has.are).1;
      }

  -- a table that can give no groups is that of no journal
  pub types_damaged : LackTexts held.types y.table → ⊥
  types_damaged never = never (numbers_of has.rows) table_counts table_numbered

  pub types_done : (g : Grouped) → x.matched ≡ 0 → x.expanded ≡ 0 → g.report ≡ record { matched = y.matched; expanded = y.expanded; opened = gone.opened; segments = gone.segments }
      → AreGroupsBy held.types y.table g.groups → All (λ p. p.moment ≡ pos 0) g.groups → g.without ≡ 0
      → HasGrouped h es held q Shape g o0 o1 x.ticks y.ticks
  types_done g none_matched none_expanded report groups moments without =
      has_grouped counted_types h es held q gone x y o0 o1 has Shape g none_matched none_expanded report (record {
        texts = texts_at held.types (numbers_of has.rows);
        have = (law h.version has.rows held.types held.words (messages_of has.found) has.are).0;
        are = groups (numbers_of has.rows) table_counts table_numbered;
        moments = moments;
        none = without;
      })

-- ---- by minute

-- from version 3 on moments count microseconds
pub micro_is : (micro : Bool) (version : ℕ) → micro ≡ nat_le 3 version → IsTrue micro ↔ (3 ≤ version)
micro_is micro version is = subst (λ (b : Bool). IsTrue b ↔ (3 ≤ version)) (sym is) (λ e. leb-true 3 version e, λ le. le-leb 3 version le)

abbrev pub counted_minutes : MinuteState → ℕ → List Row → Type 0
counted_minutes table version rows = (IsTrue table.micro ↔ (3 ≤ version)) × AreMinutes table (minutes_of table.micro rows)

module _ (law : RowsHaveMinutes) (h : Header) (es : List JournalEntry) (held : Held) (q : Asked) (gone : Gone) (x y : Sofar MinuteState) (o0 o1 : ℕ) (micro : IsTrue x.table.micro ↔ (3 ≤ h.version)) (none : AreMinutes x.table [])
    (has : HasCounted counted_minutes h es held q gone x y o0 o1) where
  table_minutes : (IsTrue y.table.micro ↔ (3 ≤ h.version)) × AreMinutes y.table (minutes_of y.table.micro has.rows)
  table_minutes = has.adds.table h.version [] (micro, none)

  minutes_few : length (minutes_of y.table.micro has.rows) < 2 ^ 64
  minutes_few = omega (arith, rows_few counted_minutes h es held q gone x y o0 o1 has, length-map has.rows (λ (r : Row). minute_at y.table.micro r.pattern r.moment))

  pub minutes_done : (g : Grouped) → x.matched ≡ 0 → x.expanded ≡ 0 → g.report ≡ record { matched = y.matched; expanded = y.expanded; opened = gone.opened; segments = gone.segments }
      → ((keys : List (Option ℤ)) → AreMinutes y.table keys → length keys < 2 ^ 64 → AreGroups int_cmp (stamped keys) (by_moment g.groups)) → All (λ p. p.key ≡ []) g.groups
      → ((keys : List (Option ℤ)) → AreMinutes y.table keys → length keys < 2 ^ 64 → g.without ≡ count_by is_none keys) → HasGrouped h es held q Minute g o0 o1 x.ticks y.ticks
  minutes_done g none_matched none_expanded report groups keys without =
      has_grouped counted_minutes h es held q gone x y o0 o1 has Minute g none_matched none_expanded report (record {
        minutes = minutes_of y.table.micro has.rows;
        have = law h.version y.table.micro has.rows held.types held.words (messages_of has.found) table_minutes.0 has.are;
        are = groups (minutes_of y.table.micro has.rows) table_minutes.1 minutes_few;
        keys = keys;
        others = without (minutes_of y.table.micro has.rows) table_minutes.1 minutes_few;
      })

-- ---- of the journal that the bytes stand for

-- what holds of the log types that stand at the places holds of a journal's
pub types_journal : (seen : Option (List ℕ)) (a : Places) (places : List WordsPlace) (P : List (List ℕ) → Type 0) → TypesStand → places ≡ a.types → OpensPlaces seen a → OfWords seen places P → OfJournal seen (λ _ _ held. P held.types)
types_journal None a places P law same opens has = tt
types_journal (Some bytes) a places P law same opens has = λ h es stood.
    has stood.legal.held.types (subst (λ (l : List WordsPlace). AreWords 0 l bytes stood.legal.held.types) (sym (same ∙ (opens h es stood).types)) (law bytes h es stood))

-- ---- log types that were held, or read once more

-- where none was left out they are those at the places
pub by_kept : (seen : Option (List ℕ)) (places : List WordsPlace) (kept : KeptTypes) (P : List (List ℕ) → Type 0) → WordsAreOne → kept.left_out ≡ false → SomeWords seen places (λ texts. AreKeptOf texts kept) → P kept.texts → OfWords seen places P
by_kept None places kept P one whole some has = tt
by_kept (Some bytes) places kept P one whole some has = λ words are. subst P (some.2.whole whole ∙ one 0 places bytes some.0 words some.1 are) has

-- and so are those that were read
pub by_read : (seen : Option (List ℕ)) (places : List WordsPlace) (texts : List (List ℕ)) (P : List (List ℕ) → Type 0) → OfWords seen places (λ words. texts ≡ words) → P texts → OfWords seen places P
by_read None places texts P same has = tt
by_read (Some bytes) places texts P same has = λ words are. subst P (same words are) has

pub by_none : (seen : Option (List ℕ)) (places : List WordsPlace) (P : List (List ℕ) → Type 0) → OfWords seen places (λ _. ⊥) → OfWords seen places P
by_none None places P none = tt
by_none (Some bytes) places P none = λ words are. absurd (none words are)

-- a disk that was only read has the same log types
pub kept_at : (seen later : Option (List ℕ)) (a : Places) (held : HeldNames) → later ≡ seen → HoldsTypes seen a held → SomeWords later held.type_places (λ texts. AreKeptOf texts (kept_of held))
kept_at seen later a held same holds =
    subst (λ x. SomeWords x held.type_places (λ texts. AreKeptOf texts (kept_of held))) (sym same)
    (subst (λ (l : List WordsPlace). SomeWords seen l (λ texts. AreKeptOf texts (kept_of held))) (sym holds.places) holds.kept)

both_journal : (seen : Option (List ℕ)) (P Q : Header → List JournalEntry → Held → Type 0) → OfJournal seen P → OfJournal seen Q → OfJournal seen (λ h es held. P h es held × Q h es held)
both_journal None P Q one two = tt
both_journal (Some bytes) P Q one two = λ h es stood. (one h es stood, two h es stood)

-- the log types were read once more behind the walk
pub types_read_again : (seen : Option (List ℕ)) (a : Places) (places : List WordsPlace) (q : Asked) (d0 d1 d2 : DiskState) → places ≡ a.types → OpensPlaces seen a → OfJournal seen (λ h es held. ReadsNoBarren h es held q d0.ranges d1.ranges) → ReadsWords places d1 d2
    → OfJournal seen (λ h es held. ReadsNoBarren h es held q d0.ranges d2.ranges)
types_read_again seen a places q d0 d1 d2 same opens before reads = joined seen before (texts_only seen a q d1 d2 opens (of_types reads))
  where
    of_types : ReadsWords places d1 d2 → ReadsTexts a d1 d2
    of_types read = record {
      more = read.more;
      added = read.added;
      within =
          All-weaker (λ r. IsOfWords places r.0 r.1) (λ r. IsOfWords (a.types ++ a.words) r.0 r.1)
          (λ r of. record { place = of.place; one = Contains-append_left a.types a.words of.place (subst (λ (l : List WordsPlace). Contains l of.place) same of.one); low = of.low; high = of.high }) read.more read.within;
    }

    joined : (told : Option (List ℕ)) → OfJournal told (λ h es held. ReadsNoBarren h es held q d0.ranges d1.ranges) → OfJournal told (λ h es held. ReadsNoBarren h es held q d1.ranges d2.ranges)
        → OfJournal told (λ h es held. ReadsNoBarren h es held q d0.ranges d2.ranges)
    joined None one two = tt
    joined (Some bytes) one two = λ h es stood.
        let x = one h es stood in
        let y = two h es stood in
        record {
          more = x.more ++ y.more;
          added = two_added d0.ranges d1.ranges d2.ranges x.more y.more x.added y.added;
          each = All-append (λ r. MissesBarren h es stood.legal.held q r.0 r.1) x.more y.more x.each y.each;
        }

-- the places have as many log types as there are held
types_none : (a : Places) (h : Header) (es : List JournalEntry) (held : Held) → ArePlacesOf a h es held
    → (table start : TypeState) → start ≡ table → AreTypes a.types_count table [] → AreTypes (length held.types) start []
types_none a h es held is table start is_table none =
    subst (λ (t : TypeState). AreTypes (length held.types) t []) (sym is_table)
    (subst (λ n. AreTypes n table []) is.types_count none)

module _ (seen : Option (List ℕ)) (a : Places) (opens : OpensPlaces seen a) (q : Asked) (gone : Gone) (e0 e1 o0 o1 : ℕ) where
  pub all_stopped : {T : Type 0} (counted : T → ℕ → List Row → Type 0) (k m : Counts T) → OfJournal seen (λ h es held. HasCounted counted h es held q gone (sofar k e0) (sofar m e1) o0 o1)
      → OfJournal seen (λ h es held. HasStoppedCounting h es held q o0 o1 e0 e1)
  all_stopped counted k m has =
      of_places seen a (λ h es held. HasCounted counted h es held q gone (sofar k e0) (sofar m e1) o0 o1) (λ h es held. HasStoppedCounting h es held q o0 o1 e0 e1) opens
      (λ h es held is done. counted_stopped counted h es held q gone (sofar k e0) (sofar m e1) o0 o1 done) has

  module _ (law : RowsHaveTypes) (stand : TypesStand) (places : List WordsPlace) (at : places ≡ a.types) (table : TypeState) (k m : Counts TypeState) (is_table : k.table ≡ table) (none : AreTypes a.types_count table [])
      (has : OfJournal seen (λ h es held. HasCounted counted_types h es held q gone (sofar k e0) (sofar m e1) o0 o1)) where
    pub all_types_damaged : OfWords seen places (λ texts. LackTexts texts m.table) → OfJournal seen (λ _ _ _. ⊥)
    all_types_damaged never =
        of_places seen a (λ h es held. HasCounted counted_types h es held q gone (sofar k e0) (sofar m e1) o0 o1 × LackTexts held.types m.table) (λ _ _ _. ⊥) opens
        (λ h es held is done. types_damaged law h es held q gone (sofar k e0) (sofar m e1) o0 o1 (types_none a h es held is table k.table is_table none) done.0 done.1)
        (both_journal seen (λ h es held. HasCounted counted_types h es held q gone (sofar k e0) (sofar m e1) o0 o1) (λ _ _ held. LackTexts held.types m.table) has (types_journal seen a places (λ texts. LackTexts texts m.table) stand at opens never))

    pub all_types : (g : Grouped) → k.matched ≡ 0 → k.expanded ≡ 0 → g.report ≡ reported m gone → OfWords seen places (λ texts. AreGroupsBy texts m.table g.groups) → All (λ p. p.moment ≡ pos 0) g.groups → g.without ≡ 0
        → OfJournal seen (λ h es held. HasGrouped h es held q Shape g o0 o1 e0 e1)
    all_types g none_matched none_expanded report groups moments without =
        of_places seen a (λ h es held. HasCounted counted_types h es held q gone (sofar k e0) (sofar m e1) o0 o1 × AreGroupsBy held.types m.table g.groups) (λ h es held. HasGrouped h es held q Shape g o0 o1 e0 e1) opens
        (λ h es held is done.
        types_done law h es held q gone (sofar k e0) (sofar m e1) o0 o1 (types_none a h es held is table k.table is_table none) done.0 g none_matched none_expanded report done.1 moments without)
        (both_journal seen (λ h es held. HasCounted counted_types h es held q gone (sofar k e0) (sofar m e1) o0 o1) (λ _ _ held. AreGroupsBy held.types m.table g.groups) has (types_journal seen a places (λ texts. AreGroupsBy texts m.table g.groups) stand at opens groups))

  pub all_minutes : (law : RowsHaveMinutes) (table : MinuteState) (k m : Counts MinuteState) (g : Grouped) → k.table ≡ table → IsTrue table.micro ↔ (3 ≤ a.header.version) → AreMinutes table [] → k.matched ≡ 0 → k.expanded ≡ 0 → g.report ≡ reported m gone
      → ((keys : List (Option ℤ)) → AreMinutes m.table keys → length keys < 2 ^ 64 → AreGroups int_cmp (stamped keys) (by_moment g.groups)) → All (λ p. p.key ≡ []) g.groups
      → ((keys : List (Option ℤ)) → AreMinutes m.table keys → length keys < 2 ^ 64 → g.without ≡ count_by is_none keys)
      → OfJournal seen (λ h es held. HasCounted counted_minutes h es held q gone (sofar k e0) (sofar m e1) o0 o1) → OfJournal seen (λ h es held. HasGrouped h es held q Minute g o0 o1 e0 e1)
  all_minutes law table k m g is_table micro none none_matched none_expanded report groups keys without has =
      of_places seen a (λ h es held. HasCounted counted_minutes h es held q gone (sofar k e0) (sofar m e1) o0 o1) (λ h es held. HasGrouped h es held q Minute g o0 o1 e0 e1) opens
      (λ h es held is done.
      minutes_done law h es held q gone (sofar k e0) (sofar m e1) o0 o1
      (subst (λ (t : MinuteState). IsTrue t.micro ↔ (3 ≤ h.version)) (sym is_table) (subst (λ (x : Header). IsTrue table.micro ↔ (3 ≤ x.version)) is.header micro))
      (subst (λ (t : MinuteState). AreMinutes t []) (sym is_table) none) done g none_matched none_expanded report groups keys without) has
