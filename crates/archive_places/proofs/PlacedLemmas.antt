-- How what was kept by places goes on with a record.
use Rattle.std.proofs.Common.{◌≡◌, ℕ, ◌+◌, ◌^◌, ◌<◌, ◌≤◌, List, [], ◌∷◌, ◌++◌, length, map, take, drop, get_or, set, refl, sym, ◌∙◌, ap, subst, arith, length-append}
use Rattle.std.specs.Prelude.{Option, Some, None, IfSome}
use Rattle.std.proofs.lemmas.List.{append-nil, append_assoc, map-append, take-append-drop, take-take, take_at}
use Rattle.std.specs.List.{flat_map}
use Rattle.log_seams.specs.Disk.{DiskState, ReadsOnly}
use Rattle.record_format.specs.declared.header.Header.{Header}
use Rattle.record_format.specs.Lists.{AreTexts, files_payload, four_bytes, list_bytes, text_bytes, texts_payload}
use Rattle.record_format.proofs.ListLemmas.{no_front, same_number}
use Rattle.row_codec.specs.declared.namer.Which.{Which}
use Rattle.row_codec.specs.declared.namer.Which.TheVariants as which
use Rattle.segment_format.specs.declared.head.Head.{Head}
use Rattle.segment_format.specs.declared.fixed.Fixed.{Fixed}
use Rattle.segment_format.specs.Layout.{IsFixed, fixed_bytes, fixed_of}
use Rattle.segment_format.proofs.FixedLemmas.{length-fixed_bytes}
use Rattle.segment_format.proofs.UniqueLemmas.{fixed_once}
use Rattle.disk_journal.specs.declared.walk.RecordPlace.{RecordPlace}
use Rattle.archive_meaning.specs.declared.entry.SegmentEntry.{SegmentEntry}
use Rattle.archive_meaning.specs.declared.entry.JournalEntry.{JournalEntry}
use Rattle.archive_meaning.specs.declared.entry.JournalEntry.TheVariants.{Files, Types, Words, Segment}
use Rattle.archive_meaning.specs.Held.{Held}
use Rattle.archive_meaning.specs.Spelled.{front_of, record_of, types_of}
use Rattle.archive_meaning.specs.Stands.{IsLegal}
use Rattle.word_places.specs.declared.place.WordsPlace.{WordsPlace}
use Rattle.archive_open.specs.declared.files.FileEntry.{FileEntry}
use Rattle.archive_open.specs.declared.segments.SegmentPlace.{SegmentPlace}
use Rattle.archive_open.specs.Kept.{limit_of, texts_of}
use Rattle.archive_open.specs.Shown.{files_of, head_in, kept_of, places_of}
use Rattle.archive_open.specs.StepsFiles.{no_file}
use Rattle.archive_open.specs.StepsNext.{HasHead, new_file}
use Rattle.archive_open.specs.Walk.{IsNext, KeepsNext, KeepsTold, NoneNext, NoneTold, ReadsOf, ReadsWithin, StandsWhole, payload_in, shown_len}
use Rattle.archive_open.proofs.NextLemmas.{entry_of, files_entry, files_more, files_named, follows, is_segment, is_texts, may_follow, may_go_on, next_form, number_of, own_follows, own_head, places_more}
use Rattle.archive_open.proofs.ReadLemmas.{read_within}
use Rattle.archive_open.proofs.TakenLemmas.{payload_size}
use Rattle.archive_places.specs.declared.front.SegmentFront.{SegmentFront}
use Rattle.archive_places.specs.Fronts.{fixed_in, front_of_place}
use Rattle.archive_places.specs.StepsPlaced.{GoesOnBy, IsListing, IsOver, IsPlaced, Listing, Placing, PlacesOf, file_by, kind_of, listing, place_by, with_names, with_place, with_segment, with_texts}
use Rattle.archive_places.specs.Words.{texts_from, texts_place, texts_placed}
use Rattle.archive_places.proofs.TextLemmas.{texts_more, texts_same}

-- ---- records of texts that do not change, and one more

-- no record of these is there more
listing_same : (kind : Which) (h : Header) (es : List JournalEntry) (e : JournalEntry) (l : Listing) (old new : List (List ℕ)) (limit : ℕ) → IsListing l (texts_from kind 32 [] es) old limit
    → texts_placed kind (length (front_of h es)) e ≡ [] → old ≡ new → IsListing l (texts_from kind 32 [] (es ++ e ∷ [])) new limit
listing_same kind h es e l old new limit was none same = record {
  stand = was.stand ∙ sym (texts_same kind h es e none);
  many = was.many ∙ ap length same;
  most = was.most;
}

-- one is
listing_more : (kind : Which) (h : Header) (es : List JournalEntry) (e : JournalEntry) (l : Listing) (place : WordsPlace) (texts old new : List (List ℕ)) (limit : ℕ) → IsListing l (texts_from kind 32 [] es) old limit
    → texts_placed kind (length (front_of h es)) e ≡ place ∷ [] → place.count ≡ length texts → old ++ texts ≡ new → IsListing (with_place place l) (texts_from kind 32 [] (es ++ e ∷ [])) new limit
listing_more kind h es e l place texts old new limit was one many same = record {
  stand = (λ i. was.stand i ++ sym one i) ∙ sym (texts_more kind h es e);
  many = omega (arith, was.many, many, length-append old texts, ap length same);
  most = was.most;
}

-- ---- names

names_step : (h : Header) (es : List JournalEntry) (names : List (List ℕ)) (old : Placing) → IsLegal h (es ++ Files names ∷ []) → PlacesOf old h es
    → PlacesOf (with_names names old) h (es ++ Files names ∷ [])
names_step h es names old legal placed more run =
    let f = follows h es (Files names) more legal run in
    let was : IsPlaced old h es f.held = placed f.held f.run in
    record {
      types = listing_same which.Types h es (Files names) _ _ _ _ was.types refl (ap (λ (x : Held). x.types) (sym f.takes));
      words = listing_same which.Words h es (Files names) _ _ _ _ was.words refl (ap (λ (x : Held). x.words) (sym f.takes));
      files = ap (λ l. l ++ map new_file names) was.files ∙ sym (files_named h es names more f);
      segments = was.segments ∙ ap (map front_of_place) (sym (places_more h es (Files names) ∙ append-nil (places_of es)));
    }

pub names_placed : (at : ℕ) (payload : List ℕ) (names : List (List ℕ)) (old : Placing) → AreTexts names → payload ≡ files_payload names
    → KeepsNext at 1 payload (PlacesOf old) (PlacesOf (with_names names old))
names_placed at payload names old are spells h es e next placed =
    let same : e ≡ Files names = files_entry at payload names h es e are spells next in
    subst (λ f. PlacesOf (with_names names old) h (es ++ f ∷ [])) (sym same)
    (names_step h es names old (subst (λ f. IsLegal h (es ++ f ∷ [])) same next.legal) placed)

-- names that were loaded from a record
pub names_told : (p : RecordPlace) (seen : Option (List ℕ)) (payload : List ℕ) (names : List (List ℕ)) (old new : Placing) → p.kind ≡ 1 → IfSome seen (λ bytes. payload ≡ payload_in p bytes)
    → AreTexts names → payload ≡ files_payload names → new ≡ with_names names old → KeepsTold p seen (PlacesOf old) (PlacesOf new)
names_told p None payload names old new kind these are spells same = tt
names_told p (Some bytes) payload names old new kind these are spells same =
    subst (λ (x : Placing). KeepsNext p.at p.kind (payload_in p bytes) (PlacesOf old) (PlacesOf x)) (sym same)
    (subst (λ (k : ℕ). KeepsNext p.at k (payload_in p bytes) (PlacesOf old) (PlacesOf (with_names names old))) (sym kind)
    (names_placed p.at (payload_in p bytes) names old are (sym these ∙ spells)))

-- those that may not follow
pub names_not_told : (p : RecordPlace) (seen : Option (List ℕ)) (payload : List ℕ) (old : Placing) → p.kind ≡ 1 → IfSome seen (λ bytes. payload ≡ payload_in p bytes)
    → NoneNext p.at 1 payload (PlacesOf old) → NoneTold p seen (PlacesOf old)
names_not_told p None payload old kind these none = tt
names_not_told p (Some bytes) payload old kind these none =
    subst (λ (k : ℕ). NoneNext p.at k (payload_in p bytes) (PlacesOf old)) (sym kind) (subst (λ (l : List ℕ). NoneNext p.at 1 l (PlacesOf old)) these none)

-- ---- log types and words

kind_number : (kind : Which) → kind_of kind ≡ number_of kind
kind_number which.Types = refl
kind_number which.Words = refl

-- what was read of a record of texts: its number and its count
pub record IsTextsAt (kind : Which) (p : RecordPlace) (seen : Option (List ℕ)) (first count : ℕ) : Type 0 where
  pub whole : StandsWhole p seen
  pub kind_is : p.kind ≡ kind_of kind
  pub long : 8 ≤ p.length
  pub text : List ℕ
  pub rest : List ℕ
  pub these : IfSome seen (λ bytes. text ≡ take 8 (drop p.payload bytes))
  pub first_fits : first < 2 ^ 32
  pub count_fits : count < 2 ^ 32
  pub parts : text ≡ four_bytes first ++ (four_bytes count ++ rest)

-- the entry of the record has them
pub record IsTextsEntry (kind : Which) (p : RecordPlace) (first count : ℕ) (h : Header) (es : List JournalEntry) (e : JournalEntry) : Type 0 where
  pub texts : List (List ℕ)
  pub entry : e ≡ entry_of kind first texts
  pub many : count ≡ length texts
  pub size : p.length ≡ length (texts_payload first texts)

-- whatever it is, it spells texts
abbrev pub HasTexts : Which → List ℕ → JournalEntry → Type 0
HasTexts kind payload e = (first : ℕ) × ((texts : List (List ℕ)) × (e ≡ entry_of kind first texts) × (first < 2 ^ 32) × AreTexts texts × (payload ≡ texts_payload first texts))

has_texts : (kind : Which) (p : RecordPlace) (bytes : List ℕ) (h : Header) (es : List JournalEntry) (e : JournalEntry) → p.kind ≡ kind_of kind → IsNext p.at p.kind (payload_in p bytes) h es e
    → HasTexts kind (payload_in p bytes) e
has_texts kind p bytes h es e is next =
    let payload : List ℕ = payload_in p bytes in
    let own : IsNext p.at (number_of kind) payload h es e = subst (λ k. IsNext p.at k payload h es e) (is ∙ kind_number kind) next in
    is_texts kind (types_of es) e payload (next_form p.at (number_of kind) payload h es e own) own.saved

texts_entry : (kind : Which) (p : RecordPlace) (bytes : List ℕ) (first count : ℕ) (w : IsTextsAt kind p (Some bytes) first count) (h : Header) (es : List JournalEntry) (e : JournalEntry)
    → IsNext p.at p.kind (payload_in p bytes) h es e → IsTextsEntry kind p first count h es e
texts_entry kind p bytes first count w h es e next =
    let payload : List ℕ = payload_in p bytes in
    let is = has_texts kind p bytes h es e w.kind_is next in
    let texts : List (List ℕ) = is.1.0 in
    let front : take 8 payload ≡ four_bytes first ++ (four_bytes count ++ w.rest) = take-take 8 p.length (drop p.payload bytes) w.long ∙ sym w.these ∙ w.parts in
    let parts : four_bytes first ++ ((four_bytes count ++ w.rest) ++ drop 8 payload) ≡ texts_payload is.0 texts =
    sym (append_assoc (four_bytes first) (four_bytes count ++ w.rest) (drop 8 payload)) ∙ ap (λ (l : List ℕ). l ++ drop 8 payload) (sym front) ∙ take-append-drop 8 payload ∙ is.1.4 in
    let one = same_number first is.0 ((four_bytes count ++ w.rest) ++ drop 8 payload) (list_bytes texts) w.first_fits is.1.2 parts in
    let two = same_number count (length texts) (w.rest ++ drop 8 payload) (flat_map text_bytes texts) w.count_fits is.1.3.count (sym (append_assoc (four_bytes count) w.rest (drop 8 payload)) ∙ one.1) in
    record {
      texts = texts;
      entry = is.1.1 ∙ ap (λ n. entry_of kind n texts) (sym one.0);
      many = two.0;
      size = sym (payload_size p bytes w.whole) ∙ ap length (is.1.4 ∙ ap (λ n. texts_payload n texts) (sym one.0));
    }

-- where the record was seen is the place of the entry's texts
here_is : (kind : Which) (p : RecordPlace) (seen : Option (List ℕ)) (first count : ℕ) (w : IsTextsAt kind p seen first count) (h : Header) (es : List JournalEntry) (texts : List (List ℕ)) → p.at ≡ length (front_of h es)
    → count ≡ length texts → p.length ≡ length (texts_payload first texts) → texts_place (length (front_of h es)) first texts ≡ place_by p first count
here_is kind p seen first count w h es texts gate many size =
    let at : p.payload ≡ length (front_of h es) + 10 = w.whole.payload ∙ ap (λ n. n + 10) gate in
    λ i. record { payload = sym at i; length = sym size i; first = first; count = sym many i }

texts_step : (kind : Which) (h : Header) (es : List JournalEntry) (first : ℕ) (texts : List (List ℕ)) (place : WordsPlace) (old : Placing) → IsLegal h (es ++ entry_of kind first texts ∷ [])
    → texts_place (length (front_of h es)) first texts ≡ place → PlacesOf old h es → PlacesOf (with_texts kind place old) h (es ++ entry_of kind first texts ∷ [])
texts_step which.Types h es first texts place old legal here placed more run =
    let f = follows h es (Types first texts) more legal run in
    let was : IsPlaced old h es f.held = placed f.held f.run in
    record {
      types = listing_more which.Types h es (Types first texts) _ place texts _ _ _ was.types (ap (λ (p : WordsPlace). p ∷ []) here) (ap (λ (p : WordsPlace). p.count) (sym here)) (ap (λ (x : Held). x.types) (sym f.takes.1));
      words = listing_same which.Words h es (Types first texts) _ _ _ _ was.words refl (ap (λ (x : Held). x.words) (sym f.takes.1));
      files = was.files ∙ ap files_of (sym f.takes.1);
      segments = was.segments ∙ ap (map front_of_place) (sym (places_more h es (Types first texts) ∙ append-nil (places_of es)));
    }
texts_step which.Words h es first texts place old legal here placed more run =
    let f = follows h es (Words first texts) more legal run in
    let was : IsPlaced old h es f.held = placed f.held f.run in
    record {
      types = listing_same which.Types h es (Words first texts) _ _ _ _ was.types refl (ap (λ (x : Held). x.types) (sym f.takes.1));
      words = listing_more which.Words h es (Words first texts) _ place texts _ _ _ was.words (ap (λ (p : WordsPlace). p ∷ []) here) (ap (λ (p : WordsPlace). p.count) (sym here)) (ap (λ (x : Held). x.words) (sym f.takes.1));
      files = was.files ∙ ap files_of (sym f.takes.1);
      segments = was.segments ∙ ap (map front_of_place) (sym (places_more h es (Words first texts) ∙ append-nil (places_of es)));
    }

pub texts_placed_told : (kind : Which) (p : RecordPlace) (seen : Option (List ℕ)) (first count : ℕ) (old : Placing) → IsTextsAt kind p seen first count
    → KeepsTold p seen (PlacesOf old) (PlacesOf (with_texts kind (place_by p first count) old))
texts_placed_told kind p None first count old w = tt
texts_placed_told kind p (Some bytes) first count old w = λ h es e next placed.
    let is = texts_entry kind p bytes first count w h es e next in
    subst (λ f. PlacesOf (with_texts kind (place_by p first count) old) h (es ++ f ∷ [])) (sym is.entry)
    (texts_step kind h es first is.texts (place_by p first count) old (subst (λ f. IsLegal h (es ++ f ∷ [])) is.entry next.legal) (here_is kind p (Some bytes) first count w h es is.texts next.gate is.many is.size) placed)

-- what was kept of a dictionary
listing_was : (kind : Which) (p : Placing) (h : Header) (es : List JournalEntry) (held : Held) → IsPlaced p h es held → IsListing (listing kind p) (texts_from kind 32 [] es) (texts_of kind (kept_of h held)) (limit_of kind (kept_of h held))
listing_was which.Types p h es held was = was.types
listing_was which.Words p h es held was = was.words

-- texts that may not follow
pub no_texts_told : (kind : Which) (p : RecordPlace) (seen : Option (List ℕ)) (first count : ℕ) (old : Placing) → IsTextsAt kind p seen first count
    → (first ≡ (listing kind old).count → IsOver (listing kind old) count) → NoneTold p seen (PlacesOf old)
no_texts_told kind p None first count old w none = tt
no_texts_told kind p (Some bytes) first count old w none = λ h es e next placed.
    let is = texts_entry kind p bytes first count w h es e next in
    let f = own_follows h es (entry_of kind first is.texts) (subst (λ f. IsLegal h (es ++ f ∷ [])) is.entry next.legal) in
    let was = listing_was kind old h es f.held (placed f.held f.run) in
    let may = may_follow kind h es first is.texts _ f in
    let over = none (may.0 ∙ sym was.many) in
    omega (arith, over, may.1.most, length-append (texts_of kind (kept_of h f.held)) is.texts, is.many, was.many, was.most)

-- a payload that is too short for texts
pub texts_short : (kind : Which) (p : RecordPlace) (seen : Option (List ℕ)) (old : Placing) → StandsWhole p seen → p.kind ≡ kind_of kind → p.length < 8 → NoneTold p seen (PlacesOf old)
texts_short kind p None old whole is short = tt
texts_short kind p (Some bytes) old whole is short = λ h es e next placed.
    let has = has_texts kind p bytes h es e is next in
    no_front (payload_in p bytes) (omega (arith, short, payload_size p bytes whole)) has.0 has.1.0 has.1.4

-- of such an entry its payload may be read
texts_shown : (kind : Which) (types : List (List ℕ)) (first : ℕ) (texts : List (List ℕ)) → shown_len types (entry_of kind first texts) ≡ length (texts_payload first texts)
texts_shown which.Types types first texts = refl
texts_shown which.Words types first texts = refl

pub eight_reads : (kind : Which) (p : RecordPlace) (seen : Option (List ℕ)) (old new : DiskState) → StandsWhole p seen → p.kind ≡ kind_of kind → 8 ≤ p.length → ReadsOnly p.payload 8 old new → ReadsOf p seen old.ranges new.ranges
eight_reads kind p None old new whole is long reads = tt
eight_reads kind p (Some bytes) old new whole is long reads = λ h es e next.
    let has = has_texts kind p bytes h es e is next in
    let size : p.length ≡ length (texts_payload has.0 has.1.0) = sym (payload_size p bytes whole) ∙ ap length has.1.4 in
    subst (λ (n : ℕ). ReadsWithin p.payload n old.ranges new.ranges) (sym (texts_shown kind (types_of es) has.0 has.1.0) ∙ ap (λ (f : JournalEntry). shown_len (types_of es) f) (sym has.1.1))
    (read_within p.payload 8 (length (texts_payload has.0 has.1.0)) old new (omega (arith, size, long)) reads)

-- ---- segments

-- what was read of a segment
pub record IsFrontAt (p : RecordPlace) (seen : Option (List ℕ)) (f : SegmentFront) : Type 0 where
  pub whole : StandsWhole p seen
  pub kind : p.kind ≡ 4
  pub long : 45 ≤ p.length
  pub text : List ℕ
  pub these : IfSome seen (λ bytes. text ≡ take 45 (drop p.payload bytes))
  pub at : f.at ≡ p.at
  pub payload : f.payload ≡ p.payload
  pub size : f.length ≡ p.length
  pub fits : IsFixed (fixed_in f)
  pub spells : text ≡ fixed_bytes (fixed_in f)

-- the entry of the record has it
pub record IsFrontEntry (p : RecordPlace) (f : SegmentFront) (h : Header) (es : List JournalEntry) (e : JournalEntry) : Type 0 where
  pub s : SegmentEntry
  pub entry : e ≡ Segment s
  pub size : p.length ≡ length (record_of (types_of es) (Segment s)).payload
  pub fixed : fixed_in f ≡ fixed_of (head_in (types_of es) s)

front_entry : (p : RecordPlace) (bytes : List ℕ) (f : SegmentFront) (w : IsFrontAt p (Some bytes) f) (h : Header) (es : List JournalEntry) (e : JournalEntry)
    → IsNext p.at p.kind (payload_in p bytes) h es e → IsFrontEntry p f h es e
front_entry p bytes f w h es e next =
    let payload : List ℕ = payload_in p bytes in
    let four : IsNext p.at 4 payload h es e = subst (λ k. IsNext p.at k payload h es e) w.kind next in
    let is = is_segment (types_of es) e payload (next_form p.at 4 payload h es e four) four.saved in
    let head : Head = head_in (types_of es) is.0 in
    let own : HasHead head payload = own_head (types_of es) is.0 payload is.2 is.3 in
    let lists : List ℕ = flat_map four_bytes head.types ++ flat_map four_bytes head.words in
    let front : take 45 payload ≡ fixed_bytes (fixed_in f) = take-take 45 p.length (drop p.payload bytes) w.long ∙ sym w.these ∙ w.spells in
    record {
      s = is.0;
      entry = is.1;
      size = sym (payload_size p bytes w.whole) ∙ ap length is.3;
      fixed = fixed_once (fixed_in f) (fixed_of head) w.fits own.fits.fixed
          (sym front ∙ ap (λ (l : List ℕ). take 45 l) (own.spells ∙ append_assoc (fixed_bytes (fixed_of head)) lists own.rest)
          ∙ take_at (fixed_bytes (fixed_of head)) (lists ++ own.rest) 45 (length-fixed_bytes (fixed_of head)));
    }

segment_step : (p : RecordPlace) (bytes : List ℕ) (f : SegmentFront) (w : IsFrontAt p (Some bytes) f) (old : Placing) (h : Header) (es : List JournalEntry) (s : SegmentEntry)
    → IsLegal h (es ++ Segment s ∷ []) → p.at ≡ length (front_of h es) → p.length ≡ length (record_of (types_of es) (Segment s)).payload
    → fixed_in f ≡ fixed_of (head_in (types_of es) s) → PlacesOf old h es → PlacesOf (with_segment f old) h (es ++ Segment s ∷ [])
segment_step p bytes f w old h es s legal gate size fixed placed more run =
    let g = follows h es (Segment s) more legal run in
    let was : IsPlaced old h es g.held = placed g.held g.run in
    let head : Head = head_in (types_of es) s in
    let place : SegmentPlace = record { at = length (front_of h es); payload = length (front_of h es) + 10; length = length (record_of (types_of es) (Segment s)).payload; head = head } in
    let at : f.at ≡ length (front_of h es) = w.at ∙ gate in
    let payload : f.payload ≡ length (front_of h es) + 10 = w.payload ∙ w.whole.payload ∙ ap (λ n. n + 10) gate in
    let long : f.length ≡ length (record_of (types_of es) (Segment s)).payload = w.size ∙ size in
    let here : f ≡ front_of_place place = λ i. record {
      at = at i;
      payload = payload i;
      length = long i;
      file = (fixed i).file;
      first = (fixed i).first;
      rows = (fixed i).rows;
      last = (fixed i).last;
      ended = (fixed i).ended;
      stamped = (fixed i).stamped;
      least = (fixed i).least;
      greatest = (fixed i).greatest;
      types = (fixed i).types;
      words = (fixed i).words;
      variables = (fixed i).variables;
    } in
    record {
      types = listing_same which.Types h es (Segment s) _ _ _ _ was.types refl (ap (λ (x : Held). x.types) (sym g.takes.2));
      words = listing_same which.Words h es (Segment s) _ _ _ _ was.words refl (ap (λ (x : Held). x.words) (sym g.takes.2));
      files = (λ i. set (was.files i) (here i).file (file_by (get_or (was.files i) (here i).file no_file) (here i))) ∙ sym (files_more h es s more g);
      segments = (λ i. was.segments i ++ here i ∷ []) ∙ sym (map-append front_of_place (places_of es) (place ∷ [])) ∙ ap (map front_of_place) (sym (places_more h es (Segment s)));
    }

pub segment_placed : (p : RecordPlace) (seen : Option (List ℕ)) (f : SegmentFront) (old : Placing) → IsFrontAt p seen f → KeepsTold p seen (PlacesOf old) (PlacesOf (with_segment f old))
segment_placed p None f old w = tt
segment_placed p (Some bytes) f old w = λ h es e next placed.
    let is = front_entry p bytes f w h es e next in
    subst (λ x. PlacesOf (with_segment f old) h (es ++ x ∷ [])) (sym is.entry)
    (segment_step p bytes f w old h es is.s (subst (λ x. IsLegal h (es ++ x ∷ [])) is.entry next.legal) next.gate is.size is.fixed placed)

-- a segment that does not go on with its file
pub no_segment : (p : RecordPlace) (seen : Option (List ℕ)) (f : SegmentFront) (old : Placing) → IsFrontAt p seen f
    → (f.file < length old.files → ¬ GoesOnBy (get_or old.files f.file no_file) f) → NoneTold p seen (PlacesOf old)
no_segment p None f old w none = tt
no_segment p (Some bytes) f old w none = λ h es e next placed.
    let is = front_entry p bytes f w h es e next in
    let g = own_follows h es (Segment is.s) (subst (λ x. IsLegal h (es ++ x ∷ [])) is.entry next.legal) in
    let was : IsPlaced old h es g.held = placed g.held g.run in
    let may = may_go_on h es is.s _ g in
    let file : f.file ≡ is.s.file = ap (λ (x : Fixed). x.file) is.fixed in
    let first : f.first ≡ is.s.first = ap (λ (x : Fixed). x.first) is.fixed in
    let rows : f.rows ≡ length is.s.rows = ap (λ (x : Fixed). x.rows) is.fixed in
    let one : get_or old.files f.file no_file ≡ get_or (files_of g.held) is.s.file no_file = λ i. get_or (was.files i) (file i) no_file in
    none (omega (arith, may.0, ap length was.files, file)) (record {
      whole = ap (λ (x : FileEntry). x.whole) one ∙ may.1.whole;
      first = first ∙ may.1.first ∙ ap (λ (x : FileEntry). x.messages) (sym one);
      most = omega (arith, may.1.most, first, rows);
    })
