-- What is told of a segment by what was loaded of it.
use Rattle.std.proofs.Common.{◌≡◌, ◌≢◌, inl, inr, ℕ, ◌+◌, ◌*◌, ◌^◌, ◌<◌, ◌≤◌, Bool, List, [], ◌∷◌, ◌++◌, length, take, drop, Option, Some, None, refl, sym, ◌∙◌, ap, subst, arith, length-append, take-append-drop}
use Rattle.std.specs.Prelude.{slice_get}
use Rattle.std.proofs.lemmas.List.{append_assoc, drop-drop, length-take, length-drop}
use Rattle.column_store.specs.declared.row.Row.{Row}
use Rattle.segment_format.specs.declared.head.Head.{Head}
use Rattle.segment_format.specs.Layout.{fixed_of, head_length}
use Rattle.segment_format.specs.Pages.{first_page}
use Rattle.segment_format.specs.Spelled.{AreColumnsIn}
use Rattle.segment_pages.specs.Paged.{HoldsLeft, HoldsSegment, Paged, StandsAt, columns_size, paged_first}
use Rattle.archive_meaning.specs.declared.TheConstants.{MAX_MESSAGES}
use Rattle.archive_open.specs.declared.files.FileEntry.{FileEntry}
use Rattle.archive_open.specs.declared.segments.SegmentPlace.{SegmentPlace}
use Rattle.archive_places.specs.declared.front.SegmentFront.{SegmentFront}
use Rattle.archive_places.specs.Fronts.{front_of_place}
use Rattle.archive_places.specs.Heads.{OfFront}
use Rattle.archive_places.specs.TypeHeads.{without_words}
use Rattle.log_seams.specs.Disk.{DiskState, ReadsOnly}
use Rattle.query_plan.specs.Pieces.{wide_pieces}
use Rattle.subquery_filter.specs.ByTypes.{NeedsNoVariable, with_words}
use Rattle.subquery_filter.specs.Filter.{HasNoMatch}
use Rattle.subquery_filter.proofs.TypesLemmas.{barren_still, head_without}
use Rattle.search_meaning.specs.Scan.{Asked}
use Rattle.search_walk.specs.declared.loaded.LoadedSegment.{LoadedSegment}
use Rattle.search_walk.specs.Held.{Named, OfSegments}
use Rattle.search_walk.specs.Loaded.{IsLoaded, OfLoaded}
use Rattle.search_walk.specs.Opened.{IsOpened, columns_at}
use Rattle.search_walk.proofs.SegmentLemmas.{Tells, file_none, first_none, open_none}

-- ---- the head

pub loaded_file : (q : Asked) (s : LoadedSegment) (p : SegmentPlace) → IsLoaded q s p → s.place.head.file ≡ p.head.file
loaded_file q s p (inl (same, zero_of)) = ap (λ (x : SegmentPlace). x.head.file) same
loaded_file q s p (inr (none, (same, count))) = ap (λ (x : SegmentPlace). x.head.file) same

pub loaded_first : (q : Asked) (s : LoadedSegment) (p : SegmentPlace) → IsLoaded q s p → s.place.head.first ≡ p.head.first
loaded_first q s p (inl (same, zero_of)) = ap (λ (x : SegmentPlace). x.head.first) same
loaded_first q s p (inr (none, (same, count))) = ap (λ (x : SegmentPlace). x.head.first) same

-- ---- barren segments

spared_tells : (n : Named) (q : Asked) (p : SegmentPlace) (b : Bool) → NeedsNoVariable (wide_pieces q.pattern) → Tells n q (without_words p) b → Tells n q p b
spared_tells n q p b none tells told is_head distinct =
    let own = tells told (head_without p.head is_head) distinct in (
      λ yes. barren_still (wide_pieces q.pattern) q.range n.types n.words p.head [] p.head.words none (own.0 yes),
      λ barren. own.1 (barren_still (wide_pieces q.pattern) q.range n.types n.words p.head p.head.words [] none barren),
    )

pub loaded_tells : (n : Named) (q : Asked) (s : LoadedSegment) (b : Bool) → Tells n q s.place b → OfLoaded q s (λ p. Tells n q p b)
loaded_tells n q s b tells p (inl (same, zero_of)) = subst (λ (x : SegmentPlace). Tells n q x b) same tells
loaded_tells n q s b tells p (inr (none, (same, count))) = spared_tells n q p b none (subst (λ (x : SegmentPlace). Tells n q x b) same tells)

-- ---- segments that cannot match

no_list : (ws : List ℕ) → length ws ≡ 0 → ws ≡ []
no_list [] none = refl
no_list (w ∷ ws) none = absurd (omega (arith, none))

-- all of the head was read, or there was no more to read
pub whole_unmatched : (n : Named) (q : Asked) (s : LoadedSegment) → s.unread ≡ 0 → HasNoMatch (wide_pieces q.pattern) n.types n.words s.place.head
    → OfLoaded q s (λ p. HasNoMatch (wide_pieces q.pattern) n.types n.words p.head)
whole_unmatched n q s read unmatched p (inl (same, zero_of)) = subst (λ (x : SegmentPlace). HasNoMatch (wide_pieces q.pattern) n.types n.words x.head) same unmatched
whole_unmatched n q s read unmatched p (inr (none, (same, count))) =
    let empty : p.head.words ≡ [] = no_list p.head.words (sym count ∙ read) in
    let own : s.place.head ≡ with_words p.head.words p.head = ap (λ (x : SegmentPlace). x.head) same ∙ ap (λ (ws : List ℕ). with_words ws p.head) (sym empty) in
    subst (HasNoMatch (wide_pieces q.pattern) n.types n.words) own unmatched

pub spared_unmatched : (n : Named) (q : Asked) (s : LoadedSegment) → s.unread ≢ 0 → ((words : List ℕ) → HasNoMatch (wide_pieces q.pattern) n.types n.words (with_words words s.place.head))
    → OfLoaded q s (λ p. HasNoMatch (wide_pieces q.pattern) n.types n.words p.head)
spared_unmatched n q s left unmatched p (inl (same, zero_of)) = absurd (left zero_of)
spared_unmatched n q s left unmatched p (inr (none, (same, count))) =
    subst (λ (x : SegmentPlace). HasNoMatch (wide_pieces q.pattern) n.types n.words (with_words p.head.words x.head)) same (unmatched p.head.words)

-- ---- opened segments

-- a text behind some bytes of another
stands_behind : (at k : ℕ) (text bytes : List ℕ) → k ≤ length text → StandsAt at text bytes → StandsAt (at + k) (drop k text) bytes
stands_behind at k text bytes le stands = record {
  front = stands.front ++ take k text;
  behind = stands.behind;
  spells =
      stands.spells ∙ ap (λ (l : List ℕ). stands.front ++ (l ++ stands.behind)) (sym (take-append-drop k text))
      ∙ ap (λ (l : List ℕ). stands.front ++ l) (append_assoc (take k text) (drop k text) stands.behind)
      ∙ sym (append_assoc stands.front (take k text) (drop k text ++ stands.behind));
  place = omega (arith, stands.place, length-append stands.front (take k text), length-take k text, le);
}

-- a segment without its words, so many bytes later
spared_holds : (p : SegmentPlace) (size : ℕ) (bytes : List ℕ) (rows : List Row) → size + 4 * length p.head.words ≡ p.length → HoldsSegment p.payload p.length p.head bytes rows
    → HoldsSegment (p.payload + 4 * length p.head.words) size (with_words [] p.head) bytes rows
spared_holds p size bytes rows shorter holds =
    let k : ℕ = 4 * length p.head.words in
    let m : ℕ = head_length (fixed_of (with_words [] p.head)) in
    let long : head_length (fixed_of p.head) ≤ length holds.payload = holds.holds.front in
    let whole : k + m ≡ head_length (fixed_of p.head) = omega arith in
    let same : drop (head_length (fixed_of p.head)) holds.payload ≡ drop m (drop k holds.payload) =
    ap (λ (j : ℕ). drop j holds.payload) (sym whole) ∙ sym (drop-drop m k holds.payload) in
    record {
      is_head = head_without p.head holds.is_head;
      payload = drop k holds.payload;
      stands = stands_behind p.payload k holds.payload bytes (omega (arith, long)) holds.stands;
      sized = omega (arith, length-drop k holds.payload, holds.sized, shorter);
      small = omega (arith, holds.small, shorter);
      holds = record {
        front = omega (arith, length-drop k holds.payload, long);
        behind = subst (λ (l : List ℕ). AreColumnsIn l p.head.rows p.head.variables rows) same holds.holds.behind;
      };
    }

-- what opens as this does: at a place and of a size
pub record IsLike (s : LoadedSegment) (at size : ℕ) (p : SegmentPlace) : Type 0 where
  pub start : at + head_length (fixed_of s.place.head) ≡ columns_at p
  pub columns : columns_size (first_page s.place.head) ≡ columns_size (first_page p.head)
  pub holds : (bytes : List ℕ) (rows : List Row) → HoldsSegment p.payload p.length p.head bytes rows → HoldsSegment at size s.place.head bytes rows

held_same : (a b c d : ℕ) (g h : Head) (bytes : List ℕ) (rows : List Row) → a ≡ b → c ≡ d → g ≡ h → HoldsSegment a c g bytes rows → HoldsSegment b d h bytes rows
held_same a b c d g h bytes rows at size head holds =
    subst (λ (x : ℕ). HoldsSegment x d h bytes rows) at (subst (λ (x : ℕ). HoldsSegment a x h bytes rows) size (subst (λ (x : Head). HoldsSegment a c x bytes rows) head holds))

pub loaded_like : (q : Asked) (s : LoadedSegment) (at size : ℕ) → at ≡ s.place.payload + 4 * s.unread → size + 4 * s.unread ≡ s.place.length → OfLoaded q s (IsLike s at size)
loaded_like q s at size later shorter p (inl (same, zero_of)) =
    let head : p.head ≡ s.place.head = ap (λ (x : SegmentPlace). x.head) (sym same) in
    let place : p.payload ≡ at = omega (arith, later, zero_of, ap (λ (x : SegmentPlace). x.payload) same) in
    let long : p.length ≡ size = omega (arith, shorter, zero_of, ap (λ (x : SegmentPlace). x.length) same) in
    record {
      start = omega (arith, place, ap (λ (h : Head). head_length (fixed_of h)) head);
      columns = ap (λ (h : Head). columns_size (first_page h)) (sym head);
      holds = λ bytes rows holds. held_same p.payload at p.length size p.head s.place.head bytes rows place long head holds;
    }
loaded_like q s at size later shorter p (inr (none, (same, count))) =
    let k : ℕ = length p.head.words in
    let head : with_words [] p.head ≡ s.place.head = ap (λ (x : SegmentPlace). x.head) (sym same) in
    let place : p.payload + 4 * k ≡ at = omega (arith, later, count, ap (λ (x : SegmentPlace). x.payload) same) in
    let long : size + 4 * k ≡ p.length = omega (arith, shorter, count, ap (λ (x : SegmentPlace). x.length) same) in
    record {
      start = omega (arith, place, ap (λ (h : Head). head_length (fixed_of h)) head);
      columns = ap (λ (h : Head). columns_size (first_page h)) (sym head);
      holds = λ bytes rows holds. held_same (p.payload + 4 * k) at size size (with_words [] p.head) s.place.head bytes rows place refl head (spared_holds p size bytes rows long holds);
    }

pub loaded_opened : (q : Asked) (s : LoadedSegment) (files : List FileEntry) (f : FileEntry) (at size : ℕ) (pages : Paged) (old new : ℕ) → at ≡ s.place.payload + 4 * s.unread → size + 4 * s.unread ≡ s.place.length
    → slice_get files s.place.head.file ≡ Some f → pages ≡ paged_first at s.place.head → ((bytes : List ℕ) (rows : List Row) → HoldsSegment at size s.place.head bytes rows → HoldsLeft pages bytes rows) → new ≡ old + 1
    → OfLoaded q s (λ p. IsOpened files p f pages old new)
loaded_opened q s files f at size pages old new later shorter found starts holds ticked p is =
    let like = loaded_like q s at size later shorter p is in
    record {
      file = subst (λ (k : ℕ). slice_get files k ≡ Some f) (loaded_file q s p is) found;
      start = ap (λ (x : Paged). x.at + x.pages.start) starts ∙ like.start;
      size = ap (λ (x : Paged). columns_size x.pages) starts ∙ like.columns;
      holds = λ bytes rows there. holds bytes rows (like.holds bytes rows there);
      ticked = ticked;
    }

-- ---- segments that no archive has

pub loaded_no_file : (q : Asked) (s : LoadedSegment) (files : List FileEntry) → length files ≤ s.place.head.file → OfLoaded q s (λ p. (seen : Option (List ℕ)) (n : Named) → OfSegments seen n files (p ∷ []) (λ _ _. ⊥))
loaded_no_file q s files few p is seen n = file_none seen n files p (subst (λ (k : ℕ). length files ≤ k) (loaded_file q s p is) few)

pub loaded_no_first : (q : Asked) (s : LoadedSegment) (files : List FileEntry) → MAX_MESSAGES < s.place.head.first → OfLoaded q s (λ p. (seen : Option (List ℕ)) (n : Named) → OfSegments seen n files (p ∷ []) (λ _ _. ⊥))
loaded_no_first q s files many p is seen n = first_none seen n files p (subst (λ (k : ℕ). MAX_MESSAGES < k) (loaded_first q s p is) many)

-- its payload has not as many bytes as its words, or ends behind the last place
pub loaded_no_room : (q : Asked) (s : LoadedSegment) (files : List FileEntry) → (4 * s.unread ≤ s.place.length → 2 ^ 64 ≤ s.place.payload + s.place.length)
    → OfLoaded q s (λ p. (seen : Option (List ℕ)) (n : Named) → OfSegments seen n files (p ∷ []) (λ _ _. ⊥))
loaded_no_room q s files short p is seen n = open_none seen n files p (λ bytes rows holds. no_room p is bytes rows holds)
  where
    far : (p : SegmentPlace) (bytes : List ℕ) (rows : List Row) → HoldsSegment p.payload p.length p.head bytes rows → s.unread ≤ length p.head.words → s.place.payload ≡ p.payload → s.place.length ≡ p.length → ⊥
    far p bytes rows holds few place long =
        let room : 4 * s.unread ≤ s.place.length = omega (arith, few, long, holds.sized, holds.holds.front) in
        omega (arith, short room, place, long, holds.small)

    no_room : (p : SegmentPlace) → IsLoaded q s p → (bytes : List ℕ) (rows : List Row) → HoldsSegment p.payload p.length p.head bytes rows → ⊥
    no_room p (inl (same, zero_of)) bytes rows holds =
        far p bytes rows holds (omega (arith, zero_of)) (ap (λ (x : SegmentPlace). x.payload) same) (ap (λ (x : SegmentPlace). x.length) same)
    no_room p (inr (none, (same, count))) bytes rows holds =
        far p bytes rows holds (omega (arith, count)) (ap (λ (x : SegmentPlace). x.payload) same) (ap (λ (x : SegmentPlace). x.length) same)

pub loaded_no_pages : (q : Asked) (s : LoadedSegment) (files : List FileEntry) (at size : ℕ) → at ≡ s.place.payload + 4 * s.unread → size + 4 * s.unread ≡ s.place.length → ((bytes : List ℕ) (rows : List Row) → ¬ HoldsSegment at size s.place.head bytes rows)
    → OfLoaded q s (λ p. (seen : Option (List ℕ)) (n : Named) → OfSegments seen n files (p ∷ []) (λ _ _. ⊥))
loaded_no_pages q s files at size later shorter none p is seen n =
    let like = loaded_like q s at size later shorter p is in
    open_none seen n files p (λ bytes rows holds. none bytes rows (like.holds bytes rows holds))

-- ---- what was loaded

front_weaker : (told : Option (List ℕ)) (front : SegmentFront) (P Q : SegmentPlace → Type 0) → ((p : SegmentPlace) → front_of_place p ≡ front → P p → Q p) → OfFront told front P → OfFront told front Q
front_weaker None front P Q step all = tt
front_weaker (Some bytes) front P Q step all = λ p is has. step p is (all p is has)

pub whole_loaded : (q : Asked) (told : Option (List ℕ)) (front : SegmentFront) (s : LoadedSegment) → s.unread ≡ 0 → OfFront told front (λ p. s.place ≡ p) → OfFront told front (IsLoaded q s)
whole_loaded q told front s none = front_weaker told front (λ p. s.place ≡ p) (IsLoaded q s) (λ p is same. inl (same, none))

pub spared_loaded : (q : Asked) (told : Option (List ℕ)) (front : SegmentFront) (s : LoadedSegment) → NeedsNoVariable (wide_pieces q.pattern) → s.unread ≡ front.words → OfFront told front (λ p. s.place ≡ without_words p)
    → OfFront told front (IsLoaded q s)
spared_loaded q told front s none count =
    front_weaker told front (λ p. s.place ≡ without_words p) (IsLoaded q s) (λ p is same. inr (none, (same, count ∙ ap (λ (f : SegmentFront). f.words) (sym is))))

pub reads_more : (at m n : ℕ) (old new : DiskState) → m ≤ n → ReadsOnly at m old new → ReadsOnly at n old new
reads_more at m n old new le (inl same) = inl same
reads_more at m n old new le (inr read) = inr (read.0, omega (arith, le, read.1), read.2)
