-- A segment that was searched, or of which nothing had to be.
use Rattle.std.proofs.Common.{◌≡◌, map, inl, inr, ℕ, ◌+◌, Bool, false, List, [], ◌∷◌, length, Option, Some, None, refl, sym, ◌∙◌, ap, ap₂, subst, arith}
use Rattle.std.specs.Prelude.{slice_get, IsTrue}
use Rattle.std.specs.List.{Contains}
use Rattle.column_store.specs.declared.row.Row.{Row}
use Rattle.row_codec.specs.Means.{IsCanonical}
use Rattle.segment_format.specs.Layout.{sorted_set}
use Rattle.segment_pages.specs.Paged.{HoldsLeft, HoldsSegment, Paged}
use Rattle.query_plan.specs.Laws.{IsSearched, WideIsWider}
use Rattle.query_plan.specs.Pieces.{wide_pieces}
use Rattle.subquery_filter.specs.Laws.{BarrenHasNoMatch, words_of}
use Rattle.archive_open.specs.declared.files.FileEntry.{FileEntry}
use Rattle.archive_open.specs.declared.segments.SegmentPlace.{SegmentPlace}
use Rattle.subquery_filter.specs.Filter.{HasNoMatch, IsWithin, MayHave}
use Rattle.subquery_filter.proofs.HeadLemmas.{within_moments}
use Rattle.segment_format.specs.declared.head.Head.{Head}
use Rattle.printed_lines.specs.Lines.{Picks, Placed, numbered}
use Rattle.search_meaning.specs.Scan.{Asked, IsFound, IsTried}
use Rattle.search_walk.specs.Held.{IsTold, Named, OfLeft, OfSegments}
use Rattle.search_meaning.specs.Opened.{AreOpened, IsBarrenFor}
use Rattle.search_walk.specs.Walked.{Searched, Stopped}
use Rattle.search_walk.proofs.PickLemmas.{picks_once}
use Rattle.search_walk.proofs.SegmentLemmas.{Single, Tells, barren_found, barren_tried, not_barren, nothing_picked, number_listed, single, type_listed}

-- what holds of messages of which none is found or tried
abbrev pub Over : Named → Asked → (List Placed → Type 0) → Type 0
Over n q F = (all : List Placed) → Picks (λ p. IsFound n.version q p.message) all [] → Picks (λ p. IsTried n.version q p.message) all [] → F all

pub barren_searched : (F : List Placed → Type 0) (bytes : List ℕ) (n : Named) (f : FileEntry) (q : Asked) (p : SegmentPlace) (all : List Placed) (t : ℕ) → Over n q F → WideIsWider → BarrenHasNoMatch → IsSearched q.pattern → IsBarrenFor n.types n.words q p
    → Single bytes n f p all → Searched F n q (p ∷ []) all t t 0
barren_searched F bytes n f q p all t over wider law searched barren one =
    let has = one.has in
    record {
      reaches =
          over all
          (subst (λ l. Picks (λ (x : Placed). IsFound n.version q x.message) l []) (sym one.parts)
          (nothing_picked n (IsFound n.version q) f.name (p.head.first + 1) has.rows has.rows one.messages has.are.are (λ r is. is) (barren_found n q p has.rows wider law searched barren has.head)))
          (subst (λ l. Picks (λ (x : Placed). IsTried n.version q x.message) l []) (sym one.parts)
          (nothing_picked n (IsTried n.version q) f.name (p.head.first + 1) has.rows has.rows one.messages has.are.are (λ r is. is) (barren_tried n q p has.rows law searched barren has.head)));
      opened = [];
      are_opened = inr (λ no. no barren, refl);
      ticked = omega arith;
      counted = refl;
    }

pub barren_done : (F : List Placed → Type 0) (seen : Option (List ℕ)) (n : Named) (files : List FileEntry) (q : Asked) (p : SegmentPlace) (b : Bool) (t : ℕ) → Over n q F → WideIsWider → BarrenHasNoMatch → IsSearched q.pattern → Tells n q p b → IsTrue b
    → OfSegments seen n files (p ∷ []) (λ _ all. Searched F n q (p ∷ []) all t t 0)
barren_done F None n files q p b t over wider law searched told truly = tt
barren_done F (Some bytes) n files q p b t over wider law searched told truly = λ all distinct have.
    let one = single bytes n files have.0 p all have.3 have in
    barren_searched F bytes n have.0 q p all t over wider law searched ((told one.has.are.told one.has.holds.is_head distinct).0 truly) one

-- one of whose rows none is matched, as its head's lists tell
pub unmatched_done : (F : List Placed → Type 0) (seen : Option (List ℕ)) (n : Named) (files : List FileEntry) (q : Asked) (p : SegmentPlace) (b : Bool) (t u : ℕ) → Over n q F → WideIsWider → Tells n q p b → b ≡ false
    → (IsTold n → HasNoMatch (wide_pieces q.pattern) n.types n.words p.head) → u ≡ t + 1
    → OfSegments seen n files (p ∷ []) (λ _ all. Searched F n q (p ∷ []) all t u 1)
unmatched_done F None n files q p b t u over wider told shut unmatched ticked = tt
unmatched_done F (Some bytes) n files q p b t u over wider told shut unmatched ticked = λ all distinct have.
    let one = single bytes n files have.0 p all have.3 have in
    let has = one.has in
    let types : p.head.types ≡ sorted_set (map (λ (x : Row). x.log_type) has.rows) = ap (λ (h : Head). h.types) has.head in
    let words : p.head.words ≡ words_of n.types has.rows = ap (λ (h : Head). h.words) has.head in
    let may : (r : Row) → Contains has.rows r → MayHave n.types p.head r = λ r here. record {
      listed = subst (λ l. Contains l r.log_type) (sym types) (type_listed has.rows r here);
      words = λ k is. subst (λ l. Contains l k) (sym words) (number_listed n.types has.rows r k here is);
      within = λ stamped. subst (λ (h : Head). IsWithin h r.moment) (sym has.head) (within_moments has.rows r here stamped);
    } in
    let none : (r : Row) (m : List ℕ) → Contains has.rows r → IsCanonical n.version r n.types n.words m → ¬ IsTried n.version q m =
    λ r m here canonical f. unmatched has.are.told n.version r m (may r here) canonical f.matched in
    record {
      reaches =
          over all
          (subst (λ l. Picks (λ (x : Placed). IsFound n.version q x.message) l []) (sym one.parts)
          (nothing_picked n (IsFound n.version q) have.0.name (p.head.first + 1) has.rows has.rows one.messages has.are.are (λ r is. is)
          (λ r m here canonical f. none r m here canonical (record { matched = wider q.pattern m f.matched; inside = f.inside }))))
          (subst (λ l. Picks (λ (x : Placed). IsTried n.version q x.message) l []) (sym one.parts)
          (nothing_picked n (IsTried n.version q) have.0.name (p.head.first + 1) has.rows has.rows one.messages has.are.are (λ r is. is) none));
      opened = p ∷ [];
      are_opened = inl ([], not_barren n q p b told shut has.are.told has.holds.is_head distinct, refl, refl);
      ticked = ticked;
      counted = refl;
    }

pub opened_done : (F : List Placed → Type 0) (seen : Option (List ℕ)) (n : Named) (files : List FileEntry) (f : FileEntry) (q : Asked) (p : SegmentPlace) (b : Bool) (pages : Paged) (name : List ℕ) (number t u : ℕ) → Tells n q p b → b ≡ false
    → slice_get files p.head.file ≡ Some f → name ≡ f.name → number ≡ p.head.first + 1 → ((bytes : List ℕ) (rows : List Row) → HoldsSegment p.payload p.length p.head bytes rows → HoldsLeft pages bytes rows)
    → OfLeft seen pages n (λ messages. F (numbered name number messages)) → u ≡ t + 1 → OfSegments seen n files (p ∷ []) (λ _ all. Searched F n q (p ∷ []) all t u 1)
opened_done F None n files f q p b pages name number t u told shut file called first opens passes ticked = tt
opened_done F (Some bytes) n files f q p b pages name number t u told shut file called first opens passes ticked = λ all distinct have.
    let one = single bytes n files f p all file have in
    let rest = passes one.has.rows one.messages (opens bytes one.has.rows one.has.holds) one.has.are in
    record {
      reaches = subst F (ap₂ (λ (x : List ℕ) (k : ℕ). numbered x k one.messages) called first ∙ sym one.parts) rest;
      opened = p ∷ [];
      are_opened = inl ([], not_barren n q p b told shut one.has.are.told one.has.holds.is_head distinct, refl, refl);
      ticked = ticked;
      counted = refl;
    }

pub opened_stops : (H : List Placed → Type 0) (seen : Option (List ℕ)) (n : Named) (files : List FileEntry) (f : FileEntry) (q : Asked) (p : SegmentPlace) (b : Bool) (pages : Paged) (name : List ℕ) (number t u : ℕ) → Tells n q p b → b ≡ false
    → slice_get files p.head.file ≡ Some f → name ≡ f.name → number ≡ p.head.first + 1 → ((bytes : List ℕ) (rows : List Row) → HoldsSegment p.payload p.length p.head bytes rows → HoldsLeft pages bytes rows)
    → OfLeft seen pages n (λ messages. H (numbered name number messages)) → u ≡ t + 1 → OfSegments seen n files (p ∷ []) (λ _ all. Stopped H n q (p ∷ []) all t u)
opened_stops H None n files f q p b pages name number t u told shut file called first opens stops ticked = tt
opened_stops H (Some bytes) n files f q p b pages name number t u told shut file called first opens stops ticked = λ all distinct have.
    let one = single bytes n files f p all file have in
    let rest = stops one.has.rows one.messages (opens bytes one.has.rows one.has.holds) one.has.are in
    let own : AreOpened n.types n.words q (p ∷ []) (p ∷ []) = inl ([], not_barren n q p b told shut one.has.are.told one.has.holds.is_head distinct, refl, refl) in
    record {
      halts = subst H (ap₂ (λ (x : List ℕ) (k : ℕ). numbered x k one.messages) called first ∙ sym one.parts) rest;
      most = λ opened are.
          let same : opened ≡ p ∷ [] = picks_once (λ x. ¬ IsBarrenFor n.types n.words q x) (p ∷ []) opened (p ∷ []) are own in
          omega (arith, ticked, ap (λ (l : List SegmentPlace). length l) same);
    }
