-- What bytes have of a file can be told, so that a source can be made that tells it.
use Rattle.std.proofs.Common.{◌≡◌, refl, subst, inl, inr, ⊎_elim, ℕ, List, [], ◌∷◌, ◌++◌, Option, None, Some}
use Rattle.std.specs.Coded.{Coded-set, coded_list, coded_option, coded_ℕ}
use mathlib.Core.Logic.{∥∥₁_elim}
use Rattle.column_store.specs.declared.row.Row.{Row}
use Rattle.segment_pages.specs.Paged.{HoldsSegment}
use Rattle.archive_meaning.specs.Held.{text_from}
use Rattle.archive_open.specs.declared.segments.SegmentPlace.{SegmentPlace}
use Rattle.archive_text.specs.Told.{AreWritten, FileParts, HasText, HoldAllWritten, HoldsWritten, Tells}
use Rattle.archive_text.specs.OneText.{one_segment, one_told}
use Rattle.archive_text.proofs.DecideRow.{dec_rows}
use Rattle.archive_text.proofs.DecideSegment.{dec_segment}
use Rattle.archive_text.proofs.DecideStamp.{Decided}

module _ (types words : List (List ℕ)) (bytes : List ℕ) where
  dec_place : (place : SegmentPlace) → Decided ((messages : List (List ℕ)) × HoldsWritten types words place bytes messages)
  dec_place place = ⊎_elim held (λ none. inr (λ has. none (has.1.rows, has.1.holds))) (dec_segment place.payload place.length place.head bytes)
    where
      held : (rows : List Row) × HoldsSegment place.payload place.length place.head bytes rows → Decided ((messages : List (List ℕ)) × HoldsWritten types words place bytes messages)
      held (rows, holds) =
          ⊎_elim (λ all. inl (all.0, record { rows = rows; holds = holds; written = all.1 }))
          (λ none. inr (λ has. none (has.0, subst (λ rs. AreWritten types words rs has.0) (one_segment place.payload place.length place.head bytes has.1.rows rows has.1.holds holds) has.1.written)))
          (dec_rows types words rows holds.holds.behind.fit)

  dec_all : (places : List SegmentPlace) → Decided ((messages : List (List ℕ)) × HoldAllWritten types words places bytes messages)
  dec_all [] = inl ([], refl)
  dec_all (place ∷ places) =
      ⊎_elim (λ one. ⊎_elim (λ others. inl (one.0 ++ others.0, (one.0, others.0, refl, one.1, others.1))) (λ none. inr (λ has. none (has.1.1, has.1.4))) (dec_all places))
      (λ none. inr (λ has. none (has.1.0, has.1.3))) (dec_place place)

-- what is told of a file
tells : (f : FileParts) (seen : Option (List ℕ)) → (told : Option (List ℕ)) × Tells f seen told
tells f None = (None, λ bytes text told. absurd (cc told))
tells f (Some bytes) =
    ⊎_elim (λ all. (Some (text_from f.open_end all.0), (bytes, refl, record { messages = all.0; hold = all.1; is = refl })))
    (λ none. (
      None,
      λ b text told is.
          let same : b ≡ bytes = cc told in
          none (is.messages, subst (λ l. HoldAllWritten f.types f.words f.places l is.messages) same is.hold),
    ))
    (dec_all f.types f.words bytes f.places)

pub told_value : (f : FileParts) (seen : Option (List ℕ)) → HasText f seen
told_value f seen = let told = tells f seen in (told.0, ∣ told.1 ∣₁)

-- the value is what is told
pub told_is : (f : FileParts) (seen : Option (List ℕ)) (value : HasText f seen) → Tells f seen value.0
told_is f seen value =
    let told = tells f seen in
    let same : told.0 ≡ value.0 = ∥∥₁_elim value.1 (Coded-set (coded_option (coded_list coded_ℕ)) told.0 value.0) (λ other. one_told f seen told.0 value.0 told.1 other) in
    subst (λ t. Tells f seen t) same told.1
