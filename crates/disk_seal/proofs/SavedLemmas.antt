-- Behind the records of all texts that are not saved nothing is unsaved.
use Rattle.std.proofs.Common.{◌≡◌, ℕ, List, [], ◌∷◌, ◌++◌, take, drop, refl, sym, ap, ◌∙◌, Bool, true, false, None, append-nil, append_assoc}
use Rattle.std.proofs.lemmas.List.{take-append-drop}
use Rattle.turn_lock.specs.Words.{seen}
use Rattle.archive_meaning.specs.declared.entry.SegmentEntry.{SegmentEntry}
use Rattle.archive_meaning.specs.declared.entry.JournalEntry.{JournalEntry}
use Rattle.archive_meaning.specs.declared.entry.JournalEntry.TheVariants.{Segment}
use Rattle.archive_meaning.specs.Spelled.{types_in, types_of}
use Rattle.ingest_meaning.specs.WordsIn.{words_in, words_of}
use Rattle.disk_seal.specs.declared.draft.Draft.{Draft}
use Rattle.disk_seal.specs.declared.pieces.Piece.{Piece}
use Rattle.disk_seal.specs.Told.{IfTold}
use Rattle.disk_seal.specs.View.{StoreState, tells, journal_of, Kept}
use Rattle.disk_seal.specs.Pieces.{added_by}
use Rattle.disk_seal.specs.Planned.{entries_with, segment_of, types_from, words_from}
use Rattle.disk_seal.specs.Prepare.{HaveAllTexts, SavesAll}

types_joined : (es more : List JournalEntry) → types_of (es ++ more) ≡ types_of es ++ types_of more
types_joined [] more = refl
types_joined (e ∷ es) more = ap (λ l. types_in e ++ l) (types_joined es more) ∙ sym (append_assoc (types_in e) (types_of es) (types_of more))

words_joined : (es more : List JournalEntry) → words_of (es ++ more) ≡ words_of es ++ words_of more
words_joined [] more = refl
words_joined (e ∷ es) more = ap (λ l. words_in e ++ l) (words_joined es more) ∙ sym (append_assoc (words_in e) (words_of es) (words_of more))

types_along : (first first_words : ℕ) (types words : List (List ℕ)) (s : SegmentEntry) → types_of (types_from first types ++ (words_from first_words words ++ Segment s ∷ [])) ≡ types
types_along first first_words [] [] s = refl
types_along first first_words [] (w ∷ ws) s = refl
types_along first first_words (t ∷ ts) [] s = append-nil (t ∷ ts)
types_along first first_words (t ∷ ts) (w ∷ ws) s = append-nil (t ∷ ts)

words_along : (first first_words : ℕ) (types words : List (List ℕ)) (s : SegmentEntry) → words_of (types_from first types ++ (words_from first_words words ++ Segment s ∷ [])) ≡ words
words_along first first_words [] [] s = refl
words_along first first_words [] (w ∷ ws) s = append-nil (w ∷ ws)
words_along first first_words (t ∷ ts) [] s = refl
words_along first first_words (t ∷ ts) (w ∷ ws) s = append-nil (w ∷ ws)

-- the saved texts and the others are all
whole : (saved : ℕ) (texts had more : List (List ℕ)) → take saved texts ≡ had → more ≡ drop saved texts → had ++ more ≡ texts
whole saved texts had more front rest = ap (λ l. l ++ more) (sym front) ∙ ap (λ l. take saved texts ++ l) rest ∙ take-append-drop saved texts

with_all : (d : Draft) (ps : List Piece) (s : StoreState) → added_by ps ≡ entries_with d s → take s.types_saved (seen s.types) ≡ types_of (journal_of s) → take s.words_saved (seen s.words) ≡ words_of (journal_of s)
    → (added_by ps ≡ entries_with d s) × HaveAllTexts (journal_of s ++ added_by ps) s
with_all d ps s are types words = (
  are,
  record {
    types = types_joined (journal_of s) (added_by ps)
        ∙ whole s.types_saved (seen s.types) (types_of (journal_of s)) (types_of (added_by ps)) types
        (ap types_of are ∙ types_along s.types_saved s.words_saved (drop s.types_saved (seen s.types)) (drop s.words_saved (seen s.words)) (segment_of d));
    words = words_joined (journal_of s) (added_by ps)
        ∙ whole s.words_saved (seen s.words) (words_of (journal_of s)) (words_of (added_by ps)) words
        (ap words_of are ∙ words_along s.types_saved s.words_saved (drop s.types_saved (seen s.types)) (drop s.words_saved (seen s.words)) (segment_of d));
  },
)

told_three : {P Q R T : Type 0} (b : Bool) → (P → Q → R → T) → IfTold b P → IfTold b Q → IfTold b R → IfTold b T
told_three false f p q r = tt
told_three true f p q r = f p q r

pub saves_all : (d : Draft) (ps : List Piece) (s : StoreState) → Kept s → (s.stopped ≡ None → IfTold (tells s) (added_by ps ≡ entries_with d s)) → SavesAll d ps s
saves_all d ps s k all runs = told_three (tells s) (with_all d ps s) (all runs) k.types.front k.words.front
