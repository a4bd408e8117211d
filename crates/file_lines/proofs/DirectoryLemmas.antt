-- The lines of files, one more at a time.
use Rattle.std.proofs.Common.{◌≡◌, ◌+◌, ◌<◌, refl, sym, ap, subst, ◌∙◌, ℕ, zero, suc, List, [], ◌∷◌, ◌++◌, Option, append_assoc, length, map, take, get_or, arith, Result, Ok, Err, OnErr}
use Rattle.std.proofs.lemmas.List.{append-nil}
use Rattle.sink_pieces.specs.Output.{Gathers, GrewByFront, Moves}
use Rattle.sink_pieces.proofs.OutputLemmas.{Gathers-front, Gathers-kept, Gathers-more, Gathers-moves}
use Rattle.file_lines.specs.Directory.{FileLine, directory_from, directory_line}

-- of an answer that is an error
pub on_err : {T E : Type 0} (r : Result T E) {P : Type 0} → P → OnErr r P
on_err (Ok value) p = tt
on_err (Err refusal) p = p

-- the lines of some first files are a front of all
pub directory-front : {A : Type 0} (f : A → FileLine) (number i : ℕ) (files : List A) → (rest : List ℕ) × (directory_from number (map f files) ≡ directory_from number (map f (take i files)) ++ rest)
directory-front f number zero files = (directory_from number (map f files), refl)
directory-front f number (suc i) [] = ([], refl)
directory-front f number (suc i) (file ∷ files) =
    let after = directory-front f (number + 1) i files in
    (after.0, ap (λ t. directory_line number (f file) ++ t) after.1 ∙ sym (append_assoc (directory_line number (f file)) _ _))

-- and those of one file more have its line behind them
pub directory-more : {A : Type 0} (f : A → FileLine) (number i : ℕ) (files : List A) (none : A) → i < length files → directory_from number (map f (take (suc i) files)) ≡ directory_from number (map f (take i files)) ++ directory_line (number + i) (f (get_or files i none))
directory-more f number i [] none within = absurd (omega (arith, within))
directory-more f number zero (file ∷ files) none within = append-nil (directory_line number (f file)) ∙ ap (λ n. directory_line n (f file)) (omega arith)
directory-more f number (suc i) (file ∷ files) none within =
    ap (λ t. directory_line number (f file) ++ t) (directory-more f (number + 1) i files none (omega (arith, within)) ∙ ap (λ n. directory_from (number + 1) (map f (take i files)) ++ directory_line n (f (get_or files i none))) (omega arith))
    ∙ sym (append_assoc (directory_line number (f file)) _ _)

-- a front of a front
pub GrewByFront-longer : (old new : Option (List ℕ)) (text whole rest : List ℕ) → whole ≡ text ++ rest → GrewByFront old new text → GrewByFront old new whole
GrewByFront-longer old new text whole rest e f = (f.0, f.1 ++ rest, e ∙ (ap (λ t. t ++ rest) f.2 ∙ append_assoc f.0 f.1 rest), f.3)

-- ---- gathering the lines

module _ {A : Type 0} (f : A → FileLine) (first : ℕ) where
  -- the lines of some first files
  abbrev pub lines_of : ℕ → List A → List ℕ
  lines_of i files = directory_from first (map f (take i files))

  -- some of what was gathered, and no more, went out
  pub directory_kept : (start now : Option (List ℕ)) (gathered : List ℕ) (files : List A) (i : ℕ) → Gathers start now gathered (lines_of i files) → GrewByFront start now (directory_from first (map f files))
  directory_kept start now gathered files i g = let front = directory-front f first i files in GrewByFront-longer start now _ (directory_from first (map f files)) front.0 front.1 (Gathers-kept start now gathered _ g)

  directory_next : (files : List A) (i : ℕ) (file : A) → i < length files → file ≡ get_or files i file → lines_of (i + 1) files ≡ lines_of i files ++ directory_line (first + i) (f file)
  directory_next files i file within is =
      let next : i + 1 ≡ suc i = omega arith in
      ap (λ n. lines_of n files) next
      ∙ (directory-more f first i files file within ∙ ap (λ x. lines_of i files ++ directory_line (first + i) (f x)) (sym is))

  pub directory_step : (start now new : Option (List ℕ)) (gathered all rest : List ℕ) (files : List A) (i : ℕ) (file : A) → i < length files → file ≡ get_or files i file → all ≡ gathered ++ directory_line (first + i) (f file)
      → Gathers start now gathered (lines_of i files) → Moves now new all rest → Gathers start new rest (lines_of (i + 1) files)
  directory_step start now new gathered all rest files i file within is e g moves =
      subst (λ t. Gathers start new rest t) (sym (directory_next files i file within is)) (Gathers-moves start now new all rest _ (Gathers-more start now gathered all _ (directory_line (first + i) (f file)) e g) moves)

  pub directory_stopped : (start now new : Option (List ℕ)) (gathered all : List ℕ) (files : List A) (i : ℕ) (file : A) → i < length files → file ≡ get_or files i file → all ≡ gathered ++ directory_line (first + i) (f file)
      → Gathers start now gathered (lines_of i files) → GrewByFront now new all → GrewByFront start new (directory_from first (map f files))
  directory_stopped start now new gathered all files i file within is e g failed =
      let front = directory-front f first (i + 1) files in
      GrewByFront-longer start new _ (directory_from first (map f files)) front.0 front.1
      (subst (λ t. GrewByFront start new t) (sym (directory_next files i file within is)) (Gathers-front start now new all _ (Gathers-more start now gathered all _ (directory_line (first + i) (f file)) e g) failed))

  pub directory_unsent : (start now new : Option (List ℕ)) (gathered : List ℕ) (files : List A) (i : ℕ) → Gathers start now gathered (lines_of i files) → GrewByFront now new gathered → GrewByFront start new (directory_from first (map f files))
  directory_unsent start now new gathered files i g failed = let front = directory-front f first i files in GrewByFront-longer start new _ (directory_from first (map f files)) front.0 front.1 (Gathers-front start now new gathered _ g failed)
