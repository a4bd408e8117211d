-- What the archive holds of files that were merged into it.
use Rattle.std.proofs.Common.{◌≡◌, ◌+◌, ◌<◌, ◌≤◌, ◌&&◌, ◌||◌, refl, sym, ap, ap₂, subst, ◌∙◌, ℕ, zero, suc, Bool, false, List, [], ◌∷◌, ◌++◌, length, map, take, Some, arith}
use Rattle.std.specs.Prelude.{All, slice_get}
use Rattle.std.specs.List.{filter_map, list_any, sum_by}
use Rattle.std.proofs.lemmas.List.Sums.{sum_by-cons}
use mathlib.Core.List.{IsPrefix}
use Rattle.record_format.specs.declared.header.Header.{Header}
use Rattle.archive_meaning.specs.declared.entry.SegmentEntry.{SegmentEntry}
use Rattle.archive_meaning.specs.declared.entry.JournalEntry.{JournalEntry}
use Rattle.archive_meaning.specs.Held.{File, Held, Piece, content_of, files_from, is_ended, is_whole, messages_of, nothing_held}
use Rattle.archive_meaning.specs.Legal.{Run}
use Rattle.archive_meaning.specs.Stands.{IsLegal, StandsFor}
use Rattle.archive_meaning.proofs.RunLemmas.{one_held}
use Rattle.archive_open.specs.Shown.{counted}
use Rattle.archive_open.specs.declared.files.FileEntry.{FileEntry}
use Rattle.ingest_meaning.specs.Parts.{in_file}
use Rattle.ingest_workers.specs.Journal.{FrontHolds}
use Rattle.archive_merge.specs.Named.{AreNamesOf}
use Rattle.archive_merge.specs.declared.file.Merged.{Merged}
use Rattle.file_lines.specs.Directory.{FileLine, line_of_file}
use Rattle.command_answers.specs.Merging.{AreFrontsOf, name_alone}
use Rattle.merge_command.specs.Came.{lines_by}
use Rattle.file_outcomes.proofs.JoinLemmas.{HasNone, new_file, with_names}
use Rattle.file_outcomes.proofs.NamingLemmas.{content_of_new, run_behind, run_names}
use Rattle.file_outcomes.proofs.PieceLemmas.{HasSegments, HoldsOf, IsNewFrom, all_of_front, has_ended, has_last, rows_in, segments_held}

-- ---- the segments of a file

abbrev rows_of : SegmentEntry → ℕ
rows_of s = length s.rows

rows_same : (ss : List SegmentEntry) → rows_in ss ≡ sum_by rows_of ss
rows_same [] = refl
rows_same (s ∷ ss) = omega (arith, sum_by-cons rows_of s ss, rows_same ss)

last_same : (ss : List SegmentEntry) → has_last ss ≡ list_any (λ (s : SegmentEntry). s.last) ss
last_same [] = refl
last_same (s ∷ ss) = ap (λ b. s.last || b) (last_same ss)

ended_same : (ss : List SegmentEntry) → has_ended ss ≡ list_any (λ (s : SegmentEntry). s.last && s.ended) ss
ended_same [] = refl
ended_same (s ∷ ss) = ap (λ b. (s.last && s.ended) || b) (ended_same ss)

-- ---- the archive with the new files

module _ (h : Header) (before naming fresh : List JournalEntry) (names : List (List ℕ)) {bytes : List ℕ} (stood : StandsFor bytes h before) (named : AreNamesOf naming names)
    (legal : IsLegal h (before ++ (naming ++ fresh))) (new : All (IsNewFrom (length stood.legal.held.names)) fresh) where
  abbrev pub first : ℕ
  first = length stood.legal.held.names

  runs : (more : Held) → Run h stood.legal.held naming more → more ≡ with_names stood.legal.held names
  runs more run = run_names h stood.legal.held naming names more named run

  pub content_is : (image : List ℕ) (stands : StandsFor image h (before ++ (naming ++ fresh))) → content_of stands.legal.held ≡ content_of stood.legal.held ++ files_from first names legal.held.pieces
  content_is image stands = ap content_of (one_held h nothing_held stands.legal.held legal.held (before ++ (naming ++ fresh)) stands.legal.run legal.run) ∙ content_of_new h before naming fresh names stood runs legal new

  -- A front of the journal holds these messages of a new file, and its segments have no more rows: then these are all.
  pub holds : (i : ℕ) → i < length names → (covered : List (List ℕ)) (whole ended : Bool) (segments : List SegmentEntry) → sum_by rows_of segments ≡ length covered
      → list_any (λ (s : SegmentEntry). s.last) segments ≡ whole → list_any (λ (s : SegmentEntry). s.last && s.ended) segments ≡ (whole && ended)
      → filter_map (in_file (first + i)) (naming ++ fresh) ≡ segments → FrontHolds h (before ++ (naming ++ fresh)) (first + i) covered whole (whole && ended)
      → HoldsOf (first + i) legal.held.pieces covered whole (whole && ended)
  holds i within covered whole ended segments rows last end sealed front = record {
    messages = all_of_front h (before ++ (naming ++ fresh)) legal.held (first + i) covered whole (whole && ended) legal.run front (omega (arith, added.count, ap length none.messages, rows_same segments, rows));
    whole_is = added.whole ∙ (ap (λ b. b || has_last segments) none.whole ∙ (last_same segments ∙ last));
    ended_is = added.ended ∙ (ap (λ b. b || has_ended segments) none.ended ∙ (ended_same segments ∙ end));
  }
    where
      none : HasNone (first + i) stood.legal.held.pieces
      none = (new_file h before names stood.legal i within).none

      added : HasSegments (first + i) segments stood.legal.held.pieces legal.held.pieces
      added = subst (λ ss. HasSegments (first + i) ss stood.legal.held.pieces legal.held.pieces) sealed (segments_held h (first + i) stood.legal.held legal.held (naming ++ fresh) (run_behind h before naming fresh names stood runs legal new))

-- ---- beside the second archive

-- where each has all of them, with the same marks
pub record IsSameAt (ps qs : List Piece) (file number : ℕ) : Type 0 where
  pub messages : messages_of file ps ≡ messages_of number qs
  pub whole_is : is_whole file ps ≡ is_whole number qs
  pub ended_is : is_ended file ps ≡ is_ended number qs

-- where it has first messages, and is a part
pub record IsFrontAt (ps qs : List Piece) (file number : ℕ) : Type 0 where
  pub messages : IsPrefix (messages_of file ps) (messages_of number qs)
  pub part : (is_whole file ps ≡ false) × (is_ended file ps ≡ false)

-- where there is nothing of it
pub record IsNoneAt (ps : List Piece) (file : ℕ) : Type 0 where
  pub messages : messages_of file ps ≡ []
  pub part : (is_whole file ps ≡ false) × (is_ended file ps ≡ false)

-- files of which there is nothing
names_alone : (first : ℕ) (ps qs : List Piece) (k n : ℕ) (names : List (List ℕ)) → n ≤ length names → ((i : ℕ) → i < n → IsNoneAt ps (first + (k + i)))
    → files_from (first + k) (take n names) ps ≡ map name_alone (take (length (files_from (first + k) (take n names) ps)) (files_from k names qs))
names_alone first ps qs k zero names few each = refl
names_alone first ps qs k (suc n) [] few each = absurd (omega (arith, few))
names_alone first ps qs k (suc n) (name ∷ names) few each =
    let here : k + 0 ≡ k = omega arith in
    let next : (first + k) + 1 ≡ first + (k + 1) = omega arith in
    let one : IsNoneAt ps (first + k) = subst (λ m. IsNoneAt ps (first + m)) here (each 0 (omega arith)) in
    ap₂ (λ (f : File) (fs : List File). f ∷ fs)
    (λ i. record { name = name; messages = one.messages i; whole = one.part.0 i; ended = one.part.1 i })
    (subst (λ m. files_from m (take n names) ps ≡ map name_alone (take (length (files_from m (take n names) ps)) (files_from (k + 1) names qs))) (sym next) (names_alone first ps qs (k + 1) n names (omega (arith, few)) later))
  where
    later : (i : ℕ) → i < n → IsNoneAt ps (first + ((k + 1) + i))
    later i less = let same : k + suc i ≡ (k + 1) + i = omega arith in subst (λ m. IsNoneAt ps (first + m)) same (each (suc i) (omega (arith, less)))

-- so many files are the second archive's, the next one has first messages, and of those behind it there is nothing
pub fronts_are : (first : ℕ) (ps qs : List Piece) (k n done : ℕ) (names : List (List ℕ)) → n ≤ length names → ((i : ℕ) → i < n → i < done → IsSameAt ps qs (first + (k + i)) (k + i))
    → ((i : ℕ) → i < n → done ≤ i → IsFrontAt ps qs (first + (k + i)) (k + i)) → ((i : ℕ) → i < n → done < i → IsNoneAt ps (first + (k + i)))
    → AreFrontsOf done (files_from k names qs) (files_from (first + k) (take n names) ps)
fronts_are first ps qs k zero done names few all front none = tt
fronts_are first ps qs k (suc n) done [] few all front none = absurd (omega (arith, few))
fronts_are first ps qs k (suc n) zero (name ∷ names) few all front none =
    let here : k + 0 ≡ k = omega arith in
    let next : (first + k) + 1 ≡ first + (k + 1) = omega arith in
    let one : IsFrontAt ps qs (first + k) k = subst (λ m. IsFrontAt ps qs (first + m) m) here (front 0 (omega arith) (omega arith)) in (
      record { name = refl; messages = one.messages; part = one.part },
      subst (λ m. files_from m (take n names) ps ≡ map name_alone (take (length (files_from m (take n names) ps)) (files_from (k + 1) names qs))) (sym next) (names_alone first ps qs (k + 1) n names (omega (arith, few)) later),
    )
  where
    later : (i : ℕ) → i < n → IsNoneAt ps (first + ((k + 1) + i))
    later i less = let same : k + suc i ≡ (k + 1) + i = omega arith in subst (λ m. IsNoneAt ps (first + m)) same (none (suc i) (omega (arith, less)) (omega arith))
fronts_are first ps qs k (suc n) (suc done) (name ∷ names) few all front none =
    let here : k + 0 ≡ k = omega arith in
    let next : (first + k) + 1 ≡ first + (k + 1) = omega arith in
    let one : IsSameAt ps qs (first + k) k = subst (λ m. IsSameAt ps qs (first + m) m) here (all 0 (omega arith) (omega arith)) in (
      (λ i. record { name = name; messages = one.messages i; whole = one.whole_is i; ended = one.ended_is i }),
      subst (λ m. AreFrontsOf done (files_from (k + 1) names qs) (files_from m (take n names) ps)) (sym next)
          (fronts_are first ps qs (k + 1) n done names (omega (arith, few)) (λ i less low. all_later i less low) (λ i less many. front_later i less many) (λ i less many. none_later i less many)),
    )
  where
    all_later : (i : ℕ) → i < n → i < done → IsSameAt ps qs (first + ((k + 1) + i)) ((k + 1) + i)
    all_later i less low = let same : k + suc i ≡ (k + 1) + i = omega arith in subst (λ m. IsSameAt ps qs (first + m) m) same (all (suc i) (omega (arith, less)) (omega (arith, low)))

    front_later : (i : ℕ) → i < n → done ≤ i → IsFrontAt ps qs (first + ((k + 1) + i)) ((k + 1) + i)
    front_later i less many = let same : k + suc i ≡ (k + 1) + i = omega arith in subst (λ m. IsFrontAt ps qs (first + m) m) same (front (suc i) (omega (arith, less)) (omega (arith, many)))

    none_later : (i : ℕ) → i < n → done < i → IsNoneAt ps (first + ((k + 1) + i))
    none_later i less many = let same : k + suc i ≡ (k + 1) + i = omega arith in subst (λ m. IsNoneAt ps (first + m)) same (none (suc i) (omega (arith, less)) (omega (arith, many)))

pub all_same : (first : ℕ) (ps qs : List Piece) (k : ℕ) (names : List (List ℕ)) → ((i : ℕ) → i < length names → IsSameAt ps qs (first + (k + i)) (k + i)) → files_from (first + k) names ps ≡ files_from k names qs
all_same first ps qs k [] each = refl
all_same first ps qs k (name ∷ names) each =
    let here : k + 0 ≡ k = omega arith in
    let next : (first + k) + 1 ≡ first + (k + 1) = omega arith in
    let one : IsSameAt ps qs (first + k) k = subst (λ m. IsSameAt ps qs (first + m) m) here (each 0 (omega arith)) in
    ap₂ (λ (f : File) (fs : List File). f ∷ fs)
    (λ i. record { name = name; messages = one.messages i; whole = one.whole_is i; ended = one.ended_is i })
    (ap (λ m. files_from m names ps) next ∙ all_same first ps qs (k + 1) names later)
  where
    later : (i : ℕ) → i < length names → IsSameAt ps qs (first + ((k + 1) + i)) ((k + 1) + i)
    later i less = let same : k + suc i ≡ (k + 1) + i = omega arith in subst (λ m. IsSameAt ps qs (first + m) m) same (each (suc i) (omega (arith, less)))

abbrev pub line_of_held : File → FileLine
line_of_held f = line_of_file (counted f)

-- the lines of the new files are those of what is held of them
pub told_lines : (first : ℕ) (ps : List Piece) (k : ℕ) (files : List FileEntry) (ms : List Merged) → length ms ≤ length files
    → ((i : ℕ) (m : Merged) → slice_get ms i ≡ Some m → (m.messages ≡ length (messages_of (first + (k + i)) ps)) × (m.whole ≡ is_whole (first + (k + i)) ps))
    → lines_by files ms ≡ map line_of_held (files_from (first + k) (take (length ms) (map (λ (f : FileEntry). f.name) files)) ps)
told_lines first ps k files [] few each = refl
told_lines first ps k [] (m ∷ ms) few each = absurd (omega (arith, few))
told_lines first ps k (f ∷ files) (m ∷ ms) few each =
    let here : k + 0 ≡ k = omega arith in
    let next : (first + k) + 1 ≡ first + (k + 1) = omega arith in
    let one = subst (λ n. (m.messages ≡ length (messages_of (first + n) ps)) × (m.whole ≡ is_whole (first + n) ps)) here (each 0 m refl) in
    ap₂ (λ l ls. l ∷ ls)
    (λ i. record { name = f.name; messages = one.0 i; whole = one.1 i })
    (told_lines first ps (k + 1) files ms (omega (arith, few)) later ∙ ap (λ n. map line_of_held (files_from n (take (length ms) (map (λ (x : FileEntry). x.name) files)) ps)) (sym next))
  where
    later : (i : ℕ) (x : Merged) → slice_get ms i ≡ Some x → (x.messages ≡ length (messages_of (first + ((k + 1) + i)) ps)) × (x.whole ≡ is_whole (first + ((k + 1) + i)) ps)
    later i x at = let same : k + suc i ≡ (k + 1) + i = omega arith in subst (λ n. (x.messages ≡ length (messages_of (first + n) ps)) × (x.whole ≡ is_whole (first + n) ps)) same (each (suc i) x at)
