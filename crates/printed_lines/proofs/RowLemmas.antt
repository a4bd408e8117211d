-- The line of a row's message, and what the loop over rows has passed.
use Rattle.std.proofs.Common.{◌≡◌, inl, inr, ℕ, zero, suc, ◌+◌, ◌≤◌, List, [], ◌∷◌, ◌++◌, Bool, true, false, length, take, drop, Option, Some, refl, sym, ◌∙◌, ap, ap₂, subst, arith, length-append}
use Rattle.std.specs.Prelude.{IsTrue, slice_get, ◌↔◌}
use Rattle.std.proofs.lemmas.List.{append-nil, append_assoc, take_at, drop_at}
use Rattle.std.proofs.Math.ListN.{drop_of_length-le}
use Rattle.std.proofs.Math.Seq.{drop-cons}
use Rattle.std.proofs.lemmas.Option.{get_or_from_slice_get, slice_get_within}
use Rattle.column_store.specs.declared.row.Row.{Row}
use Rattle.row_codec.specs.Means.{AreCanonical, HasSpelling, IsCanonical, IsSpelling}
use Rattle.row_codec.proofs.CanonicalLemmas.{rows_return}
use Rattle.row_codec.proofs.MeansLemmas.{meaning_is_spelling}
use Rattle.wild_match.specs.Matches.{Match}
use Rattle.wild_match.specs.declared.pattern.Item.{Item}
use Rattle.sink_pieces.specs.Output.{Gathers, Grew, GrewByFront, Moves}
use Rattle.sink_pieces.proofs.OutputLemmas.{Gathers-all, Gathers-front, Gathers-kept, Gathers-more, Gathers-moves, Gathers-nothing}
use Rattle.printed_lines.specs.Lines.{Placed, label_of, line_of, lines_of, numbered, placed}
use Rattle.printed_lines.proofs.LineLemmas.{line_written, lines_joined, numbered_append, picks_append}
use Rattle.printed_lines.specs.Printed.{AreMatched, HasLines, HasPrinted, HasPrintedFront, IsLeft}
use Rattle.printed_lines.specs.StepsRows.{HasGathered, PastRows}
use Rattle.printed_lines.proofs.MatchLemmas.{some_matched}

-- ---- one message

pub has_spelling : (version : ℕ) (row : Row) (types words : List (List ℕ)) (message : List ℕ) → IsCanonical version row types words message → HasSpelling row types words
has_spelling version row types words message is = (message, meaning_is_spelling row types words message is.means)

row_left : (pattern : List Item) (name : List ℕ) (number : ℕ) (message g g2 h : List ℕ) (matched : Bool) (kept : ℕ) → (IsTrue matched ↔ Match pattern message) → take kept g2 ≡ g
    → g2 ≡ (g ++ label_of name number) ++ message → IsLeft matched kept g2 h → HasLines pattern (placed name number message ∷ []) g h
row_left pattern name number message g g2 h true kept test back whole left = record {
  found = placed name number message ∷ [];
  matched = inl ([], test.0 refl, refl, refl);
  lines =
      left ∙ ap (λ (l : List ℕ). l ++ 10 ∷ []) whole ∙ line_written name number message g
      ∙ ap (λ (l : List ℕ). g ++ l) (sym (append-nil (line_of (placed name number message))));
}
row_left pattern name number message g g2 h false kept test back whole left = record {
  found = [];
  matched = inr (λ is. cc (test.1 is), refl);
  lines = left ∙ back ∙ sym (append-nil g);
}

-- a message that was written and matched, and then kept or taken back
pub row_lines : (pattern : List Item) (version : ℕ) (row : Row) (types words : List (List ℕ)) (name : List ℕ) (number : ℕ) (message text g g1 g2 h tried : List ℕ) (matched : Bool) (kept : ℕ)
    → IsCanonical version row types words message → IsSpelling row types words text → kept ≡ length g → g1 ≡ g ++ label_of name number → g2 ≡ g1 ++ text → tried ≡ drop (length g1) g2
    → (IsTrue matched ↔ Match pattern tried) → IsLeft matched kept g2 h → HasLines pattern (placed name number message ∷ []) g h
row_lines pattern version row types words name number message text g g1 g2 h tried matched kept is spelled size label wrote cut test left =
    let one : text ≡ message = rows_return version row types words message text is spelled in
    let read : tried ≡ message = cut ∙ ap (drop (length g1)) wrote ∙ drop_at g1 text (length g1) refl ∙ one in
    let whole : g2 ≡ (g ++ label_of name number) ++ message = wrote ∙ ap₂ (λ (x y : List ℕ). x ++ y) label one in
    let back : take kept g2 ≡ g =
    ap (take kept) (whole ∙ append_assoc g (label_of name number) message) ∙ take_at g (label_of name number ++ message) kept (sym size) in
    row_left pattern name number message g g2 h matched kept (subst (λ l. IsTrue matched ↔ Match pattern l) read test) back whole left

-- of a message that the pattern does not match nothing is written
pub row_passed : (pattern : List Item) (name : List ℕ) (number : ℕ) (message g : List ℕ) → (¬ Match pattern message) → HasLines pattern (placed name number message ∷ []) g g
row_passed pattern name number message g none = record { found = []; matched = inr (none, refl); lines = sym (append-nil g) }

-- ---- the rows

drop_here : (rows : List Row) (k : ℕ) (row : Row) → slice_get rows k ≡ Some row → drop k rows ≡ row ∷ drop (k + 1) rows
drop_here rows k row is =
    let next : suc k ≡ k + 1 = omega arith in
    drop-cons rows k row (slice_get_within rows k row is) ∙ ap₂ (λ (r : Row) (n : ℕ). r ∷ drop n rows) (get_or_from_slice_get rows k row row is) next

-- the message of the next row, and those of the others
record NextRow (version : ℕ) (row : Row) (others : List Row) (types words messages : List (List ℕ)) : Type 0 where
  message : List ℕ
  left : List (List ℕ)
  all : messages ≡ message ∷ left
  is : IsCanonical version row types words message
  are : AreCanonical version others types words left

first_row : (version : ℕ) (row : Row) (others : List Row) (types words messages : List (List ℕ)) → AreCanonical version (row ∷ others) types words messages → NextRow version row others types words messages
first_row version row others types words [] are = absurd are
first_row version row others types words (m ∷ messages) are = record { message = m; left = messages; all = refl; is = are.0; are = are.1 }

none_left : (version : ℕ) (rows : List Row) (types words messages : List (List ℕ)) → rows ≡ [] → AreCanonical version rows types words messages → messages ≡ []
none_left version rows types words [] none are = refl
none_left version rows types words (m ∷ messages) none are = absurd (subst (λ l. AreCanonical version l types words (m ∷ messages)) none are)

-- a row that is the encoding of no message is none of rows that are
pub rows_misfit : (version : ℕ) (types words : List (List ℕ)) (rows : List Row) (messages : List (List ℕ)) (k : ℕ) (row : Row) → slice_get rows k ≡ Some row
    → ((message : List ℕ) → ¬ IsCanonical version row types words message) → AreCanonical version rows types words messages → ⊥
rows_misfit version types words [] messages k row is none are = cc (is)
rows_misfit version types words (r ∷ rows) [] k row is none are = are
rows_misfit version types words (r ∷ rows) (m ∷ messages) zero row is none are =
    let same : r ≡ row = cc (is) in none m (subst (λ x. IsCanonical version x types words m) same are.0)
rows_misfit version types words (r ∷ rows) (m ∷ messages) (suc k) row is none are = rows_misfit version types words rows messages k row is none are.1

front_longer : (old new : Option (List ℕ)) (text more : List ℕ) → GrewByFront old new text → GrewByFront old new (text ++ more)
front_longer old new text more f = (f.0, f.1 ++ more, ap (λ (l : List ℕ). l ++ more) f.2 ∙ append_assoc f.0 f.1 more, f.3)

module _ (version : ℕ) (types words : List (List ℕ)) (pattern : List Item) (name : List ℕ) (number : ℕ) (rows : List Row) (messages : List (List ℕ)) (start : Option (List ℕ)) where
  abbrev pub Past : ℕ → Option (List ℕ) → List ℕ → Type 0
  Past k now gathered = PastRows version types words pattern name number rows k messages start now gathered

  next_row : (k : ℕ) (row : Row) (left : List (List ℕ)) → slice_get rows k ≡ Some row → AreCanonical version (drop k rows) types words left → NextRow version row (drop (k + 1) rows) types words left
  next_row k row left is are = first_row version row (drop (k + 1) rows) types words left (subst (λ l. AreCanonical version l types words left) (drop_here rows k row is) are)

  pub rows_first : (gathered : List ℕ) → gathered ≡ [] → AreCanonical version rows types words messages → Past 0 start gathered
  rows_first gathered none are = record {
    gone = [];
    left = messages;
    all = refl;
    count = refl;
    are = are;
    done = record { found = []; matched = refl; gathers = Gathers-nothing start gathered none };
  }

  -- with the next row's line gathered
  line_next : (k at : ℕ) (row : Row) (now : Option (List ℕ)) (gathered mid : List ℕ) → at ≡ number + k → (is : slice_get rows k ≡ Some row) → (past : Past k now gathered)
      → ((message : List ℕ) → IsCanonical version row types words message → HasLines pattern (placed name at message ∷ []) gathered mid)
      → HasGathered pattern (numbered name number (past.gone ++ (next_row k row past.left is past.are).message ∷ [])) start now mid
  line_next k at row now gathered mid place is past lines =
      let next = next_row k row past.left is past.are in
      let line = lines next.message next.is in
      record {
        found = past.done.found ++ line.found;
        matched = subst (λ l. AreMatched pattern l (past.done.found ++ line.found)) (sym (numbered_append name number past.gone (next.message ∷ []) at (omega (arith, place, past.count))))
            (picks_append (λ p. Match pattern p.message) (numbered name number past.gone) (placed name at next.message ∷ []) past.done.found line.found past.done.matched line.matched);
        gathers = subst (Gathers start now mid) (sym (lines_joined past.done.found line.found)) (Gathers-more start now gathered mid (lines_of past.done.found) (lines_of line.found) line.lines past.done.gathers);
      }

  gone_next : (k : ℕ) (row : Row) (now : Option (List ℕ)) (gathered : List ℕ) → (is : slice_get rows k ≡ Some row) → (past : Past k now gathered)
      → messages ≡ (past.gone ++ (next_row k row past.left is past.are).message ∷ []) ++ (next_row k row past.left is past.are).left
  gone_next k row now gathered is past =
      let next = next_row k row past.left is past.are in
      past.all ∙ ap (λ (l : List (List ℕ)). past.gone ++ l) next.all ∙ sym (append_assoc past.gone (next.message ∷ []) next.left)

  pub rows_next : (k at : ℕ) (row : Row) (now new : Option (List ℕ)) (gathered mid rest : List ℕ) → at ≡ number + k → slice_get rows k ≡ Some row → Past k now gathered
      → ((message : List ℕ) → IsCanonical version row types words message → HasLines pattern (placed name at message ∷ []) gathered mid) → Moves now new mid rest → Past (k + 1) new rest
  rows_next k at row now new gathered mid rest place is past lines moves =
      let next = next_row k row past.left is past.are in
      let with_line = line_next k at row now gathered mid place is past lines in
      record {
        gone = past.gone ++ next.message ∷ [];
        left = next.left;
        all = gone_next k row now gathered is past;
        count = omega (arith, length-append past.gone (next.message ∷ []), past.count);
        are = next.are;
        done = record { found = with_line.found; matched = with_line.matched; gathers = Gathers-moves start now new mid rest (lines_of with_line.found) with_line.gathers moves };
      }

  -- a front of the lines of the first messages is one of all lines
  front_of_all : (gone left : List (List ℕ)) (found : List Placed) (now : Option (List ℕ)) → messages ≡ gone ++ left → AreMatched pattern (numbered name number gone) found
      → GrewByFront start now (lines_of found) → HasPrintedFront pattern (numbered name number messages) start now
  front_of_all gone left found now all matched front =
      let others : List Placed = numbered name (number + length gone) left in
      let more = some_matched pattern others in
      record {
        found = found ++ more.0;
        matched = subst (λ l. AreMatched pattern l (found ++ more.0)) (sym (ap (numbered name number) all ∙ numbered_append name number gone left (number + length gone) refl))
            (picks_append (λ p. Match pattern p.message) (numbered name number gone) others found more.0 matched more.1);
        printed = subst (GrewByFront start now) (sym (lines_joined found more.0)) (front_longer start now (lines_of found) (lines_of more.0) front);
      }

  -- nothing more was sent
  pub rows_kept : (k : ℕ) (now : Option (List ℕ)) (gathered : List ℕ) → Past k now gathered → HasPrintedFront pattern (numbered name number messages) start now
  rows_kept k now gathered past =
      front_of_all past.gone past.left past.done.found now past.all past.done.matched (Gathers-kept start now gathered (lines_of past.done.found) past.done.gathers)

  -- a front of what is gathered was sent
  pub rows_cut : (k at : ℕ) (row : Row) (now new : Option (List ℕ)) (gathered mid : List ℕ) → at ≡ number + k → slice_get rows k ≡ Some row → Past k now gathered
      → ((message : List ℕ) → IsCanonical version row types words message → HasLines pattern (placed name at message ∷ []) gathered mid) → GrewByFront now new mid
      → HasPrintedFront pattern (numbered name number messages) start new
  rows_cut k at row now new gathered mid place is past lines front =
      let next = next_row k row past.left is past.are in
      let with_line = line_next k at row now gathered mid place is past lines in
      front_of_all (past.gone ++ next.message ∷ []) next.left with_line.found new (gone_next k row now gathered is past) with_line.matched
      (Gathers-front start now new mid (lines_of with_line.found) with_line.gathers front)

  pub rows_end : (k : ℕ) (now : Option (List ℕ)) (gathered : List ℕ) → length rows ≤ k → Past k now gathered → HasGathered pattern (numbered name number messages) start now gathered
  rows_end k now gathered end past =
      let none : past.left ≡ [] = none_left version (drop k rows) types words past.left (drop_of_length-le rows end) past.are in
      let all : messages ≡ past.gone = past.all ∙ ap (λ (l : List (List ℕ)). past.gone ++ l) none ∙ append-nil past.gone in
      subst (λ l. HasGathered pattern (numbered name number l) start now gathered) (sym all) past.done

-- ---- the last lines

module _ (pattern : List Item) (all : List Placed) (start now new : Option (List ℕ)) (gathered : List ℕ) (has : HasGathered pattern all start now gathered) where
  pub gathered_sent : Grew now new gathered → HasPrinted pattern all start new
  gathered_sent grew = record { found = has.found; matched = has.matched; printed = Gathers-all start now new gathered (lines_of has.found) has.gathers grew }

  pub gathered_cut : GrewByFront now new gathered → HasPrintedFront pattern all start new
  gathered_cut front = record { found = has.found; matched = has.matched; printed = Gathers-front start now new gathered (lines_of has.found) has.gathers front }
