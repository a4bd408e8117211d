-- Rows, pages and segments that are written out, and the text that is yet to be.
use Rattle.std.proofs.Common.{◌≡◌, refl, sym, ap, ap₂, subst, ◌∙◌, ◌+◌, ◌≤◌, ℕ, zero, suc, Bool, true, false, List, [], ◌∷◌, ◌++◌, Option, None, Some, length, drop, append_assoc, arith}
use Rattle.std.specs.Prelude.{slice_get}
use Rattle.std.proofs.lemmas.List.{append-nil, drop_all}
use Rattle.column_store.specs.declared.row.Row.{Row}
use Rattle.row_codec.specs.Means.{HasSpelling, IsSpelling}
use Rattle.row_codec.proofs.MeansLemmas.{one_spelling}
use Rattle.segment_pages.specs.Paged.{AreNextTold, HoldsLeft, HoldsNoneTold, HoldsSegment, Paged}
use Rattle.segment_pages.proofs.PageLemmas.{none_left}
use Rattle.archive_meaning.specs.Held.{text_from}
use Rattle.archive_open.specs.declared.segments.SegmentPlace.{SegmentPlace}
use Rattle.archive_text.specs.Newlines.{behind}
use Rattle.archive_text.specs.declared.lines.Lines.{Lines}
use Rattle.archive_text.specs.Ahead.{Ahead, Goes, HasNoPage, IsAhead, IsPast, PagesHold, SameText, WritesRows, text_behind}
use Rattle.archive_text.specs.Told.{AreWritten, HoldAllWritten, HoldsWritten}

-- ---- the text of messages

text_after : (open_end : Bool) (m : List ℕ) (messages : List (List ℕ)) → text_from open_end (m ∷ messages) ≡ m ++ text_behind open_end true messages
text_after true m [] = sym (append-nil m)
text_after false m [] = refl
text_after open_end m (n ∷ messages) = ap (λ t. m ++ (10 ∷ t)) (text_after open_end n messages)

-- with no message before, it is the file's text
pub text_first : (open_end : Bool) (messages : List (List ℕ)) → text_from open_end messages ≡ text_behind open_end false messages
text_first true [] = refl
text_first false [] = refl
text_first open_end (m ∷ messages) = text_after open_end m messages

pub same_self : (lines : Lines) (messages : List (List ℕ)) → SameText lines messages lines messages
same_self lines messages open_end = refl

pub same_then : (lines some more : Lines) (messages left others : List (List ℕ)) → SameText lines messages some left → SameText some left more others → SameText lines messages more others
same_then lines some more messages left others a b open_end = a open_end ∙ b open_end

-- one message was written out
pub same_more : (lines more : Lines) (text : List ℕ) (messages : List (List ℕ)) → more.gathered.items ≡ lines.gathered.items ++ behind lines.begun text → more.begun ≡ true → SameText lines (text ∷ messages) more messages
same_more lines more text messages e begun open_end =
    sym (append_assoc lines.gathered.items (behind lines.begun text) (text_behind open_end true messages))
    ∙ ap₂ (λ (g : List ℕ) (b : Bool). g ++ text_behind open_end b messages) (sym e) (sym begun)

-- ---- the rows of a page

-- the row at a place and those behind it
dropped_at : (rows : List Row) (place : ℕ) (row : Row) → slice_get rows place ≡ Some row → drop place rows ≡ row ∷ drop (place + 1) rows
dropped_at [] zero row e = absurd cc
dropped_at [] (suc place) row e = absurd cc
dropped_at (r ∷ rows) zero row e = ap (λ x. x ∷ rows) (same e)
  where
    same : Some r ≡ Some row → r ≡ row
    same e = cc
dropped_at (r ∷ rows) (suc place) row e =
    let next : suc place + 1 ≡ suc (place + 1) = omega arith in
    dropped_at rows place row e ∙ ap (λ n. row ∷ drop n (r ∷ rows)) (sym next)

module _ (types words : List (List ℕ)) where
  pub rows_none : (rows : List Row) (lines : Lines) → WritesRows types words rows rows lines lines
  rows_none rows lines messages behind all = (messages, all, λ open_end. refl)

  pub rows_all : (rows : List Row) (place next : ℕ) (start : List Row) (lines more : Lines) → length rows ≤ place → length rows ≤ next → WritesRows types words start (drop place rows) lines more → WritesRows types words start (drop next rows) lines more
  rows_all rows place next start lines more far end so_far =
      subst (λ l. WritesRows types words start l lines more) (drop_all place rows far ∙ sym (drop_all next rows end)) so_far

  -- the first of the rows was written out
  one_row : (row : Row) (rows : List Row) (lines more : Lines) (text : List ℕ) → IsSpelling row types words text → more.gathered.items ≡ lines.gathered.items ++ behind lines.begun text → more.begun ≡ true → WritesRows types words (row ∷ rows) rows lines more
  one_row row rows lines more text is e begun [] behind all = elim all [ ]
  one_row row rows lines more text is e begun (m ∷ messages) behind all = (
    messages,
    all.1,
    subst (λ t. SameText lines (t ∷ (messages ++ behind)) more (messages ++ behind)) (one_spelling row types words text m is all.0) (same_more lines more text (messages ++ behind) e begun),
  )

  rows_then : (start mid end : List Row) (lines some more : Lines) → WritesRows types words start mid lines some → WritesRows types words mid end some more → WritesRows types words start end lines more
  rows_then start mid end lines some more a b messages behind all =
      let first = a messages behind all in
      let then = b first.0 behind first.1 in
      (then.0, then.1, same_then lines some more (messages ++ behind) (first.0 ++ behind) (then.0 ++ behind) first.2 then.2)

  pub rows_more : (start rows : List Row) (place : ℕ) (row : Row) (lines some more : Lines) (text : List ℕ) → slice_get rows place ≡ Some row → IsSpelling row types words text
      → some.gathered.items ++ behind some.begun text ≡ more.gathered.items → more.begun ≡ true
      → WritesRows types words start (drop place rows) lines some → WritesRows types words start (drop (place + 1) rows) lines more
  rows_more start rows place row lines some more text at is e begun so_far =
      rows_then start (row ∷ drop (place + 1) rows) (drop (place + 1) rows) lines some more
      (subst (λ l. WritesRows types words start l lines some) (dropped_at rows place row at) so_far)
      (one_row row (drop (place + 1) rows) some more text is (sym e) begun)

  -- the next row cannot be written
  pub rows_not : (start rows : List Row) (place : ℕ) (row : Row) (lines some : Lines) (messages : List (List ℕ)) → slice_get rows place ≡ Some row → ¬ HasSpelling row types words
      → WritesRows types words start (drop place rows) lines some → AreWritten types words start messages → ⊥
  rows_not start rows place row lines some messages at none so_far all =
      let left = so_far messages [] all in
      unwritten left.0 (subst (λ l. AreWritten types words l left.0) (dropped_at rows place row at) left.1)
    where
      unwritten : (left : List (List ℕ)) → AreWritten types words (row ∷ drop (place + 1) rows) left → ⊥
      unwritten [] all = elim all [ ]
      unwritten (m ∷ left) all = none (m, all.0)

  -- ---- steps of a walk

  module _ (bytes : List ℕ) where
    pub goes_none : (a : Ahead) (lines : Lines) → Goes types words bytes a a lines lines
    goes_none a lines messages is = (messages, is, λ open_end. refl)

    pub goes_then : (old mid new : Ahead) (lines some more : Lines) → Goes types words bytes old mid lines some → Goes types words bytes mid new some more → Goes types words bytes old new lines more
    goes_then old mid new lines some more a b messages is =
        let first = a messages is in
        let then = b first.0 first.1 in
        (then.0, then.1, same_then lines some more messages first.0 then.0 first.2 then.2)

    -- what is ahead of a walk that goes on is nothing that the walk before it had not
    pub not_then : (old mid : Ahead) (lines some : Lines) → Goes types words bytes old mid lines some → ((messages : List (List ℕ)) → ¬ IsAhead types words mid bytes messages) → (messages : List (List ℕ)) → ¬ IsAhead types words old bytes messages
    not_then old mid lines some a none messages is = let first = a messages is in none first.0 first.1

    -- rows of the page in hand were written out
    pub rows_go : (rows others : List Row) (pages : Option Paged) (places : List SegmentPlace) (lines more : Lines) → WritesRows types words rows others lines more
        → Goes types words bytes (record { rows = rows; pages = pages; places = places }) (record { rows = others; pages = pages; places = places }) lines more
    rows_go rows others pages places lines more wrote messages is =
        let done = wrote is.page (is.pages ++ is.others) is.in_page in (
          done.0 ++ (is.pages ++ is.others),
          record { page = done.0; pages = is.pages; others = is.others; are = refl; in_page = done.1; in_pages = is.in_pages; in_places = is.in_places },
          subst (λ ms. SameText lines ms more (done.0 ++ (is.pages ++ is.others))) (sym is.are) done.2,
        )

    pub rows_stop : (rows : List Row) (pages : Option Paged) (places : List SegmentPlace) → ((messages : List (List ℕ)) → ¬ AreWritten types words rows messages)
        → (messages : List (List ℕ)) → ¬ IsAhead types words (record { rows = rows; pages = pages; places = places }) bytes messages
    rows_stop rows pages places none messages is = none is.page is.in_page

    -- no row and no page is left of the segment in hand
    no_rows : (messages : List (List ℕ)) → AreWritten types words [] messages → messages ≡ []
    no_rows [] all = refl
    no_rows (m ∷ messages) all = elim all [ ]

    no_pages : (pages : Option Paged) (messages : List (List ℕ)) → HasNoPage pages → PagesHold types words pages bytes messages → messages ≡ []
    no_pages None messages none hold = hold
    no_pages (Some p) messages none hold = no_rows messages (subst (λ rs. AreWritten types words rs messages) (none_left p bytes hold.0 none hold.1) hold.2)

    pub nothing_ahead : (a : Ahead) (messages : List (List ℕ)) → IsPast a → IsAhead types words a bytes messages → messages ≡ []
    nothing_ahead a messages past is =
        let page = no_rows is.page (subst (λ rs. AreWritten types words rs is.page) past.rows is.in_page) in
        let pages = no_pages a.pages is.pages past.pages is.in_pages in
        let others : is.others ≡ [] = subst (λ ps. HoldAllWritten types words ps bytes is.others) past.places is.in_places in
        is.are ∙ (ap (λ l. l ++ (is.pages ++ is.others)) page ∙ ap₂ (λ (l o : List (List ℕ)). l ++ o) pages others)

    -- rows in two parts are written as messages in two parts
    record WrittenBoth (rows others : List Row) (messages : List (List ℕ)) : Type 0 where
      pub first : List (List ℕ)
      pub rest : List (List ℕ)
      pub are : messages ≡ first ++ rest
      pub written : AreWritten types words rows first
      pub written_rest : AreWritten types words others rest

    written_both : (rows others : List Row) (messages : List (List ℕ)) → AreWritten types words (rows ++ others) messages → WrittenBoth rows others messages
    written_both [] others messages all = record { first = []; rest = messages; are = refl; written = tt; written_rest = all }
    written_both (r ∷ rows) others [] all = elim all [ ]
    written_both (r ∷ rows) others (m ∷ messages) all =
        let later = written_both rows others messages all.1 in
        record { first = m ∷ later.first; rest = later.rest; are = ap (λ l. m ∷ l) later.are; written = (all.0, later.written); written_rest = later.written_rest }

    -- the next page was loaded
    pub page_goes : (seen : Option (List ℕ)) (a : Ahead) (page : List Row) (p next : Paged) (lines : Lines) → seen ≡ Some bytes → a.rows ≡ [] → a.pages ≡ Some p → AreNextTold seen p next page
        → Goes types words bytes a (record { rows = page; pages = Some next; places = a.places }) lines lines
    page_goes seen a page p next lines told done here loaded messages is =
        let hold : PagesHold types words (Some p) bytes is.pages = subst (λ ps. PagesHold types words ps bytes is.pages) here is.in_pages in
        let at = (subst (λ s. AreNextTold s p next page) told loaded) hold.0 hold.1 in
        let both = written_both page at.0 is.pages (subst (λ rs. AreWritten types words rs is.pages) at.1 hold.2) in
        let none = no_rows is.page (subst (λ rs. AreWritten types words rs is.page) done is.in_page) in
        let same : messages ≡ both.first ++ (both.rest ++ is.others) =
        is.are ∙ (ap (λ l. l ++ (is.pages ++ is.others)) none ∙ (ap (λ l. l ++ is.others) both.are ∙ append_assoc both.first both.rest is.others)) in
        (messages, record { page = both.first; pages = both.rest; others = is.others; are = same; in_page = both.written; in_pages = (at.0, at.2, both.written_rest); in_places = is.in_places }, λ open_end. refl)

    pub page_not : (seen : Option (List ℕ)) (a : Ahead) (p : Paged) → seen ≡ Some bytes → a.pages ≡ Some p → HoldsNoneTold seen p → (messages : List (List ℕ)) → ¬ IsAhead types words a bytes messages
    page_not seen a p told here none messages is =
        let hold : PagesHold types words (Some p) bytes is.pages = subst (λ ps. PagesHold types words ps bytes is.pages) here is.in_pages in
        (subst (λ s. HoldsNoneTold s p) told none) hold.0 hold.1

    -- the next segment was opened
    pub place_goes : (a : Ahead) (place : SegmentPlace) (places : List SegmentPlace) (p : Paged) (lines : Lines) → a.rows ≡ [] → HasNoPage a.pages → a.places ≡ place ∷ places
        → ((bytes : List ℕ) (rows : List Row) → HoldsSegment place.payload place.length place.head bytes rows → HoldsLeft p bytes rows)
        → Goes types words bytes a (record { rows = a.rows; pages = Some p; places = places }) lines lines
    place_goes a place places p lines done none at opened messages is =
        let hold : HoldAllWritten types words (place ∷ places) bytes is.others = subst (λ ps. HoldAllWritten types words ps bytes is.others) at is.in_places in
        let here : HoldsWritten types words place bytes hold.0 = hold.3 in
        let before = no_pages a.pages is.pages none is.in_pages in
        let same : messages ≡ is.page ++ (hold.0 ++ hold.1) =
        is.are ∙ ap (λ l. is.page ++ l) (ap (λ l. l ++ is.others) before ∙ hold.2) in
        (messages, record { page = is.page; pages = hold.0; others = hold.1; are = same; in_page = is.in_page; in_pages = (here.rows, opened bytes here.rows here.holds, here.written); in_places = hold.4 }, λ open_end. refl)

    pub place_not : (a : Ahead) (place : SegmentPlace) (places : List SegmentPlace) → a.places ≡ place ∷ places
        → ((bytes : List ℕ) (rows : List Row) → ¬ HoldsSegment place.payload place.length place.head bytes rows) → (messages : List (List ℕ)) → ¬ IsAhead types words a bytes messages
    place_not a place places at none messages is =
        let hold : HoldAllWritten types words (place ∷ places) bytes is.others = subst (λ ps. HoldAllWritten types words ps bytes is.others) at is.in_places in
        let here : HoldsWritten types words place bytes hold.0 = hold.3 in
        none bytes here.rows here.holds
