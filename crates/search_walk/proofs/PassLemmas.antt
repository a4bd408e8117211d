-- What a page is told that its log types rule out.
use Rattle.std.proofs.Common.{inr, ⊎_elim, ◌≡◌, ◌<◌, ◌≤◌, ◌+◌, ◌-◌, ℕ, zero, suc, List, [], ◌∷◌, ◌++◌, length, take, drop, Option, Some, None, refl, sym, ◌∙◌, ap, subst, arith}
use Rattle.std.specs.Prelude.{All, IfSome}
use Rattle.std.proofs.lemmas.Bool.{cases_lt}
use Rattle.std.proofs.lemmas.List.{append-nil, append_assoc, drop-append-le, length-take, take-append-drop, take-map}
use Rattle.std.proofs.lemmas.List.Elements.{All-append, All-cons, All-drop, All-head, All-nil, All-tail, All-take}
use Rattle.std.proofs.Math.ListN.{drop_of_length-le}
use Rattle.std.proofs.Math.Seq.{drop-append-add}
use Rattle.column_store.specs.declared.row.Row.{Row}
use Rattle.log_seams.specs.Disk.{DiskState}
use Rattle.row_codec.specs.Means.{AreCanonical}
use Rattle.segment_format.specs.Pages.{page_rows}
use Rattle.segment_pages.specs.Laws.{LeftAreCounted}
use Rattle.segment_pages.specs.Paged.{AreBehindTold, AreTypesTold, HoldsLeft, OfRows, Paged, ReadsColumns, columns_size, paged_end, paged_passed, types_in}
use Rattle.segment_pages.proofs.ReadLemmas.{none_within}
use Rattle.query_plan.specs.Laws.{WideIsWider}
use Rattle.subquery_filter.specs.Filter.{RejectsType}
use Rattle.query_plan.specs.Pieces.{wide_pieces}
use Rattle.printed_lines.specs.Lines.{Picks, Placed, numbered}
use Rattle.search_meaning.specs.Scan.{Asked, IsFound, IsTried}
use Rattle.search_walk.specs.Held.{AreRowsOf, IsTold, Named, OfLeft}
use Rattle.search_walk.specs.Ready.{IsRuledOut, KeepsFirst}
use Rattle.search_walk.specs.StepsPast.{PagesPast}
use Rattle.search_walk.specs.Walked.{AreOver, PagesGone, PastTold, TellAhead, TellLeft, WentOver}
use Rattle.search_walk.proofs.PageLemmas.{parts_of, past_more}
use Rattle.search_walk.proofs.PagesReadLemmas.{rests_same}

-- ---- log types

-- a log type that the filter rejects is ruled out
pub ruled_out : (n : Named) (q : Asked) (t : ℕ) → RejectsType (wide_pieces q.pattern) n.types n.words t → IsRuledOut n q t
ruled_out n q t rejects row same message is tried = rejects row same n.version message is tried.matched

-- of messages of rows whose log types are all ruled out none is found or tried
pub ruled_over : (n : Named) (q : Asked) (name : List ℕ) (number : ℕ) (rows : List Row) (messages : List (List ℕ)) → WideIsWider → All (IsRuledOut n q) (types_in rows) → AreCanonical n.version rows n.types n.words messages
    → AreOver n q (numbered name number messages)
ruled_over n q name number [] [] wider ruled are = (refl, refl)
ruled_over n q name number [] (m ∷ messages) wider ruled are = absurd are
ruled_over n q name number (r ∷ rows) [] wider ruled are = absurd are
ruled_over n q name number (r ∷ rows) (m ∷ messages) wider ruled are =
    let never : ¬ IsTried n.version q m = All-head (IsRuledOut n q) r.log_type (types_in rows) ruled r refl m are.0 in
    let others : AreOver n q (numbered name (number + 1) messages) = ruled_over n q name (number + 1) rows messages wider (All-tail (IsRuledOut n q) r.log_type (types_in rows) ruled) are.1 in
    (inr ((λ found. never (record { matched = wider q.pattern m found.matched; inside = found.inside })), others.0), inr (never, others.1))

-- ---- log types that were read ahead

all_first : (P : ℕ → Type 0) (count : ℕ) (left others : List ℕ) → All P (take count left) → All P others → All P (take count (left ++ others))
all_first P zero left others first rest = All-nil P
all_first P (suc k) [] others first rest = All-take P (suc k) others rest
all_first P (suc k) (t ∷ left) others first rest =
    All-cons P t (take k (left ++ others)) (All-head P t (take k left) first) (all_first P k left others (All-tail P t (take k left) first) rest)

-- behind the first ones
keeps_behind : (n : Named) (q : Asked) (types kept : List ℕ) (count : ℕ) → KeepsFirst n q types kept → KeepsFirst n q (drop count types) (drop count kept)
keeps_behind n q types kept count keeps = ⊎_elim
    (λ beyond.
    let more : ℕ = count - length kept in
    let whole : length kept + more ≡ count = omega (arith, beyond) in
    record {
      others = drop more keeps.others;
      all = ap (drop count) keeps.all ∙ ap (λ (k : ℕ). drop k (kept ++ keeps.others)) (sym whole) ∙ drop-append-add kept keeps.others more ∙ ap (λ (l : List ℕ). l ++ drop more keeps.others) (sym (drop_of_length-le kept (omega (arith, beyond))));
      ruled = λ told. All-drop (IsRuledOut n q) more keeps.others (keeps.ruled told);
    })
    (λ within. record { others = keeps.others; all = ap (drop count) keeps.all ∙ drop-append-le count kept keeps.others within; ruled = keeps.ruled })
    (cases_lt (length kept) count)

pub tell_ahead : (seen : Option (List ℕ)) (p : Paged) (n : Named) (q : Asked) (types kept : List ℕ) → AreTypesTold seen p types → KeepsFirst n q types kept → TellAhead seen p n q kept
tell_ahead None p n q types kept are keeps = λ later count is. tt
tell_ahead (Some bytes) p n q types kept are keeps = λ later count is rows holds.
    subst (λ l. KeepsFirst n q l (drop count kept)) (sym (are later count rows is holds)) (keeps_behind n q types kept count keeps)

pub keeps_all : (n : Named) (q : Asked) (types : List ℕ) → KeepsFirst n q types types
keeps_all n q types = record { others = []; all = sym (append-nil types); ruled = λ told. All-nil (IsRuledOut n q) }

pub keeps_fewer : (n : Named) (q : Asked) (types kept front last : List ℕ) → kept ≡ front ++ last → (IsTold n → All (IsRuledOut n q) last) → KeepsFirst n q types kept → KeepsFirst n q types front
keeps_fewer n q types kept front last parts ruled keeps = record {
  others = last ++ keeps.others;
  all = keeps.all ∙ ap (λ (l : List ℕ). l ++ keeps.others) parts ∙ append_assoc front last keeps.others;
  ruled = λ told. All-append (IsRuledOut n q) last keeps.others (ruled told) (keeps.ruled told);
}

-- ---- pages

-- the log types of so many of the rows that are left are all ruled out
abbrev pub RuledFirst : Option (List ℕ) → Paged → Named → Asked → ℕ → Type 0
RuledFirst seen p n q count = OfRows seen p (λ rows. (count ≤ length rows) × (IsTold n → All (IsRuledOut n q) (types_in (take count rows))))

-- the messages of these rows are got past
passed_past : (seen : Option (List ℕ)) (old new : Paged) (n : Named) (q : Asked) (count : ℕ) → WideIsWider → AreBehindTold seen old new count → RuledFirst seen old n q count → (name : List ℕ) (number : ℕ) → PastTold (AreOver n q) seen old n name number new count
passed_past None old new n q count wider behind ruled name number = tt
passed_past (Some bytes) old new n q count wider behind ruled name number = λ rows messages holds are.
    let first : List Row = take count rows in
    let others : List Row = drop count rows in
    let is = ruled rows holds in
    let parts = parts_of n first others messages (subst (λ l. AreRowsOf n l messages) (sym (take-append-drop count rows)) are) in
    record {
      gone = parts.gone;
      left = parts.left;
      rows = others;
      all = parts.all;
      counted = parts.counted ∙ omega (arith, length-take count rows, is.0);
      holds = behind rows holds;
      are = parts.second;
      reaches = ruled_over n q name number first parts.gone wider (is.1 are.told) parts.first.are;
    }

passed_gone : (old new : Paged) (v count : ℕ) → old.pages.row < old.pages.rows → new ≡ paged_passed old v → count ≡ page_rows old.pages → PagesGone old new count
passed_gone old new v count left is size =
    let row : new.pages.row ≡ old.pages.row + page_rows old.pages = ap (λ (p : Paged). p.pages.row) is in
    let rows : new.pages.rows ≡ old.pages.rows = ap (λ (p : Paged). p.pages.rows) is in
    record {
      at = ap (λ (p : Paged). p.at) is;
      start = ap (λ (p : Paged). p.pages.start) is;
      rows = rows;
      variables = ap (λ (p : Paged). p.pages.variables) is;
      row = omega (arith, row, size);
      some = omega (arith, size, left);
      inside = omega (arith, row, rows, left);
    }

ruled_page : (seen : Option (List ℕ)) (p : Paged) (n : Named) (q : Asked) (left : List ℕ) (count : ℕ) → LeftAreCounted → TellLeft seen p n q left → count ≤ p.pages.rows - p.pages.row → (IsTold n → All (IsRuledOut n q) (take count left)) → RuledFirst seen p n q count
ruled_page None p n q left count law tell few ruled = tt
ruled_page (Some bytes) p n q left count law tell few ruled = λ rows holds.
    let keeps = tell rows holds in
    let types : take count (left ++ keeps.others) ≡ types_in (take count rows) = ap (take count) (sym keeps.all) ∙ take-map (λ (r : Row). r.log_type) count rows in (
      omega (arith, few, law p bytes rows holds),
      λ told. subst (All (IsRuledOut n q)) types (all_first (IsRuledOut n q) count left keeps.others (ruled told) (keeps.ruled told)),
    )

-- the next page is passed, as the disk is later
pub page_over : (seen later : Option (List ℕ)) (old new : Paged) (n : Named) (q : Asked) (left : List ℕ) (v asked count : ℕ) → WideIsWider → LeftAreCounted → later ≡ seen → old.pages.row < old.pages.rows → asked ≡ page_rows old.pages
    → TellLeft seen old n q left → (IsTold n → All (IsRuledOut n q) (take asked left)) → AreBehindTold later old new count → new ≡ paged_passed old v → count ≡ page_rows old.pages → WentOver seen old n q new (Some count)
page_over seen later old new n q left v asked count wider law same page is_page tell ruled behind after size =
    let one : asked ≡ count = is_page ∙ sym size in (
      passed_gone old new v count page after size,
      passed_past seen old new n q count wider (subst (λ s. AreBehindTold s old new count) same behind)
          (ruled_page seen old n q left count law tell (omega (arith, size, page)) (subst (λ (k : ℕ). IsTold n → All (IsRuledOut n q) (take k left)) one ruled)),
    )

-- behind all rows that are left none are
rest_behind : (seen : Option (List ℕ)) (old new : Paged) (count : ℕ) → LeftAreCounted → count ≡ old.pages.rows - old.pages.row → ((bytes : List ℕ) (rows : List Row) → HoldsLeft old bytes rows → HoldsLeft new bytes [])
    → AreBehindTold seen old new count
rest_behind None old new count law size none = tt
rest_behind (Some bytes) old new count law size none = λ rows holds.
    subst (λ (l : List Row). HoldsLeft new bytes l) (sym (drop_of_length-le rows (omega (arith, size, law old bytes rows holds)))) (none bytes rows holds)

no_length : (types : List ℕ) → length types ≡ 0 → types ≡ []
no_length [] none = refl
no_length (t ∷ types) none = absurd (omega (arith, none))

-- all pages that are left are passed
pub rest_over : (seen : Option (List ℕ)) (old new : Paged) (n : Named) (q : Asked) (left : List ℕ) (count : ℕ) → WideIsWider → LeftAreCounted → old.pages.row < old.pages.rows → TellLeft seen old n q left → length left ≡ 0 → new ≡ paged_end old
    → ((bytes : List ℕ) (rows : List Row) → HoldsLeft old bytes rows → HoldsLeft new bytes []) → count ≡ old.pages.rows - old.pages.row → WentOver seen old n q new (Some count)
rest_over seen old new n q left count wider law page tell none end nothing size =
    let row : new.pages.row ≡ old.pages.rows = ap (λ (p : Paged). p.pages.row) end in
    let rows : new.pages.rows ≡ old.pages.rows = ap (λ (p : Paged). p.pages.rows) end in
    let no_types : All (IsRuledOut n q) (take count left) = All-take (IsRuledOut n q) count left (subst (All (IsRuledOut n q)) (sym (no_length left none)) (All-nil (IsRuledOut n q))) in (
      record {
        at = ap (λ (p : Paged). p.at) end;
        start = ap (λ (p : Paged). p.pages.start) end;
        rows = rows;
        variables = ap (λ (p : Paged). p.pages.variables) end;
        row = omega (arith, row, size, page);
        some = omega (arith, size, page);
        inside = omega (arith, row, rows);
      },
      passed_past seen old new n q count wider (rest_behind seen old new count law size nothing) (ruled_page seen old n q left count law tell (omega (arith, size)) (λ told. no_types)),
    )

-- what is known of the log types from a segment's first page on is known from a later one on
pub known_here : (F : List Placed → Type 0) (seen later : Option (List ℕ)) (old mid : DiskState) (start now : Paged) (n : Named) (q : Asked) (name : List ℕ) (number at gone : ℕ) (kept : List ℕ) → later ≡ seen → start.pages.row ≡ 0 → now.pages.row < now.pages.rows
    → gone ≡ at - number → PagesPast F seen old mid start now n name number at → TellAhead seen start n q kept → TellLeft later now n q (drop gone kept)
known_here F seen later old mid start now n q name number at gone kept same first left is past ahead =
    subst (λ s. TellLeft s now n q (drop gone kept)) (sym same)
    (ahead now gone (record { at = past.same.0; start = past.same.1; rows = past.same.2; row = omega (arith, first, is, past.place); left = left }))

-- what was read tells what is known
pub known_ahead : {T : Type 0} (known : Option T) (f : T → List ℕ) (B : Type 0) (seen later : Option (List ℕ)) (p : Paged) (n : Named) (q : Asked) (types read : List ℕ) → later ≡ seen → types ≡ read → IfSome known (λ _. B)
    → IfSome known (λ t. KeepsFirst n q types (f t)) → (B → AreTypesTold seen p read) → IfSome known (λ t. TellAhead later p n q (f t))
known_ahead None f B seen later p n q types read same is told keeps are = tt
known_ahead (Some t) f B seen later p n q types read same is told keeps are =
    subst (λ s. TellAhead s p n q (f t)) (sym same) (tell_ahead seen p n q types (f t) (subst (AreTypesTold seen p) (sym is) (are told)) keeps)

-- nothing was read
pub none_read : (p : Paged) (d : DiskState) → ReadsColumns p d d
none_read p d = record { rests = rests_same d; ranges = none_within (p.at + p.pages.start) (columns_size p.pages) d.ranges d.ranges refl }

-- ---- whoever takes the pages

-- the reader stands where it stood, where nothing was passed
pub none_passed : (seen : Option (List ℕ)) (old : Paged) (n : Named) (q : Asked) (new : Paged) (passed : Option ℕ) → passed ≡ None → WentOver seen old n q new passed → new ≡ old
none_passed seen old n q new passed is went = subst (λ (o : Option ℕ). WentOver seen old n q new o) is went

-- a page that nobody took is got past by whoever gets past messages that are neither found nor tried
pub over_reaches : (F : List Placed → Type 0) (seen : Option (List ℕ)) (old new : Paged) (n : Named) (q : Asked) (name : List ℕ) (number count : ℕ)
    → ((all : List Placed) → Picks (λ p. IsFound n.version q p.message) all [] → Picks (λ p. IsTried n.version q p.message) all [] → F all)
    → WentOver seen old n q new (Some count) → PastTold F seen old n name number new count
over_reaches F seen old new n q name number count over went = past_more (AreOver n q) F seen old new n name number count (λ xs is. over xs is.0 is.1) (went.1 name number)

-- what is said of the disk and the reader after a look at a page is said of those before it
pub here_past : (F : List Placed → Type 0) (seen later : Option (List ℕ)) (old mid new : Paged) (n : Named) (name : List ℕ) (number count : ℕ) → later ≡ seen → mid ≡ old → PastTold F later mid n name number new count → PastTold F seen old n name number new count
here_past F seen later old mid new n name number count same is past =
    subst (λ s. PastTold F s old n name number new count) same (subst (λ p. PastTold F later p n name number new count) is past)

pub here_left : (P : List (List ℕ) → Type 0) (seen later : Option (List ℕ)) (old mid : Paged) (n : Named) → later ≡ seen → mid ≡ old → OfLeft later mid n P → OfLeft seen old n P
here_left P seen later old mid n same is left = subst (λ s. OfLeft s old n P) same (subst (λ p. OfLeft later p n P) is left)
