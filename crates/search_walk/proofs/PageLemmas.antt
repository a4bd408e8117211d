-- What the pages of a segment have passed.
use Rattle.std.proofs.Common.{◌≡◌, inl, inr, ⊎_elim, ℕ, suc, ◌+◌, ◌*◌, ◌<◌, ◌≤◌, List, [], ◌∷◌, ◌++◌, length, Option, Some, None, refl, sym, ◌∙◌, ap, ap₂, subst, arith, length-append}
use Rattle.std.proofs.lemmas.List.{append-nil, append_assoc}
use Rattle.log_seams.specs.Disk.{DiskState}
use Rattle.column_store.specs.declared.row.Row.{Row}
use Rattle.segment_format.specs.Pages.{page_rows}
use Rattle.segment_pages.specs.Paged.{AreNextTold, HoldsNoneTold, Paged, columns_size}
use Rattle.segment_pages.specs.Laws.{NoneAreLeft}
use Rattle.search_walk.specs.PagesRead.{IsOfPage, ReadsPage}
use Rattle.printed_lines.specs.Lines.{Placed, numbered}
use Rattle.search_walk.specs.Held.{AreRowsOf, Named, OfLeft}
use Rattle.search_walk.specs.StepsPast.{PagesPast}
use Rattle.search_walk.specs.Walked.{PageGone, PagesGone, PastTold}
use Rattle.search_walk.proofs.PagesReadLemmas.{such_none, such_on, such_weaker}
use Rattle.printed_lines.proofs.LineLemmas.{numbered_append}
use Rattle.search_walk.proofs.RowLemmas.{none_left}

-- ---- rows in two parts

pub record Parts (n : Named) (rows others : List Row) (messages : List (List ℕ)) : Type 0 where
  pub gone : List (List ℕ)
  pub left : List (List ℕ)
  pub all : messages ≡ gone ++ left
  pub counted : length gone ≡ length rows
  pub first : AreRowsOf n rows gone
  pub second : AreRowsOf n others left

pub parts_of : (n : Named) (rows others : List Row) (messages : List (List ℕ)) → AreRowsOf n (rows ++ others) messages → Parts n rows others messages
parts_of n [] others messages are = record { gone = []; left = messages; all = refl; counted = refl; first = record { told = are.told; are = tt }; second = are }
parts_of n (r ∷ rows) others [] are = absurd are.are
parts_of n (r ∷ rows) others (m ∷ messages) are =
    let p = parts_of n rows others messages (record { told = are.told; are = are.are.1 }) in
    record {
      gone = m ∷ p.gone;
      left = p.left;
      all = ap (λ (l : List (List ℕ)). m ∷ l) p.all;
      counted = ap suc p.counted;
      first = record { told = are.told; are = (are.are.0, p.first.are) };
      second = p.second;
    }

-- ---- one page

-- a page was taken, whatever messages its rows are
pub past_page : (F : List Placed → Type 0) (seen : Option (List ℕ)) (start now : Paged) (n : Named) (name : List ℕ) (number count : ℕ) (rows : List Row) → AreNextTold seen start now rows → count ≡ length rows
    → ((messages : List (List ℕ)) → AreRowsOf n rows messages → F (numbered name number messages)) → PastTold F seen start n name number now count
past_page F None start now n name number count rows next long taken = tt
past_page F (Some bytes) start now n name number count rows next long taken = λ all messages holds are.
    let behind = next all holds in
    let parts = parts_of n rows behind.0 messages (subst (λ l. AreRowsOf n l messages) behind.1 are) in
    record {
      gone = parts.gone;
      left = parts.left;
      rows = behind.0;
      all = parts.all;
      counted = parts.counted ∙ sym long;
      holds = behind.2;
      are = parts.second;
      reaches = taken parts.gone parts.first;
    }

-- what was got past so far, and then by a step over no messages
pub past_more : (F G : List Placed → Type 0) (seen : Option (List ℕ)) (start now : Paged) (n : Named) (name : List ℕ) (number count : ℕ) → ((xs : List Placed) → F xs → G xs) → PastTold F seen start n name number now count
    → PastTold G seen start n name number now count
past_more F G None start now n name number count step past = tt
past_more F G (Some bytes) start now n name number count step past = λ all messages holds are.
    let p = past all messages holds are in
    record {
      gone = p.gone;
      left = p.left;
      rows = p.rows;
      all = p.all;
      counted = p.counted;
      holds = p.holds;
      are = p.are;
      reaches = step (numbered name number p.gone) p.reaches;
    }

-- what holds of any messages holds of those that are left
pub left_all : (H : List Placed → Type 0) (seen : Option (List ℕ)) (start : Paged) (n : Named) (name : List ℕ) (number : ℕ) → ((xs : List Placed) → H xs) → OfLeft seen start n (λ messages. H (numbered name number messages))
left_all H None start n name number has = tt
left_all H (Some bytes) start n name number has = λ rows messages holds are. has (numbered name number messages)

pub none_damaged : (seen : Option (List ℕ)) (start : Paged) (n : Named) → HoldsNoneTold seen start → OfLeft seen start n (λ _. ⊥)
none_damaged None start n none = tt
none_damaged (Some bytes) start n none = λ rows messages holds are. none rows holds

pub left_nothing : (seen : Option (List ℕ)) (start : Paged) (n : Named) → ⊥ → OfLeft seen start n (λ _. ⊥)
left_nothing seen start n never = absurd never

-- ---- all pages

pub past_first : (F : List Placed → Type 0) (seen : Option (List ℕ)) (start : Paged) (n : Named) (name : List ℕ) (number : ℕ) → F [] → PastTold F seen start n name number start 0
past_first F None start n name number none = tt
past_first F (Some bytes) start n name number none = λ rows messages holds are. record {
  gone = [];
  left = messages;
  rows = rows;
  all = refl;
  counted = refl;
  holds = holds;
  are = are;
  reaches = none;
}

pub past_on : (F G H : List Placed → Type 0) (seen later : Option (List ℕ)) (start mid now : Paged) (n : Named) (name : List ℕ) (number at k m all : ℕ) → ((xs ys : List Placed) → F xs → G ys → H (xs ++ ys)) → later ≡ seen → at ≡ number + k
    → all ≡ k + m → PastTold F seen start n name number mid k → PastTold G later mid n name at now m → PastTold H seen start n name number now all
past_on F G H None later start mid now n name number at k m all on same place total one two = tt
past_on F G H (Some bytes) later start mid now n name number at k m all on same place total one two = λ rows messages holds are.
    let p = one rows messages holds are in
    let r = subst (λ s. PastTold G s mid n name at now m) same two p.rows p.left p.holds p.are in
    record {
      gone = p.gone ++ r.gone;
      left = r.left;
      rows = r.rows;
      all = p.all ∙ ap (λ (l : List (List ℕ)). p.gone ++ l) r.all ∙ sym (append_assoc p.gone r.gone r.left);
      counted = omega (arith, length-append p.gone r.gone, p.counted, r.counted, total);
      holds = r.holds;
      are = r.are;
      reaches = subst H (sym (numbered_append name number p.gone r.gone at (omega (arith, place, p.counted))))
          (on (numbered name number p.gone) (numbered name at r.gone) p.reaches r.reaches);
    }

pub past_end : (F : List Placed → Type 0) (seen : Option (List ℕ)) (start now : Paged) (n : Named) (name : List ℕ) (number count : ℕ) → NoneAreLeft → now.pages.rows ≤ now.pages.row → PastTold F seen start n name number now count
    → OfLeft seen start n (λ messages. F (numbered name number messages))
past_end F None start now n name number count law done past = tt
past_end F (Some bytes) start now n name number count law done past = λ rows messages holds are.
    let p = past rows messages holds are in
    let none : p.left ≡ [] = none_left n p.rows p.left (law now bytes p.rows done p.holds) p.are in
    let all : messages ≡ p.gone = p.all ∙ ap (λ (l : List (List ℕ)). p.gone ++ l) none ∙ append-nil p.gone in
    subst (λ l. F (numbered name number l)) (sym all) p.reaches

pub past_stops : (F G H : List Placed → Type 0) (seen later : Option (List ℕ)) (start now : Paged) (n : Named) (name : List ℕ) (number at count : ℕ) → ((xs ys : List Placed) → F xs → G ys → H (xs ++ ys)) → later ≡ seen → at ≡ number + count
    → PastTold F seen start n name number now count → OfLeft later now n (λ messages. G (numbered name at messages)) → OfLeft seen start n (λ messages. H (numbered name number messages))
past_stops F G H None later start now n name number at count behind same place past stops = tt
past_stops F G H (Some bytes) later start now n name number at count behind same place past stops = λ rows messages holds are.
    let p = past rows messages holds are in
    let s = subst (λ s. OfLeft s now n (λ messages. G (numbered name at messages))) same stops p.rows p.left p.holds p.are in
    subst H (sym (ap (numbered name number) p.all ∙ numbered_append name number p.gone p.left at (omega (arith, place, p.counted))))
    (behind (numbered name number p.gone) (numbered name at p.left) p.reaches s)

-- what was in hand still stands for messages, so the later pages hold none
pub past_damaged : (F : List Placed → Type 0) (Stands : Type 0) (seen later : Option (List ℕ)) (start now : Paged) (n : Named) (name : List ℕ) (number count : ℕ) → ((xs : List Placed) → F xs → Stands) → later ≡ seen
    → PastTold F seen start n name number now count → (Stands → OfLeft later now n (λ _. ⊥)) → OfLeft seen start n (λ _. ⊥)
past_damaged F Stands None later start now n name number count on same past none = tt
past_damaged F Stands (Some bytes) later start now n name number count on same past none = λ rows messages holds are.
    let p = past rows messages holds are in
    subst (λ s. OfLeft s now n (λ _. ⊥)) same (none (on (numbered name number p.gone) p.reaches)) p.rows p.left p.holds p.are

-- ---- the loop over pages

-- a page is pages
pub page_gone : (start now : Paged) (count : ℕ) → start.pages.row < start.pages.rows → PageGone start now count → PagesGone start now count
page_gone start now count left gone =
    let is = gone.1 in
    let row : now.pages.row ≡ start.pages.row + page_rows start.pages = ap (λ (p : Paged). p.pages.row) is in
    let rows : now.pages.rows ≡ start.pages.rows = ap (λ (p : Paged). p.pages.rows) is in
    record {
      at = ap (λ (p : Paged). p.at) is;
      start = ap (λ (p : Paged). p.pages.start) is;
      rows = rows;
      variables = ap (λ (p : Paged). p.pages.variables) is;
      row = omega (arith, row, gone.2, gone.3);
      some = omega (arith, gone.2, gone.3, left);
      inside = omega (arith, row, rows, left);
    }

-- the columns of a reader that went on are the same
pub same_columns : (n : Named) (start now : Paged) (old new : DiskState) → (now.at ≡ start.at) × (now.pages.start ≡ start.pages.start) × (now.pages.rows ≡ start.pages.rows) × (now.pages.variables ≡ start.pages.variables)
    → ReadsPage n now old new → ReadsPage n start old new
same_columns n start now old new same reads =
    let from : now.at + now.pages.start ≡ start.at + start.pages.start = ap₂ (λ (x y : ℕ). x + y) same.0 same.1 in
    let size : columns_size now.pages ≡ columns_size start.pages = ap₂ (λ (x y : ℕ). 17 * x + 8 * y) same.2 same.3 in
    such_weaker (IsOfPage n now) (IsOfPage n start) old new
    (λ r is. ⊎_elim (λ within. inl (omega (arith, within.0, from), omega (arith, within.1, from, size))) (λ words. inr words) is) reads

pub pages_reads : (F : List Placed → Type 0) (seen : Option (List ℕ)) (old mid new : DiskState) (start now : Paged) (n : Named) (name : List ℕ) (number at : ℕ) → PagesPast F seen old mid start now n name number at → ReadsPage n now mid new
    → ReadsPage n start old new
pages_reads F seen old mid new start now n name number at past reads = such_on (IsOfPage n start) old mid new past.reads (same_columns n start now mid new past.same reads)

pub pages_first : (F : List Placed → Type 0) (d : DiskState) (start : Paged) (n : Named) (name : List ℕ) (number : ℕ) → F [] → start.pages.row ≡ 0 → PagesPast F d.seen d d start start n name number number
pages_first F d start n name number none zero = record {
  reads = such_none (IsOfPage n start) d;
  faults = refl;
  place = omega (arith, zero);
  same = (refl, refl, refl, refl);
  past = subst (λ k. PastTold F d.seen start n name number start k) (sym zero) (past_first F d.seen start n name number none);
}

pub pages_next : (F G H : List Placed → Type 0) (old mid new : DiskState) (start now later : Paged) (n : Named) (name : List ℕ) (number at next count : ℕ) → ((xs ys : List Placed) → F xs → G ys → H (xs ++ ys))
    → PagesPast F old.seen old mid start now n name number at → ReadsPage n now mid new → new.faults ≡ mid.faults → PagesGone now later count → next ≡ at + count → PastTold G mid.seen now n name at later count
    → PagesPast H old.seen old new start later n name number next
pages_next F G H old mid new start now later n name number at next count on past reads faults gone place more =
    record {
      reads = pages_reads F old.seen old mid new start now n name number at past reads;
      faults = faults ∙ past.faults;
      place = omega (arith, place, past.place, gone.row);
      same = (gone.at ∙ past.same.0, gone.start ∙ past.same.1, gone.rows ∙ past.same.2, gone.variables ∙ past.same.3);
      past = past_on F G H old.seen mid.seen start now later n name number at now.pages.row count later.pages.row on past.reads.rests.seen past.place gone.row past.past more;
    }
