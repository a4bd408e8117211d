-- What is read for a page: columns of its segment, and words.
use Rattle.std.proofs.Common.{inl, inr, ◌≤◌, ◌+◌, ℕ, List, Option, Some, None}
use Rattle.std.proofs.lemmas.List.Elements.{All-weaker}
use Rattle.log_seams.specs.Disk.{DiskState, Rests}
pub use Rattle.log_seams.proofs.ReadsLemmas.{none_added, two_added, rests_same, such_none, such_on, such_weaker}
use Rattle.segment_pages.specs.Paged.{Paged, ReadsColumns, columns_size}
use Rattle.word_places.specs.Reads.{IsOfWords, ReadsWords}
use Rattle.search_walk.specs.Held.{Named, OfLeft, IsTold}
use Rattle.search_walk.specs.PagesRead.{IsOfPage, ReadsPage}

-- columns alone
pub columns_such : (n : Named) (p : Paged) (old new : DiskState) → ReadsColumns p old new → ReadsPage n p old new
columns_such n p old new reads = record {
  rests = reads.rests;
  more = reads.ranges.more;
  added = reads.ranges.added;
  each = All-weaker (λ r. (p.at + p.pages.start ≤ r.0) × (r.0 + r.1 ≤ p.at + p.pages.start + columns_size p.pages)) (IsOfPage n p) (λ r within. inl within) reads.ranges.more reads.ranges.within;
}

-- words alone
pub words_such : (n : Named) (p : Paged) (old new : DiskState) → Rests old new → ReadsWords n.places old new → ReadsPage n p old new
words_such n p old new rests reads = record {
  rests = rests;
  more = reads.more;
  added = reads.added;
  each = All-weaker (λ r. IsOfWords n.places r.0 r.1) (IsOfPage n p) (λ r within. inr within) reads.more reads.within;
}

pub page_such : (n : Named) (p : Paged) (old mid new : DiskState) → ReadsColumns p old mid → Rests mid new → ReadsWords n.places mid new → ReadsPage n p old new
page_such n p old mid new columns rests words = such_on (IsOfPage n p) old mid new (columns_such n p old mid columns) (words_such n p mid new rests words)

-- no rows are of names whose words do not stand on the disk
pub untold_left : (seen : Option (List ℕ)) (start : Paged) (n : Named) → ¬ IsTold n → OfLeft seen start n (λ _. ⊥)
untold_left None start n not = tt
untold_left (Some bytes) start n not = λ rows messages holds are. not are.told
