-- When a segment may follow, from what was looked at one after the other.
use Rattle.std.proofs.Common.{◌≡◌, ℕ, zero, suc, ◌+◌, ◌<◌, List, [], ◌∷◌, All, arith, get_or, length, sym, ◌∙◌, ap}
use Rattle.std.specs.Prelude.{Bool, true, false}
use Rattle.column_store.specs.declared.row.Row.{Row}
use Rattle.column_store.specs.Row.{IsRow}
use Rattle.archive_meaning.specs.declared.sums.FileSum.{FileSum}
use Rattle.archive_meaning.specs.Sums.{AddsRows, open_after, sum_with}
use Rattle.archive_meaning.proofs.RunLemmas.{one_messages}
use Rattle.archive_core.specs.declared.segment.Part.{Part}
use Rattle.archive_core.specs.Part.{MayFollow, segment_of}
use Rattle.archive_core.specs.Rows.{AreMessages}

pub adds_rows : (version : ℕ) (sum : FileSum) (types words : List (List ℕ)) (part : Part) (rows : List Row) (messages : List (List ℕ)) (open_end : Bool)
    → MayFollow sum part rows → All IsRow rows → AreMessages version types words rows messages → open_end ≡ open_after sum.open_end messages
    → (part.last ≡ true → part.ended ≡ false → open_end ≡ true) → AddsRows version sum types words (segment_of part rows) messages
adds_rows version sum types words part rows messages open_end may fit are is ends = record {
  first = may.first;
  goes_on = may.goes_on;
  most = may.most;
  rows = may.count;
  variables = may.variables;
  fit = fit;
  some = may.some;
  ended = may.ended;
  end = λ last ended. sym is ∙ ends last ended;
  canonical = are.0;
  each = are.1;
}

pub may_of : (version : ℕ) (sum : FileSum) (types words : List (List ℕ)) (part : Part) (rows : List Row) (messages : List (List ℕ))
    → AddsRows version sum types words (segment_of part rows) messages → MayFollow sum part rows
may_of version sum types words part rows messages adds = record {
  first = adds.first;
  goes_on = adds.goes_on;
  most = adds.most;
  count = adds.rows;
  variables = adds.variables;
  some = adds.some;
  ended = adds.ended;
}

pub ends_of : (version : ℕ) (sum : FileSum) (types words : List (List ℕ)) (part : Part) (rows : List Row) (messages found : List (List ℕ)) (open_end : Bool)
    → AddsRows version sum types words (segment_of part rows) messages → AreMessages version types words rows found → open_end ≡ open_after sum.open_end found
    → part.last ≡ true → part.ended ≡ false → open_end ≡ true
ends_of version sum types words part rows messages found open_end adds are is last ended =
    is ∙ ap (open_after sum.open_end) (one_messages version rows types words found messages are.0 adds.canonical) ∙ adds.end last ended

pub same_sum : (sum : FileSum) (part : Part) (rows : List Row) (messages : List (List ℕ)) (count : ℕ) (open_end : Bool) → count ≡ length rows → open_end ≡ open_after sum.open_end messages
    → (let x : FileSum = record { messages = sum.messages + count; whole = part.last; open_end = open_end } in x) ≡ sum_with sum (segment_of part rows) messages
same_sum sum part rows messages count open_end counted is = λ i. record { messages = sum.messages + counted i; whole = part.last; open_end = is i }

-- an element that is read is the one at its place, whatever stands for those behind the end
pub other_default : {A : Type 0} (xs : List A) (i : ℕ) (x d : A) → i < length xs → x ≡ get_or xs i x → x ≡ get_or xs i d
other_default [] i x d within is = absurd (omega (arith, within))
other_default (y ∷ xs) zero x d within is = is
other_default (y ∷ xs) (suc i) x d within is = other_default xs i x d (omega (arith, within)) is
