use Rattle.std.proofs.Common.{◌≡◌, ◌∙◌, List, [], ℕ, ap, length, sym}
use Rattle.std.specs.Prelude.{bit_and, slice_index_or}
use Rattle.std.proofs.lemmas.Bool.{eqb-true}
use Rattle.std.proofs.lemmas.List.{nil_from_length}
use Rattle.subquery_filter.proofs.marks.WordMarks.is_empty.Goals as goal

pub returns : goal.returns
returns c = λ yes n.
    let table : List ℕ = c.as_slice.result.now in
    let none : table ≡ [] = nil_from_length table (eqb-true (length table) 0 (sym c.is_empty.ensures ∙ yes)) in
    ap (λ (l : List ℕ). slice_index_or l (bit_and n c.args.self.now.mask) 0) (sym c.as_slice.ensures.value ∙ none)
