use Rattle.std.proofs.Common.{◌≡◌, ◌∙◌, sym, subst, length, slice_index, slice_get, Some, []}
use Rattle.std.proofs.lemmas.List.{nil_from_length}
use Rattle.std.proofs.lemmas.Bool.{eqb-true}
use Rattle.memchr.specs.Find.{IsFirst}
use Rattle.dict_core.specs.Buffer.{start_at, text_at, texts_from}
use Rattle.dict_core.proofs.SearchLemmas.{first_same, empty_text, same_text_at}
use Rattle.dict_core.proofs.search.first.Goals as goal

pub returns-then-is_empty : goal.returns-then-is_empty
returns-then-is_empty c =
    let bytes = c.args.bytes.now in let ends = c.args.ends.now in let text = c.args.text.now in
    let none : text ≡ [] = nil_from_length text (eqb-true (length text) 0 (sym c.is_empty.ensures ∙ c.if-is_empty.true)) in
    first_same (λ k. start_at ends k ≡ slice_index ends k) (λ n. slice_get (texts_from bytes 0 ends) n ≡ Some text) (length ends) c.first_empty.result
    (λ k l. empty_text bytes ends text k none c.requires l) c.first_empty.ensures

pub returns-else-is_empty : goal.returns-else-is_empty
returns-else-is_empty c =
    let bytes = c.args.bytes.now in let ends = c.args.ends.now in let text = c.args.text.now in
    let found = subst (λ needle. IsFirst (λ k. text_at bytes ends k ≡ needle) 0 (length ends) c.first_match-else-is_empty.result) c.new.ensures c.first_match-else-is_empty.ensures in
    first_same (λ k. text_at bytes ends k ≡ text) (λ n. slice_get (texts_from bytes 0 ends) n ≡ Some text) (length ends) c.first_match-else-is_empty.result
    (λ k l. same_text_at bytes ends text k l) found
