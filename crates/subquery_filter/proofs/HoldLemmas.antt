-- A word that needs no `\` stands in each text that has it as a run.
use Rattle.std.proofs.Common.{◌≡◌, ℕ, false, List, ◌++◌, length, arith, ◌∙◌, ap, sym, subst}
use Rattle.std.specs.Prelude.{◌+◌, All}
use Rattle.std.proofs.lemmas.List.{get_or-append-add, get_or_append_left, length-append}
use Rattle.memchr.specs.Find.{Nowhere, OccursAt}
use Rattle.logtype_text.specs.TypeText.{is_escaped, type_text}
use Rattle.logtype_text.proofs.EncodedLemmas.{plain_text}
use Rattle.barren_segments.specs.Runs.{HoldsRun}

-- a text between two others
occurs_between : (a w b : List ℕ) → OccursAt (a ++ (w ++ b)) w (length a)
occurs_between a w b = record {
  fits = omega (arith, length-append a (w ++ b), length-append w b);
  reads = λ j low. get_or-append-add a (w ++ b) j 0 ∙ get_or_append_left w b 0 j low;
}

-- a run without escapes stands where it begins
run_stands : (text word : List ℕ) → All (λ b. is_escaped b ≡ false) word → (has : HoldsRun text word) → OccursAt text word (length (type_text has.front))
run_stands text word plain has =
    let behind = has.is.0 in
    let run : has.run ≡ word ++ behind = has.is.1 ∙ ap (λ l. l ++ behind) (plain_text word plain) in
    let cut : text ≡ type_text has.front ++ (word ++ behind) = has.stands ∙ ap (λ l. type_text has.front ++ l) run in
    subst (λ t. OccursAt t word (length (type_text has.front))) (sym cut) (occurs_between (type_text has.front) word behind)

-- a word that stands nowhere is no run
pub no_run_nowhere : (text word : List ℕ) → All (λ b. is_escaped b ≡ false) word → Nowhere (OccursAt text word) 0 (length text + 1) → ¬ HoldsRun text word
no_run_nowhere text word plain none has =
    let at = run_stands text word plain has in
    none (length (type_text has.front)) (omega arith) (omega (arith, at.fits)) at
