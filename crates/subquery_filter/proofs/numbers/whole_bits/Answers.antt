use Rattle.std.proofs.Common.{List, ℕ, rules, subst, sym}
use Rattle.std.specs.Int.{cast_signed, w64}
use Rattle.var_codec.specs.declared.Coded.TheVariants.{Whole as WholeWord}
use Rattle.subquery_filter.specs.Filter.{MarksOpen}
use Rattle.subquery_filter.proofs.ClosedLemmas.{both_marks, exact_marks}
use Rattle.subquery_filter.proofs.NumberLemmas.{any_part, open_none, whole_coded, whole_is, whole_part}
use Rattle.subquery_filter.proofs.numbers.whole_bits.Goals as goal

pub returns-in-Some : goal.returns-in-Some
returns-in-Some c = λ small coded words variable (n, is, packs).
    both_marks c.one_word.ensures c.args.tokens.now variable (WholeWord (cast_signed w64 c.args.word)) c.coded_bits-exact.result c.in-Some.bits (whole_coded variable n c.args.word is packs) coded (search rules)
    (subst (λ (t : List ℕ). MarksOpen c.args.tokens.now t c.in-Some.bits) (sym (whole_is variable n c.args.word is packs)) (c.bits_of.ensures c.args.tokens.now c.in-Some.bits small (search rules)))

pub returns-then-not-has_open : goal.returns-then-not-has_open
returns-then-not-has_open c = λ small coded words variable (n, is, packs).
    exact_marks c.one_word.ensures c.args.tokens.now variable (WholeWord (cast_signed w64 c.args.word)) c.coded_bits-exact.result (whole_coded variable n c.args.word is packs) coded (search rules)
    (open_none c.args.tokens.now variable c.coded_bits-exact.result (c.has_open.ensures (search rules)) (λ t m. any_part t (whole_part t variable n is m)))

pub returns : goal.returns
returns c = λ small coded words variable (n, is, packs).
    both_marks c.one_word.ensures c.args.tokens.now variable (WholeWord (cast_signed w64 c.args.word)) c.coded_bits-exact.result c.whole_marks.result (whole_coded variable n c.args.word is packs) coded (search rules)
    (subst (λ (t : List ℕ). MarksOpen c.args.tokens.now t c.whole_marks.result) (sym (whole_is variable n c.args.word is packs)) c.whole_marks.ensures)
