use Rattle.std.proofs.Common.{ap, ◌∙◌, of_z, w64, codes, subst, sym}
use Rattle.std.proofs.lemmas.Int.{to_z-of_z}
use Rattle.command_answers.specs.Shown.{marked, with_word}
use Rattle.log_commands.proofs.ShownLemmas.{Shown-as}
use Rattle.var_codec.specs.Codes.{Codes}
use Rattle.var_codec.specs.declared.Coded.TheVariants.{Whole}
use Rattle.log_commands.proofs.shown_text.push_variable.Goals as goal

pub returns-in-Whole : goal.returns-in-Whole
returns-in-Whole c =
    let whole : Codes c.args.text.now (Whole c.in-Whole.number) = subst (λ x. Codes c.args.text.now x) c.in-Whole.is c.requires in
    let word = c.cast_unsigned.ensures ∙ ap (of_z w64) (to_z-of_z w64 c.in-Whole.number whole.fits) in
    let shown = ap (λ w. with_word (codes "{i:") c.args.text.now w) word ∙ ap (marked c.args.text.now) (sym c.in-Whole.is) in
    Shown-as _ _ _ _ _ shown c.push_with_word.ensures
