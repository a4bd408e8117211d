use Rattle.std.proofs.Common.{◌-◌, length, get_or, take, drop, subst}
use Rattle.row_codec.specs.StepsCut.{IsCutText, TellsBreaks}
use Rattle.row_codec.proofs.BodyLemmas.{first_left, no_first}
use Rattle.row_codec.proofs.CutTextLemmas.{cut_variable, variable_breaks, variable_held, variable_word}
use Rattle.row_codec.proofs.cutting.past_variable.Goals as goal

pub returns-in_default-clause-none : goal.returns-in_default-clause-none
returns-in_default-clause-none g c = λ whole.
    let words = g.N.Names.words c.args.names.now in
    let at = c.args.at in
    variable_word words at.prev at.rest.now c.args.kind c.args.after.now c.requires (subst (λ l. IsCutText words at.prev at.rest.now l) (no_first at.words.now c.in_default.len_below) whole)

pub returns-then-not-breaks-clause-none : goal.returns-then-not-breaks-clause-none
returns-then-not-breaks-clause-none g c =
    variable_breaks (g.N.Names.words c.args.names.now) c.args.at.prev c.args.at.rest.now c.args.at.words.now c.args.kind c.args.after.now c.requires
    (subst (λ b. TellsBreaks c.args.after.now b) c.if-not-breaks.true c.breaks.ensures)

pub returns-then-not-holds_word-clause-none : goal.returns-then-not-holds_word-clause-none
returns-then-not-holds_word-clause-none g c = λ whole.
    let row = c.args.at.words.now in
    let has = variable_held (g.N.Names.words c.args.names.now) c.args.at.prev c.args.at.rest.now row c.args.kind c.args.after.now (get_or row 0 0) (take (length row - 1) (drop 1 row)) c.requires (first_left row c.in-len1-up.len_at_least) whole in
    absurd (cc (c.holds_word.ensures.1 has, c.if-not-holds_word.true))

pub returns-clause-some : goal.returns-clause-some
returns-clause-some g c =
    let row = c.args.at.words.now in
    cut_variable (g.N.Names.words c.args.names.now) c.args.at.prev c.args.at.rest.now row c.args.kind c.args.after.now (get_or row 0 0) (take (length row - 1) (drop 1 row)) c.requires (first_left row c.in-len1-up.len_at_least)
    (subst (λ b. TellsBreaks c.args.after.now b) c.if-not-breaks.false c.breaks.ensures) (c.holds_word.ensures.0 c.if-not-holds_word.false)
