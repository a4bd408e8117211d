use Rattle.std.proofs.Common.{◌++◌, ◌∙◌, ap}
use Rattle.logtype_text.specs.declared.symbols.Symbol.{Symbol}
use Rattle.logtype_text.specs.TypeText.{text_of_symbol}
use Rattle.row_codec.proofs.CutTextLemmas.{cut_delimiter, cut_stuck}
use Rattle.row_codec.proofs.cutting.past_part.Goals as goal

pub returns-else-not-is_delim-clause-some : goal.returns-else-not-is_delim-clause-some
returns-else-not-is_delim-clause-some g c =
    cut_delimiter (g.N.Names.words c.args.names.now) c.args.at.prev c.args.at.rest.now c.args.at.words.now c.in-Some-Byte-default.byte c.in-Some-Byte-default.after.now (c.in-Some-Byte-default.ensures.some ∙ ap (λ (s : Symbol). text_of_symbol s ++ c.in-Some-Byte-default.after.now) c.in-Some-Byte-default.field-0-0-is) (c.is_delim.ensures.0 c.if-not-is_delim.false)

pub returns-in-None-clause-none : goal.returns-in-None-clause-none
returns-in-None-clause-none g c = cut_stuck (g.N.Names.words c.args.names.now) c.args.at.prev c.args.at.rest.now c.args.at.words.now c.requires c.in-None.ensures.none
