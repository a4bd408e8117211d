use Rattle.std.proofs.Common.{refl, sym, subst}
use Rattle.std.specs.Prelude.{◌↔◌, IsTrue}
use Rattle.logtype_text.specs.declared.symbols.Kind.{Kind}
use Rattle.row_codec.specs.StepsBody.{HasWriting}
use Rattle.row_codec.proofs.BodyLemmas.{whole_writing, word_writing}
use Rattle.row_codec.proofs.fitting.word_fits.Goals as goal

pub returns-in-Whole : goal.returns-in-Whole
returns-in-Whole g c =
    (λ yes. subst (λ (k : Kind). HasWriting (g.N.Names.words c.args.names.now) k c.args.word) (sym c.in-Whole.is) (whole_writing (g.N.Names.words c.args.names.now) c.args.word c.ranges.word.fits), λ has. refl)

pub returns-in-Word : goal.returns-in-Word
returns-in-Word g c =
    let tells = word_writing (g.N.Names.words c.args.names.now) c.args.word (λ t. t.now) c.dictionary_word.result c.dictionary_word.ensures in
    let same = rw (← c.is_some.ensures) at tells in
    subst (λ (k : Kind). IsTrue c.is_some.result ↔ HasWriting (g.N.Names.words c.args.names.now) k c.args.word) (sym c.in-Word.is) same
