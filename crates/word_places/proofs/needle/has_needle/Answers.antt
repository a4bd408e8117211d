use Rattle.std.proofs.Common.{sym, subst}
use Rattle.std.specs.Prelude.{◌↔◌, IsTrue}
use Rattle.word_places.specs.declared.needle.Fit.{Fit}
use Rattle.word_places.specs.Holders.{HasNeedle}
use Rattle.word_places.proofs.HolderLemmas.{found_tells}
use Rattle.word_places.proofs.needle.has_needle.Goals as goal

pub returns-in-Within : goal.returns-in-Within
returns-in-Within c =
    subst (λ (f : Fit). IsTrue c.is_some.result ↔ HasNeedle f c.args.finder.now c.args.text.now) (sym c.in-Within.is)
    (found_tells c.args.finder.now c.args.text.now c.find.result c.is_some.result c.find.ensures c.is_some.ensures)
