use Rattle.std.proofs.Common.{IsTrue, subst, sym}
use Rattle.archive_core.specs.Texts.{FairOf}
use Rattle.archive_core.proofs.texts.is_fair.Goals as goal

pub returns-in-Types : goal.returns-in-Types
returns-in-Types c = subst (λ k. (IsTrue c.is_fair_type.result → FairOf k c.args.text.now) × (FairOf k c.args.text.now → IsTrue c.is_fair_type.result)) (sym c.in-Types.is) c.is_fair_type.ensures

pub returns-in-Words : goal.returns-in-Words
returns-in-Words c = subst (λ k. (IsTrue c.is_fair_word.result → FairOf k c.args.text.now) × (FairOf k c.args.text.now → IsTrue c.is_fair_word.result)) (sym c.in-Words.is) c.is_fair_word.ensures
