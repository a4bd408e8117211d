use Rattle.std.proofs.Common.{ℕ, List, ◌++◌, ap, append_assoc}
use Rattle.std.specs.Prelude.{codes}
use Rattle.std.specs.Fmt.{decimal}
use Rattle.command_refusals.specs.Refusal.{line, line_of}
use Rattle.command_refusals.specs.declared.refusal.Refusal.TheVariants.{Full}
use Rattle.command_refusals.proofs.RefusalLemmas.{Says-same}
use Rattle.command_refusals.proofs.refusal.say_full.Goals as goal

pub returns-in-Types-clause-said : goal.returns-in-Types-clause-said
returns-in-Types-clause-said g c = Says-same _ _ _ _ _ (line_of c.args.name.now (Full c.args.book c.args.count)) (rw (c.in-Types.is, c.from-count.ensures) (ap (λ (t : List ℕ). codes "clpa: " ++ t) (append_assoc c.args.name.now (codes ": dictionary of types is full at ") (line (decimal c.args.count))))) c.say_number.ensures.said

pub returns-in-Words-clause-said : goal.returns-in-Words-clause-said
returns-in-Words-clause-said g c = Says-same _ _ _ _ _ (line_of c.args.name.now (Full c.args.book c.args.count)) (rw (c.in-Words.is, c.from-count.ensures) (ap (λ (t : List ℕ). codes "clpa: " ++ t) (append_assoc c.args.name.now (codes ": dictionary of words is full at ") (line (decimal c.args.count))))) c.say_number-in-Words.ensures.said
