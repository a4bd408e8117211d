use Rattle.std.proofs.Common.{inr, refl, arith}
use Rattle.word_places.proofs.HolderLemmas.{ends_before, found_behind}
use Rattle.word_places.proofs.pass.pass_text.Goals as goal

pub returns-then-end-at-clause-found : goal.returns-then-end-at-clause-found
returns-then-end-at-clause-found c = found_behind c.args.finder.now c.args.text.now c.args.after.now c.args.at c.requires (omega arith)

pub returns-then-end-at-clause-added : goal.returns-then-end-at-clause-added
returns-then-end-at-clause-added c = inr (ends_before c.args.fit c.args.finder.now c.args.text.now c.args.after.now c.args.at c.requires (omega arith), refl)
