use Rattle.std.proofs.Common.{rules, sym, subst}
use Rattle.archive_open.specs.Grown.{GrowsNext, NoneGrows, grown_of}
use Rattle.live_search.proofs.HandleLemmas.{none_grows}
use Rattle.live_search.proofs.progress.grow_part.Goals as goal

pub returns-in-Err-Malformed-clause-damaged : goal.returns-in-Err-Malformed-clause-damaged
returns-in-Err-Malformed-clause-damaged g c = λ at is. none_grows c.args.found.now.place.kind c.args.found.now.payload _ c.requires (search rules)

pub returns-then-not-add_head-clause-damaged : goal.returns-then-not-add_head-clause-damaged
returns-then-not-add_head-clause-damaged g c = λ at is.
    subst (λ k. NoneGrows k c.args.found.now.payload (grown_of g.B.KeepsTexts.kept c.args.grown.now)) (sym c.requires)
    (c.add_head.ensures.refused (search rules) c.args.found.now.payload (search rules))

pub returns-clause-added : goal.returns-clause-added
returns-clause-added g c =
    subst (λ k. GrowsNext k c.args.found.now.payload (grown_of g.B.KeepsTexts.kept c.args.grown.now) (grown_of g.B.KeepsTexts.kept c.add_head.new.grown)) (sym c.requires)
    (c.add_head.ensures.added (search rules) c.args.found.now.payload (search rules))
