use Rattle.std.proofs.Common.{rules, ℕ, List, subst}
use Rattle.archive_open.specs.Grown.{GrowsNext, NoneGrows, grown_of}
use Rattle.live_search.proofs.progress.grow_listed.Goals as goal

pub returns-then-not-branch-clause-damaged : goal.returns-then-not-branch-clause-damaged
returns-then-not-branch-clause-damaged g c = λ at is.
    subst (λ (l : List ℕ). NoneGrows c.args.found.now.place.kind l (grown_of g.B.KeepsTexts.kept c.args.grown.now)) c.as_slice.ensures (c.in_ok-add_listed.ensures.refused (search rules))

pub returns-clause-added : goal.returns-clause-added
returns-clause-added g c =
    subst (λ (l : List ℕ). GrowsNext c.args.found.now.place.kind l (grown_of g.B.KeepsTexts.kept c.args.grown.now) (grown_of g.B.KeepsTexts.kept c.add_listed.new.grown)) c.as_slice.ensures
    (c.in_ok-add_listed.ensures.added (search rules))
