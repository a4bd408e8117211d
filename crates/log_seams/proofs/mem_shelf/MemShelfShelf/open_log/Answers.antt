-- A listed opening of a name that is there.
use Rattle.std.proofs.Common.{inr, refl, rules}
use Rattle.std.specs.Prelude.{IsSome}
use Rattle.log_seams.specs.MemShelf.{file_of}
use Rattle.log_seams.proofs.ShelfLemmas.{opens_more, opens_others, opens_rose}
use Rattle.log_seams.proofs.mem_shelf.MemShelfShelf.open_log.Goals as goal

pub returns-then-listed-clause-opens : goal.returns-then-listed-clause-opens
returns-then-listed-clause-opens c =
    rw (← c.self.view_is) (λ n. opens_more _ _ c.args.name.now _ c.in_ok-refuse.ensures.ok (file_of c.self.inside.files.items n) n)

pub returns-then-listed-clause-others : goal.returns-then-listed-clause-others
returns-then-listed-clause-others c =
    rw (← c.self.view_is) (λ n other there. opens_others _ _ c.args.name.now _ c.in_ok-refuse.ensures.ok (file_of c.self.inside.files.items n) n other)

pub returns-then-listed-clause-cause : goal.returns-then-listed-clause-cause
returns-then-listed-clause-cause c =
    let there : IsSome (file_of c.self.inside.files.items c.args.name.now) = search rules in
    rw (← c.self.view_is) (λ _. opens_rose _ _ c.args.name.now _ c.in_ok-refuse.ensures.ok (file_of c.self.inside.files.items c.args.name.now) there)

pub returns-then-listed-clause-only : goal.returns-then-listed-clause-only
returns-then-listed-clause-only c = λ _. inr (rw (← c.self.view_is) (c.if-listed.ensures.listed.0 refl))
