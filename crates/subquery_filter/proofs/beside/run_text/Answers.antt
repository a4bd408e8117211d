use Rattle.std.proofs.Common.{rules, subst, sym}
use Rattle.subquery_filter.specs.Tokens.{IsInRun}
use Rattle.subquery_filter.proofs.AroundLemmas.{in_run}
use Rattle.subquery_filter.proofs.beside.run_text.Goals as goal

pub returns : goal.returns
returns c =
    subst (IsInRun c.args.pieces.now c.args.token.now) (sym c.new.ensures)
    (in_run c.args.pieces.now c.args.place c.args.token.now c.args.front.now c.extend_from_slice.new.self.items _ c.requires.here c.requires.within c.requires.front (search rules) c.in_ok-push_run.ensures)
