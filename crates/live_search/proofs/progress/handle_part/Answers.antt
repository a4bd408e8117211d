use Rattle.std.proofs.Common.{rules, inr}
use Rattle.std.proofs.lemmas.Result.{err_from_is_err_and}
use Rattle.live_search.specs.Handled.{reached_of}
use Rattle.live_search.proofs.AnswerLemmas.{on_err}
use Rattle.live_search.proofs.HandleLemmas.{grows_to, kept_to, looked_by, meets_none, names_to, part_begun, part_handled, part_none}
use Rattle.live_search.proofs.progress.handle_part.Goals as goal

pub returns-in_err-head-clause-damaged : goal.returns-in_err-head-clause-damaged
returns-in_err-head-clause-damaged g c = λ at is.
    let p = err_from_is_err_and c.from_residual.result c.from_residual.ensures.1 in
    meets_none c.args.found.now (reached_of g.B.KeepsTexts.kept c.args.progress.now) (c.in_err-head.ensures.damaged at (search (rules, is, p.1, p.2)))

pub returns-in_err-print_part-clause-stopped : goal.returns-in_err-print_part-clause-stopped
returns-in_err-print_part-clause-stopped g c =
    let kept = g.B.KeepsTexts.kept in
    let old = reached_of kept c.args.progress.now in
    let new = reached_of kept c.go_past.new.progress in
    let past = c.go_past.ensures.past in
    let grows = grows_to kept c.args.progress.now.grown c.grow_part.new.grown c.go_past.new.progress.grown c.go_past.ensures.grown c.args.found.now.place.kind c.args.found.now.payload c.in_ok-head.ensures.added in
    let names = names_to kept c.args.progress.now.grown c.grow_part.new.grown c.go_past.new.progress.grown c.go_past.ensures.grown c.grow_part.ensures.names in
    let named = g.met.B.KeepsTexts.named c.grow_part.new.grown.names in
    let looks = looked_by _ _ (kept c.grow_part.new.grown.names) (kept c.go_past.new.progress.grown.names) c.args.progress.now.sieve c.look.new.self c.go_past.new.progress.sieve named.0 named.1
    (kept_to kept c.args.progress.now.grown c.grow_part.new.grown c.go_past.new.progress.grown c.go_past.ensures.grown) c.go_past.ensures.sieve c.in_ok-look.ensures.knows in
    on_err c.from_residual-in_err-print_part.result _ (inr (record {
      past = record { pattern = past.pattern; first = past.first; handled = past.handled; at = past.at };
      begun = part_begun c.args.found.now old new (kept c.go_past.new.progress.grown.names) c.in_ok-head.head c.in_ok-head.columns.rows c.requires.kind c.in_ok-head.ensures.part grows names looks
          (g.K.Sink.written c.args.out.now) (g.K.Sink.written c.print_part.new.out) (record { pattern = past.pattern; first = past.first; handled = past.handled; at = past.at }) c.in_err-print_part.ensures.front;
    }))

pub returns-then-not-branch-clause-stopped : goal.returns-then-not-branch-clause-stopped
returns-then-not-branch-clause-stopped g c =
    let kept = g.B.KeepsTexts.kept in
    let old = reached_of kept c.args.progress.now in
    let new = reached_of kept c.go_past.new.progress in
    let past = c.go_past.ensures.past in
    let grows = grows_to kept c.args.progress.now.grown c.grow_part.new.grown c.go_past.new.progress.grown c.go_past.ensures.grown c.args.found.now.place.kind c.args.found.now.payload c.in_ok-head.ensures.added in
    let names = names_to kept c.args.progress.now.grown c.grow_part.new.grown c.go_past.new.progress.grown c.go_past.ensures.grown c.grow_part.ensures.names in
    let named = g.met.B.KeepsTexts.named c.grow_part.new.grown.names in
    let looks = looked_by _ _ (kept c.grow_part.new.grown.names) (kept c.go_past.new.progress.grown.names) c.args.progress.now.sieve c.look.new.self c.go_past.new.progress.sieve named.0 named.1
    (kept_to kept c.args.progress.now.grown c.grow_part.new.grown c.go_past.new.progress.grown c.go_past.ensures.grown) c.go_past.ensures.sieve c.in_ok-look.ensures.knows in
    let none = part_none c.args.found.now old new (kept c.go_past.new.progress.grown.names) c.in_ok-head.head c.in_ok-head.columns.rows c.requires.kind c.in_ok-head.ensures.part grows names looks
    (c.in_ok-print_part.ensures.misfit (search rules)) in
    inr (record {
      past = record { pattern = past.pattern; first = past.first; handled = past.handled; at = past.at };
      begun = λ h es e held m. absurd (none h es e held m);
    })

pub returns-then-not-branch-clause-damaged : goal.returns-then-not-branch-clause-damaged
returns-then-not-branch-clause-damaged g c = λ at is.
    let kept = g.B.KeepsTexts.kept in
    let old = reached_of kept c.args.progress.now in
    let new = reached_of kept c.go_past.new.progress in
    let grows = grows_to kept c.args.progress.now.grown c.grow_part.new.grown c.go_past.new.progress.grown c.go_past.ensures.grown c.args.found.now.place.kind c.args.found.now.payload c.in_ok-head.ensures.added in
    let names = names_to kept c.args.progress.now.grown c.grow_part.new.grown c.go_past.new.progress.grown c.go_past.ensures.grown c.grow_part.ensures.names in
    let named = g.met.B.KeepsTexts.named c.grow_part.new.grown.names in
    let looks = looked_by _ _ (kept c.grow_part.new.grown.names) (kept c.go_past.new.progress.grown.names) c.args.progress.now.sieve c.look.new.self c.go_past.new.progress.sieve named.0 named.1
    (kept_to kept c.args.progress.now.grown c.grow_part.new.grown c.go_past.new.progress.grown c.go_past.ensures.grown) c.go_past.ensures.sieve c.in_ok-look.ensures.knows in
    part_none c.args.found.now old new (kept c.go_past.new.progress.grown.names) c.in_ok-head.head c.in_ok-head.columns.rows c.requires.kind c.in_ok-head.ensures.part grows names looks
    (c.in_ok-print_part.ensures.misfit (search rules))

pub returns-clause-handled : goal.returns-clause-handled
returns-clause-handled g c =
    let kept = g.B.KeepsTexts.kept in
    let old = reached_of kept c.args.progress.now in
    let new = reached_of kept c.go_past.new.progress in
    let past = c.go_past.ensures.past in
    let grows = grows_to kept c.args.progress.now.grown c.grow_part.new.grown c.go_past.new.progress.grown c.go_past.ensures.grown c.args.found.now.place.kind c.args.found.now.payload c.in_ok-head.ensures.added in
    let names = names_to kept c.args.progress.now.grown c.grow_part.new.grown c.go_past.new.progress.grown c.go_past.ensures.grown c.grow_part.ensures.names in
    let named = g.met.B.KeepsTexts.named c.grow_part.new.grown.names in
    let looks = looked_by _ _ (kept c.grow_part.new.grown.names) (kept c.go_past.new.progress.grown.names) c.args.progress.now.sieve c.look.new.self c.go_past.new.progress.sieve named.0 named.1
    (kept_to kept c.args.progress.now.grown c.grow_part.new.grown c.go_past.new.progress.grown c.go_past.ensures.grown) c.go_past.ensures.sieve c.in_ok-look.ensures.knows in
    part_handled c.args.found.now old new (kept c.go_past.new.progress.grown.names) c.in_ok-head.head c.in_ok-head.columns.rows c.requires.kind c.in_ok-head.ensures.part grows names looks
    (g.K.Sink.written c.args.out.now) (g.K.Sink.written c.print_part.new.out) (record { pattern = past.pattern; first = past.first; handled = past.handled; at = past.at }) (c.in_ok-print_part.ensures.done (search rules))
