use Rattle.std.proofs.Common.{refl, rules, inl}
use Rattle.std.proofs.lemmas.Result.{err_from_is_err_and}
use Rattle.live_search.proofs.AnswerLemmas.{on_err}
use Rattle.live_search.specs.Handled.{reached_of}
use Rattle.live_search.proofs.HandleLemmas.{listed_handled, meets_none}
use Rattle.live_search.proofs.progress.handle_listed.Goals as goal

pub returns-in_err-grow_listed-clause-stopped : goal.returns-in_err-grow_listed-clause-stopped
returns-in_err-grow_listed-clause-stopped g c = λ out. on_err c.from_residual.result _ (inl (record { stays = record { pattern = refl; first = refl; handled = refl }; nothing = refl }))

pub returns-in_err-grow_listed-clause-damaged : goal.returns-in_err-grow_listed-clause-damaged
returns-in_err-grow_listed-clause-damaged g c = λ at is.
    let p = err_from_is_err_and c.from_residual.result c.from_residual.ensures.1 in
    meets_none c.args.found.now (reached_of g.B.KeepsTexts.kept c.args.progress.now) (c.in_err-grow_listed.ensures.damaged at (search (rules, is, p.1, p.2)))

pub returns-clause-handled : goal.returns-clause-handled
returns-clause-handled g c = λ out.
    let past = c.go_past.ensures.past in
    listed_handled c.args.found.now (reached_of g.B.KeepsTexts.kept c.args.progress.now) (reached_of g.B.KeepsTexts.kept c.go_past.new.progress) out c.requires.kind
    (record { pattern = past.pattern; first = past.first; handled = past.handled; at = past.at }) (search (rules, c.in_ok-grow_listed.ensures.added, c.go_past.ensures.grown)) c.go_past.ensures.sieve
