use Rattle.std.proofs.Common.{◌∙◌, ℕ, List, drop, refl, rules, subst, sym}
use Rattle.row_codec.specs.Laid.{AreCut}
use Rattle.archive_text.proofs.WritingLemmas.{rows_all, rows_more, rows_none, rows_not}
use Rattle.archive_text.proofs.page.write_page.Goals as goal

pub loop-place-init : goal.loop-place-init
loop-place-init g c = record {
  written = rows_none _ _ (drop c.args.from c.args.columns.now.rows) c.args.lines.now;
  types = subst (λ (cut : List (List ℕ)). AreCut cut (g.N.Names.types c.args.names.now)) (sym c.new-writer.ensures) c.requires.types;
  sent = refl;
  given = refl;
}

pub loop-place-preserved : goal.loop-place-preserved
loop-place-preserved g c =
    let done = c.in_ok-push.ensures.ok (search rules) in
    record {
      written = rows_more _ _ _ c.args.columns.now.rows c.loop-place.place _ c.args.lines.now c.loop-place.lines c.push.new.self done.0 c.row-row.ensures done.1 (sym done.2) (c.in_ok-push.ensures.begun (search rules)) c.loop-place.invariant.written;
      types = subst (λ (cut : List (List ℕ)). AreCut cut (g.N.Names.types c.args.names.now)) (sym (c.in_ok-push.ensures.types ∙ c.look_ahead.ensures)) c.loop-place.invariant.types;
      sent = c.in_ok-push.ensures.sent ∙ c.loop-place.invariant.sent;
      given = c.in_ok-push.ensures.given ∙ c.loop-place.invariant.given;
    }

pub returns-then-len-ge-PIECE-clause-written : goal.returns-then-len-ge-PIECE-clause-written
returns-then-len-ge-PIECE-clause-written g c =
    let done = c.in_ok-push.ensures.ok (search rules) in
    rows_more _ _ _ c.args.columns.now.rows c.loop-place.place _ c.args.lines.now c.loop-place.lines c.push.new.self done.0 c.row-row.ensures done.1 (sym done.2) (c.in_ok-push.ensures.begun (search rules)) c.loop-place.invariant.written

pub returns-then-not-branch-clause-damaged : goal.returns-then-not-branch-clause-damaged
returns-then-not-branch-clause-damaged g c = λ is messages all.
    rows_not _ _ _ c.args.columns.now.rows c.loop-place.place _ c.args.lines.now c.loop-place.lines messages c.row-row.ensures (c.in_ok-push.ensures.misfit (search rules)) c.loop-place.invariant.written all

pub returns-clause-written : goal.returns-clause-written
returns-clause-written g c = rows_all _ _ c.args.columns.now.rows c.loop-place.place _ _ c.args.lines.now c.loop-place.lines (search rules) (search rules) c.loop-place.invariant.written
