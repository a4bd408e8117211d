use Rattle.std.proofs.Common.{◌≡◌, ◌≤◌, ◌+◌, ◌∙◌, sym, ap, subst, arith, length, take, drop, Ok, Err, OnErr}
use Rattle.std.specs.Prelude.{slice_range}
use Rattle.std.proofs.lemmas.List.{length-drop, take-take}
use Rattle.log_messages.specs.Messages.{IsLine}
use Rattle.line_cut.proofs.FindingLemmas.{ahead_is, front, front_ahead, newline_at, no_newline, same_held, shorter}
use Rattle.line_cut.proofs.find_end.find_end.Goals as goal

pub returns-then-len-max_line-clause-found : goal.returns-then-len-max_line-clause-found
returns-then-len-max_line-clause-found g c =
    let held = c.reads.window.held in let hay = c.held.result.now in let from = c.args.from in
    let n = newline_at (slice_range hay from (length hay)) (drop from held) c.reads.searched c.in-Some.more (ahead_is hay held from c.held.ensures) c.reads.invariant.searched c.in-Some.ensures in
    (c.if-len-max_line.true, n.line, n.newline)

pub returns-else-len-max_line-clause-found : goal.returns-else-len-max_line-clause-found
returns-else-len-max_line-clause-found g c =
    let held = c.reads.window.held in let hay = c.held.result.now in let from = c.args.from in
    let n = newline_at (slice_range hay from (length hay)) (drop from held) c.reads.searched c.in-Some.more (ahead_is hay held from c.held.ensures) c.reads.invariant.searched c.in-Some.ensures in
    (omega (arith, n.within, c.if-len-max_line.false), shorter (drop from held) (c.reads.searched + c.in-Some.more) (c.args.max_line + 1) (omega (arith, c.if-len-max_line.false)) n.line)

pub returns-then-searched-max_line-clause-found : goal.returns-then-searched-max_line-clause-found
returns-then-searched-max_line-clause-found g c =
    let held = c.reads.window.held in let hay = c.held.result.now in let from = c.args.from in
    let ahead = ahead_is hay held from c.held.ensures in
    let within : c.reads.searched ≤ length (drop from held) = omega (arith, length-drop from held, c.reads.invariant.within) in
    let line = no_newline (slice_range hay from (length hay)) (drop from held) c.reads.searched ahead within c.reads.invariant.searched c.in_default.ensures in
    (omega (arith, c.if-searched-max_line.true, ap length ahead), front (drop from held) (c.args.max_line + 1) line)

pub returns-in_err-fill_buf-clause-open : goal.returns-in_err-fill_buf-clause-open
returns-in_err-fill_buf-clause-open g c =
    let held = c.reads.window.held in let hay = c.held.result.now in let from = c.args.from in
    let within : c.reads.searched ≤ length (drop from held) = omega (arith, length-drop from held, c.reads.invariant.within) in
    let line = no_newline (slice_range hay from (length hay)) (drop from held) c.reads.searched (ahead_is hay held from c.held.ensures) within c.reads.invariant.searched c.in_default.ensures in
    let still : IsLine (drop from c.fill_buf.new.self.held) = subst (λ h. IsLine (drop from h)) (sym c.in_err-fill_buf.ensures.untaken) line in
    elim c.from_residual.result as (λ r. OnErr r (IsLine (drop from c.fill_buf.new.self.held))) [ Ok x ↦ tt | Err e ↦ still ]

pub returns-then-branch-eq0-clause-found : goal.returns-then-branch-eq0-clause-found
returns-then-branch-eq0-clause-found g c =
    let held = c.reads.window.held in let hay = c.held.result.now in let from = c.args.from in
    let ahead = ahead_is hay held from c.held.ensures in
    let within : c.reads.searched ≤ length (drop from held) = omega (arith, length-drop from held, c.reads.invariant.within) in
    let line = no_newline (slice_range hay from (length hay)) (drop from held) c.reads.searched ahead within c.reads.invariant.searched c.in_default.ensures in
    let same = same_held held c.fill_buf.new.self.held c.in_ok-fill_buf.field-0 c.in_ok-fill_buf.ensures.grown c.if-branch-eq0.true c.in_ok-fill_buf.ensures.front in
    let short : length (drop from c.fill_buf.new.self.held) ≤ c.args.max_line = omega (arith, ap (λ h. length (drop from h)) same, ap length ahead, c.if-searched-max_line.false) in
    (short, subst (λ h. IsLine (drop from h)) (sym same) line, c.in_ok-fill_buf.ensures.at_end c.if-branch-eq0.true)

pub reads-preserved : goal.reads-preserved
reads-preserved g c =
    let held = c.reads.window.held in let hay = c.held.result.now in let from = c.args.from in
    let new = c.fill_buf.new.self.held in let start = c.args.window.now.held in
    let ahead = ahead_is hay held from c.held.ensures in
    let size = ap length ahead in
    let within : c.reads.searched ≤ length (drop from held) = omega (arith, length-drop from held, c.reads.invariant.within) in
    let inside : from ≤ length held = omega (arith, c.requires.within, c.reads.invariant.more) in
    let line = no_newline (slice_range hay from (length hay)) (drop from held) c.reads.searched ahead within c.reads.invariant.searched c.in_default.ensures in
    let first : take (length (slice_range hay from (length hay))) (drop from new) ≡ drop from held =
    ap (λ n. take n (drop from new)) size ∙ front_ahead held new from inside c.in_ok-fill_buf.ensures.front in
    let front_is : take (length start) new ≡ start =
    sym (take-take (length start) (length held) new c.reads.invariant.more) ∙ (ap (take (length start)) c.in_ok-fill_buf.ensures.front ∙ c.reads.invariant.front) in
    record {
      front = front_is;
      more = omega (arith, c.reads.invariant.more, c.in_ok-fill_buf.ensures.grown);
      within = omega (arith, size, length-drop from held, inside, c.in_ok-fill_buf.ensures.grown);
      searched = subst IsLine (sym first) line;
      short = c.if-searched-max_line.false;
      left = c.in_ok-fill_buf.ensures.left ∙ c.reads.invariant.left;
      size = c.in_ok-fill_buf.ensures.size ∙ c.reads.invariant.size;
      name = c.in_ok-fill_buf.ensures.name ∙ c.reads.invariant.name;
      faults = c.in_ok-fill_buf.ensures.cause.steady ∙ c.reads.invariant.faults;
    }
