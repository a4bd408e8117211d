use Rattle.std.proofs.Common.{◌∙◌, ◌≡◌, ◌≤◌, ◌-◌, ap, arith, take, drop}
use Rattle.line_cut.proofs.WindowLemmas.{left-fill}
use Rattle.line_cut.proofs.window.Window.fill_buf.Goals as goal
use Rattle.line_cut.proofs.window.Window.fill_buf.Goals.{then-self-gt0, else-self-gt0}

pub returns-clause-left : goal.returns-clause-left
returns-clause-left g c =
    let inside = c.if-self-gt0.self-inside in
    let held : take (inside.end - inside.start) (drop inside.start inside.buffer.items) ≡ c.args.self.now.held =
    elim c.if-self-gt0.branch [
      | then-self-gt0 w ↦
          ap (λ s. take (s.end - s.start) (drop s.start s.buffer.items)) w.self-inside-is
          ∙ (ap (λ n. take n w.move_to_front.new.buffer.items) (omega arith)
          ∙ (w.move_to_front.ensures.front ∙ ap (λ s. s.held) c.self.view_is))
      | else-self-gt0 w ↦
          ap (λ s. take (s.end - s.start) (drop s.start s.buffer.items)) w.self-inside-is ∙ ap (λ s. s.held) c.self.view_is
    ] in
    let order : inside.start ≤ inside.end =
    elim c.if-self-gt0.branch [
      | then-self-gt0 w ↦ let e = ap (λ s. s.start) w.self-inside-is in omega (arith, e)
      | else-self-gt0 w ↦
          let e = ap (λ s. s.start) w.self-inside-is in
          let f = ap (λ s. s.end) w.self-inside-is in omega (arith, e, f, c.self.invariant.0)
    ] in
    left-fill inside.buffer.items c.read_behind.new.buffer.items c.args.self.now.held inside.start inside.end
    c.in_ok-count.count (g.S.Source.left c.args.source.now) (g.S.Source.left c.read_behind.new.source)
    order c.read_behind.ensures.front held c.in_ok-count.ensures.taken
