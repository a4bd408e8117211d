use Rattle.std.proofs.Common.{◌∙◌, ap, drop}
use Rattle.line_cut.proofs.WindowLemmas.{held-skip}
use Rattle.line_cut.proofs.window.Window.consume.Goals as goal

pub returns-clause-held : goal.returns-clause-held
returns-clause-held c =
    held-skip c.self.inside.buffer.items c.self.inside.start c.self.inside.end c.args.count
    ∙ ap (λ s. drop c.args.count s.held) c.self.view_is
