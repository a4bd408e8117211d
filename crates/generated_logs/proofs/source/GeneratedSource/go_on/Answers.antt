use Rattle.std.proofs.Common.{ap, arith, length}
use Rattle.std.proofs.lemmas.List.{length-drop}
use Rattle.generated_logs.proofs.SourceLemmas.{next_line}
use Rattle.generated_logs.proofs.source.GeneratedSource.go_on.Goals as goal

pub returns-then-self-as_slice-clause-some : goal.returns-then-self-as_slice-clause-some
returns-then-self-as_slice-clause-some c =
    rw (← c.self.view_is) (λ none. absurd (omega (arith, c.if-self-as_slice.true, ap length c.as_slice.ensures, ap length none, length-drop c.self.inside.at c.self.inside.line)))

pub returns-clause-left : goal.returns-clause-left
returns-clause-left c =
    rw (← c.self.view_is) (next_line c.self.inside.number c.self.inside.log c.self.inside.next c.self.inside.rest c.self.inside.at c.self.inside.line c.line_of-self-inside.result (omega (arith, c.if-self-as_slice.false, ap length c.as_slice.ensures)) (omega (arith, c.if-self-eq0.false)) c.line_of-self-inside.ensures)
