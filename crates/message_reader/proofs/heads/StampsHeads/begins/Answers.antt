use Rattle.std.proofs.Common.{arith, sym, subst}
use Rattle.std.specs.Prelude.{◌↔◌, IsTrue, if◌then◌else◌}
use Rattle.message_reader.specs.Versions.{IsHead}
use Rattle.message_reader.proofs.HeadLemmas.{read_tells}
use Rattle.message_reader.proofs.heads.StampsHeads.begins.Goals as goal

pub returns-then-self : goal.returns-then-self
returns-then-self c =
    subst (λ micro. IsTrue c.is_some.result ↔ IsHead (if micro then 3 else 2) c.args.line.now) (sym c.if-self.true)
    (read_tells 3 3 c.args.line.now c.read_micro.result c.is_some.result (omega arith) (λ h. h, λ h. h) c.is_some.ensures c.read_micro.ensures.some c.read_micro.ensures.none)

pub returns-else-self : goal.returns-else-self
returns-else-self c =
    subst (λ micro. IsTrue c.is_some-else-self.result ↔ IsHead (if micro then 3 else 2) c.args.line.now) (sym c.if-self.false)
    (read_tells 2 1 c.args.line.now c.read_stamp.result c.is_some-else-self.result (omega arith) (λ h. omega arith, λ h. omega arith) c.is_some-else-self.ensures c.read_stamp.ensures.some c.read_stamp.ensures.none)
