use Rattle.std.proofs.Common.{ap, subst, sym}
use Rattle.std.specs.Prelude.{IfErr, IfOk, IfSome}
use Rattle.message_reader.specs.Reading.{ReadMessage, RefusedToRead}
use Rattle.message_reader.specs.StepsReading.{HasArchiveLimits}
use Rattle.message_reader.specs.declared.reader.Cuts.TheVariants.{Lines, Groups}
use Rattle.message_reader.proofs.AnswerLemmas.{carry, groups_give, groups_refuse, lines_give, lines_refuse}
use Rattle.message_reader.proofs.reader.MessageReader.advance.Goals.{in-Lines, in-Groups}
use Rattle.message_reader.proofs.reader.MessageReader.advance.Goals as goal

pub returns-clause-message : goal.returns-clause-message
returns-clause-message g c = elim c.match-self.branch [
  | in-Lines w ↦
      let old = w.in-Lines.cutter in let new = w.advance.new.self in let limits = subst HasArchiveLimits w.in-Lines.is c.self.invariant in
      carry (λ s n r. IfOk r (λ o. IfSome o (λ m. ReadMessage g.S.Source.left m.ended s n))) c.args.self.now c.self.inside.cuts (Lines old) c.match-self.self-inside.cuts (Lines new) c.match-self.result w.advance.result
      (sym c.self.view_is) w.in-Lines.is (ap (λ i. i.cuts) w.self-inside-is) w.result-is (lines_give g.S.Source.left old new w.advance.result limits w.advance.ensures.line)
  | in-Groups w ↦
      let old = w.in-Groups.joiner in let new = w.advance-in-Groups.new.self in let limits = subst HasArchiveLimits w.in-Groups.is c.self.invariant in
      carry (λ s n r. IfOk r (λ o. IfSome o (λ m. ReadMessage g.S.Source.left m.ended s n))) c.args.self.now c.self.inside.cuts (Groups old) c.match-self.self-inside.cuts (Groups new) c.match-self.result w.advance-in-Groups.result
      (sym c.self.view_is) w.in-Groups.is (ap (λ i. i.cuts) w.self-inside-is) w.result-is (groups_give g.S.Source.left old new w.advance-in-Groups.result limits w.advance-in-Groups.ensures.message)
]

pub returns-clause-refused : goal.returns-clause-refused
returns-clause-refused g c = elim c.match-self.branch [
  | in-Lines w ↦
      let old = w.in-Lines.cutter in let new = w.advance.new.self in let limits = subst HasArchiveLimits w.in-Lines.is c.self.invariant in
      carry (λ s n r. IfErr r (RefusedToRead g.S.Source.left g.S.Source.faults s n)) c.args.self.now c.self.inside.cuts (Lines old) c.match-self.self-inside.cuts (Lines new) c.match-self.result w.advance.result
      (sym c.self.view_is) w.in-Lines.is (ap (λ i. i.cuts) w.self-inside-is) w.result-is (lines_refuse g.S.Source.left g.S.Source.faults old new w.advance.result limits w.advance.ensures.memory w.advance.ensures.refused)
  | in-Groups w ↦
      let old = w.in-Groups.joiner in let new = w.advance-in-Groups.new.self in let limits = subst HasArchiveLimits w.in-Groups.is c.self.invariant in
      carry (λ s n r. IfErr r (RefusedToRead g.S.Source.left g.S.Source.faults s n)) c.args.self.now c.self.inside.cuts (Groups old) c.match-self.self-inside.cuts (Groups new) c.match-self.result w.advance-in-Groups.result
      (sym c.self.view_is) w.in-Groups.is (ap (λ i. i.cuts) w.self-inside-is) w.result-is (groups_refuse g.S.Source.left g.S.Source.faults old new w.advance-in-Groups.result limits w.advance-in-Groups.ensures.memory w.advance-in-Groups.ensures.refused)
]
