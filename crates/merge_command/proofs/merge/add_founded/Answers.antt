use Rattle.std.proofs.Common.{ap, subst, ◌∙◌}
use Rattle.std.specs.Prelude.{IfErr, IfOk}
use Rattle.command_answers.specs.Known.{told_if}
use Rattle.command_answers.specs.Merging.{Merges}
use Rattle.merge_command.specs.Came.{merge_of, refused_by}
use Rattle.file_outcomes.specs.Naming.{IsHeldBy}
use Rattle.file_outcomes.specs.declared.founded.Founded.{Founded}
use Rattle.file_outcomes.proofs.LentLemmas.{of_parts}
use Rattle.merge_command.proofs.merge.add_founded.Goals as goal

pub add_second-answer-requires : goal.add_second-answer-requires
add_second-answer-requires g c = record {
  held = λ name.
      of_parts (λ j. IsHeldBy j c.args.holding.types c.args.holding.words c.args.holding.files) g.L.Lent.tells name
      c.args.journal c.part_journal-founded.result.founded.disk.now c.part_journal-founded.result.end c.part_journal-founded.ensures.parts (c.requires.held name);
}

pub returns-clause-came : goal.returns-clause-came
returns-clause-came g c =
    let tells = g.L.Lent.tells in
    let last = told_if tells (g.D.Disk.state c.add_second-answer.new.disk.disk.now) in
    subst (λ d. IfOk c.add_second-answer.result (λ came. Merges (merge_of came) came.first (told_if tells (g.D.Disk.state d)) last (g.E.Disk.state c.args.second.now) (g.E.Disk.state c.add_second-answer.new.second)))
    c.part_journal-founded.ensures.parts.same c.add_second-answer.ensures.came

pub returns-clause-refused : goal.returns-clause-refused
returns-clause-refused g c =
    let tells = g.L.Lent.tells in
    let last = told_if tells (g.D.Disk.state c.add_second-answer.new.disk.disk.now) in
    subst (λ d. IfErr c.add_second-answer.result (λ refusal. Merges (refused_by refusal) 0 (told_if tells (g.D.Disk.state d)) last (g.E.Disk.state c.args.second.now) (g.E.Disk.state c.add_second-answer.new.second)))
    c.part_journal-founded.ensures.parts.same c.add_second-answer.ensures.refused

pub returns-clause-behind : goal.returns-clause-behind
returns-clause-behind g c =
    let behind = c.add_second-answer.ensures.behind in
    record { undamaged = behind.undamaged; alone = λ such none. ap (λ (f : Founded _ _ _ _). f.disk.now) (behind.alone such none) ∙ c.part_journal-founded.ensures.parts.same }
