use Rattle.std.proofs.Common.{◌≡◌, ◌+◌, ℕ, List, arith, ap, rules, subst, sym}
use Rattle.wild_match.specs.Runs.{Occurs}
use Rattle.subquery_filter.specs.Found.{HaveNumbers}
use Rattle.subquery_filter.proofs.MarkLemmas.{NumbersBefore, numbers_end, numbers_step}
use Rattle.subquery_filter.proofs.needles.numbers_with.Goals as goal
use Rattle.subquery_filter.proofs.needles.numbers_with.Goals.{in-Some-word_text+in_ok-add_number-2, in_default-word_text}

pub loop-number-init : goal.loop-number-init
loop-number-init g c = λ n text lt at. absurd (omega (arith, lt))

pub returns : goal.returns
returns g c =
    let words = g.N.Names.words c.args.names.now in
    let needle = c.args.needle.now in
    let l = c.loop-number in
    elim c.match-word_text-2.branch [
      | in-Some-word_text+in_ok-add_number-2 w ↦
          let new = w.add_number-in-Some-word_text.new.numbers.items in
          let told = w.in_ok-add_number-2.ensures in
          let end : l.number ≡ 4294967295 = search rules in
          let same : c.new-finder.result ≡ needle = search rules in
          subst (λ (v : List ℕ). HaveNumbers needle words v) (sym (ap (λ v. v.items) w.numbers-is))
          (numbers_end needle words (4294967295 + 1) new (search rules)
          (numbers_step needle words 4294967295 l.numbers.items new w.in-Some-word_text.text.now (search rules)
          (λ occurs. told.here (subst (λ (t : List ℕ). Occurs w.in-Some-word_text.text.now t) (sym same) occurs)) told.stays
          (subst (λ n. NumbersBefore needle words n l.numbers.items) end l.invariant)))
      | in_default-word_text w ↦
          subst (λ (v : List ℕ). HaveNumbers needle words v) (sym (ap (λ v. v.items) w.numbers-is)) (numbers_end needle words l.number l.numbers.items (search rules) l.invariant)
    ]
