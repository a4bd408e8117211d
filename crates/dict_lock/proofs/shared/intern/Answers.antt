use Rattle.std.proofs.Common.{rules, sym, ◌∙◌, ◌≡◌, ℕ, Some}
use Rattle.turn_lock.specs.declared.board.About.{About}
use Rattle.turn_lock.specs.Words.{seen, own_list, about}
use Rattle.dict_lock.proofs.SharedLemmas.{answer_goes_on, answer_named, answer_own, answer_refused, answer_full, full_answer, some_about}
use Rattle.dict_lock.proofs.shared.intern.Goals as goal

pub returns-clause-pass : goal.returns-clause-pass
returns-clause-pass g c = let r = c.intern-answer.ensures in record {
  still = search rules;
  ready = search rules;
  seen_on = answer_goes_on c.take-turn.result.value c.intern-answer.new.self c.args.text.now (seen c.take-turn.new.self) (seen c.put.new.pass) (own_list c.take-turn.new.self) (own_list c.put.new.pass)
      c.take-turn.ensures.entries c.put.ensures.seen c.put.ensures.own (seen c.args.pass.now) c.take-turn.ensures.seen c.intern-answer.result r.ok r.err;
}

pub returns-clause-named : goal.returns-clause-named
returns-clause-named g c = answer_named c.take-turn.result.value c.intern-answer.new.self c.args.text.now (seen c.take-turn.new.self) (seen c.put.new.pass) (own_list c.take-turn.new.self) (own_list c.put.new.pass)
    c.take-turn.ensures.entries c.put.ensures.seen c.put.ensures.own c.intern-answer.result c.intern-answer.ensures.ok

pub returns-clause-own : goal.returns-clause-own
returns-clause-own g c = rw (sym c.take-turn.ensures.own) (answer_own c.take-turn.result.value c.intern-answer.new.self c.args.text.now (seen c.take-turn.new.self) (seen c.put.new.pass) (own_list c.take-turn.new.self) (own_list c.put.new.pass)
    c.take-turn.ensures.entries c.put.ensures.seen c.put.ensures.own c.intern-answer.result c.intern-answer.ensures.ok)

pub returns-clause-refused : goal.returns-clause-refused
returns-clause-refused g c = rw (sym c.take-turn.ensures.own) (answer_refused c.take-turn.result.value c.intern-answer.new.self c.args.text.now (seen c.take-turn.new.self) (seen c.put.new.pass) (own_list c.take-turn.new.self) (own_list c.put.new.pass)
    c.take-turn.ensures.entries c.put.ensures.seen c.put.ensures.own c.intern-answer.result c.intern-answer.ensures.err)

pub returns-clause-full : goal.returns-clause-full
returns-clause-full g c = λ count.
    let p = c.args.pass.now in let q = c.put.new.pass in let r = c.intern-answer.ensures in
    let limit : (a : About ℕ) → about p ≡ Some a → c.take-turn.result.value.limit ≡ a.fixed = c.take-turn.ensures.fixed in
    let about_is : about q ≡ about p = c.put.ensures.still.about_is ∙ c.take-turn.ensures.still.about_is in (
      (λ is. let f = answer_full c.take-turn.result.value c.intern-answer.new.self c.args.text.now (seen c.take-turn.new.self) (seen q) (own_list c.take-turn.new.self) (own_list q)
          c.take-turn.ensures.entries c.put.ensures.seen c.put.ensures.own c.intern-answer.result count r.err r.full is in
          (f.0, record { all = f.1; limit = λ a knows. f.2 ∙ limit a (sym about_is ∙ knows) })),
      (λ all. let a = some_about (about p) p.known in
          full_answer c.take-turn.result.value c.intern-answer.new.self c.args.text.now (seen c.take-turn.new.self) (seen q) (own_list c.take-turn.new.self) (own_list q)
          c.take-turn.ensures.entries c.put.ensures.seen c.put.ensures.own c.intern-answer.result count r.ok r.err r.at_limit all.0 all.1.all (all.1.limit a.0 (about_is ∙ a.1) ∙ sym (limit a.0 a.1))),
    )
