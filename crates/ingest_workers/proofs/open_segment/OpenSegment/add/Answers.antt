use Rattle.std.proofs.Common.{rules, ◌≡◌, inl, inr, ◌++◌, ◌∷◌, [], length, arith, refl, sym, ap, ◌∙◌}
use Rattle.std.specs.Prelude.{Err, None, Ok, Result, Some}
use Rattle.std.proofs.lemmas.Result.{err_from_is_err_and}
use Rattle.row_codec.specs.declared.namer.NameRefusal.{NameRefusal}
use Rattle.row_codec.specs.Naming.{refusal_of}
use Rattle.ingest_workers.specs.declared.file_end.FileEnd.{FileEnd}
use Rattle.ingest_workers.specs.FileEnd.{stop_by}
use Rattle.ingest_workers.specs.Turns.{stop_in}
use Rattle.column_store.specs.declared.row.Row.{Row}
use Rattle.row_codec.specs.Encoding.{row_held}
use Rattle.ingest_workers.proofs.OpenSegmentLemmas.{row_short, in_hand_more}
use Rattle.ingest_workers.proofs.open_segment.OpenSegment.add.Goals as goal

pub push-requires-clause-variables : goal.push-requires-clause-variables
push-requires-clause-variables g c =
    omega (
      arith,
      c.requires.room.variables,
      c.requires.short,
      row_short (g.N.Namer.version c.args.namer.now) (row_held c.name.new.self) (g.N.Namer.types c.name.new.namer).texts (g.N.Namer.words c.name.new.namer).texts c.args.line.now c.in_ok-name.ensures.row,
      ap (λ (r : Row). length r.words) c.row.ensures,
    )

-- ---- what came of the open segment

pub returns-clause-added : goal.returns-clause-added
returns-clause-added g c = record {
  marks = search rules;
  taken = λ messages has.
      in_hand_more (g.N.Namer.version c.args.namer.now) (g.N.Namer.types c.args.namer.now).texts (g.N.Namer.words c.args.namer.now).texts (g.N.Namer.types c.name.new.namer).texts (g.N.Namer.words c.name.new.namer).texts messages c.args.line.now
      (row_held c.name.new.self) c.name.new.self.used.items _ _ c.name.ensures.types.front c.name.ensures.words.front c.in_ok-name.ensures.row c.in_ok-name.ensures.used
      (c.in_ok-push.ensures.rows ∙ ap (λ r. c.args.self.now.draft.columns.rows ++ r ∷ []) c.row.ensures) c.in_ok-push.ensures.bytes
      (c.in_ok-extend_from_slice.ensures.items ∙ ap (λ l. c.args.self.now.used.items ++ l) c.used.ensures) has;
  pushed = search rules;
  kept = search rules;
  causes = search rules;
  full = search rules;
}

pub returns-in_err-read-clause-added : goal.returns-in_err-read-clause-added
returns-in_err-read-clause-added g c = record {
  marks = search rules;
  taken = search rules;
  pushed = search rules;
  kept = search rules;
  causes = search rules;
  full = search rules;
}

pub returns-in_err-name-clause-added : goal.returns-in_err-name-clause-added
returns-in_err-name-clause-added g c = record {
  marks = search rules;
  taken = search rules;
  pushed = search rules;
  kept = search rules;
  causes = search rules;
  full = search rules;
}

pub returns-in_err-extend_from_slice-clause-added : goal.returns-in_err-extend_from_slice-clause-added
returns-in_err-extend_from_slice-clause-added g c = record {
  marks = search rules;
  taken = search rules;
  pushed = search rules;
  kept = search rules;
  causes = search rules;
  full = search rules;
}

pub returns-in_err-push-clause-added : goal.returns-in_err-push-clause-added
returns-in_err-push-clause-added g c = record {
  marks = search rules;
  taken = search rules;
  pushed = search rules;
  kept = search rules;
  causes = search rules;
  full = search rules;
}

-- ---- what was asked

pub returns-in_err-read-clause-asked : goal.returns-in_err-read-clause-asked
returns-in_err-read-clause-asked g c = inl refl

pub returns-in_err-name-clause-asked : goal.returns-in_err-name-clause-asked
returns-in_err-name-clause-asked g c =
    let p = err_from_is_err_and c.from_residual-in_err-name.result c.from_residual-in_err-name.ensures.1 in
    let was : c.name.result ≡ Err c.in_err-name.field-0.0 = c.in_err-name.was in
    let answer : c.from_residual-in_err-name.result ≡ Err (stop_by c.in_err-name.field-0.0) = cc (p.1, p.2) in inr (record {
      refusal = refusal_of c.name.result;
      asked = c.name.ensures.asked;
      told = λ r is.
          let given : Some c.in_err-name.field-0.0 ≡ Some r = sym (ap (λ (x : Result (Unit {0}) NameRefusal). refusal_of x) was) ∙ is in
          let same : c.in_err-name.field-0.0 ≡ r = cc (given) in
          ap (λ (x : Result (Unit {0}) FileEnd). stop_in x) answer ∙ ap (λ (x : NameRefusal). Some (stop_by x)) same;
    })

pub returns-in_err-extend_from_slice-clause-asked : goal.returns-in_err-extend_from_slice-clause-asked
returns-in_err-extend_from_slice-clause-asked g c =
    let named : c.name.result ≡ Ok c.in_ok-name.field-0 = c.in_ok-name.was in inr (record {
      refusal = refusal_of c.name.result;
      asked = c.name.ensures.asked;
      told = λ r is. let none : None ≡ Some r = sym (ap (λ (x : Result (Unit {0}) NameRefusal). refusal_of x) named) ∙ is in absurd (cc (none));
    })

pub returns-in_err-push-clause-asked : goal.returns-in_err-push-clause-asked
returns-in_err-push-clause-asked g c =
    let named : c.name.result ≡ Ok c.in_ok-name.field-0 = c.in_ok-name.was in inr (record {
      refusal = refusal_of c.name.result;
      asked = c.name.ensures.asked;
      told = λ r is. let none : None ≡ Some r = sym (ap (λ (x : Result (Unit {0}) NameRefusal). refusal_of x) named) ∙ is in absurd (cc (none));
    })

pub returns-clause-asked : goal.returns-clause-asked
returns-clause-asked g c =
    let named : c.name.result ≡ Ok c.in_ok-name.field-0 = c.in_ok-name.was in inr (record {
      refusal = refusal_of c.name.result;
      asked = c.name.ensures.asked;
      told = λ r is. let none : None ≡ Some r = sym (ap (λ (x : Result (Unit {0}) NameRefusal). refusal_of x) named) ∙ is in absurd (cc (none));
    })
