use Rattle.std.proofs.Common.{arith, refl, ◌∙◌, ℕ, List, [], get_or}
use Rattle.std.specs.Borrow.{Bor}
use Rattle.std.proofs.lemmas.List.{get_or_default}
use Rattle.std.proofs.lemmas.List.Elements.{All-push}
use Rattle.log_sources.specs.Sources.{str_bytes}
use Rattle.file_outcomes.specs.Jobs.{IsNotBegun}
use Rattle.file_outcomes.specs.declared.file_report.FileReport.{FileReport}
use Rattle.write_commands.proofs.JobLemmas.{named_next}
use Rattle.write_commands.proofs.ingest.refuse_all.Goals as goal

pub loop-name-preserved : goal.loop-name-preserved
loop-name-preserved c =
    let before = c.loop-name.invariant in
    let none : Bor (List ℕ) = record { ref_ptr = (0, 0); now = [] } in
    let name = get_or c.args.names.now c.loop-name.name-index none in
    record {
      named = named_next str_bytes (λ (file : FileReport). file.name.now) c.args.names.now c.loop-name.taken.items _ c.loop-name.name-index name _ (omega (arith, before.count)) c.loop-name-test.true
          (get_or_default c.args.names.now c.loop-name.name-index none name c.loop-name-test.true) c.as_bytes.ensures.value c.push_reserved.ensures.items before.named;
      count = omega (arith, c.push_reserved.ensures.len, before.count);
      room = c.push_reserved.ensures.capacity ∙ before.room;
      begun = rw c.push_reserved.ensures.items (All-push IsNotBegun c.loop-name.taken.items _ before.begun (record { messages = refl; whole = refl; refusal = refl }));
    }
