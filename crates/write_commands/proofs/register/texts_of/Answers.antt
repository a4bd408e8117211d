use Rattle.std.proofs.Common.{◌∙◌, ℕ, List, [], arith, get_or}
use Rattle.std.specs.Borrow.{Bor}
use Rattle.std.proofs.lemmas.List.{get_or_default}
use Rattle.log_sources.specs.Sources.{str_bytes}
use Rattle.name_records.proofs.NamedLemmas.{texts_next}
use Rattle.write_commands.proofs.register.texts_of.Goals as goal

pub loop-name-preserved : goal.loop-name-preserved
loop-name-preserved c =
    let before = c.loop-name.invariant in
    let none : Bor (List ℕ) = record { ref_ptr = (0, 0); now = [] } in
    let name = get_or c.args.names.now c.loop-name.name-index none in
    record {
      room = c.push_reserved.ensures.capacity ∙ before.room;
      count = omega (arith, c.push_reserved.ensures.len, before.count);
      these = texts_next str_bytes c.args.names.now c.loop-name.name-index name c.new.result c.loop-name.texts.items _ c.loop-name-test.true (get_or_default c.args.names.now c.loop-name.name-index none name c.loop-name-test.true)
          (c.new.ensures ∙ c.in_ok-bytes.ensures.items ∙ c.as_bytes.ensures.value) before.these c.push_reserved.ensures.items;
    }
