use Rattle.std.proofs.Common.{◌∙◌, ℕ, List, [], arith, get_or, refl}
use Rattle.std.proofs.lemmas.List.{get_or_default}
use Rattle.std.specs.Borrow.{Bor}
use Rattle.log_sources.specs.Sources.{str_bytes}
use Rattle.log_sources.proofs.OpenLemmas.{opened_next}
use Rattle.log_sources.proofs.logs.open_logs.Goals as goal

pub loop-name-preserved : goal.loop-name-preserved
loop-name-preserved g c =
    let before = c.loop-name.invariant in
    let one = c.open_one-source.ensures in
    let none : Bor (List ℕ) = record { ref_ptr = (0, 0); now = [] } in
    let name = get_or c.args.names.now c.loop-name.name-index none in
    record {
      room = c.push_reserved.ensures.capacity ∙ before.room;
      count = omega (arith, c.push_reserved.ensures.len, before.count);
      content = λ n. one.content n ∙ before.content n;
      unread = λ n. one.unread n ∙ before.unread n;
      reads = λ n. one.reads n ∙ before.reads n;
      opens = λ n. omega (arith, before.opens n, one.opens n);
      came = opened_next _ _ _ str_bytes _ _ _ _ _ c.args.names.now c.loop-name.name-index name name.now c.loop-name.sources.items _ c.open_one-source.result
          c.loop-name-test.true (get_or_default c.args.names.now c.loop-name.name-index none name c.loop-name-test.true) refl c.push_reserved.ensures.items before.content before.opens one.opens before.came one.came;
    }
