use Rattle.std.proofs.Common.{rules, tests, ◌≡◌, ap, true, false, Err}
use Rattle.std.specs.Prelude.{IsErrOf}
use Rattle.message_reader.specs.Reading.{ReadMessage, ReadToEnd}
use Rattle.ingest_workers.proofs.DoingLemmas.{each_err}
use Rattle.ingest_workers.proofs.TakingLemmas.{err_at, none_at, ok_at, room_for_one, some_at, taking_more, took_all, took_last, took_part, took_stop}
use Rattle.std.proofs.Common.{subst}
use Rattle.std.specs.Prelude.{Option, Result}
use Rattle.ingest_workers.specs.declared.file_end.FileEnd.{FileEnd}
use Rattle.ingest_workers.specs.Turns.{LearnBoth, stop_in}
use Rattle.ingest_workers.proofs.TurnsLemmas.{stop_none}
use Rattle.ingest_workers.proofs.messages.add_next.Goals as goal

pub returns-in-Ok-None-clause-ended : goal.returns-in-Ok-None-clause-ended
returns-in-Ok-None-clause-ended g c = λ bytes start begin taken t.
    took_all g.D.Disk.state g.S.Source.left c.args.rows bytes start c.args.keeper.now begin c.args.namer.now c.args.segment.now c.args.reader.now c.advance.new.self taken t g.S.Source.faults
    (ok_at c.advance.result c.in-Ok-None.field-0 (g.S.Source.faults c.advance.new.self.source ≡ g.S.Source.faults c.args.reader.now.source) (search rules) (c.advance.ensures.counts t.going).steady) (none_at c.in-Ok-None.field-0 (ReadToEnd g.S.Source.left c.args.reader.now c.advance.new.self) (search rules) c.in-Ok-None.ensures.at_end)

pub returns-in-Err-clause-stopped : goal.returns-in-Err-clause-stopped
returns-in-Err-clause-stopped g c = λ bytes start begin taken t.
    let is : IsErrOf c.advance.result c.in-Err.cut = search rules in
    took_part g.D.Disk.state g.S.Source.left c.args.rows bytes start c.args.keeper.now begin c.args.namer.now c.args.segment.now c.args.reader.now c.advance.new.self taken t g.S.Source.faults c.advance.result (c.advance.ensures.counts t.going)
    c.in-Err.cut c.cause_of.result c.cause_of.ensures is c.in-Err.ensures.refused

pub add_and_seal-requires-clause-doing : goal.add_and_seal-requires-clause-doing
add_and_seal-requires-clause-doing g c =
    let r = c.requires.taking in
    (r.1, r.3, room_for_one g.D.Disk.state g.S.Source.left c.args.rows r.0 r.1 c.args.keeper.now r.2 c.args.namer.now c.args.segment.now c.args.reader.now c.advance.new.self r.3 r.4 c.in-Ok-Some.mark.ended (some_at c.in-Ok-Some.field-0 c.in-Ok-Some.mark (λ m. ReadMessage g.S.Source.left m.ended c.args.reader.now c.advance.new.self) (search rules) c.in-Ok-Some.ensures.message), r.4.doing)

pub returns-in_err-add_and_seal-clause-stopped : goal.returns-in_err-add_and_seal-clause-stopped
returns-in_err-add_and_seal-clause-stopped g c = λ bytes start begin taken t.
    each_err c.from_residual.result _ (λ y is.
    let there : c.add_and_seal.result ≡ Err y = search rules in
    took_stop g.D.Disk.state g.S.Source.left c.args.rows bytes start c.args.keeper.now begin c.args.namer.now c.args.segment.now c.args.reader.now c.advance.new.self taken t g.S.Source.name g.S.Source.faults c.advance.ensures.stays
    c.message.result.now c.message.ensures c.add_and_seal.new.keeper c.add_and_seal.new.namer c.add_and_seal.new.segment c.add_and_seal.ensures.names c.in-Ok-Some.mark.ended (some_at c.in-Ok-Some.field-0 c.in-Ok-Some.mark (λ m. ReadMessage g.S.Source.left m.ended c.args.reader.now c.advance.new.self) (search rules) c.in-Ok-Some.ensures.message)
    (ok_at c.advance.result c.in-Ok-Some.field-0 (g.S.Source.faults c.advance.new.self.source ≡ g.S.Source.faults c.args.reader.now.source) (search rules) (c.advance.ensures.counts t.going).steady) y
    (subst (λ (s : Option FileEnd). LearnBoth g.D.Disk.state (λ m. m ≡ c.message.result.now) s c.args.keeper.now c.add_and_seal.new.keeper c.args.namer.now c.add_and_seal.new.namer) (ap (λ (r : Result Unit FileEnd). stop_in r) there) c.add_and_seal.ensures.turns)
    (err_at c.add_and_seal.result y _ there (c.add_and_seal.ensures.stopped start taken t.doing)))

pub returns-then-mark-clause-taken : goal.returns-then-mark-clause-taken
returns-then-mark-clause-taken g c = λ bytes start begin taken t.
    let is : c.in-Ok-Some.mark.ended ≡ true = search (rules, tests) in
    taking_more g.D.Disk.state g.S.Source.left c.args.rows bytes start c.args.keeper.now begin c.args.namer.now c.args.segment.now c.args.reader.now c.advance.new.self taken t g.S.Source.name g.S.Source.faults c.advance.ensures.stays
    c.message.result.now c.message.ensures c.add_and_seal.new.keeper c.add_and_seal.new.namer c.add_and_seal.new.segment c.add_and_seal.ensures.names c.in-Ok-Some.mark.ended is (some_at c.in-Ok-Some.field-0 c.in-Ok-Some.mark (λ m. ReadMessage g.S.Source.left m.ended c.args.reader.now c.advance.new.self) (search rules) c.in-Ok-Some.ensures.message)
    (subst (λ (s : Option FileEnd). LearnBoth g.D.Disk.state (λ m. m ≡ c.message.result.now) s c.args.keeper.now c.add_and_seal.new.keeper c.args.namer.now c.add_and_seal.new.namer)
    (stop_none c.add_and_seal.result c.in_ok-add_and_seal.field-0 c.in_ok-add_and_seal.was) c.add_and_seal.ensures.turns)
    (c.in_ok-add_and_seal.ensures.taken start taken t.doing)

pub returns-else-mark-clause-ended : goal.returns-else-mark-clause-ended
returns-else-mark-clause-ended g c = λ bytes start begin taken t.
    let is : c.in-Ok-Some.mark.ended ≡ false = search (rules, tests) in
    took_last g.D.Disk.state g.S.Source.left c.args.rows bytes start c.args.keeper.now begin c.args.namer.now c.args.segment.now c.args.reader.now c.advance.new.self taken t g.S.Source.name g.S.Source.faults c.advance.ensures.stays
    c.message.result.now c.message.ensures c.add_and_seal.new.keeper c.add_and_seal.new.namer c.add_and_seal.new.segment c.add_and_seal.ensures.names c.in-Ok-Some.mark.ended is (some_at c.in-Ok-Some.field-0 c.in-Ok-Some.mark (λ m. ReadMessage g.S.Source.left m.ended c.args.reader.now c.advance.new.self) (search rules) c.in-Ok-Some.ensures.message)
    (ok_at c.advance.result c.in-Ok-Some.field-0 (g.S.Source.faults c.advance.new.self.source ≡ g.S.Source.faults c.args.reader.now.source) (search rules) (c.advance.ensures.counts t.going).steady)
    (subst (λ (s : Option FileEnd). LearnBoth g.D.Disk.state (λ m. m ≡ c.message.result.now) s c.args.keeper.now c.add_and_seal.new.keeper c.args.namer.now c.add_and_seal.new.namer)
    (stop_none c.add_and_seal.result c.in_ok-add_and_seal.field-0 c.in_ok-add_and_seal.was) c.add_and_seal.ensures.turns)
    (c.in_ok-add_and_seal.ensures.taken start taken t.doing)

pub returns-in-Ok-None-clause-steady : goal.returns-in-Ok-None-clause-steady
returns-in-Ok-None-clause-steady g c =
    ok_at c.advance.result c.in-Ok-None.field-0 (g.S.Source.faults c.advance.new.self.source ≡ g.S.Source.faults c.args.reader.now.source) (search rules) (c.advance.ensures.counts c.requires.taking.4.going).steady

pub returns-then-mark-clause-steady : goal.returns-then-mark-clause-steady
returns-then-mark-clause-steady g c =
    ok_at c.advance.result c.in-Ok-Some.field-0 (g.S.Source.faults c.advance.new.self.source ≡ g.S.Source.faults c.args.reader.now.source) (search rules) (c.advance.ensures.counts c.requires.taking.4.going).steady

pub returns-else-mark-clause-steady : goal.returns-else-mark-clause-steady
returns-else-mark-clause-steady g c =
    ok_at c.advance.result c.in-Ok-Some.field-0 (g.S.Source.faults c.advance.new.self.source ≡ g.S.Source.faults c.args.reader.now.source) (search rules) (c.advance.ensures.counts c.requires.taking.4.going).steady
