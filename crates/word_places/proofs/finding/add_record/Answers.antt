use Rattle.std.proofs.Common.{rules}
use Rattle.word_places.proofs.ReadLemmas.{loaded_slice, none_loaded, of_loaded}
use Rattle.word_places.proofs.RecordLemmas.{spells_rest}
use Rattle.word_places.proofs.finding.add_record.Goals as goal

pub returns-in_default-clause-damaged : goal.returns-in_default-clause-damaged
returns-in_default-clause-damaged g c = λ is.
    let loaded = loaded_slice (g.D.Disk.state c.args.disk.now).seen c.args.place c.load.new.buffer.items c.as_slice.result.now c.front_of-payload.result.now c.as_slice.ensures.value c.front_of-payload.ensures c.in_ok-load.ensures.loaded in
    none_loaded (g.D.Disk.state c.args.disk.now).seen c.args.place c.front_of-payload.result.now loaded c.in_default.ensures.none

pub returns-then-not-branch-clause-damaged : goal.returns-then-not-branch-clause-damaged
returns-then-not-branch-clause-damaged g c = λ is.
    let payload = c.front_of-payload.result.now in
    let loaded = loaded_slice (g.D.Disk.state c.args.disk.now).seen c.args.place c.load.new.buffer.items c.as_slice.result.now payload c.as_slice.ensures.value c.front_of-payload.ensures c.in_ok-load.ensures.loaded in
    none_loaded (g.D.Disk.state c.args.disk.now).seen c.args.place payload loaded (λ texts spells.
    c.in_ok-add_each.ensures.none c.if-not-branch.true texts spells.are spells.count
    (spells_rest c.args.place payload c.in-Some.rest.now texts spells (search rules) (search rules) c.in-Some.ensures.some))

pub returns-clause-added : goal.returns-clause-added
returns-clause-added g c =
    let payload = c.front_of-payload.result.now in
    let loaded = loaded_slice (g.D.Disk.state c.args.disk.now).seen c.args.place c.load.new.buffer.items c.as_slice.result.now payload c.as_slice.ensures.value c.front_of-payload.ensures c.in_ok-load.ensures.loaded in
    of_loaded (g.D.Disk.state c.args.disk.now).seen c.args.place payload _ loaded (λ texts spells.
    c.in_ok-add_each.ensures.added c.if-not-branch.false texts spells.are spells.count
    (spells_rest c.args.place payload c.in-Some.rest.now texts spells (search rules) (search rules) c.in-Some.ensures.some))
