use Rattle.std.proofs.Common.{◌≢◌, arith, rules}
use Rattle.std.proofs.lemmas.Result.{err_from_is_err_and}
use Rattle.archive_open.proofs.NextLemmas.{no_names}
use Rattle.archive_open.proofs.ReadLemmas.{load_damaged}
use Rattle.archive_open.proofs.TakenLemmas.{loaded_reads_of}
use Rattle.archive_places.specs.StepsPlaced.{Placing, PlacesOf, placing_of}
use Rattle.archive_places.proofs.PlacedLemmas.{names_not_told, names_told}
use Rattle.archive_places.proofs.keeping.keep_names.Goals as goal

pub returns-in_err-payload-clause-ranges : goal.returns-in_err-payload-clause-ranges
returns-in_err-payload-clause-ranges g c =
    let other : c.args.place.kind ≢ 4 = λ is. omega (arith, is, c.requires.kind) in
    loaded_reads_of c.args.place _ (g.D.Disk.state c.args.journal.now.disk.now) (g.D.Disk.state c.load.new.self.disk.now) c.requires.whole other c.load.ensures.reads.ranges

pub returns-in_err-add_names-clause-ranges : goal.returns-in_err-add_names-clause-ranges
returns-in_err-add_names-clause-ranges g c =
    let other : c.args.place.kind ≢ 4 = λ is. omega (arith, is, c.requires.kind) in
    loaded_reads_of c.args.place _ (g.D.Disk.state c.args.journal.now.disk.now) (g.D.Disk.state c.load.new.self.disk.now) c.requires.whole other c.load.ensures.reads.ranges

pub returns-clause-ranges : goal.returns-clause-ranges
returns-clause-ranges g c =
    let other : c.args.place.kind ≢ 4 = λ is. omega (arith, is, c.requires.kind) in
    loaded_reads_of c.args.place _ (g.D.Disk.state c.args.journal.now.disk.now) (g.D.Disk.state c.load.new.self.disk.now) c.requires.whole other c.load.ensures.reads.ranges

pub returns-in_err-payload-clause-damaged : goal.returns-in_err-payload-clause-damaged
returns-in_err-payload-clause-damaged g c = λ at is.
    let p = err_from_is_err_and c.from_residual.result c.from_residual.ensures.1 in
    (c.in_err-payload.ensures.damaged at (search (rules, is, p.1, p.2, load_damaged))).untold

pub returns-clause-kept : goal.returns-clause-kept
returns-clause-kept g c = λ yes.
    let old : Placing = placing_of c.args.opening.now in
    let added = c.in_ok-add_names.ensures.added yes in
    names_told c.args.place _ c.as_slice.result.now added.0 old _ c.requires.kind (search rules) added.1 added.2 (λ i. record old { files = added.3 i })

pub returns-clause-refused : goal.returns-clause-refused
returns-clause-refused g c = λ no.
    let old : Placing = placing_of c.args.opening.now in
    names_not_told c.args.place _ c.as_slice.result.now old c.requires.kind (search rules) (no_names c.args.place.at c.as_slice.result.now (PlacesOf old) (c.in_ok-add_names.ensures.refused no))
