use Rattle.std.proofs.Common.{ap}
use Rattle.disk_journal.specs.Journal.{state_of}
use Rattle.disk_seal.proofs.KeptLemmas.{kept_from}
use Rattle.disk_seal.proofs.store.Store.open_store.Goals as goal

pub invariant_of-result : goal.invariant_of-result
invariant_of-result g c =
    kept_from (state_of c.args.journal) _ _ c.args.types c.args.words c.args.types_saved c.args.words_saved (ap g.D.Disk.state c.of-opened.ensures) c.faults-faults.ensures
    (g.met.D.Disk.lawful c.args.journal.disk.now) c.requires.journal c.requires.books
