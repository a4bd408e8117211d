use Rattle.std.proofs.Common.{◌∙◌, ap, subst, sym}
use Rattle.std.specs.Prelude.{All}
use Rattle.disk_journal.specs.Journal.{state_of}
use Rattle.archive_meaning.specs.declared.TheConstants.{MAX_ROWS}
use Rattle.name_records.specs.Named.{AreNamed, IsShort, names_of}
use Rattle.name_records.proofs.LeftLemmas.{goes_then}
use Rattle.upgrade_command.proofs.JournalLemmas.{fill_goes}
use Rattle.upgrade_command.proofs.OldLemmas.{short_names}
use Rattle.upgrade_command.proofs.RecordLemmas.{all_named, are_new, no_texts}
use Rattle.upgrade_command.proofs.filling.name_and_fill.Goals as goal

pub register_names-refusal-requires-clause-short : goal.register_names-refusal-requires-clause-short
register_names-refusal-requires-clause-short g c = subst (λ fs. All IsShort (names_of fs)) (sym (c.as_slice-files.ensures ∙ c.files.ensures)) (short_names _ c.requires.named.short)

pub fill-filled-requires-clause-texts : goal.fill-filled-requires-clause-texts
fill-filled-requires-clause-texts g c κs within =
    let named = c.register_names-refusal.ensures in
    no_texts (names_of c.as_slice-files.result.now) named.naming _ _ (all_named (names_of c.as_slice-files.result.now) c.register_names-refusal.result.count c.register_names-refusal.result.refusal _ _ named c.in_default.is) c.requires.journal.entries

pub fill-filled-requires-clause-jobs : goal.fill-filled-requires-clause-jobs
fill-filled-requires-clause-jobs g c κs within =
    let named = c.register_names-refusal.ensures in
    are_new (names_of c.as_slice-files.result.now) named.naming _ _ (all_named (names_of c.as_slice-files.result.now) c.register_names-refusal.result.count c.register_names-refusal.result.refusal _ _ named c.in_default.is) c.requires.journal.entries
    g.L.Lent.lent.disk.seen _ (ap names_of (c.as_slice-files.ensures ∙ c.files.ensures)) c.requires.named.few c.args.jobs.now c.requires.jobs

pub returns-clause-goes : goal.returns-clause-goes
returns-clause-goes g c =
    let law = (g.met.E.Disk g.world.𝓛 g.world.𝓜 g.world.𝓡 ((λ s x. x), (λ x. x), (λ x. x), λ x. x)).lawful in
    goes_then _ _ _ (law _) c.register_names-refusal.ensures.goes
    (fill_goes law MAX_ROWS c.fill-filled.result.cause c.register_names-refusal.new.journal c.fill-filled.result.journal c.args.jobs.now c.fill-filled.new.jobs c.fill-filled.ensures.did)

pub returns-clause-filled : goal.returns-clause-filled
returns-clause-filled g c =
    let j = state_of c.args.journal in
    let mid = state_of c.register_names-refusal.new.journal in
    let done = c.register_names-refusal.result in
    record {
      mid = c.register_names-refusal.new.journal;
      count = done.count;
      named = subst (λ r. AreNamed 0 (names_of c.args.old.now.archive.files) done.count r j mid) c.in_default.is
          (subst (λ fs. AreNamed 0 (names_of fs) done.count done.refusal j mid) (c.as_slice-files.ensures ∙ c.files.ensures) c.register_names-refusal.ensures);
      did = c.fill-filled.ensures.did;
    }
