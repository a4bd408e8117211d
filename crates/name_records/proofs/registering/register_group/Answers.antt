use Rattle.std.proofs.Common.{ap, inl, inr, MutBor, ◌∷◌, []}
use Rattle.std.specs.Prelude.{IsErrOf}
use Rattle.std.proofs.lemmas.Result.{err_from_is_err_and}
use Rattle.disk_journal.specs.Journal.{state_of}
use Rattle.archive_meaning.specs.declared.entry.JournalEntry.TheVariants.{Files}
use Rattle.disk_seal.specs.Registered.{HasRegistered}
use Rattle.ingest_meaning.specs.declared.refusal.RegisterRefusal.{RegisterRefusal}
use Rattle.name_records.specs.Named.{HasNames, names_of}
use Rattle.name_records.proofs.NamedLemmas.{group_failed, group_goes, group_named, left_alone, nothing_ok}
use Rattle.name_records.proofs.registering.register_group.Goals as goal

pub returns-in_err-register : goal.returns-in_err-register
returns-in_err-register g c =
    let p = err_from_is_err_and c.from_residual-in_err-register.result c.from_residual-in_err-register.ensures.1 in
    let old = state_of c.args.journal.now in
    let new = state_of c.register.new.journal in
    let names = names_of c.args.files.now in
    let registered = c.register.ensures in
    let moments = rw (c.in_ok-names.ensures) at registered.moments in
    let alone = rw (c.in_ok-names.ensures) at registered.alone in
    let err : (e : RegisterRefusal) → IsErrOf c.from_residual-in_err-register.result e → IsErrOf c.register.result e = λ e same. cc (p.1, p.2, same, c.in_err-register.was) in
    record {
      done = nothing_ok (HasNames c.args.held names (Files names ∷ []) old new) c.from_residual-in_err-register.result p.0 p.1;
      goes = group_goes old new c.args.held names c.requires.names registered.goes_on moments registered.counts.later;
      same = λ why is spared. (
        left_alone c.register.result why (λ e. alone (inr e)) (λ end need e. (registered.full end need e).1) (err why is) spared,
        c.in_err-register.ensures.stays,
      );
      full = λ end need is. rw (c.in_ok-names.ensures) at (registered.full end need (err _ is)).0;
      fault = λ is. registered.counts.failed (err _ is);
      under = λ is. group_failed old new c.args.held names c.requires.names registered.goes_on moments (g.met.D.Disk.lawful c.args.journal.now.disk.now)
          (λ far. ap (λ (x : MutBor g.row.D.Denot). g.D.Disk.state x.now) (alone (inl far)));
    }

pub returns : goal.returns
returns g c =
    let old = state_of c.args.journal.now in
    let new = state_of c.register.new.journal in
    let names = names_of c.args.files.now in
    let registered = c.register.ensures in
    let moments = rw (c.in_ok-names.ensures) at registered.moments in
    let done = c.in_ok-register.ensures.registered in
    let has : HasRegistered c.args.held names old new = record { added = rw (c.in_ok-names.ensures) at done.added; fits = rw (c.in_ok-names.ensures) at done.fits; opens = done.opens } in
    record {
      done = group_named old new c.args.held names c.requires.names registered.goes_on moments c.in_ok-register.ensures.counts.steady has;
      goes = group_goes old new c.args.held names c.requires.names registered.goes_on moments registered.counts.later;
      same = λ why is. absurd (cc (is));
      full = λ end need is. absurd (cc (is));
      fault = λ is. absurd (cc (is));
      under = λ is. absurd (cc (is));
    }
