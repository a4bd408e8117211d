use Rattle.std.proofs.Common.{inl, inr, ap, arith, length, map, MutBor, subst, sym}
use Rattle.std.proofs.lemmas.List.{length-map}
use Rattle.std.proofs.lemmas.Result.{err_from_is_err_and}
use Rattle.record_format.specs.Header.{header_bytes}
use Rattle.disk_journal.specs.Journal.{state_of}
use Rattle.disk_journal.specs.Place.{BeforeOrAfter}
use Rattle.ingest_meaning.specs.Room.{files_record}
use Rattle.log_sources.specs.Sources.{str_bytes}
use Rattle.file_outcomes.specs.StepsKnown.{IsNoDamage}
use Rattle.file_outcomes.proofs.AppendLemmas.{is_named, may_add, names_more}
use Rattle.write_commands.proofs.CauseLemmas.{many_cause, refused_with, register_cause, register_undamaged, undamaged_with}
use Rattle.file_lines.proofs.DirectoryLemmas.{on_err}
use Rattle.disk_seal.specs.Registered.{HasRegistered}
use Rattle.name_records.proofs.NamedLemmas.{group_failed, group_named}
use Rattle.write_commands.proofs.RegisterLemmas.{ended_alone, from_named, not_named}
use Rattle.file_outcomes.proofs.StepsLemmas.{same_nothing}
use Rattle.command_refusals.proofs.GoingLemmas.{DiskGoesOn-left, DiskGoesOn-same}
use Rattle.write_commands.proofs.register.name_files.Goals as goal

pub register-requires-clause-names : goal.register-requires-clause-names
register-requires-clause-names g c =
    rw (c.in_ok-texts.ensures) (may_add c.args.holding.files (map str_bytes c.args.names.now) c.requires.names.unrefused (omega (arith, c.requires.names.some, length-map c.args.names.now str_bytes)) (omega (arith, c.in_default.ensures, length-map c.args.names.now str_bytes)))

-- ---- named

pub returns-clause-goes_on : goal.returns-clause-goes_on
returns-clause-goes_on g c =
    let named = c.register.ensures in
    DiskGoesOn-left (g.D.Disk.state c.args.journal.now.disk.now) (g.D.Disk.state c.register.new.journal.disk.now) (BeforeOrAfter (header_bytes c.args.journal.now.header) (g.D.Disk.state c.args.journal.now.disk.now).seen c.args.journal.now.count (files_record c.in_ok-texts.texts)) named.counts.later named.goes_on.tells named.moments

pub returns-clause-more : goal.returns-clause-more
returns-clause-more g c =
    let named = c.in_ok-first.ensures in
    let adds = may_add c.args.holding.files (map str_bytes c.args.names.now) c.requires.names.unrefused (omega (arith, c.requires.names.some, length-map c.args.names.now str_bytes)) (omega (arith, c.in_default.ensures, length-map c.args.names.now str_bytes)) in
    let has : HasRegistered c.args.holding.files (map str_bytes c.args.names.now) (state_of c.args.journal.now) (state_of c.register.new.journal) = record { added = rw (c.in_ok-texts.ensures) at named.registered.added; fits = rw (c.in_ok-texts.ensures) at named.registered.fits; opens = named.registered.opens } in
    names_more (state_of c.args.journal.now) (state_of c.register.new.journal) c.args.holding.types c.args.holding.words c.args.holding.files c.requires.held (map str_bytes c.args.names.now) adds
    (group_named (state_of c.args.journal.now) (state_of c.register.new.journal) c.args.holding.files (map str_bytes c.args.names.now) (record { opens = c.requires.held.opens; holds = c.requires.held.names; adds = adds }) named.goes_on (rw (c.in_ok-texts.ensures) at named.moments) named.counts.steady has)
    has.added.count

pub returns-clause-named : goal.returns-clause-named
returns-clause-named g c =
    let named = c.in_ok-first.ensures in
    let adds = may_add c.args.holding.files (map str_bytes c.args.names.now) c.requires.names.unrefused (omega (arith, c.requires.names.some, length-map c.args.names.now str_bytes)) (omega (arith, c.in_default.ensures, length-map c.args.names.now str_bytes)) in
    let has : HasRegistered c.args.holding.files (map str_bytes c.args.names.now) (state_of c.args.journal.now) (state_of c.register.new.journal) = record { added = rw (c.in_ok-texts.ensures) at named.registered.added; fits = rw (c.in_ok-texts.ensures) at named.registered.fits; opens = named.registered.opens } in
    is_named (state_of c.args.journal.now) (state_of c.register.new.journal) c.args.holding.types c.args.holding.words c.args.holding.files c.requires.held (map str_bytes c.args.names.now) adds
    (group_named (state_of c.args.journal.now) (state_of c.register.new.journal) c.args.holding.files (map str_bytes c.args.names.now) (record { opens = c.requires.held.opens; holds = c.requires.held.names; adds = adds }) named.goes_on (rw (c.in_ok-texts.ensures) at named.moments) named.counts.steady has)
    c.in_ok-first.first (length c.args.names.now) named.number (omega (arith, length-map c.args.names.now str_bytes))

pub returns-clause-names : goal.returns-clause-names
returns-clause-names g c =
    let named = c.in_ok-first.ensures in
    let adds = may_add c.args.holding.files (map str_bytes c.args.names.now) c.requires.names.unrefused (omega (arith, c.requires.names.some, length-map c.args.names.now str_bytes)) (omega (arith, c.in_default.ensures, length-map c.args.names.now str_bytes)) in
    let has : HasRegistered c.args.holding.files (map str_bytes c.args.names.now) (state_of c.args.journal.now) (state_of c.register.new.journal) = record { added = rw (c.in_ok-texts.ensures) at named.registered.added; fits = rw (c.in_ok-texts.ensures) at named.registered.fits; opens = named.registered.opens } in
    from_named (state_of c.args.journal.now) (state_of c.register.new.journal) c.args.holding.types c.args.holding.words c.args.holding.files c.requires.held (map str_bytes c.args.names.now)
    (group_named (state_of c.args.journal.now) (state_of c.register.new.journal) c.args.holding.files (map str_bytes c.args.names.now) (record { opens = c.requires.held.opens; holds = c.requires.held.names; adds = adds }) named.goes_on (rw (c.in_ok-texts.ensures) at named.moments) named.counts.steady has)
    c.in_ok-first.first named.number

-- ---- refused

pub returns-in-Some-clause-goes_on : goal.returns-in-Some-clause-goes_on
returns-in-Some-clause-goes_on g c = DiskGoesOn-same _ (g.met.D.Disk.lawful c.args.journal.now.disk.now)

pub returns-in-Some-clause-nothing : goal.returns-in-Some-clause-nothing
returns-in-Some-clause-nothing g c = same_nothing _ (g.met.D.Disk.lawful c.args.journal.now.disk.now)

pub returns-in-Some-clause-cause : goal.returns-in-Some-clause-cause
returns-in-Some-clause-cause g c =
    many_cause (map str_bytes c.args.names.now) (state_of c.args.journal.now) c.args.holding.types c.args.holding.words c.args.holding.files (length c.args.names.now) c.in-Some.refusal c.requires.held (omega (arith, length-map c.args.names.now str_bytes)) c.in-Some.ensures

pub returns-in_err-texts-clause-goes_on : goal.returns-in_err-texts-clause-goes_on
returns-in_err-texts-clause-goes_on g c = DiskGoesOn-same _ (g.met.D.Disk.lawful c.args.journal.now.disk.now)

pub returns-in_err-texts-clause-nothing : goal.returns-in_err-texts-clause-nothing
returns-in_err-texts-clause-nothing g c = on_err c.from_residual.result (same_nothing _ (g.met.D.Disk.lawful c.args.journal.now.disk.now))

pub returns-in_err-texts-clause-cause : goal.returns-in_err-texts-clause-cause
returns-in_err-texts-clause-cause g c =
    let p = err_from_is_err_and c.from_residual.result c.from_residual.ensures.1 in
    refused_with (map str_bytes c.args.names.now) (g.D.Disk.state c.args.journal.now.disk.now) (g.D.Disk.state c.args.journal.now.disk.now) c.from_residual.result p.0 _ p.1 p.2 tt

pub returns-in_err-first-clause-goes_on : goal.returns-in_err-first-clause-goes_on
returns-in_err-first-clause-goes_on g c =
    let named = c.register.ensures in
    DiskGoesOn-left (g.D.Disk.state c.args.journal.now.disk.now) (g.D.Disk.state c.register.new.journal.disk.now) (BeforeOrAfter (header_bytes c.args.journal.now.header) (g.D.Disk.state c.args.journal.now.disk.now).seen c.args.journal.now.count (files_record c.in_ok-texts.texts)) named.counts.later named.goes_on.tells named.moments

pub returns-in_err-first-clause-nothing : goal.returns-in_err-first-clause-nothing
returns-in_err-first-clause-nothing g c =
    let named = c.register.ensures in
    let alone = rw (c.in_ok-texts.ensures) at named.alone in
    on_err c.from_residual-in_err-first.result
    (not_named (state_of c.args.journal.now) (state_of c.register.new.journal) c.args.holding.types c.args.holding.words c.args.holding.files c.requires.held (map str_bytes c.args.names.now)
    (g.met.D.Disk.lawful c.args.journal.now.disk.now) (g.met.D.Disk.lawful c.register.new.journal.disk.now)
    (group_failed (state_of c.args.journal.now) (state_of c.register.new.journal) c.args.holding.files (map str_bytes c.args.names.now)
    (record { opens = c.requires.held.opens; holds = c.requires.held.names; adds = may_add c.args.holding.files (map str_bytes c.args.names.now) c.requires.names.unrefused (omega (arith, c.requires.names.some, length-map c.args.names.now str_bytes)) (omega (arith, c.in_default.ensures, length-map c.args.names.now str_bytes)) })
    named.goes_on (rw (c.in_ok-texts.ensures) at named.moments) (g.met.D.Disk.lawful c.args.journal.now.disk.now) (λ far. ap (λ (x : MutBor g.row.D.Denot). g.D.Disk.state x.now) (alone (inl far))))
    (ended_alone (state_of c.args.journal.now) (state_of c.register.new.journal) c.register.result c.in_err-first.field-0.0 c.in_err-first.was
    (λ e. ap (λ (x : MutBor g.row.D.Denot). g.D.Disk.state x.now) (alone (inr e))) (λ end need e. ap (λ (x : MutBor g.row.D.Denot). g.D.Disk.state x.now) (named.full end need e).1) named.counts))

pub returns-in_err-first-clause-cause : goal.returns-in_err-first-clause-cause
returns-in_err-first-clause-cause g c =
    let p = err_from_is_err_and c.from_residual-in_err-first.result c.from_residual-in_err-first.ensures.1 in
    let named = c.register.ensures in
    refused_with (map str_bytes c.args.names.now) (g.D.Disk.state c.args.journal.now.disk.now) (g.D.Disk.state c.register.new.journal.disk.now) c.from_residual-in_err-first.result p.0 _ p.1 p.2
    (register_cause (map str_bytes c.args.names.now) (state_of c.args.journal.now) (state_of c.register.new.journal) c.args.holding.types c.args.holding.words c.args.holding.files c.requires.held
    (omega (arith, c.in_default.ensures, length-map c.args.names.now str_bytes))
    c.register.result c.in_err-first.field-0.0 c.in_err-first.was (λ end need e. rw (c.in_ok-texts.ensures) at (named.full end need e).0) named.counts)

pub returns-in_err-texts-clause-undamaged : goal.returns-in_err-texts-clause-undamaged
returns-in_err-texts-clause-undamaged g c =
    let p = err_from_is_err_and c.from_residual.result c.from_residual.ensures.1 in
    undamaged_with c.from_residual.result p.0 _ p.1 p.2 tt

pub returns-in_err-first-clause-undamaged : goal.returns-in_err-first-clause-undamaged
returns-in_err-first-clause-undamaged g c =
    let p = err_from_is_err_and c.from_residual-in_err-first.result c.from_residual-in_err-first.ensures.1 in
    undamaged_with c.from_residual-in_err-first.result p.0 _ p.1 p.2 (register_undamaged c.in_err-first.field-0.0)

pub returns-in-Some-clause-undamaged : goal.returns-in-Some-clause-undamaged
returns-in-Some-clause-undamaged g c = subst IsNoDamage (sym c.in-Some.ensures.0) tt
