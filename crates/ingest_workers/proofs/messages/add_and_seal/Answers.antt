use Rattle.std.proofs.Common.{rules, ◌≡◌, ◌∙◌, refl, sym, subst}
use Rattle.std.specs.Prelude.{Err, None, Ok, Option, Some}
use Rattle.std.proofs.lemmas.Result.{err_from_is_err_and}
use Rattle.disk_seal.specs.Naming.{NamesIn}
use Rattle.ingest_workers.specs.declared.file_end.FileEnd.{FileEnd}
use Rattle.ingest_workers.specs.declared.file_end.FileEnd.TheVariants.{Lost}
use Rattle.ingest_workers.specs.Turns.{MayAsk, stop_in}
use Rattle.ingest_workers.proofs.TurnsLemmas.{learn_message, learn_refused, learn_sealed, learn_then, stop_none, stop_same}
use Rattle.std.specs.Prelude.{IsErrOf}
use Rattle.column_store.specs.Columns.{IsFull}
use Rattle.ingest_workers.proofs.DoingLemmas.{covering, doing_more, doing_sealed, each_err, full_found, has_room, may_seal, not_taken, ok_by, passes_of}
use Rattle.ingest_workers.proofs.NamingLemmas.{named_one, named_only, named_then}
use Rattle.ingest_workers.specs.Namer.{types_pass, words_pass}
use Rattle.ingest_workers.specs.FileEnd.{IsNameStop}
use Rattle.ingest_workers.proofs.CauseLemmas.{seal_cause}
use Rattle.ingest_workers.proofs.FullLemmas.{was_full}
use Rattle.ingest_workers.specs.Full.{WasFullFor, books_by}
use Rattle.ingest_workers.proofs.TakingLemmas.{err_at}
use Rattle.ingest_workers.proofs.messages.add_and_seal.Goals as goal

pub add_message-requires-clause-room : goal.add_message-requires-clause-room
add_message-requires-clause-room g c =
    has_room g.D.Disk.state c.args.rows c.requires.doing.0 c.args.keeper.now c.args.namer.now c.args.segment.now c.requires.doing.1 c.requires.doing.3 c.requires.limit

pub returns-in_err-add_message-clause-stopped : goal.returns-in_err-add_message-clause-stopped
returns-in_err-add_message-clause-stopped g c = λ start taken d.
    each_err c.from_residual.result _ (λ y is.
    let there : IsErrOf c.add_message.result y = search rules in
    not_taken g.D.Disk.state c.args.rows start c.args.keeper.now c.args.namer.now c.args.segment.now taken d c.add_message.new.namer c.add_message.new.segment c.args.line.now y (passes_of c.args.namer.now c.add_message.new.namer c.add_message.ensures.version c.add_message.ensures.passes)
    c.add_message.ensures.known.types.front c.add_message.ensures.known.words.front c.add_message.ensures.added.marks
    (λ cause same. c.add_message.ensures.added.kept cause (subst (IsErrOf c.add_message.result) same there))
    (err_at c.add_message.result y IsNameStop there c.add_message.ensures.added.causes)
    (λ book count same. subst (λ v. WasFullFor v (λ m. m ≡ c.args.line.now) (books_by (types_pass c.add_message.new.namer) (words_pass c.add_message.new.namer)) book count) (sym c.add_message.ensures.version)
    (was_full c.args.namer.now.version c.args.line.now book count (types_pass c.add_message.new.namer) (words_pass c.args.namer.now) (words_pass c.add_message.new.namer)
    (c.add_message.ensures.added.full book count (subst (IsErrOf c.add_message.result) same there)))))

pub returns-then-not-is_full-clause-taken : goal.returns-then-not-is_full-clause-taken
returns-then-not-is_full-clause-taken g c = λ start taken d.
    let not_full : ¬ IsFull c.add_message.new.segment.draft.columns c.args.rows = search rules in
    let row = ok_by c.add_message.result _ c.in_ok-add_message.was c.add_message.ensures.added.pushed in
    doing_more g.D.Disk.state c.args.rows start c.args.keeper.now c.args.namer.now c.args.segment.now taken d c.add_message.new.namer c.add_message.new.segment row.0 c.args.line.now (passes_of c.args.namer.now c.add_message.new.namer c.add_message.ensures.version c.add_message.ensures.passes)
    c.add_message.ensures.added.marks row.1 (ok_by c.add_message.result _ c.in_ok-add_message.was (c.add_message.ensures.added.taken d.messages d.has)) c.requires.message not_full

pub seal-requires : goal.seal-requires
seal-requires g c =
    let d = c.requires.doing.3 in
    let row = ok_by c.add_message.result _ c.in_ok-add_message.was c.add_message.ensures.added.pushed in
    may_seal g.D.Disk.state c.args.rows c.requires.doing.0 c.args.keeper.now c.args.namer.now c.args.segment.now c.requires.doing.1 d c.add_message.new.namer c.add_message.new.segment row.0 c.args.line.now
    (passes_of c.args.namer.now c.add_message.new.namer c.add_message.ensures.version c.add_message.ensures.passes) c.add_message.ensures.added.marks row.1 (ok_by c.add_message.result _ c.in_ok-add_message.was (c.add_message.ensures.added.taken d.messages d.has)) c.requires.message c.requires.limit c.requires.doing.2

pub returns-in-Ok-clause-taken : goal.returns-in-Ok-clause-taken
returns-in-Ok-clause-taken g c = λ start taken d.
    let full : IsFull c.add_message.new.segment.draft.columns c.args.rows = search rules in
    let row = ok_by c.add_message.result _ c.in_ok-add_message.was c.add_message.ensures.added.pushed in
    doing_sealed g.D.Disk.state c.args.rows start c.args.keeper.now c.args.namer.now c.args.segment.now taken d c.add_message.new.namer c.add_message.new.segment row.0 c.args.line.now (passes_of c.args.namer.now c.add_message.new.namer c.add_message.ensures.version c.add_message.ensures.passes)
    c.add_message.ensures.added.marks row.1 (ok_by c.add_message.result _ c.in_ok-add_message.was (c.add_message.ensures.added.taken d.messages d.has)) c.requires.message c.seal.new.keeper c.seal.new.namer c.seal.new.self c.seal.ensures.namer
    c.in-Ok.ensures.emptied c.in-Ok.ensures.sealed c.in-Ok.ensures.holds full

pub returns-in-Err-clause-stopped : goal.returns-in-Err-clause-stopped
returns-in-Err-clause-stopped g c = λ start taken d.
    let full : IsFull c.add_message.new.segment.draft.columns c.args.rows = search rules in
    let row = ok_by c.add_message.result _ c.in_ok-add_message.was c.add_message.ensures.added.pushed in record {
      covering = covering g.D.Disk.state c.args.rows start c.args.keeper.now c.args.namer.now c.args.segment.now taken d c.seal.new.keeper c.seal.new.self c.args.line.now c.in-Err.ensures.refused
          (c.in-Err.ensures.marks.first ∙ c.add_message.ensures.added.marks.first);
      caused = seal_cause g.D.Disk.state start c.args.keeper.now c.seal.new.keeper d.added.still.about_is _ _ c.in-Err.cause
          (λ end need same. full_found g.D.Disk.state c.args.rows start c.args.keeper.now c.args.namer.now c.args.segment.now taken d c.add_message.new.namer c.add_message.new.segment row.0 c.args.line.now
          (passes_of c.args.namer.now c.add_message.new.namer c.add_message.ensures.version c.add_message.ensures.passes) c.add_message.ensures.added.marks row.1 (ok_by c.add_message.result _ c.in_ok-add_message.was (c.add_message.ensures.added.taken d.messages d.has)) c.requires.message
          c.seal.new.keeper c.seal.new.namer end need c.seal.ensures.namer c.in-Err.ensures.refused full (c.seal.ensures.full end need (cc (c.in-Err.is, same)))) c.in-Err.ensures.causes;
    }

pub returns-in_err-add_message-clause-names : goal.returns-in_err-add_message-clause-names
returns-in_err-add_message-clause-names g c =
    named_one c.args.line.now c.args.namer.now c.add_message.new.namer (stop_in c.add_message.result) c.add_message.ensures.version c.add_message.ensures.passes c.add_message.ensures.known c.add_message.ensures.asked

pub returns-then-not-is_full-clause-names : goal.returns-then-not-is_full-clause-names
returns-then-not-is_full-clause-names g c =
    named_one c.args.line.now c.args.namer.now c.add_message.new.namer (stop_in c.add_message.result) c.add_message.ensures.version c.add_message.ensures.passes c.add_message.ensures.known c.add_message.ensures.asked

pub returns-in-Ok-clause-names : goal.returns-in-Ok-clause-names
returns-in-Ok-clause-names g c =
    named_then (λ m. m ≡ c.args.line.now) c.args.namer.now c.add_message.new.namer c.seal.new.namer
    (named_one c.args.line.now c.args.namer.now c.add_message.new.namer (stop_in c.add_message.result) c.add_message.ensures.version c.add_message.ensures.passes c.add_message.ensures.known c.add_message.ensures.asked)
    (named_only (λ m. m ≡ c.args.line.now) c.add_message.new.namer c.seal.new.namer c.seal.ensures.namer)

pub returns-in-Err-clause-names : goal.returns-in-Err-clause-names
returns-in-Err-clause-names g c =
    named_then (λ m. m ≡ c.args.line.now) c.args.namer.now c.add_message.new.namer c.seal.new.namer
    (named_one c.args.line.now c.args.namer.now c.add_message.new.namer (stop_in c.add_message.result) c.add_message.ensures.version c.add_message.ensures.passes c.add_message.ensures.known c.add_message.ensures.asked)
    (named_only (λ m. m ≡ c.args.line.now) c.add_message.new.namer c.seal.new.namer c.seal.ensures.namer)

-- ---- turns

pub returns-in_err-add_message-clause-turns : goal.returns-in_err-add_message-clause-turns
returns-in_err-add_message-clause-turns g c =
    let p = err_from_is_err_and c.from_residual.result c.from_residual.ensures.1 in
    let is : c.from_residual.result ≡ Err p.0 = p.1 in
    let there : c.add_message.result ≡ Err p.0 = search rules in
    learn_message g.D.Disk.state (λ m. m ≡ c.args.line.now) c.args.keeper.now c.args.namer.now c.add_message.new.namer c.args.line.now refl (stop_in c.from_residual.result)
    (subst (λ (s : Option FileEnd). MayAsk NamesIn c.args.namer.now.version c.args.line.now s c.args.namer.now c.add_message.new.namer) (stop_same c.add_message.result c.from_residual.result p.0 there is) c.add_message.ensures.asked)

pub returns-then-not-is_full-clause-turns : goal.returns-then-not-is_full-clause-turns
returns-then-not-is_full-clause-turns g c =
    let taken : c.add_message.result ≡ Ok c.in_ok-add_message.field-0 = c.in_ok-add_message.was in
    learn_message g.D.Disk.state (λ m. m ≡ c.args.line.now) c.args.keeper.now c.args.namer.now c.add_message.new.namer c.args.line.now refl None
    (subst (λ (s : Option FileEnd). MayAsk NamesIn c.args.namer.now.version c.args.line.now s c.args.namer.now c.add_message.new.namer) (stop_none c.add_message.result c.in_ok-add_message.field-0 taken) c.add_message.ensures.asked)

pub returns-in-Ok-clause-turns : goal.returns-in-Ok-clause-turns
returns-in-Ok-clause-turns g c =
    let taken : c.add_message.result ≡ Ok c.in_ok-add_message.field-0 = c.in_ok-add_message.was in
    learn_then g.D.Disk.state (λ m. m ≡ c.args.line.now) None c.args.keeper.now c.args.keeper.now c.seal.new.keeper c.args.namer.now c.add_message.new.namer c.seal.new.namer c.add_message.ensures.version
    (learn_message g.D.Disk.state (λ m. m ≡ c.args.line.now) c.args.keeper.now c.args.namer.now c.add_message.new.namer c.args.line.now refl None
    (subst (λ (s : Option FileEnd). MayAsk NamesIn c.args.namer.now.version c.args.line.now s c.args.namer.now c.add_message.new.namer) (stop_none c.add_message.result c.in_ok-add_message.field-0 taken) c.add_message.ensures.asked))
    (learn_sealed g.D.Disk.state (λ m. m ≡ c.args.line.now) None c.add_message.new.segment.draft c.args.keeper.now c.seal.new.keeper c.add_message.new.namer c.seal.new.namer c.in-Ok.ensures.sealed c.seal.ensures.turns)

pub returns-in-Err-clause-turns : goal.returns-in-Err-clause-turns
returns-in-Err-clause-turns g c =
    let taken : c.add_message.result ≡ Ok c.in_ok-add_message.field-0 = c.in_ok-add_message.was in
    learn_then g.D.Disk.state (λ m. m ≡ c.args.line.now) (Some (Lost c.in-Err.cause)) c.args.keeper.now c.args.keeper.now c.seal.new.keeper c.args.namer.now c.add_message.new.namer c.seal.new.namer c.add_message.ensures.version
    (learn_message g.D.Disk.state (λ m. m ≡ c.args.line.now) c.args.keeper.now c.args.namer.now c.add_message.new.namer c.args.line.now refl None
    (subst (λ (s : Option FileEnd). MayAsk NamesIn c.args.namer.now.version c.args.line.now s c.args.namer.now c.add_message.new.namer) (stop_none c.add_message.result c.in_ok-add_message.field-0 taken) c.add_message.ensures.asked))
    (learn_refused g.D.Disk.state (λ m. m ≡ c.args.line.now) c.in-Err.cause c.args.keeper.now c.seal.new.keeper c.add_message.new.namer c.seal.new.namer c.in-Err.ensures.refused c.seal.ensures.turns)
