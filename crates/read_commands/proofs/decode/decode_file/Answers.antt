use Rattle.std.proofs.Common.{◌≡◌, ap, false, length, refl, rules, true, Ok, Err, ◌∙◌}
use Rattle.command_refusals.specs.declared.outcome.FileRefusal.{FileRefusal}
use Rattle.read_commands.proofs.DecodingLemmas.{decode_lacks_none, decode_refused_at, file_lacks, file_printed, file_there}
use Rattle.read_commands.proofs.decode.decode_file.Goals as goal

pub returns-then-number-count-clause-lacks : goal.returns-then-number-count-clause-lacks
returns-then-number-count-clause-lacks g c = λ told count is.
    file_lacks _ _ _ c.args.number c.from.result (length c.as_slice-count.result.now) told count _ c.in_ok-archive.ensures.opened (ap length (c.as_slice-count.ensures ∙ c.files.ensures)) c.if-number-count.true (search rules) refl is

pub returns-in-Ok-clause-prints : goal.returns-in-Ok-clause-prints
returns-in-Ok-clause-prints g c = file_printed true (Ok tt) c.args.number (g.D.Disk.state c.args.disk.now).seen (g.D.Disk.state c.open_archive.new.disk).seen _ _ refl c.in_ok-archive.ensures.keeps.seen c.in-Ok.ensures.decoded

pub returns-in-Ok-clause-there : goal.returns-in-Ok-clause-there
returns-in-Ok-clause-there g c = λ _. file_there _ _ c.args.number (length c.as_slice-count.result.now) c.in_ok-archive.ensures.opened (ap length (c.as_slice-count.ensures ∙ c.files.ensures)) c.if-number-count.false

pub returns-clause-prints : goal.returns-clause-prints
returns-clause-prints g c = file_printed false (Err c.of_decode.result) c.args.number (g.D.Disk.state c.args.disk.now).seen (g.D.Disk.state c.open_archive.new.disk).seen _ _ refl c.in_ok-archive.ensures.keeps.seen c.in-Err.ensures.decoded

pub returns-clause-there : goal.returns-clause-there
returns-clause-there g c = λ _. file_there _ _ c.args.number (length c.as_slice-count.result.now) c.in_ok-archive.ensures.opened (ap length (c.as_slice-count.ensures ∙ c.files.ensures)) c.if-number-count.false

pub returns-clause-lacks : goal.returns-clause-lacks
returns-clause-lacks g c = λ told count is.
    let lacks : c.of_decode.result ≡ FileRefusal.NoSuchFile told count = cc (is) in
    absurd (decode_lacks_none _ c.in-Err.refusal c.last_gate.result told count c.of_decode.ensures lacks)

pub returns-clause-damaged : goal.returns-clause-damaged
returns-clause-damaged g c = λ at is.
    let told : c.of_decode.result ≡ FileRefusal.Damaged at = cc (is) in
    decode_refused_at _ c.in-Err.refusal c.last_gate.result at _ _ _ c.of_decode.ensures told c.in_ok-archive.ensures.keeps.seen c.in_ok-archive.ensures.last c.last_gate.ensures
    (λ refusal. c.in-Err.ensures.damaged (ap Err refusal))
