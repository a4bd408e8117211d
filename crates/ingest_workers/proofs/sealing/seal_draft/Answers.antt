use Rattle.std.proofs.Common.{◌≡◌, ℕ, List, subst}
use Rattle.turn_lock.specs.History.{HasLearned}
use mathlib.Core.List.{IsPrefix}
use Rattle.turn_lock.specs.Words.{seen}
use Rattle.ingest_workers.specs.Namer.{types_seen, words_seen}
use Rattle.ingest_workers.proofs.SealLemmas.{given_back, has_failed, has_sealed, halted, now_has, no_room, only_seen}
use Rattle.std.proofs.Common.{◌∙◌}
use Rattle.ingest_workers.proofs.TurnsLemmas.{one_turn}
use Rattle.ingest_workers.proofs.sealing.seal_draft.Goals as goal

pub returns-in-Ok-commit-clause-namer : goal.returns-in-Ok-commit-clause-namer
returns-in-Ok-commit-clause-namer g c =
    only_seen c.args.namer.now _ c.notes-types.ensures.version c.args.namer.now.types.ready c.args.namer.now.words.ready c.notes-types.ensures.types c.notes-types.ensures.words

pub returns-in-Ok-commit-clause-sealed : goal.returns-in-Ok-commit-clause-sealed
returns-in-Ok-commit-clause-sealed g c =
    has_sealed g.D.Disk.state c.args.draft.now c.args.keeper.now c.prepare.new.pass c.commit.new.pass c.in-Ok.prepared.turn.value c.in-Ok.prepared.pieces.items c.in-Ok.ensures.prepared c.in-Ok.ensures.kept
    c.in-Ok-commit.ensures.runs c.in-Ok-commit.ensures.added

pub returns-in-Ok-commit-clause-holds : goal.returns-in-Ok-commit-clause-holds
returns-in-Ok-commit-clause-holds g c =
    now_has g.D.Disk.state c.args.draft.now c.args.keeper.now c.prepare.new.pass c.commit.new.pass c.in-Ok.prepared.turn.value c.in-Ok.prepared.pieces.items c.in-Ok.ensures.prepared c.in-Ok.ensures.kept
    c.args.namer.now.version (types_seen c.args.namer.now) (words_seen c.args.namer.now) c.requires.file
    (subst (λ l. IsPrefix l (seen c.in-Ok.prepared.turn.value.types)) c.notes-types.ensures.noted.0.noted_is c.in-Ok.ensures.noted.0)
    (subst (λ l. IsPrefix l (seen c.in-Ok.prepared.turn.value.words)) c.notes-types.ensures.noted.1.noted_is c.in-Ok.ensures.noted.1)
    c.in-Ok-commit.ensures.runs c.in-Ok-commit.ensures.added

pub returns-in-Err-clause-namer : goal.returns-in-Err-clause-namer
returns-in-Err-clause-namer g c =
    only_seen c.args.namer.now _ c.notes-types.ensures.version c.args.namer.now.types.ready c.args.namer.now.words.ready c.notes-types.ensures.types c.notes-types.ensures.words

pub returns-in-Err-clause-refused : goal.returns-in-Err-clause-refused
returns-in-Err-clause-refused g c =
    halted g.D.Disk.state c.args.draft.now c.args.keeper.now c.prepare.new.pass c.commit.new.pass c.in-Ok.prepared.turn.value c.in-Ok.prepared.pieces.items c.in-Ok.ensures.prepared c.in-Ok.ensures.kept c.in-Err.field-0.now c.in-Err.ensures.halted

pub returns-in-Err-clause-causes : goal.returns-in-Err-clause-causes
returns-in-Err-clause-causes g c =
    has_failed g.D.Disk.state c.args.draft.now c.args.keeper.now c.prepare.new.pass c.commit.new.pass c.in-Ok.prepared.turn.value c.in-Ok.prepared.pieces.items c.in-Ok.ensures.prepared c.in-Ok.ensures.kept
    c.in-Err.field-0.opened c.in-Err.field-0.now c.in-Err.ensures.fault c.in-Err.ensures.halted

pub returns-in-Err-OutOfMemory-clause-refused : goal.returns-in-Err-OutOfMemory-clause-refused
returns-in-Err-OutOfMemory-clause-refused g c = given_back g.D.Disk.state c.args.keeper.now c.prepare.new.pass c.in-Err-OutOfMemory.ensures.refused

pub returns-in-Err-ArchiveFull-clause-refused : goal.returns-in-Err-ArchiveFull-clause-refused
returns-in-Err-ArchiveFull-clause-refused g c = given_back g.D.Disk.state c.args.keeper.now c.prepare.new.pass c.in-Err-ArchiveFull.ensures.refused

pub returns-in-Err-ArchiveFull-clause-full : goal.returns-in-Err-ArchiveFull-clause-full
returns-in-Err-ArchiveFull-clause-full g c = λ end need is.
    no_room g.D.Disk.state c.args.draft.now c.in-Err-ArchiveFull.end c.in-Err-ArchiveFull.need end need c.args.keeper.now c.prepare.new.pass c.args.namer.now _ c.in-Err-ArchiveFull.types c.in-Err-ArchiveFull.words _ _ (cc (is))
    c.notes-types.ensures.noted.0.noted_is c.notes-types.ensures.noted.1.noted_is
    (c.prepare.ensures.full c.in-Err-ArchiveFull.end c.in-Err-ArchiveFull.need c.in-Err-ArchiveFull.types c.in-Err-ArchiveFull.words (cc (c.in-Err-ArchiveFull.is, c.in-Err-ArchiveFull.field-0-is))) (learned c.notes-types.ensures.types.seen_is c.join.ensures.types.1) (learned c.notes-types.ensures.words.seen_is c.join.ensures.words.1)
  where
    learned : {x y n z : List (List ℕ)} → y ≡ x → HasLearned y n z → HasLearned x n z
    learned {x} {y} {n} {z} same has = subst (λ l. HasLearned l n z) same has

pub returns-in-Ok-commit-clause-turns : goal.returns-in-Ok-commit-clause-turns
returns-in-Ok-commit-clause-turns g c =
    let noted = c.notes-types.ensures in let turns = c.prepare.ensures.turns in
    one_turn c.args.namer.now _ c.notes-types.new.self.turns.types c.notes-types.new.self.turns.words noted.caches (λ i. (noted.turns i).types) (λ i. (noted.turns i).words) turns.0 turns.1

pub returns-in-Err-clause-turns : goal.returns-in-Err-clause-turns
returns-in-Err-clause-turns g c =
    let noted = c.notes-types.ensures in let turns = c.prepare.ensures.turns in
    one_turn c.args.namer.now _ c.notes-types.new.self.turns.types c.notes-types.new.self.turns.words noted.caches (λ i. (noted.turns i).types) (λ i. (noted.turns i).words) turns.0 turns.1

pub returns-in-Err-OutOfMemory-clause-turns : goal.returns-in-Err-OutOfMemory-clause-turns
returns-in-Err-OutOfMemory-clause-turns g c =
    let noted = c.notes-types.ensures in let turns = c.prepare.ensures.turns in
    one_turn c.args.namer.now _ c.notes-types.new.self.turns.types c.notes-types.new.self.turns.words noted.caches (λ i. (noted.turns i).types) (λ i. (noted.turns i).words) turns.0 turns.1

pub returns-in-Err-ArchiveFull-clause-turns : goal.returns-in-Err-ArchiveFull-clause-turns
returns-in-Err-ArchiveFull-clause-turns g c =
    let noted = c.notes-types.ensures in let turns = c.prepare.ensures.turns in let joined = c.join.ensures in
    one_turn c.args.namer.now c.join.new.self c.notes-types.new.self.turns.types c.notes-types.new.self.turns.words (joined.caches.0 ∙ noted.caches.0, joined.caches.1 ∙ noted.caches.1)
    (λ i. (noted.turns i).types) (λ i. (noted.turns i).words) ((λ i. (joined.turns i).types) ∙ turns.0) ((λ i. (joined.turns i).words) ∙ turns.1)
