use Rattle.std.proofs.Common.{refl, ℕ, List, ◌++◌, ap, append_assoc}
use Rattle.std.specs.Prelude.{codes}
use Rattle.std.specs.Fmt.{decimal}
use Rattle.command_refusals.specs.Refusal.{line, line_of}
use Rattle.command_refusals.proofs.RefusalLemmas.{Says-same}
use Rattle.command_refusals.proofs.refusal.say_line.Goals as goal

pub returns-in-OpenFault-clause-said : goal.returns-in-OpenFault-clause-said
returns-in-OpenFault-clause-said g c = Says-same _ _ _ _ _ (line_of c.args.name.now c.args.refusal) (rw c.in-OpenFault.is refl) c.say-in-OpenFault.ensures.said

pub returns-in-ReadFault-clause-said : goal.returns-in-ReadFault-clause-said
returns-in-ReadFault-clause-said g c = Says-same _ _ _ _ _ (line_of c.args.name.now c.args.refusal) (rw c.in-ReadFault.is refl) c.say-in-ReadFault.ensures.said

pub returns-in-TooManyLines-clause-said : goal.returns-in-TooManyLines-clause-said
returns-in-TooManyLines-clause-said g c = Says-same _ _ _ _ _ (line_of c.args.name.now c.args.refusal) (rw c.in-TooManyLines.is refl) c.say-in-TooManyLines.ensures.said

pub returns-in-DiskFault-clause-said : goal.returns-in-DiskFault-clause-said
returns-in-DiskFault-clause-said g c = Says-same _ _ _ _ _ (line_of c.args.name.now c.args.refusal) (rw c.in-DiskFault.is refl) c.say-in-DiskFault.ensures.said

pub returns-in-SinkFault-clause-said : goal.returns-in-SinkFault-clause-said
returns-in-SinkFault-clause-said g c = Says-same _ _ _ _ _ (line_of c.args.name.now c.args.refusal) (rw c.in-SinkFault.is refl) c.say-in-SinkFault.ensures.said

pub returns-in-OutOfMemory-clause-said : goal.returns-in-OutOfMemory-clause-said
returns-in-OutOfMemory-clause-said g c = Says-same _ _ _ _ _ (line_of c.args.name.now c.args.refusal) (rw c.in-OutOfMemory.is refl) c.say-in-OutOfMemory.ensures.said

pub returns-in-LineTooLong-clause-said : goal.returns-in-LineTooLong-clause-said
returns-in-LineTooLong-clause-said g c =
    let told = decimal c.in-LineTooLong.line ++ line (codes " is too long") in
    Says-same _ _ _ _ _ (line_of c.args.name.now c.args.refusal) (rw c.in-LineTooLong.is (ap (λ (t : List ℕ). codes "clpa: " ++ t) (append_assoc c.args.name.now (codes ": line ") told))) c.say_number-in-LineTooLong.ensures.said

pub returns-in-BadPattern-clause-said : goal.returns-in-BadPattern-clause-said
returns-in-BadPattern-clause-said g c = Says-same _ _ _ _ _ (line_of c.args.name.now c.args.refusal) (rw c.in-BadPattern.is refl) c.say_number.ensures.said

pub returns-in-Damaged-clause-said : goal.returns-in-Damaged-clause-said
returns-in-Damaged-clause-said g c = Says-same _ _ _ _ _ (line_of c.args.name.now c.args.refusal) (rw c.in-Damaged.is refl) c.say_number-in-Damaged.ensures.said

pub returns-in-NotEmpty-clause-said : goal.returns-in-NotEmpty-clause-said
returns-in-NotEmpty-clause-said g c = Says-same _ _ _ _ _ (line_of c.args.name.now c.args.refusal) (rw c.in-NotEmpty.is refl) c.say_number-in-NotEmpty.ensures.said

pub returns-in-NameTooLong-clause-said : goal.returns-in-NameTooLong-clause-said
returns-in-NameTooLong-clause-said g c = Says-same _ _ _ _ _ (line_of c.args.name.now c.args.refusal) (rw c.in-NameTooLong.is refl) c.say_number-in-NameTooLong.ensures.said

pub returns-in-NoSuchFile-clause-said : goal.returns-in-NoSuchFile-clause-said
returns-in-NoSuchFile-clause-said g c = Says-same _ _ _ _ _ (line_of c.args.name.now c.args.refusal) (rw c.in-NoSuchFile.is refl) c.say_no_such_file.ensures.said

pub returns-in-TooManyFiles-clause-said : goal.returns-in-TooManyFiles-clause-said
returns-in-TooManyFiles-clause-said g c = Says-same _ _ _ _ _ (line_of c.args.name.now c.args.refusal) (rw c.in-TooManyFiles.is refl) c.say_too_many.ensures.said

pub returns-in-Full-clause-said : goal.returns-in-Full-clause-said
returns-in-Full-clause-said g c = Says-same _ _ _ _ _ (line_of c.args.name.now c.args.refusal) (rw c.in-Full.is refl) c.say_full.ensures.said

pub returns-in-ArchiveFull-clause-said : goal.returns-in-ArchiveFull-clause-said
returns-in-ArchiveFull-clause-said g c = Says-same _ _ _ _ _ (line_of c.args.name.now c.args.refusal) (rw c.in-ArchiveFull.is refl) c.say_archive_full.ensures.said

pub returns-in-SecondDamaged-clause-said : goal.returns-in-SecondDamaged-clause-said
returns-in-SecondDamaged-clause-said g c = Says-same _ _ _ _ _ (line_of c.args.name.now c.args.refusal) (rw c.in-SecondDamaged.is refl) c.say_number-in-SecondDamaged.ensures.said

pub returns-in-VersionDiffers-clause-said : goal.returns-in-VersionDiffers-clause-said
returns-in-VersionDiffers-clause-said g c = Says-same _ _ _ _ _ (line_of c.args.name.now c.args.refusal) (rw c.in-VersionDiffers.is refl) c.say_versions.ensures.said

pub returns-in-AlreadyNewest-clause-said : goal.returns-in-AlreadyNewest-clause-said
returns-in-AlreadyNewest-clause-said g c = Says-same _ _ _ _ _ (line_of c.args.name.now c.args.refusal) (rw c.in-AlreadyNewest.is refl) c.say_newest.ensures.said
