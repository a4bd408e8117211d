-- A disk that tells its bytes only where they were those of a known archive.
use Rattle.std.proofs.Common.{◌≡◌, refl, subst, ℕ, Bool, true, false, List, Option, None, Some}
use Rattle.std.specs.Prelude.{IfSome, IsTrue, is_some}
use Rattle.std.proofs.lemmas.Slice.Eq.{bytes_eq-Decides}
use Rattle.log_seams.specs.Disk.{DiskState}
use Rattle.archive_meaning.specs.Stands.{StandsFor}
use Rattle.command_refusals.specs.Reading.{IsArchive}
use Rattle.command_answers.specs.Known.{KnownArchive, are_of, seen_if, told_if}

-- where the bytes are those of a known archive, they are an archive
pub are_archive : (known : Option KnownArchive) (told : Option (List ℕ)) → IsTrue (are_of known told) → IfSome told IsArchive
are_archive None None are = tt
are_archive None (Some bytes) are = absurd (cc (are))
are_archive (Some a) None are = tt
are_archive (Some a) (Some bytes) are =
    let same : a.bytes ≡ bytes = (bytes_eq-Decides a.bytes bytes).0 are in
    record { h = a.header; es = a.entries; stands = subst (λ b. StandsFor b a.header a.entries) same a.stands }

archive_if : (tells : Bool) (told : Option (List ℕ)) → (IsTrue tells → IfSome told IsArchive) → IfSome (seen_if tells told) IsArchive
archive_if true told archive = archive refl
archive_if false told archive = tt

pub told_archive : (tells : Bool) (d : DiskState) → (IsTrue tells → IfSome d.seen IsArchive) → IfSome (told_if tells d).seen IsArchive
told_archive tells d archive = archive_if tells d.seen archive

pub tells_alike : (tells : Bool) (old new : DiskState) → is_some new.seen ≡ is_some old.seen → is_some (told_if tells new).seen ≡ is_some (told_if tells old).seen
tells_alike true old new alike = alike
tells_alike false old new alike = refl
