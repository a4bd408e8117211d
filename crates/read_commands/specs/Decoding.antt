-- Why the bytes of a file are not printed where decoding was refused.
use Rattle.std.specs.Prelude.{ℕ}
use Rattle.archive_text.specs.declared.refusal.DecodeRefusal.{DecodeRefusal}
use Rattle.command_refusals.specs.declared.outcome.FileRefusal.{FileRefusal}

-- in an archive that is told as damaged at this place
abbrev pub from_decode : ℕ → DecodeRefusal → FileRefusal
from_decode at DecodeRefusal.DiskFault = FileRefusal.DiskFault
from_decode at DecodeRefusal.Damaged = FileRefusal.Damaged at
from_decode at DecodeRefusal.SinkFault = FileRefusal.SinkFault
from_decode at DecodeRefusal.OutOfMemory = FileRefusal.OutOfMemory
