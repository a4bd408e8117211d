-- The segments of a file.
use Rattle.std.specs.Prelude.{◌==◌, ℕ, Bool}
use Rattle.archive_open.specs.declared.segments.SegmentPlace.{SegmentPlace}

-- the segment is one of the file of a number
abbrev pub is_of : ℕ → SegmentPlace → Bool
is_of number place = place.head.file == number
