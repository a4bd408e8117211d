-- Heads without their lists of words.
use Rattle.std.specs.Prelude.{ℕ, List, [], ◌++◌}
use Rattle.std.specs.List.{flat_map}
use Rattle.record_format.specs.Lists.{four_bytes}
use Rattle.segment_format.specs.declared.head.Head.{Head}
use Rattle.segment_format.specs.Layout.{fixed_bytes, fixed_of}
use Rattle.archive_open.specs.declared.segments.SegmentPlace.{SegmentPlace}

-- the same place, whose head lists no words
abbrev pub without_words : SegmentPlace → SegmentPlace
without_words p = record p { head = record p.head { words = [] } }

-- the bytes of a head up to its list of words
abbrev pub types_bytes : Head → List ℕ
types_bytes h = fixed_bytes (fixed_of h) ++ flat_map four_bytes h.types
