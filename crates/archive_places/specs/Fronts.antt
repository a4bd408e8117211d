-- Segments by the fixed parts of their heads.
use Rattle.std.specs.Prelude.{◌+◌, ◌*◌, ◌^◌, ℕ, length}
use Rattle.segment_format.specs.declared.fixed.Fixed.{Fixed}
use Rattle.archive_open.specs.declared.segments.SegmentPlace.{SegmentPlace}
use Rattle.archive_places.specs.declared.front.SegmentFront.{SegmentFront}

-- what a segment's place says without the two lists of its head
abbrev pub front_of_place : SegmentPlace → SegmentFront
front_of_place p = record {
  at = p.at;
  payload = p.payload;
  length = p.length;
  file = p.head.file;
  first = p.head.first;
  rows = p.head.rows;
  last = p.head.last;
  ended = p.head.ended;
  stamped = p.head.stamped;
  least = p.head.least;
  greatest = p.head.greatest;
  types = length p.head.types;
  words = length p.head.words;
  variables = p.head.variables;
}

-- the fixed part of a head
abbrev pub fixed_in : SegmentFront → Fixed
fixed_in f = record {
  file = f.file;
  first = f.first;
  rows = f.rows;
  last = f.last;
  ended = f.ended;
  stamped = f.stamped;
  least = f.least;
  greatest = f.greatest;
  types = f.types;
  words = f.words;
  variables = f.variables;
}

-- by file, and then by first message
abbrev pub order_of_front : SegmentFront → ℕ
order_of_front f = f.file * 2 ^ 64 + f.first
