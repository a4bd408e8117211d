-- The ranges that a disk in memory tells: those that it read, and those of the parts that came back.
use Rattle.std.specs.Prelude.{ℕ, ◌-◌, List, ◌++◌, length, take, drop}
use Rattle.log_seams.specs.Replay.{Event, reads_of}
use Rattle.log_seams.specs.declared.returned.Returned.{Returned, Nothing, Part'}

-- the ranges in the order in which the disk tells them, where these are its events, the newest first: those of a part stand
-- behind what was read before it came back
abbrev pub ranges_told : List Event → Returned → List (ℕ × ℕ)
ranges_told events Nothing = reads_of events
ranges_told events (Part' calls ranges p before) =
    ranges_told (drop (length events - calls) events) before ++ ranges.items ++ reads_of (take (length events - calls) events)

-- how many calls the disk had when the newest part came back
abbrev pub came_after : Returned → ℕ
came_after Nothing = 0
came_after (Part' calls ranges p before) = calls
