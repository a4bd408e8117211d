use Rattle.std.proofs.Common.{◌≡◌, List, Option, ℤ, ◌++◌, take}
use Rattle.group_count.specs.Tables.{AreMinutes, minutes_at}
use Rattle.group_count.proofs.minutes.MinuteTable.count_stamps.Given as goal

abbrev pub invariant-loop-place : goal.invariant-loop-place
invariant-loop-place l =
    (l.self.micro ≡ l.fn.self.micro)
    × ((keys : List (Option ℤ)) → AreMinutes l.fn.self keys → AreMinutes l.self (keys ++ take l.place (minutes_at l.fn.self.micro l.patterns l.moments)))
