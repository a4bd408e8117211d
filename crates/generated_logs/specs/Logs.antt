-- The logs that are made from a number.
use Rattle.std.specs.Prelude.{ℕ, zero, suc, ◌+◌, ◌*◌, ◌/◌, ◌%◌, ◌==◌, List, [], ◌∷◌, ◌++◌}
use Rattle.std.specs.Prelude.{Option, Some, None, codes, option_map, if◌then◌else◌}
use Rattle.std.specs.Fmt.{decimal}
use Rattle.std.specs.List.{flat_map}
use Rattle.std.specs.Str.{bytes_eq}

-- the number of the task of line i of log f
abbrev pub task_of : ℕ → ℕ → ℕ → ℕ
task_of number f i = (number + 7 * i + 13 * f) % 1000

-- two and three digits, zeros before
abbrev pub two_digits : ℕ → List ℕ
two_digits n = (48 + n / 10) ∷ (48 + n % 10) ∷ []

abbrev pub three_digits : ℕ → List ℕ
three_digits n = (48 + n / 100) ∷ two_digits (n % 100)

-- The time of line i: ten milliseconds more for each line, from 2023-11-14 22:13:20 on. This is so many seconds after the
-- start of that day. The last of a million lines is of the next one.
abbrev pub seconds_at : ℕ → ℕ
seconds_at i = 80000 + i / 100

abbrev pub stamp_of_seconds : ℕ → List ℕ
stamp_of_seconds s =
    codes "2023-11-" ++ (two_digits (14 + s / 86400) ++ (codes " " ++ (two_digits (s % 86400 / 3600)
    ++ (codes ":" ++ (two_digits (s % 3600 / 60) ++ (codes ":" ++ two_digits (s % 60)))))))

abbrev pub stamp_at : ℕ → List ℕ
stamp_at i = stamp_of_seconds (seconds_at i) ++ (codes "," ++ three_digits (i % 100 * 10))

-- the level of the line of a task
abbrev pub level_of : ℕ → List ℕ
level_of task = if task % 10 == 3 then codes "WARN" else codes "INFO"

-- the words of a line: who does the task, and how long it took
abbrev pub worker_words : ℕ → ℕ → List ℕ
worker_words f task = codes " " ++ (level_of task ++ (codes " worker_" ++ (decimal f ++ (codes " task_" ++ decimal task))))

abbrev pub time_words : ℕ → ℕ → List ℕ
time_words i task = codes " took " ++ (decimal (i % 60) ++ (codes "." ++ (decimal (task % 10) ++ codes " s\n")))

-- line i of log f, by its task, with its newline
abbrev pub line_with : ℕ → ℕ → ℕ → List ℕ
line_with f i task = stamp_at i ++ (worker_words f task ++ time_words i task)

abbrev pub line_of : ℕ → ℕ → ℕ → List ℕ
line_of number f i = line_with f i (task_of number f i)

-- so many numbers from a first one on
abbrev pub count_from : ℕ → ℕ → List ℕ
count_from first zero = []
count_from first (suc more) = first ∷ count_from (first + 1) more

-- so many lines of log f, from line i on
abbrev pub lines_from : ℕ → ℕ → ℕ → ℕ → List ℕ
lines_from number f i count = flat_map (line_of number f) (count_from i count)

-- log f: its lines one after the other
abbrev pub log_of : ℕ → ℕ → ℕ → List ℕ
log_of number lines f = lines_from number f 1 lines

-- the name of log f, whose number has one digit
abbrev pub name_of : ℕ → List ℕ
name_of f = codes "gen" ++ (48 + f) ∷ []

-- which of the four logs has this name
abbrev pub log_named : List ℕ → Option ℕ
log_named name =
    if bytes_eq name (codes "gen0") then Some 0 else
    if bytes_eq name (codes "gen1") then Some 1 else
    if bytes_eq name (codes "gen2") then Some 2 else
    if bytes_eq name (codes "gen3") then Some 3 else None

-- the bytes of the log of this name
abbrev pub content_of : ℕ → ℕ → List ℕ → Option (List ℕ)
content_of number lines name = option_map (log_of number lines) (log_named name)
