-- What a shelf in memory tells.
use Rattle.std.specs.Prelude.{◌≡◌, ℕ, ◌+◌, List, [], ◌∷◌, Option, Some, IfSome, find, is_some, option_map, if◌then◌else◌}
use Rattle.std.specs.Str.{bytes_eq}
use Rattle.std.specs.String.{string_bytes}
use Rattle.log_seams.specs.Memory.{CallState, ClosedState, NamedState}
use Rattle.log_seams.specs.declared.mem_shelf.MemFile.{MemFile}

-- the first of the files that has this name
abbrev pub file_of : List MemFile → List ℕ → Option MemFile
file_of files name = find (λ f. bytes_eq (string_bytes f.name) name) files

-- a shelf in memory: its files, its calls, how often a name was asked for that it does not have, the names of its files
-- that it failed to open, and the logs that were closed, the newest first
pub record ShelfState : Type 0 where
  pub files : List MemFile
  pub calls : CallState
  pub absent : ℕ
  pub refused : List (List ℕ)
  pub closed : List ClosedState

-- the bytes of the first file of this name
abbrev pub shelf_content : ShelfState → List ℕ → Option (List ℕ)
shelf_content s name = option_map (λ f. f.bytes) (file_of s.files name)

-- how often a name stands in a list
abbrev pub times : List ℕ → List (List ℕ) → ℕ
times name [] = 0
times name (n ∷ names) = times name names + (if bytes_eq n name then 1 else 0)

-- the names that it does not have share one count
abbrev pub shelf_open_faults : ShelfState → List ℕ → ℕ
shelf_open_faults s name = if is_some (file_of s.files name) then times name s.refused else s.absent

-- how often the logs of this name have failed
abbrev pub faults_in : List ClosedState → List ℕ → ℕ
faults_in [] name = 0
faults_in (c ∷ closed) name = faults_in closed name + (if bytes_eq c.name name then c.faults else 0)

abbrev pub shelf_read_faults : ShelfState → List ℕ → ℕ
shelf_read_faults s name = faults_in s.closed name

-- what was left of the log of this name that was closed last
abbrev pub shelf_unread : ShelfState → List ℕ → Option (List ℕ)
shelf_unread s name = option_map (λ c. c.left) (find (λ c. bytes_eq c.name name) s.closed)

-- A log of this file's bytes under this name, of which nothing was read, and of whose reads those of the file's numbers fail.
pub record IsOpened (file : Option MemFile) (name : List ℕ) (s : NamedState) : Type 0 where
  pub left : Some s.log.left ≡ option_map (λ f. f.bytes) file
  pub named : s.name ≡ name
  pub faults : s.log.faults ≡ 0
  pub made : s.log.calls.made ≡ 0
  pub fails : IfSome file (λ f. s.log.calls.fails ≡ f.read_fails.items)
