-- The lines that tell of files: a number, how many messages there are, whether these are all, and the name.
use Rattle.std.specs.Prelude.{◌+◌, ℕ, List, [], ◌∷◌, ◌++◌, map, Bool, codes, if◌then◌else◌}
use Rattle.std.specs.Fmt.{decimal}
use Rattle.archive_open.specs.declared.files.FileEntry.{FileEntry}

-- a file as the directory tells it: its name, how many messages the archive has of it, and whether these are all
pub record FileLine : Type 0 where
  pub name : List ℕ
  pub messages : ℕ
  pub whole : Bool

abbrev pub line_of_file : FileEntry → FileLine
line_of_file file = record { name = file.name; messages = file.messages; whole = file.whole }

-- the number of a file, how many messages the archive has of it, whether these are all, and its name
abbrev pub directory_line : ℕ → FileLine → List ℕ
directory_line number file =
    decimal number ++ (32 ∷ (decimal file.messages
    ++ ((if file.whole then codes " whole " else codes " part ") ++ (file.name ++ 10 ∷ []))))

-- the lines of files that are numbered on from this number
abbrev pub directory_from : ℕ → List FileLine → List ℕ
directory_from number [] = []
directory_from number (file ∷ files) = directory_line number file ++ directory_from (number + 1) files

abbrev pub directory : List FileEntry → List ℕ
directory files = directory_from 0 (map line_of_file files)
