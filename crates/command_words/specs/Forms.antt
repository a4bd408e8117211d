-- The program as `clap` is told it: its commands, with their options and words.
use Rattle.std.specs.Prelude.{List, [], ◌∷◌, Some, true, false, codes}
use Rattle.clap.specs.Lexer.{usize_max}
use Rattle.clap.specs.Walk.{Rule, Text}
use Rattle.clap.specs.Simple.{App, Shape, new_rule, new_shape}
use Rattle.clap.specs.declared.builder.action.ArgAction.TheVariants.{SetTrue}

-- a word that stands there once
abbrev pub word : Text → Rule
word name = record (new_rule name) { required = true }

-- one word or more
abbrev pub several : Text → Rule
several name = record (word name) {
  range = Some (record { start_inclusive = 1; end_inclusive = usize_max });
}

-- `--name value` or `--name=value`
abbrev pub option : Text → Rule
option name = record (new_rule name) { long = Some name }

-- an option that has to be there
abbrev pub needed : Text → Rule
needed name = record (option name) { required = true }

-- `--name`
abbrev pub flag : Text → Rule
flag name = record (option name) { action = Some SetTrue }

abbrev pub command : Text → List Rule → Shape
command name rules = record (new_shape name) { rules = rules }

abbrev pub show : Shape
show = command (codes "show") (word (codes "file") ∷ [])

abbrev pub scan : Shape
scan = command (codes "scan") (word (codes "pattern") ∷ word (codes "file") ∷ [])

abbrev pub create : Shape
create = command (codes "create")
    (option (codes "format") ∷ option (codes "types")
    ∷ option (codes "words") ∷ option (codes "bytes") ∷ [])

abbrev pub ingest : Shape
ingest = command (codes "ingest")
    (option (codes "workers") ∷ option (codes "segment") ∷ option (codes "watch")
    ∷ several (codes "file") ∷ [])

abbrev pub files : Shape
files = command (codes "files") []

abbrev pub check : Shape
check = command (codes "check") []

abbrev pub decode : Shape
decode = command (codes "decode") (word (codes "number") ∷ [])

abbrev pub search : Shape
search = command (codes "search")
    (option (codes "from") ∷ option (codes "to") ∷ flag (codes "stats")
    ∷ option (codes "workers") ∷ word (codes "pattern") ∷ [])

abbrev pub count : Shape
count = command (codes "count")
    (needed (codes "by") ∷ option (codes "from") ∷ option (codes "to")
    ∷ flag (codes "stats") ∷ option (codes "workers") ∷ word (codes "pattern") ∷ [])

abbrev pub merge : Shape
merge = command (codes "merge") []

abbrev pub upgrade : Shape
upgrade = command (codes "upgrade") []

abbrev pub bench : Shape
bench = command (codes "bench")
    (word (codes "number") ∷ word (codes "lines") ∷ word (codes "workers") ∷ [])

-- the program without its commands: its first word is the command, and it has no help
abbrev pub top : Shape
top = record (new_shape (codes "clpa")) {
  no_binary_name = true;
  disable_help_flag = true;
  disable_help_subcommand = true;
  subcommand_required = true;
}

abbrev pub clpa : App
clpa = record {
  top = record top { is_leaf = false };
  subs = show ∷ scan ∷ create ∷ ingest ∷ files ∷ check ∷ decode ∷ search ∷ count ∷ merge ∷ upgrade ∷ bench ∷ [];
}
