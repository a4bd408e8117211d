-- How words are spelled, for every text and every number.
use Rattle.std.specs.Prelude.{◌≤◌, ℕ, List, [], ◌∷◌, Some, None, codes, true, false}
use Rattle.std.specs.Fmt.{decimal}
use Rattle.clap.specs.Walk.{Text}
use Rattle.command_words.specs.Asked.{Asked, Asks, to_check, to_count, to_create, to_decode}
use Rattle.command_words.specs.Asked.{to_ingest, to_list, to_merge, to_scan, to_search, to_show, to_upgrade}
use Rattle.command_words.specs.declared.command.CountKey.TheVariants.{LogType, Minute}

-- behind `--` each text is a word
pub record AreWords : Type 0 where
  pub show : (file : Text) → Asks (codes "show" ∷ codes "--" ∷ file ∷ []) (to_show file)
  pub scan : (pattern file : Text)
      → Asks (codes "scan" ∷ codes "--" ∷ pattern ∷ file ∷ []) (to_scan pattern file)
  pub ingest : (one other : Text)
      → Asks (codes "ingest" ∷ codes "--" ∷ one ∷ other ∷ [])
      (to_ingest 1 65536 None (one ∷ other ∷ []))
  pub watched : (file : Text)
      → Asks (codes "ingest" ∷ codes "--watch=a*b" ∷ codes "--" ∷ file ∷ [])
      (to_ingest 1 65536 (Some (codes "a*b")) (file ∷ []))
  pub watched_apart : (file : Text)
      → Asks (codes "ingest" ∷ codes "--watch" ∷ codes "a*b" ∷ codes "--" ∷ file ∷ [])
      (to_ingest 1 65536 (Some (codes "a*b")) (file ∷ []))
  pub watched_all : (file : Text)
      → Asks (codes "ingest" ∷ codes "--watch=" ∷ codes "--" ∷ file ∷ [])
      (to_ingest 1 65536 (Some []) (file ∷ []))
  pub search : (pattern : Text)
      → Asks (codes "search" ∷ codes "--" ∷ pattern ∷ []) (to_search None None false 1 pattern)
  pub counted : (pattern : Text)
      → Asks (codes "search" ∷ codes "--stats" ∷ codes "--" ∷ pattern ∷ [])
      (to_search None None true 1 pattern)
  pub by_type : (pattern : Text)
      → Asks (codes "count" ∷ codes "--by=type" ∷ codes "--" ∷ pattern ∷ [])
      (to_count LogType None None false 1 pattern)
  pub by_minute : (pattern : Text)
      → Asks (codes "count" ∷ codes "--by" ∷ codes "minute" ∷ codes "--" ∷ pattern ∷ [])
      (to_count Minute None None false 1 pattern)
  pub decode : (n : ℕ) → n ≤ 4294967295
      → Asks (codes "decode" ∷ codes "--" ∷ decimal n ∷ []) (to_decode n)

-- words that need no more
pub record AreEnough : Type 0 where
  pub files : Asks (codes "files" ∷ []) to_list
  pub check : Asks (codes "check" ∷ []) to_check
  pub merge : Asks (codes "merge" ∷ []) to_merge
  pub upgrade : Asks (codes "upgrade" ∷ []) to_upgrade
  pub create : Asks (codes "create" ∷ []) (to_create (record {
    version = 1;
    types_limit = 16777216;
    words_limit = 2147483648;
    length_limit = 1099511627776;
  }))

abbrev pub AskNothing : List Text → Type 0
AskNothing words = (asked : Asked) → ¬ Asks words asked

-- words that ask for nothing
pub record AreRefused : Type 0 where
  pub none : AskNothing []
  pub help : AskNothing (codes "help" ∷ [])
  pub help_option : AskNothing (codes "--help" ∷ [])
  pub hyphen : AskNothing (codes "search" ∷ codes "-x" ∷ [])
  pub apart : AskNothing (codes "search" ∷ codes "--from" ∷ codes "-5" ∷ codes "x" ∷ [])
  pub twice : AskNothing (codes "search" ∷ codes "--stats" ∷ codes "--stats" ∷ codes "x" ∷ [])
  pub watch_twice : AskNothing
      (codes "ingest" ∷ codes "--watch=a" ∷ codes "--watch=b" ∷ codes "x" ∷ [])
  pub missing : AskNothing (codes "scan" ∷ codes "x" ∷ [])
  pub no_key : AskNothing (codes "count" ∷ codes "x" ∷ [])
  pub other_key : AskNothing (codes "count" ∷ codes "--by=hour" ∷ codes "x" ∷ [])
  pub one_more : AskNothing (codes "files" ∷ codes "x" ∷ [])
