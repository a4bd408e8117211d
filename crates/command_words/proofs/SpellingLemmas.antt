-- How words are spelled, by computing what `clap` makes of them.
use Rattle.std.proofs.Common.{◌≡◌, ◌≤◌, ◌∙◌, ℕ, List, [], ◌∷◌, Option, Some, None, true, false, refl, sym, ap, subst, codes, arith}
use Rattle.std.specs.Fmt.{decimal}
use Rattle.std.specs.Cmp.Lexicographic.{other_text}
use Rattle.clap.specs.Kinds.{Kinds}
use Rattle.clap.specs.Walk.{Row, Text, first_of}
use Rattle.clap.specs.Simple.{subcommand_of}
use Rattle.clap.specs.Faults.{fault_of}
use Rattle.clap.specs.declared.builder.value_parser.Reading.TheVariants.{AsWritten}
use Rattle.clap.specs.declared.parser.matches.ValueSource.TheVariants.{CommandLine, DefaultValue}
use Rattle.clap.proofs.OnLiterals.{clap_on_literals}
use Rattle.command_words.specs.Forms.{clpa}
use Rattle.command_words.specs.Asked.{Asked, Asks, Gives, name_of, to_check, to_count, to_create, to_decode, to_ingest, to_list, to_merge, to_scan, to_search, to_show, to_upgrade}
use Rattle.command_words.specs.Spellings.{AskNothing}
use Rattle.command_words.specs.Values.{key_word}
use Rattle.command_words.specs.declared.command.CountKey.{CountKey}
use Rattle.command_words.specs.declared.command.CountKey.TheVariants.{LogType, Minute}
use Rattle.command_words.proofs.NameLemmas.{only_count}

abbrev row : Text → List Text → Row
row id values = record { id = id; values = values; count = None; source = Some CommandLine; reading = AsWritten }

abbrev not_counted : Row
not_counted = record { id = codes "stats"; values = codes "false" ∷ []; count = None; source = Some DefaultValue; reading = AsWritten }

pub any_show : (file : Text) → Asks (codes "show" ∷ codes "--" ∷ file ∷ []) (to_show file)
unfolding clap_on_literals
any_show file = record { rows = row (codes "file") (file ∷ []) ∷ []; good = refl; found = refl; given = refl }

pub any_scan : (pattern file : Text) → Asks (codes "scan" ∷ codes "--" ∷ pattern ∷ file ∷ []) (to_scan pattern file)
unfolding clap_on_literals
any_scan pattern file = record {
  rows = row (codes "pattern") (pattern ∷ []) ∷ row (codes "file") (file ∷ []) ∷ [];
  good = refl;
  found = refl;
  given = (refl, refl);
}

pub any_ingest : (one other : Text) → Asks (codes "ingest" ∷ codes "--" ∷ one ∷ other ∷ []) (to_ingest 1 65536 None (one ∷ other ∷ []))
unfolding clap_on_literals
any_ingest one other = record {
  rows = row (codes "file") (one ∷ other ∷ []) ∷ [];
  good = refl;
  found = refl;
  given = record { workers_are = refl; segment_is = refl; watch_is = refl; files_are = refl };
}

pub any_watched : (file : Text) → Asks (codes "ingest" ∷ codes "--watch=a*b" ∷ codes "--" ∷ file ∷ []) (to_ingest 1 65536 (Some (codes "a*b")) (file ∷ []))
unfolding clap_on_literals
any_watched file = record {
  rows = row (codes "watch") (codes "a*b" ∷ []) ∷ row (codes "file") (file ∷ []) ∷ [];
  good = refl;
  found = refl;
  given = record { workers_are = refl; segment_is = refl; watch_is = refl; files_are = refl };
}

pub any_watched_apart : (file : Text) → Asks (codes "ingest" ∷ codes "--watch" ∷ codes "a*b" ∷ codes "--" ∷ file ∷ []) (to_ingest 1 65536 (Some (codes "a*b")) (file ∷ []))
unfolding clap_on_literals
any_watched_apart file = record {
  rows = row (codes "watch") (codes "a*b" ∷ []) ∷ row (codes "file") (file ∷ []) ∷ [];
  good = refl;
  found = refl;
  given = record { workers_are = refl; segment_is = refl; watch_is = refl; files_are = refl };
}

pub any_watched_all : (file : Text) → Asks (codes "ingest" ∷ codes "--watch=" ∷ codes "--" ∷ file ∷ []) (to_ingest 1 65536 (Some []) (file ∷ []))
unfolding clap_on_literals
any_watched_all file = record {
  rows = row (codes "watch") ([] ∷ []) ∷ row (codes "file") (file ∷ []) ∷ [];
  good = refl;
  found = refl;
  given = record { workers_are = refl; segment_is = refl; watch_is = refl; files_are = refl };
}

pub any_search : (pattern : Text) → Asks (codes "search" ∷ codes "--" ∷ pattern ∷ []) (to_search None None false 1 pattern)
unfolding clap_on_literals
any_search pattern = record {
  rows = row (codes "pattern") (pattern ∷ []) ∷ not_counted ∷ [];
  good = refl;
  found = refl;
  given = record {
    from_is = refl;
    to_is = refl;
    stats_are = (λ h. absurd (cc (h)), λ h. absurd (other_text (codes "false") (codes "true") refl (cc (h))));
    workers_are = refl;
    pattern_is = refl;
  };
}

pub any_counted : (pattern : Text) → Asks (codes "search" ∷ codes "--stats" ∷ codes "--" ∷ pattern ∷ []) (to_search None None true 1 pattern)
unfolding clap_on_literals
any_counted pattern = record {
  rows = row (codes "stats") (codes "true" ∷ []) ∷ row (codes "pattern") (pattern ∷ []) ∷ [];
  good = refl;
  found = refl;
  given = record { from_is = refl; to_is = refl; stats_are = (λ h. refl, λ h. refl); workers_are = refl; pattern_is = refl };
}

pub any_by_type : (pattern : Text) → Asks (codes "count" ∷ codes "--by=type" ∷ codes "--" ∷ pattern ∷ []) (to_count LogType None None false 1 pattern)
unfolding clap_on_literals
any_by_type pattern = record {
  rows = row (codes "by") (codes "type" ∷ []) ∷ row (codes "pattern") (pattern ∷ []) ∷ not_counted ∷ [];
  good = refl;
  found = refl;
  given = record {
    by_is = refl;
    from_is = refl;
    to_is = refl;
    stats_are = (λ h. absurd (cc (h)), λ h. absurd (other_text (codes "false") (codes "true") refl (cc (h))));
    workers_are = refl;
    pattern_is = refl;
  };
}

pub any_by_minute : (pattern : Text) → Asks (codes "count" ∷ codes "--by" ∷ codes "minute" ∷ codes "--" ∷ pattern ∷ []) (to_count Minute None None false 1 pattern)
unfolding clap_on_literals
any_by_minute pattern = record {
  rows = row (codes "by") (codes "minute" ∷ []) ∷ row (codes "pattern") (pattern ∷ []) ∷ not_counted ∷ [];
  good = refl;
  found = refl;
  given = record {
    by_is = refl;
    from_is = refl;
    to_is = refl;
    stats_are = (λ h. absurd (cc (h)), λ h. absurd (other_text (codes "false") (codes "true") refl (cc (h))));
    workers_are = refl;
    pattern_is = refl;
  };
}

pub any_decode : (n : ℕ) → n ≤ 4294967295 → Asks (codes "decode" ∷ codes "--" ∷ decimal n ∷ []) (to_decode n)
unfolding clap_on_literals
any_decode n most = record {
  rows = row (codes "number") (decimal n ∷ []) ∷ [];
  good = refl;
  found = refl;
  given = record { written = refl; low = omega arith; high = most };
}

pub only_list : Asks (codes "files" ∷ []) to_list
unfolding clap_on_literals
only_list = record { rows = []; good = refl; found = refl; given = tt }

pub only_check : Asks (codes "check" ∷ []) to_check
unfolding clap_on_literals
only_check = record { rows = []; good = refl; found = refl; given = tt }

pub only_merge : Asks (codes "merge" ∷ []) to_merge
unfolding clap_on_literals
only_merge = record { rows = []; good = refl; found = refl; given = tt }

pub only_upgrade : Asks (codes "upgrade" ∷ []) to_upgrade
unfolding clap_on_literals
only_upgrade = record { rows = []; good = refl; found = refl; given = tt }

pub only_create : Asks (codes "create" ∷ []) (to_create (record { version = 1; types_limit = 16777216; words_limit = 2147483648; length_limit = 1099511627776 }))
unfolding clap_on_literals
only_create = record { rows = []; good = refl; found = refl; given = record { version = refl; types = refl; words = refl; bytes = refl } }

-- a fault
faulty : (ks : Kinds) (words : List Text) → fault_of clpa words ≡ ks → (ks ≡ [] → ⊥) → AskNothing words
faulty ks words is some = λ asked asks. some (cc (is, asks.good))

pub no_none : AskNothing []
unfolding clap_on_literals
no_none = faulty _ [] refl (λ e. cc (e))

pub no_help : AskNothing (codes "help" ∷ [])
unfolding clap_on_literals
no_help = faulty _ (codes "help" ∷ []) refl (λ e. cc (e))

pub no_help_option : AskNothing (codes "--help" ∷ [])
unfolding clap_on_literals
no_help_option = faulty _ (codes "--help" ∷ []) refl (λ e. cc (e))

pub no_hyphen : AskNothing (codes "search" ∷ codes "-x" ∷ [])
unfolding clap_on_literals
no_hyphen = faulty _ (codes "search" ∷ codes "-x" ∷ []) refl (λ e. cc (e))

pub no_apart : AskNothing (codes "search" ∷ codes "--from" ∷ codes "-5" ∷ codes "x" ∷ [])
unfolding clap_on_literals
no_apart = faulty _ (codes "search" ∷ codes "--from" ∷ codes "-5" ∷ codes "x" ∷ []) refl (λ e. cc (e))

pub no_twice : AskNothing (codes "search" ∷ codes "--stats" ∷ codes "--stats" ∷ codes "x" ∷ [])
unfolding clap_on_literals
no_twice = faulty _ (codes "search" ∷ codes "--stats" ∷ codes "--stats" ∷ codes "x" ∷ []) refl (λ e. cc (e))

pub no_watch_twice : AskNothing (codes "ingest" ∷ codes "--watch=a" ∷ codes "--watch=b" ∷ codes "x" ∷ [])
unfolding clap_on_literals
no_watch_twice = faulty _ (codes "ingest" ∷ codes "--watch=a" ∷ codes "--watch=b" ∷ codes "x" ∷ []) refl (λ e. cc (e))

pub no_missing : AskNothing (codes "scan" ∷ codes "x" ∷ [])
unfolding clap_on_literals
no_missing = faulty _ (codes "scan" ∷ codes "x" ∷ []) refl (λ e. cc (e))

pub no_key : AskNothing (codes "count" ∷ codes "x" ∷ [])
unfolding clap_on_literals
no_key = faulty _ (codes "count" ∷ codes "x" ∷ []) refl (λ e. cc (e))

-- what is counted by is named by one of two words
not_hour : (key : CountKey) → Some (codes "hour") ≡ Some (key_word key) → ⊥
not_hour LogType e = other_text (codes "hour") (codes "type") refl (cc (e))
not_hour Minute e = other_text (codes "hour") (codes "minute") refl (cc (e))

-- the words of `count` with a key that is none give nothing
gives_no_key : (rows : List Row) → first_of (codes "by") rows ≡ Some (codes "hour") → (asked : Asked) → name_of asked ≡ codes "count" → Gives rows asked → ⊥
gives_no_key rows is asked named = only_count (λ a. Gives rows a → ⊥) (λ by from to stats workers pattern gives. not_hour by (sym is ∙ gives.by_is)) asked named

abbrev rows_or_none : Option (Text × List Row) → List Row
rows_or_none None = []
rows_or_none (Some p) = p.1

abbrev name_or_none : Option (Text × List Row) → Text
name_or_none None = []
name_or_none (Some p) = p.0

asks_no_key : (words : List Text) (rows : List Row) → subcommand_of clpa words ≡ Some (codes "count", rows) → first_of (codes "by") rows ≡ Some (codes "hour") → AskNothing words
asks_no_key words rows found is = λ asked asks.
    let same = sym found ∙ asks.found in
    gives_no_key rows is asked (sym (ap name_or_none same)) (subst (λ r. Gives r asked) (sym (ap rows_or_none same)) asks.given)

pub no_other_key : AskNothing (codes "count" ∷ codes "--by=hour" ∷ codes "x" ∷ [])
unfolding clap_on_literals
no_other_key = asks_no_key _ (row (codes "by") (codes "hour" ∷ []) ∷ row (codes "pattern") (codes "x" ∷ []) ∷ not_counted ∷ []) refl refl

pub no_one_more : AskNothing (codes "files" ∷ codes "x" ∷ [])
unfolding clap_on_literals
no_one_more = faulty _ (codes "files" ∷ codes "x" ∷ []) refl (λ e. cc (e))
