use Rattle.command_words.proofs.SpellingLemmas.{any_by_minute, any_by_type, any_counted, any_decode, any_ingest, any_scan, any_search, any_show, any_watched, any_watched_all, any_watched_apart, no_apart, no_help, no_help_option, no_hyphen, no_key, no_missing, no_none, no_one_more, no_other_key, no_twice, no_watch_twice, only_check, only_create, only_list, only_merge, only_upgrade}
use Rattle.command_words.proofs.spelled.spellings.Goals as goal

pub returns-clause-words : goal.returns-clause-words
returns-clause-words c = record {
  show = any_show;
  scan = any_scan;
  ingest = any_ingest;
  watched = any_watched;
  watched_apart = any_watched_apart;
  watched_all = any_watched_all;
  search = any_search;
  counted = any_counted;
  by_type = any_by_type;
  by_minute = any_by_minute;
  decode = any_decode;
}

pub returns-clause-enough : goal.returns-clause-enough
returns-clause-enough c = record { files = only_list; check = only_check; merge = only_merge; upgrade = only_upgrade; create = only_create }

pub returns-clause-refused : goal.returns-clause-refused
returns-clause-refused c = record {
  none = no_none;
  help = no_help;
  help_option = no_help_option;
  hyphen = no_hyphen;
  apart = no_apart;
  twice = no_twice;
  watch_twice = no_watch_twice;
  missing = no_missing;
  no_key = no_key;
  other_key = no_other_key;
  one_more = no_one_more;
}
