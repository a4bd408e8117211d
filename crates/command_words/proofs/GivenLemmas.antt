-- Words without a fault, whose values are good, ask for something.
use Rattle.std.proofs.Common.{arith, ◌≡◌, ◌∙◌, ℕ, ℤ, Bool, cond, true, false, not, ◌&&◌, ◌||◌, refl, sym, ap, subst, List, [], ◌∷◌, Option, Some, None, is_some, codes, option_map, ◌↔◌, IsTrue}
use Rattle.std.specs.List.{find, list_any}
use Rattle.std.specs.Option.{option_map_or}
use Rattle.std.specs.Prelude.{option_and_then, slice_get}
use Rattle.std.specs.Str.{bytes_eq}
use Rattle.std.specs.Cmp.Lexicographic.{other_text, same_text}
use Rattle.clap.specs.Facts.{explicit_source}
use Rattle.clap.specs.Kinds.{check_kinds, or_else}
use Rattle.clap.specs.Takes.{is_given}
use Rattle.clap.specs.Walk.{Row, Text, all_of, answers_to, first_of, finished, nothing_held, rows_after, settled, stop_after, walk, walk_from}
use Rattle.clap.specs.Simple.{App, Shape, built, built_leaf, entered, inherited, label_of, marked_built, names_of, rows_at, subcommand_of, with_leaf_noted}
use Rattle.clap.specs.Faults.{check_fault, defaults_fault, entered_fault, fault_of, level_fault, settle_fault, walk_fault}
use Rattle.command_words.specs.Forms as forms
use Rattle.command_words.specs.Forms.{clpa}
use Rattle.command_words.specs.Values.{IsGood, IsGoodKey, IsGoodMoment, IsKeyIn, IsMomentIn, IsNumberIn, IsNumberOr, IsWithin}
use Rattle.command_words.specs.Asked.{AreGood, Asked, Asks, Gives, HaveGoodValues, IsFound, IsInRange, name_of, to_bench, to_check, to_count, to_create, to_decode, to_ingest, to_list, to_merge, to_scan, to_search, to_show, to_upgrade}
use Rattle.command_words.specs.declared.command.CountKey.{CountKey}
use Rattle.command_words.proofs.RowLemmas.{AllFull, Full, first_none, level_full, second_none}

-- ---- values

abbrev HasValue : Text → List Row → Type 0
HasValue id rows = (text : Text) × (first_of id rows ≡ Some text)

abbrev HasValues : Text → List Row → Type 0
HasValues id rows = (texts : List Text) × (all_of id rows ≡ Some texts)

abbrev IfFull : Option Row → Type 0
IfFull None = Unit {0}
IfFull (Some r) = Full r.values

found_full : (p : Row → Bool) (rows : List Row) → AllFull rows → IfFull (find p rows)
found_full p [] all = tt
found_full p (r ∷ rs) all = go (p r) (found_full p rs all.1)
  where
    go : (b : Bool) → IfFull (find p rs) → IfFull (cond b (Some r) (find p rs))
    go true later = all.0
    go false later = later

first_value : (values : List Text) → Full values → (text : Text) × (slice_get values 0 ≡ Some text)
first_value [] full = absurd full
first_value (v ∷ vs) full = (v, refl)

given_value : (id : Text) (rows : List Row) → AllFull rows → is_given id rows ≡ true → HasValue id rows
given_value id rows all given = go (find (λ r. bytes_eq r.id id) rows) (found_full _ rows all) given
  where
    go : (o : Option Row) → IfFull o → option_map_or (λ r. explicit_source r.source) o false ≡ true → (text : Text) × (option_and_then (λ r. slice_get r.values 0) o ≡ Some text)
    go None full given = absurd (cc (given))
    go (Some r) full given = first_value r.values full

given_values : (id : Text) (rows : List Row) → is_given id rows ≡ true → HasValues id rows
given_values id rows given = go (find (λ r. bytes_eq r.id id) rows) given
  where
    go : (o : Option Row) → option_map_or (λ r. explicit_source r.source) o false ≡ true → (texts : List Text) × (option_map (λ r. r.values) o ≡ Some texts)
    go None given = absurd (cc (given))
    go (Some r) given = (r.values, refl)

-- ---- the last checks

wanted : (help subcommand argument : Bool) → check_kinds help subcommand argument ≡ [] → (subcommand ≡ false) × (argument ≡ false)
wanted true subcommand argument e = absurd (cc (e))
wanted false true argument e = absurd (cc (e))
wanted false false true e = absurd (cc (e))
wanted false false false e = (refl, refl)

-- each required argument was given
given_all : (s : Shape) (rows : List Row) → check_fault s rows false ≡ [] → list_any (λ a. a.required && not (is_given a.id rows)) s.rules ≡ false
given_all s rows e =
    go s.subcommand_negates_reqs (wanted (not false && (s.arg_required_else_help && not (list_any (λ r. explicit_source r.source) rows))) (not false && s.subcommand_required)
    (not (s.subcommand_negates_reqs && false) && list_any (λ a. a.required && not (is_given a.id rows)) s.rules) e).1
  where
    go : (b : Bool) → (not (b && false) && list_any (λ a. a.required && not (is_given a.id rows)) s.rules) ≡ false
        → list_any (λ a. a.required && not (is_given a.id rows)) s.rules ≡ false
    go true e = e
    go false e = e

-- the first of them, and those after it
required : (given rest : Bool) → (not given || rest) ≡ false → (given ≡ true) × (rest ≡ false)
required true rest e = (refl, e)
required false rest e = absurd (cc (e))

-- ---- numbers

number_or : (default least most : ℕ) (text : Option Text) → IsGood least most text → (n : ℕ) × IsNumberOr default least most text n
number_or default least most None good = (default, refl)
number_or default least most (Some text) good = good

number_in : (least most : ℕ) (given : Option Text) → ((text : Text) × (given ≡ Some text)) → IsGood least most given → (n : ℕ) × IsNumberIn least most given n
number_in least most None value good = absurd (cc (value.1))
number_in least most (Some text) value good = good

moment_in : (text : Option Text) → IsGoodMoment text → (moment : Option ℤ) × IsMomentIn text moment
moment_in None good = (None, refl)
moment_in (Some text) good = (Some good.0, good.1)

key_in : (given : Option Text) → ((text : Text) × (given ≡ Some text)) → IsGoodKey given → (key : CountKey) × IsKeyIn given key
key_in None value good = absurd (cc (value.1))
key_in (Some text) value good = (good.0, ap Some good.1)

record Flag (text : Option Text) : Type 0 where
  stats : Bool
  is : IsTrue stats ↔ (text ≡ Some (codes "true"))

flag_in : (text : Option Text) → Flag text
flag_in None = record { stats = false; is = (λ h. absurd (cc (h)), λ e. absurd (cc (e))) }
flag_in (Some text) = go (bytes_eq text (codes "true")) refl
  where
    go : (b : Bool) → bytes_eq text (codes "true") ≡ b → Flag (Some text)
    go true e = record { stats = true; is = (λ h. ap Some (same_text text (codes "true") (sym e)), λ h. refl) }
    go false e = record { stats = false; is = (λ h. absurd (cc (h)), λ h. absurd (other_text text (codes "true") (sym e) (cc (h)))) }

-- ---- each command

record Given (name : Text) (rows : List Row) : Type 0 where
  asked : Asked
  named : name_of asked ≡ name
  gives : Gives rows asked

abbrev Ends : Text → List Row → Type 0
Ends name rows = AreGood rows → Given name rows

abbrev IsGoodShape : Shape → Type 0
IsGoodShape s = (words : List Text) → level_fault s [] nothing_held words false [] ≡ [] → Ends s.name (rows_after s.rules [] words)

abbrev IsFullShape : Shape → Type 0
IsFullShape s = (words : List Text) → level_fault s [] nothing_held words false [] ≡ [] → AllFull (rows_after s.rules [] words)

record Checked (s : Shape) : Type 0 where
  good : IsGoodShape s
  full : IsFullShape s

record Both (A B : Type 0) : Type 0 where
  first : A
  second : B

abbrev AllGood : List Shape → Type 0
AllGood [] = Unit {0}
AllGood (s ∷ rest) = Both (Checked s) (AllGood rest)

abbrev IfGood : Option Shape → Type 0
IfGood None = Unit {0}
IfGood (Some s) = Checked s

-- the commands as they are built
abbrev ready : Shape → Shape
ready s = built_leaf (inherited (with_leaf_noted (marked_built clpa.top)) s)

good_show : IsGoodShape (ready forms.show)
good_show words e good =
    let rows = rows_after (ready forms.show).rules [] words in
    let level = level_full (ready forms.show) words refl (λ x. refl) e in
    let g0 = given_all (ready forms.show) rows level.1 in
    let g1 = required (is_given (codes "file") rows) false g0 in
    let file = given_value (codes "file") rows level.0 g1.0 in
    record { asked = to_show file.0; named = refl; gives = file.1 }

good_scan : IsGoodShape (ready forms.scan)
good_scan words e good =
    let rows = rows_after (ready forms.scan).rules [] words in
    let level = level_full (ready forms.scan) words refl (λ x. refl) e in
    let g0 = given_all (ready forms.scan) rows level.1 in
    let g1 = required (is_given (codes "pattern") rows) (not (is_given (codes "file") rows) || false) g0 in
    let g2 = required (is_given (codes "file") rows) false g1.1 in
    let pattern = given_value (codes "pattern") rows level.0 g1.0 in
    let file = given_value (codes "file") rows level.0 g2.0 in
    record { asked = to_scan pattern.0 file.0; named = refl; gives = (pattern.1, file.1) }

good_create : IsGoodShape (ready forms.create)
good_create words e good =
    let rows = rows_after (ready forms.create).rules [] words in
    let level = level_full (ready forms.create) words refl (λ x. refl) e in
    let version = number_or 1 1 3 (first_of (codes "format") rows) good.format in
    let types = number_or 16777216 1 2147483648 (first_of (codes "types") rows) good.types in
    let words_limit = number_or 2147483648 1 2147483648 (first_of (codes "words") rows) good.words in
    let bytes = number_or 1099511627776 33 1099511627776 (first_of (codes "bytes") rows) good.bytes in
    record { asked = to_create (record { version = version.0; types_limit = types.0; words_limit = words_limit.0; length_limit = bytes.0 }); named = refl; gives = record { version = version.1; types = types.1; words = words_limit.1; bytes = bytes.1 } }

good_ingest : IsGoodShape (ready forms.ingest)
good_ingest words e good =
    let rows = rows_after (ready forms.ingest).rules [] words in
    let level = level_full (ready forms.ingest) words refl (λ x. refl) e in
    let g0 = given_all (ready forms.ingest) rows level.1 in
    let g1 = required (is_given (codes "file") rows) false g0 in
    let workers = number_or 1 1 64 (first_of (codes "workers") rows) good.workers in
    let segment = number_or 65536 1 65536 (first_of (codes "segment") rows) good.segment in
    let files = given_values (codes "file") rows g1.0 in
    record { asked = to_ingest workers.0 segment.0 (first_of (codes "watch") rows) files.0; named = refl; gives = record { workers_are = workers.1; segment_is = segment.1; watch_is = refl; files_are = files.1 } }

good_files : IsGoodShape (ready forms.files)
good_files words e good = record { asked = to_list; named = refl; gives = tt }

good_check : IsGoodShape (ready forms.check)
good_check words e good = record { asked = to_check; named = refl; gives = tt }

good_decode : IsGoodShape (ready forms.decode)
good_decode words e good =
    let rows = rows_after (ready forms.decode).rules [] words in
    let level = level_full (ready forms.decode) words refl (λ x. refl) e in
    let g0 = given_all (ready forms.decode) rows level.1 in
    let g1 = required (is_given (codes "number") rows) false g0 in
    let number = number_in 0 4294967295 (first_of (codes "number") rows) (given_value (codes "number") rows level.0 g1.0) good.number in
    record { asked = to_decode number.0; named = refl; gives = number.1 }

good_search : IsGoodShape (ready forms.search)
good_search words e good =
    let rows = rows_after (ready forms.search).rules [] words in
    let level = level_full (ready forms.search) words refl (λ x. refl) e in
    let g0 = given_all (ready forms.search) rows level.1 in
    let g1 = required (is_given (codes "pattern") rows) false g0 in
    let from = moment_in (first_of (codes "from") rows) good.from in
    let to = moment_in (first_of (codes "to") rows) good.to in
    let stats = flag_in (first_of (codes "stats") rows) in
    let workers = number_or 1 1 64 (first_of (codes "workers") rows) good.workers in
    let pattern = given_value (codes "pattern") rows level.0 g1.0 in
    record { asked = to_search from.0 to.0 stats.stats workers.0 pattern.0; named = refl; gives = record { from_is = from.1; to_is = to.1; stats_are = stats.is; workers_are = workers.1; pattern_is = pattern.1 } }

good_count : IsGoodShape (ready forms.count)
good_count words e good =
    let rows = rows_after (ready forms.count).rules [] words in
    let level = level_full (ready forms.count) words refl (λ x. refl) e in
    let g0 = given_all (ready forms.count) rows level.1 in
    let g1 = required (is_given (codes "by") rows) (not (is_given (codes "pattern") rows) || false) g0 in
    let g2 = required (is_given (codes "pattern") rows) false g1.1 in
    let by = key_in (first_of (codes "by") rows) (given_value (codes "by") rows level.0 g1.0) good.by in
    let from = moment_in (first_of (codes "from") rows) good.from in
    let to = moment_in (first_of (codes "to") rows) good.to in
    let stats = flag_in (first_of (codes "stats") rows) in
    let workers = number_or 1 1 64 (first_of (codes "workers") rows) good.workers in
    let pattern = given_value (codes "pattern") rows level.0 g2.0 in
    record { asked = to_count by.0 from.0 to.0 stats.stats workers.0 pattern.0; named = refl; gives = record { by_is = by.1; from_is = from.1; to_is = to.1; stats_are = stats.is; workers_are = workers.1; pattern_is = pattern.1 } }

good_merge : IsGoodShape (ready forms.merge)
good_merge words e good = record { asked = to_merge; named = refl; gives = tt }

good_upgrade : IsGoodShape (ready forms.upgrade)
good_upgrade words e good = record { asked = to_upgrade; named = refl; gives = tt }

good_bench : IsGoodShape (ready forms.bench)
good_bench words e good =
    let rows = rows_after (ready forms.bench).rules [] words in
    let level = level_full (ready forms.bench) words refl (λ x. refl) e in
    let g0 = given_all (ready forms.bench) rows level.1 in
    let g1 = required (is_given (codes "number") rows) (not (is_given (codes "lines") rows) || (not (is_given (codes "workers") rows) || false)) g0 in
    let g2 = required (is_given (codes "lines") rows) (not (is_given (codes "workers") rows) || false) g1.1 in
    let g3 = required (is_given (codes "workers") rows) false g2.1 in
    let number = number_in 0 4294967295 (first_of (codes "number") rows) (given_value (codes "number") rows level.0 g1.0) good.number in
    let lines = number_in 1 1000000 (first_of (codes "lines") rows) (given_value (codes "lines") rows level.0 g2.0) good.lines in
    let workers = number_in 1 64 (first_of (codes "workers") rows) (given_value (codes "workers") rows level.0 g3.0) good.workers in
    record { asked = to_bench number.0 lines.0 workers.0; named = refl; gives = record { number_is = number.1; lines_are = lines.1; workers_are = workers.1 } }

checked_show : Checked (ready forms.show)
checked_show = record { good = good_show; full = λ words e. (level_full (ready forms.show) words refl (λ x. refl) e).0 }

checked_scan : Checked (ready forms.scan)
checked_scan = record { good = good_scan; full = λ words e. (level_full (ready forms.scan) words refl (λ x. refl) e).0 }

checked_create : Checked (ready forms.create)
checked_create = record { good = good_create; full = λ words e. (level_full (ready forms.create) words refl (λ x. refl) e).0 }

checked_ingest : Checked (ready forms.ingest)
checked_ingest = record { good = good_ingest; full = λ words e. (level_full (ready forms.ingest) words refl (λ x. refl) e).0 }

checked_files : Checked (ready forms.files)
checked_files = record { good = good_files; full = λ words e. (level_full (ready forms.files) words refl (λ x. refl) e).0 }

checked_check : Checked (ready forms.check)
checked_check = record { good = good_check; full = λ words e. (level_full (ready forms.check) words refl (λ x. refl) e).0 }

checked_decode : Checked (ready forms.decode)
checked_decode = record { good = good_decode; full = λ words e. (level_full (ready forms.decode) words refl (λ x. refl) e).0 }

checked_search : Checked (ready forms.search)
checked_search = record { good = good_search; full = λ words e. (level_full (ready forms.search) words refl (λ x. refl) e).0 }

checked_count : Checked (ready forms.count)
checked_count = record { good = good_count; full = λ words e. (level_full (ready forms.count) words refl (λ x. refl) e).0 }

checked_merge : Checked (ready forms.merge)
checked_merge = record { good = good_merge; full = λ words e. (level_full (ready forms.merge) words refl (λ x. refl) e).0 }

checked_upgrade : Checked (ready forms.upgrade)
checked_upgrade = record { good = good_upgrade; full = λ words e. (level_full (ready forms.upgrade) words refl (λ x. refl) e).0 }

checked_bench : Checked (ready forms.bench)
checked_bench = record { good = good_bench; full = λ words e. (level_full (ready forms.bench) words refl (λ x. refl) e).0 }

all_good : AllGood (built clpa).subs
all_good = record { first = checked_show; second = record { first = checked_scan; second = record { first = checked_create; second = record { first = checked_ingest; second = record { first = checked_files; second = record { first = checked_check; second = record { first = checked_decode; second = record { first = checked_search; second = record { first = checked_count; second = record { first = checked_merge; second = record { first = checked_upgrade; second = record { first = checked_bench; second = tt } } } } } } } } } } } }

found_good : (p : Shape → Bool) (subs : List Shape) → AllGood subs → IfGood (find p subs)
found_good p [] all = tt
found_good p (s ∷ rest) all = go (p s) (found_good p rest all.second)
  where
    go : (b : Bool) → IfGood (find p rest) → IfGood (cond b (Some s) (find p rest))
    go true later = all.first
    go false later = later

-- ---- the command that is entered

record Entered (found : Option (Text × List Row)) : Type 0 where
  name : Text
  rows : List Row
  is : found ≡ Some (name, rows)
  ends : Ends name rows
  full : AllFull rows

entered_ends : (a : App) (stop : Option (Text × List Text)) → AllGood a.subs → entered_fault a stop ≡ [] → is_some (entered a stop) ≡ true → Entered (entered a stop)
entered_ends a None all e some = absurd (cc (some))
entered_ends a (Some p) all e some = go (find (λ s. answers_to p.0 (label_of s)) a.subs) (found_good _ a.subs all) e some
  where
    go : (o : Option Shape) → IfGood o → option_map_or (λ s. level_fault s [] nothing_held p.1 false []) o [] ≡ [] → is_some (option_map (λ s. rows_at s p.1) o) ≡ true
        → Entered (option_map (λ s. rows_at s p.1) o)
    go None good e some = absurd (cc (some))
    go (Some s) good e some = record { name = s.name; rows = rows_after s.rules [] p.1; is = refl; ends = good.good p.1 e; full = good.full p.1 e }

-- a command is there
enters : (some : Bool) → (not some && true) ≡ false → some ≡ true
enters true e = refl
enters false e = absurd (cc (e))

entered_of : (words : List Text) → fault_of clpa words ≡ [] → Entered (subcommand_of clpa words)
entered_of words e =
    let a = built clpa in
    let stop = stop_after a.top.rules (names_of a) words in
    let end = (walk a.top.rules (names_of a) nothing_held words).held in
    let has = is_some (entered a stop) in
    let walks = walk_fault a.top (names_of a) (walk_from nothing_held) words in
    let enters_by = entered_fault a stop in
    let settles = settle_fault a.top.rules a.top.args_override_self end in
    let fills = defaults_fault (settled a.top.rules end).rows a.top.rules in
    let checks = check_fault a.top (finished a.top.rules end) has in
    let whole : or_else walks (or_else enters_by (or_else settles (or_else fills checks))) ≡ [] = e in
    let below = second_none walks (or_else enters_by (or_else settles (or_else fills checks))) whole in
    let inner = first_none enters_by (or_else settles (or_else fills checks)) below in
    let after = second_none enters_by (or_else settles (or_else fills checks)) below in
    let last = second_none fills checks (second_none settles (or_else fills checks) after) in
    let some = enters has (wanted (not has && false) (not has && true) false last).0 in
    entered_ends a stop all_good inner some

named_as : (found : Option (Text × List Row)) (one other : Text) (rows : List Row) → found ≡ Some (one, rows) → other ≡ one → found ≡ Some (other, rows)
named_as found one other rows is same = is ∙ ap (λ (name : Text). Some (name, rows)) (sym same)

pub record Something (words : List Text) : Type 0 where
  pub asked : Asked
  pub asks : Asks words asked

pub something_asked : (words : List Text) → fault_of clpa words ≡ [] → HaveGoodValues words → Something words
something_asked words e good =
    let ends = entered_of words e in
    let given = ends.ends (good ends.name ends.rows ends.is) in
    record {
      asked = given.asked;
      asks = record {
        rows = ends.rows;
        good = e;
        found = named_as (subcommand_of clpa words) ends.name (name_of given.asked) ends.rows ends.is given.named;
        given = given.gives;
      };
    }

-- ---- what is asked lies in its ranges

abbrev rows_or_none : Option (Text × List Row) → List Row
rows_or_none None = []
rows_or_none (Some p) = p.1

full_as : (found : Option (Text × List Row)) (one other : Text) (xs ys : List Row) → found ≡ Some (one, xs) → found ≡ Some (other, ys) → AllFull xs → AllFull ys
full_as found one other xs ys is are full = subst AllFull (ap rows_or_none (sym is ∙ are)) full

rows_full : (words : List Text) (name : Text) (rows : List Row) → fault_of clpa words ≡ [] → subcommand_of clpa words ≡ Some (name, rows) → AllFull rows
rows_full words name rows e found =
    let ends = entered_of words e in full_as (subcommand_of clpa words) ends.name name ends.rows rows ends.is found ends.full

some_values : (id : Text) (rows : List Row) (files : List Text) → AllFull rows → all_of id rows ≡ Some files → files ≡ [] → ⊥
some_values id rows files all is none = go (find (λ r. bytes_eq r.id id) rows) (found_full _ rows all) is
  where
    go : (o : Option Row) → IfFull o → option_map (λ r. r.values) o ≡ Some files → ⊥
    go None full is = cc (is)
    go (Some r) full is = let empty : r.values ≡ [] = cc (is, none) in subst Full empty full

within : (default least most : ℕ) (text : Option Text) (n : ℕ) → IsWithin least most default → IsNumberOr default least most text n → IsWithin least most n
within default least most None n inside is = subst (IsWithin least most) (sym is) inside
within default least most (Some text) n inside is = record { low = is.low; high = is.high }

within_in : (least most : ℕ) (text : Option Text) (n : ℕ) → IsNumberIn least most text n → IsWithin least most n
within_in least most None n is = absurd is
within_in least most (Some text) n is = record { low = is.low; high = is.high }

pub asked_in_range : (words : List Text) (asked : Asked) → Asks words asked → IsInRange asked
asked_in_range words (to_show file) asks = tt
asked_in_range words (to_scan pattern file) asks = tt
asked_in_range words (to_create header) asks =
    let version = within 1 1 3 (first_of (codes "format") asks.rows) header.version (record { low = omega arith; high = omega arith }) asks.given.version in
    let types = within 16777216 1 2147483648 (first_of (codes "types") asks.rows) header.types_limit (record { low = omega arith; high = omega arith }) asks.given.types in
    let words_limit = within 2147483648 1 2147483648 (first_of (codes "words") asks.rows) header.words_limit (record { low = omega arith; high = omega arith }) asks.given.words in
    let bytes = within 1099511627776 33 1099511627776 (first_of (codes "bytes") asks.rows) header.length_limit (record { low = omega arith; high = omega arith }) asks.given.bytes in
    record {
      least_version = version.low;
      most_version = version.high;
      least_types = types.low;
      most_types = types.high;
      least_words = words_limit.low;
      most_words = words_limit.high;
      least_length = bytes.low;
      most_length = bytes.high;
    }
asked_in_range words (to_ingest workers segment watch files) asks = record {
  workers_are = within 1 1 64 (first_of (codes "workers") asks.rows) workers (record { low = omega arith; high = omega arith }) asks.given.workers_are;
  segment_is = within 65536 1 65536 (first_of (codes "segment") asks.rows) segment (record { low = omega arith; high = omega arith }) asks.given.segment_is;
  some = some_values (codes "file") asks.rows files (rows_full words (codes "ingest") asks.rows asks.good asks.found) asks.given.files_are;
}
asked_in_range words to_list asks = tt
asked_in_range words to_check asks = tt
asked_in_range words (to_decode number) asks = within_in 0 4294967295 (first_of (codes "number") asks.rows) number asks.given
asked_in_range words (to_search from to stats workers pattern) asks =
    within 1 1 64 (first_of (codes "workers") asks.rows) workers (record { low = omega arith; high = omega arith }) asks.given.workers_are
asked_in_range words (to_count by from to stats workers pattern) asks =
    within 1 1 64 (first_of (codes "workers") asks.rows) workers (record { low = omega arith; high = omega arith }) asks.given.workers_are
asked_in_range words to_merge asks = tt
asked_in_range words to_upgrade asks = tt
asked_in_range words (to_bench number lines workers) asks = record {
  number_is = within_in 0 4294967295 (first_of (codes "number") asks.rows) number asks.given.number_is;
  lines_are = within_in 1 1000000 (first_of (codes "lines") asks.rows) lines asks.given.lines_are;
  workers_are = within_in 1 64 (first_of (codes "workers") asks.rows) workers asks.given.workers_are;
}

pub asks_found : (words : List Text) (asked : Asked) (found : Option (Text × List Row)) → fault_of clpa words ≡ [] → found ≡ subcommand_of clpa words → IsFound found asked → Asks words asked
asks_found words asked found good is of = record { rows = of.0; good = good; found = sym is ∙ of.1; given = of.2 }
