-- Where `clap` finds no fault in a command's words, each value that they leave has a text.
use Rattle.std.proofs.Common.{◌≡◌, ℕ, Bool, cond, true, false, zero, suc, not, ◌&&◌, ◌||◌, refl, sym, subst, List, [], ◌∷◌, ◌++◌, length, drop, Option, Some, None, is_some, nat_lt}
use Rattle.std.specs.List.{find, fold, list_all}
use Rattle.std.specs.Option.{option_map_or}
use Rattle.std.specs.Prelude.{encode_utf8, slice_get, if◌then◌else◌}
use Rattle.std.specs.Str.{bytes_eq, chars}
use Rattle.clap.specs.Lexer.{long_of, short_of}
use Rattle.clap.specs.Facts.{unwrap_or_range}
use Rattle.clap.specs.Kinds.{Kinds, or_else, range_kinds}
use Rattle.clap.specs.Walk.{Held, Outcome, Row, Rule, Step, Text, Waiting, Walk, action_of, after_flag, after_step, arg_by_id, arg_by_index, arg_by_long, arg_by_short, bundle, bundle_met, bundle_step, default_rows, done, finished, flag_met, has_row, idle, is_empty, is_pending, long_met, long_or_other, most_values, next, nothing_held, option, option_met, option_word, plain, plain_word, positional, pushed, reacted, reading_by, refused, rows_after, settled, settled_rows, short_met, short_or_plain, stronger, subcommand, subcommand_met, subcommand_or_other, takes_several, takes_values, to_positional, trailing, used_as, used_by_id, value, values_or_missing, waits, walk, walk_from, walked, walked_from, with_default, with_values, without, word_met}
use Rattle.clap.specs.Simple.{Shape}
use Rattle.clap.proofs.WalkLemmas.{both}
use Rattle.clap.specs.Faults.{check_fault, defaults_fault, flag_word_fault, level_fault, long_fault, option_fault, other_fault, positional_fault, react_fault, settle_fault, step_fault, stray_fault, turn_fault, use_fault, walk_fault, word_fault}
use Rattle.clap.specs.declared.builder.action.ArgAction.{ArgAction}
use Rattle.clap.specs.declared.builder.action.ArgAction.TheVariants.{Set, Append, SetTrue, SetFalse, Count, Help, HelpShort, HelpLong, Version}
use Rattle.clap.specs.declared.builder.value_parser.Reading.{Reading}
use Rattle.clap.specs.declared.error.kind.ErrorKind.TheVariants as kind
use Rattle.clap.specs.declared.parser.matches.ValueSource.{ValueSource}
use Rattle.clap.specs.declared.parser.matches.ValueSource.TheVariants.{CommandLine, DefaultValue}

abbrev pub Full : List Text → Type 0
Full [] = ⊥
Full (v ∷ vs) = Unit {0}

abbrev pub AllFull : List Row → Type 0
AllFull [] = Unit {0}
AllFull (r ∷ rs) = Full r.values × AllFull rs

-- a use of the argument leaves a value
abbrev pub leaves : Rule → Bool
leaves a = nat_lt 0 (unwrap_or_range a.range).start_inclusive || not (is_empty a.missing)

abbrev pub Leaves : Rule → Type 0
Leaves a = leaves a ≡ true

abbrev pub AllLeave : List Rule → Type 0
AllLeave c = list_all leaves c ≡ true

abbrev pub IfLeaves : Option Rule → Type 0
IfLeaves None = Unit {0}
IfLeaves (Some a) = Leaves a

abbrev pub HasNoShort : List Rule → Type 0
HasNoShort c = (x : ℕ) → arg_by_short c x ≡ None

-- ---- faults in turn

pub first_none : (a b : Kinds) → or_else a b ≡ [] → a ≡ []
first_none [] b e = refl
first_none (k ∷ ks) b e = e

pub second_none : (a b : Kinds) → or_else a b ≡ [] → b ≡ []
second_none [] b e = e
second_none (k ∷ ks) b e = absurd (cc (e))

-- ---- a use

full_more : (xs ys : List Text) → Full xs → Full (xs ++ ys)
full_more [] ys f = absurd f
full_more (x ∷ xs) ys f = tt

with_full : (id : Text) (how : Reading) (s : ValueSource) (values : List Text) (rows : List Row) → Full values → AllFull rows → AllFull (with_values id how s values rows)
with_full id how s values [] f all = (f, tt)
with_full id how s values (r ∷ rs) f all = go (bytes_eq r.id id) (with_full id how s values rs f all.1)
  where
    go : (b : Bool) → AllFull (with_values id how s values rs)
        → AllFull (if b then record r { values = r.values ++ values; source = Some (stronger r.source s) } ∷ rs else r ∷ with_values id how s values rs)
    go true rest = (full_more r.values values all.0, all.1)
    go false rest = (all.0, rest)

without_full : (id : Text) (rows : List Row) → AllFull rows → AllFull (without id rows)
without_full id [] all = tt
without_full id (r ∷ rs) all = go (bytes_eq r.id id) (without_full id rs all.1)
  where
    go : (b : Bool) → AllFull (without id rs) → AllFull (if b then rs else r ∷ without id rs)
    go true rest = all.1
    go false rest = (all.0, rest)

used_full : (x : ArgAction) (id : Text) (how : Reading) (values : List Text) (rows : List Row) → Full values → AllFull rows → AllFull (used_as x id how values rows)
used_full Set id how values rows f all = with_full id how CommandLine values (without id rows) f (without_full id rows all)
used_full SetTrue id how values rows f all = with_full id how CommandLine values (without id rows) f (without_full id rows all)
used_full SetFalse id how values rows f all = with_full id how CommandLine values (without id rows) f (without_full id rows all)
used_full Append id how values rows f all = with_full id how CommandLine values rows f all
used_full Count id how [] rows f all = absurd f
used_full Count id how (v ∷ vs) rows f all = with_full id how CommandLine (v ∷ vs) (without id rows) f (without_full id rows all)
used_full Help id how values rows f all = all
used_full HelpShort id how values rows f all = all
used_full HelpLong id how values rows f all = all
used_full Version id how values rows f all = all

none_wanted : (least most : ℕ) (more : Kinds) → nat_lt 0 least ≡ true → or_else (range_kinds least most 0) more ≡ [] → ⊥
none_wanted zero most more lt e = cc (lt)
none_wanted (suc n) most more lt e = cc (e)

full_missing : (values : List Text) → (false || not (is_empty values)) ≡ true → Full values
full_missing [] l = absurd (cc (l))
full_missing (v ∷ vs) l = tt

use_full : (again : Bool) (a : Rule) (values : List Text) (rows : List Row) → Leaves a → use_fault again a values rows ≡ [] → Full (values_or_missing a values)
use_full again a (v ∷ vs) rows l e = tt
use_full again a [] rows l e = go (nat_lt 0 (unwrap_or_range a.range).start_inclusive) refl l
  where
    go : (b : Bool) → nat_lt 0 (unwrap_or_range a.range).start_inclusive ≡ b → (b || not (is_empty a.missing)) ≡ true → Full a.missing
    go true lt l = absurd (none_wanted (unwrap_or_range a.range).start_inclusive (most_values a) _ lt e)
    go false lt l = full_missing a.missing l

found_leaves : (c : List Rule) (p : Rule → Bool) → AllLeave c → IfLeaves (find p c)
found_leaves [] p all = tt
found_leaves (a ∷ rest) p all = go (p a) (found_leaves rest p (both (leaves a) (list_all leaves rest) all).1)
  where
    go : (b : Bool) → IfLeaves (find p rest) → IfLeaves (cond b (Some a) (find p rest))
    go true later = (both (leaves a) (list_all leaves rest) all).0
    go false later = later

-- ---- the walk over the words of a command

module _ (c : List Rule) (leave : AllLeave c) (again : Bool) where
  by_id : (values : List Text) (rows : List Row) (o : Option Rule) → IfLeaves o → option_map_or (λ a. use_fault again a values rows) o [] ≡ [] → AllFull rows
      → AllFull (used_by_id o values rows)
  by_id values rows None l e all = all
  by_id values rows (Some a) l e all = used_full (action_of a) a.id (reading_by a) (values_or_missing a values) rows (use_full again a values rows l e) all

  pending_full : (pending : Option (Text × List Text)) (rows : List Row)
      → option_map_or (λ p. option_map_or (λ a. use_fault again a p.1 rows) (arg_by_id c p.0) []) pending [] ≡ [] → AllFull rows → AllFull (settled_rows c pending rows)
  pending_full None rows e all = all
  pending_full (Some p) rows e all = by_id p.1 rows (arg_by_id c p.0) (found_leaves c (λ a. bytes_eq a.id p.0) leave) e all

  settled_full : (h : Held) → settle_fault c again h ≡ [] → AllFull h.rows → AllFull (settled c h).rows
  settled_full h e all = pending_full h.pending h.rows e all

  reacted_full : (a : Rule) (values : List Text) (h : Held) → Leaves a → react_fault c again a values h ≡ [] → AllFull h.rows → AllFull (reacted c a values h).rows
  reacted_full a values h l e all =
      used_full (action_of a) a.id (reading_by a) (values_or_missing a values) (settled c h).rows
      (use_full again a values (settled c h).rows l (second_none (settle_fault c again h) _ e)) (settled_full h (first_none (settle_fault c again h) _ e) all)

  option_full : (a : Rule) (v : Option Text) (h : Held) → Leaves a → option_fault c again a v h ≡ [] → AllFull h.rows → AllFull (option_met c a v h).0.rows
  option_full a (Some v) h l e all = reacted_full a (v ∷ []) h l e all
  option_full a None h l e all = settled_full h e all

  flag_full : (a : Rule) (v : Option Text) (h : Held) → Leaves a → (if is_some v then kind.TooManyValues ∷ [] else react_fault c again a [] h) ≡ [] → AllFull h.rows
      → AllFull (flag_met c a v h).0.rows
  flag_full a (Some v) h l e all = all
  flag_full a None h l e all = reacted_full a [] h l e all

  long_full : (o : Option Rule) (v : Option Text) (h : Held) → IfLeaves o → long_fault c again o v h ≡ [] → AllFull h.rows → AllFull (long_met c o v h).0.rows
  long_full None v h l e all = all
  long_full (Some a) v h l e all = go (takes_values a) e
    where
      go : (b : Bool) → (if b then option_fault c again a v h else (if is_some v then kind.TooManyValues ∷ [] else react_fault c again a [] h)) ≡ []
          → AllFull (if b then option_met c a v h else flag_met c a v h).0.rows
      go true e = option_full a v h l e all
      go false e = flag_full a v h l e all

module _ (c : List Rule) where
  step_of_bundle : (o : Option ℕ) (flags : Text) (skip : ℕ) (so_far : Outcome) (h : Held) (after : Text → ℕ → Outcome → Held → Held × Outcome) → HasNoShort c
      → ((f : Text) (k : ℕ) (s : Outcome) → AllFull (after f k s h).0.rows) → AllFull h.rows → AllFull (bundle_step c o flags skip so_far h after).0.rows
  step_of_bundle None flags skip so_far h after short later all = all
  step_of_bundle (Some x) flags zero so_far h after short later all =
      subst (λ (o : Option Rule). AllFull (short_met c o (drop (length (encode_utf8 x)) flags) h (after (drop (length (encode_utf8 x)) flags) 0 done)).0.rows) (sym (short x)) all
  step_of_bundle (Some x) flags (suc skip) so_far h after short later all = later _ skip so_far

  bundle_full : (k : ℕ) (flags : Text) (skip : ℕ) (so_far : Outcome) (h : Held) → HasNoShort c → AllFull h.rows → AllFull (bundle_met c k flags skip so_far h).0.rows
  unfolding bundle_met
  bundle_full zero flags skip so_far h short all = all
  bundle_full (suc k) flags skip so_far h short all =
      step_of_bundle (slice_get (chars flags) 0) flags skip so_far h (bundle_met c k) short (λ f n s. bundle_full k f n s h short all) all

  option_word_full : (o : Option Rule) (id word : Text) (h : Held) → AllFull h.rows → AllFull (option_word o id word h).0.rows
  option_word_full None id word h all = all
  option_word_full (Some a) id word h all = all

  plain_full : (waiting : Waiting) (word : Text) (h : Held) → AllFull h.rows → AllFull (plain_word c waiting word h).0.rows
  plain_full idle word h all = all
  plain_full (option id) word h all = option_word_full (arg_by_id c id) id word h all
  plain_full positional word h all = all

  flag_done_full : (waiting : Waiting) (word : Text) (h : Held) (o : Outcome) → AllFull h.rows → AllFull (after_flag c waiting word h o).0.rows
  flag_done_full waiting word h done all = all
  flag_done_full waiting word h (waits id) all = all
  flag_done_full waiting word h plain all = plain_full waiting word h all
  flag_done_full waiting word h refused all = plain_full waiting word h all

  short_full : (waiting : Waiting) (word : Text) (o : Option Text) (h : Held) → HasNoShort c → AllFull h.rows → AllFull (short_or_plain c waiting word o h).0.rows
  short_full waiting word None h short all = plain_full waiting word h all
  short_full waiting word (Some flags) h short all =
      flag_done_full waiting word (bundle c flags h).0 (bundle c flags h).1 (bundle_full (length flags) flags h.skip plain (record h { skip = 0 }) short all)

no_subcommand : (waiting : Waiting) (word : Text) → subcommand_met [] waiting word ≡ None
no_subcommand idle word = refl
no_subcommand (option id) word = refl
no_subcommand positional word = refl

module _ (s : Shape) (leave : AllLeave s.rules) (short : HasNoShort s.rules) where
  flag_word_full : (waiting : Waiting) (word : Text) (o : Option (Text × Option Text)) (h : Held) → flag_word_fault s.rules s.args_override_self o word h ≡ [] → AllFull h.rows
      → AllFull (long_or_other s.rules waiting word o h).0.rows
  flag_word_full waiting word None h e all = short_full s.rules waiting word (short_of word) h short all
  flag_word_full waiting word (Some p) h e all =
      let met = long_met s.rules (arg_by_long s.rules p.0) p.1 h in
      flag_done_full s.rules waiting word met.0 met.1
      (long_full s.rules leave s.args_override_self (arg_by_long s.rules p.0) p.1 h (found_leaves s.rules _ leave) e all)

  other_full : (waiting : Waiting) (position : ℕ) (word : Text) (h : Held) → other_fault s None word h ≡ [] → AllFull h.rows
      → AllFull (subcommand_or_other s.rules None waiting position word h).0.rows
  other_full waiting position word h e all = go (bytes_eq word (45 ∷ 45 ∷ [])) e
    where
      go : (b : Bool) → (if b then [] else flag_word_fault s.rules s.args_override_self (long_of word) word h) ≡ []
          → AllFull (if b then (h, trailing position) else long_or_other s.rules waiting word (long_of word) h).0.rows
      go true e = all
      go false e = flag_word_full waiting word (long_of word) h e all

  word_full : (is_trailing : Bool) (waiting : Waiting) (position : ℕ) (word : Text) (h : Held) → word_fault s [] is_trailing waiting word h ≡ [] → AllFull h.rows
      → AllFull (word_met s.rules [] is_trailing waiting position word h).0.rows
  word_full true waiting position word h e all = all
  word_full false waiting position word h e all =
      subst (λ (o : Option Text). other_fault s o word h ≡ [] → AllFull (subcommand_or_other s.rules o waiting position word h).0.rows) (sym (no_subcommand waiting word))
      (λ fault. other_full waiting position word h fault all) e

  place_full : (word : Text) (w : Walk) (h : Held) (o : Option Rule) → option_map_or (λ a. positional_fault s.rules s.args_override_self a h) o (stray_fault s) ≡ [] → AllFull h.rows
      → AllFull (to_positional s.rules o word w h).held.rows
  place_full word w h None e all = all
  place_full word w h (Some a) e all = go (is_pending a h.pending && takes_several a) e
    where
      go : (b : Bool) → (if b then [] else settle_fault s.rules s.args_override_self h) ≡ [] → AllFull (pushed a.id word (if b then h else settled s.rules h)).rows
      go true e = all
      go false e = settled_full s.rules leave s.args_override_self h e all

  step_full : (word : Text) (w : Walk) (h : Held) (step : Step) → step_fault s w.position h step ≡ [] → AllFull h.rows → AllFull (after_step s.rules word w h step).held.rows
  step_full word w h (next waiting) e all = all
  step_full word w h (trailing position) e all = all
  step_full word w h (subcommand name) e all = all
  step_full word w h value e all = place_full word w h (arg_by_index s.rules w.position) e all

  turn_full : (w : Walk) (word : Text) → turn_fault s [] w word ≡ [] → AllFull w.held.rows → AllFull (walked s.rules [] w word).held.rows
  unfolding walked
  turn_full w word e all = go w.stopped e
    where
      go : (stopped : Option (Text × List Text))
          → (if is_some stopped then [] else or_else (word_fault s [] w.is_trailing w.waiting word w.held)
          (step_fault s w.position (word_met s.rules [] w.is_trailing w.waiting w.position word w.held).0 (word_met s.rules [] w.is_trailing w.waiting w.position word w.held).1)) ≡ []
          → AllFull (walked_from s.rules [] stopped w word).held.rows
      go (Some p) e = all
      go None e =
          let met = word_met s.rules [] w.is_trailing w.waiting w.position word w.held in
          step_full word w met.0 met.1 (second_none (word_fault s [] w.is_trailing w.waiting word w.held) _ e)
          (word_full w.is_trailing w.waiting w.position word w.held (first_none (word_fault s [] w.is_trailing w.waiting word w.held) _ e) all)

  walk_full : (words : List Text) (w : Walk) → walk_fault s [] w words ≡ [] → AllFull w.held.rows → AllFull (fold (walked s.rules []) w words).held.rows
  unfolding walk_fault
  walk_full [] w e all = all
  walk_full (word ∷ rest) w e all =
      walk_full rest (walked s.rules [] w word) (second_none (turn_fault s [] w word) _ e) (turn_full w word (first_none (turn_fault s [] w word) _ e) all)

default_full : (rows : List Row) (a : Rule) → AllFull rows → AllFull (with_default rows a)
default_full rows a all = go (has_row a.id rows)
  where
    given : (values : List Text) → AllFull (default_rows a.id (reading_by a) values rows)
    given [] = all
    given (v ∷ vs) = with_full a.id (reading_by a) DefaultValue (v ∷ vs) rows tt all

    go : (b : Bool) → AllFull (if b then rows else default_rows a.id (reading_by a) a.defaults rows)
    go true = all
    go false = given a.defaults

defaults_full : (c : List Rule) (rows : List Row) → AllFull rows → AllFull (fold with_default rows c)
defaults_full [] rows all = all
defaults_full (a ∷ rest) rows all = defaults_full rest (with_default rows a) (default_full rows a all)

-- the rows that the words of a command leave, and what the last checks find in them
pub level_full : (s : Shape) (words : List Text) → AllLeave s.rules → HasNoShort s.rules → level_fault s [] nothing_held words false [] ≡ []
    → AllFull (rows_after s.rules [] words) × (check_fault s (rows_after s.rules [] words) false ≡ [])
level_full s words leave short e =
    let end = (walk s.rules [] nothing_held words).held in
    let walks = walk_fault s [] (walk_from nothing_held) words in
    let settles = settle_fault s.rules s.args_override_self end in
    let fills = defaults_fault (settled s.rules end).rows s.rules in
    let checks = check_fault s (finished s.rules end) false in
    let whole : or_else walks (or_else settles (or_else fills checks)) ≡ [] = e in
    let after = second_none walks (or_else settles (or_else fills checks)) whole in
    let walk_is_full = walk_full s leave short words (walk_from nothing_held) (first_none walks (or_else settles (or_else fills checks)) whole) tt in (
      defaults_full s.rules (settled s.rules end).rows (settled_full s.rules leave s.args_override_self end (first_none settles (or_else fills checks) after) walk_is_full),
      second_none fills checks (second_none settles (or_else fills checks) after),
    )
