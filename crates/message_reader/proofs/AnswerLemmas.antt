-- What a cutter and a joiner answer, as answers of a reader.
use Rattle.std.proofs.Common.{◌≡◌, ◌≢◌, ◌⊎◌, inl, inr, ℕ, ◌+◌, ◌<◌, ◌≤◌, Bool, true, false, List, [], ◌∷◌, length, Option, None, Some, Result, Ok, Err, refl, sym, ◌∙◌, ap, subst, arith}
use Rattle.std.specs.Prelude.{IfSome, IfOk, IfErr, IsErrOf, is_some, if◌then◌else◌}
use Rattle.std.proofs.lemmas.List.{length-append}
use Rattle.log_messages.specs.Messages.{IsLine}
use Rattle.log_messages.specs.Groups.{FirstLine, IsFollowed}
use Rattle.line_cut.specs.Cutting.{CutterState, Gave, HasCause, RefusedBy}
use Rattle.line_cut.specs.Length.{BeginsTooLong}
use Rattle.line_cut.specs.Joining.{GaveMessage, HasJoinCause, IsFirstOfGroups, IsOneGroup, IsTornGroup, JoinerState, RefusedToJoin}
use Rattle.line_cut.specs.declared.cut.Cut.{Cut}
use Rattle.line_cut.specs.declared.cut.Cut.TheVariants.{ReadFault, LineTooLong, TooManyLines, OutOfMemory}
use Rattle.line_cut.specs.declared.cut.Mark.{Mark}
use Rattle.line_cut.specs.declared.cut.Progress.TheVariants.{Open}
use Rattle.line_cut.specs.declared.cutter.TheConstants.{MAX_LINE_LEN}
use Rattle.message_reader.specs.Versions.{IsFirstOfLines, IsHead}
use Rattle.message_reader.specs.Reading.{HasReadCause, IsTornMessage, ReadMessage, ReaderState, RefusedToRead, left_of}
use Rattle.message_reader.specs.StepsReading.{group_reader, HasLimits, line_reader, reader_of, version_of}
use Rattle.message_reader.specs.declared.reader.TheConstants.{MAX_MESSAGES}
use Rattle.message_reader.specs.declared.heads.Stamps.{Stamps}
use Rattle.message_reader.specs.declared.reader.Cuts.{Cuts}
use Rattle.message_reader.proofs.GroupLemmas.{count_of_group, count_of_line, first_of_lines, message_of_group, open_of_group, open_of_line, torn_group}
use Rattle.message_reader.proofs.LineLemmas.{line_first, line_of_lines, never}

-- ---- lines

line_gave : {S : Type 0} (left : S → Option (List ℕ)) (ended : Bool) (old new : CutterState S) → HasLimits old → Gave left ended new.line old new → ReadMessage left ended (line_reader old) (line_reader new)
line_gave left ended old new limits g = record {
  was_open = g.was_open;
  progress = g.progress;
  within = subst (λ n. old.given < n) limits.1 g.within;
  given = g.given;
  lines = g.given ∙ ap (λ n. old.given + n) (sym (count_of_line new.line g.is_line));
  is_message = record { short = subst (λ n. length new.line ≤ n) limits.0 g.fits; lines = inl g.is_line };
  open_end = λ e. open_of_line new.line g.is_line (g.not_empty e);
  alone = λ _ _. (g.is_line, never new.line);
  parts = g.parts;
  first = line_first new.line ended (left_of left (line_reader old)) (left_of left (line_reader new)) g.is_line g.not_empty g.parts;
  of_lines = λ _. line_of_lines new.line (left_of left (line_reader new)) g.is_line;
}

line_cause : {S : Type 0} (left : S → Option (List ℕ)) (faults : S → ℕ) (old new : CutterState S) (cut : Cut) → HasLimits old → cut ≢ OutOfMemory → HasCause faults old new cut → HasReadCause left faults (line_reader old) (line_reader new) cut
line_cause left faults old new ReadFault limits some c = record {
  rose = c.rose;
  torn = inl (refl, c.no_newline, subst (λ n. length new.pending ≤ n) limits.0 c.short);
  at_limit = λ _ e. c.at_limit (e ∙ sym limits.1);
}
line_cause left faults old new (LineTooLong line) limits some c = record {
  number = c.0;
  begins = subst (λ n. BeginsTooLong n new.pending) limits.0 c.2;
  within = λ _. subst (λ n. old.given < n) limits.1 c.1;
}
line_cause left faults old new TooManyLines limits some c = record {
  at_limit = c.0 ∙ limits.1;
  some = c.1;
  whole = λ above. absurd (omega (arith, above));
}
line_cause left faults old new OutOfMemory limits some c = some refl

line_refused : {S : Type 0} (left : S → Option (List ℕ)) (faults : S → ℕ) (old new : CutterState S) (cut : Cut) → HasLimits old → (cut ≡ OutOfMemory → old.progress ≢ Open) → RefusedBy left faults old new cut → RefusedToRead left faults (line_reader old) (line_reader new) cut
line_refused left faults old new cut limits memory r = record {
  progress = r.progress;
  given = r.given;
  lines = r.given;
  no_message = r.no_line;
  left_same = r.left_same;
  cause = λ is_open. line_cause left faults old new cut limits (λ e. memory e is_open) (r.cause is_open);
}

pub lines_give : {S : Type 0} (left : S → Option (List ℕ)) (old new : CutterState S) (result : Result (Option Mark) Cut) → HasLimits old
    → IfOk result (λ o. IfSome o (λ m. Gave left m.ended new.line old new)) → IfOk result (λ o. IfSome o (λ m. ReadMessage left m.ended (line_reader old) (line_reader new)))
lines_give left old new (Err cut) limits is = tt
lines_give left old new (Ok None) limits is = tt
lines_give left old new (Ok (Some m)) limits is = line_gave left m.ended old new limits is

pub lines_refuse : {S : Type 0} (left : S → Option (List ℕ)) (faults : S → ℕ) (old new : CutterState S) (result : Result (Option Mark) Cut) → HasLimits old → (IsErrOf result OutOfMemory → old.progress ≢ Open)
    → IfErr result (RefusedBy left faults old new) → IfErr result (RefusedToRead left faults (line_reader old) (line_reader new))
lines_refuse left faults old new (Ok o) limits memory is = tt
lines_refuse left faults old new (Err cut) limits memory is = line_refused left faults old new cut limits (λ e. memory (ap (λ c. Err c) e)) is

-- ---- groups

above_one : (s : Stamps) → 1 < version_of s
above_one s = either s.micro
  where
    either : (micro : Bool) → 1 < (if micro then 3 else 2)
    either true = omega arith
    either false = omega arith

-- the stamps of a joiner
abbrev heads_of : Stamps → List ℕ → Type 0
heads_of s line = IsHead (version_of s) line

-- with the limit of an archive
record GroupFacts (version limit : ℕ) (ended : Bool) (count : ℕ) (text : List ℕ) (after : Option (List ℕ)) : Type 0 where
  is_group : IsOneGroup (IsHead version) limit ended count text
  followed : ended ≡ true → IfSome after (IsFollowed (IsHead version) limit is_group.group)

at_limit : (version limit : ℕ) (ended : Bool) (count : ℕ) (text : List ℕ) (after : Option (List ℕ)) → limit ≡ MAX_LINE_LEN → GroupFacts version limit ended count text after → GroupFacts version MAX_LINE_LEN ended count text after
at_limit version limit ended count text after is g = subst (λ n. GroupFacts version n ended count text after) is g

of_lines : (version : ℕ) (ended : Bool) (count : ℕ) (text : List ℕ) (after : Option (List ℕ)) → GroupFacts version MAX_LINE_LEN ended count text after → ended ≡ true → IfSome after (IsFirstOfLines version text)
of_lines version ended count text None g e = tt
of_lines version ended count text (Some after) g e = first_of_lines version g.is_group.group text after g.is_group.is g.is_group.are_lines g.is_group.is_group (g.followed e)

not_looked : {A : Type 0} (o : Option A) → is_some o ≡ false → o ≡ None
not_looked None e = refl
not_looked (Some x) e = absurd (cc (e))

group_gave : {S : Type 0} (left : S → Option (List ℕ)) (ended : Bool) (old new : JoinerState S Stamps) → HasLimits old.cutter → GaveMessage left heads_of ended new.cutter.line old new → ReadMessage left ended (group_reader old) (group_reader new)
group_gave left ended old new limits g =
    let version = version_of old.heads in let text = new.cutter.line in let after = left_of left (group_reader new) in
    let f = at_limit version old.cutter.max_line ended g.count text after limits.0 (record { is_group = g.is_group; followed = g.followed }) in
    let one = f.is_group in record {
      was_open = g.was_open;
      progress = g.progress;
      within = subst (λ n. old.cutter.given < n) limits.1 g.within;
      given = g.given;
      lines = g.lines ∙ ap (λ n. old.lines + n) (sym (count_of_group one.group text g.count one.is one.are_lines one.count));
      is_message = message_of_group version one.group text (above_one old.heads) one.is one.are_lines one.is_group one.fits;
      open_end = λ e. open_of_group one.group text one.is one.are_lines (one.last e);
      alone = λ none e. g.alone (not_looked new.behind none) e;
      parts = g.parts;
      first = subst (λ n. IfSome (left_of left (group_reader old)) (λ before. IfSome after (IsFirstOfGroups (IsHead version) n ended text before))) limits.0 g.message;
      of_lines = of_lines version ended g.count text after f;
    }

some_line : (bytes line : List ℕ) → FirstLine bytes line → 0 < length bytes
some_line [] line (is, inl all) = absurd (all.1 (sym all.0))
some_line [] line (is, inr more) = absurd (omega (arith, ap length more.1, length-append line (10 ∷ more.0)))
some_line (b ∷ bytes) line first = omega arith

torn_either : {S : Type 0} (old new : JoinerState S Stamps) → HasLimits old.cutter
    → ((old.behind ≡ None) × IsLine new.cutter.pending × (length new.cutter.pending ≤ old.cutter.max_line)) ⊎ ((old.cutter.given < old.cutter.max_lines) × IsTornGroup (heads_of old.heads) old.cutter.max_line new.cutter.pending)
    → ((is_some old.behind ≡ false) × IsLine new.cutter.pending × (length new.cutter.pending ≤ MAX_LINE_LEN)) ⊎ ((old.cutter.given < MAX_MESSAGES) × IsTornMessage (version_of old.heads) new.cutter.pending)
torn_either old new limits (inl part) = inl (ap is_some part.0, part.1, subst (λ n. length new.cutter.pending ≤ n) limits.0 part.2)
torn_either old new limits (inr group) =
    inr (subst (λ n. old.cutter.given < n) limits.1 group.0, torn_group (version_of old.heads) new.cutter.pending (subst (λ n. IsTornGroup (heads_of old.heads) n new.cutter.pending) limits.0 group.1))

group_cause : {S : Type 0} (left : S → Option (List ℕ)) (faults : S → ℕ) (old new : JoinerState S Stamps) (cut : Cut) → HasLimits old.cutter → cut ≢ OutOfMemory → HasJoinCause left faults heads_of old new cut → HasReadCause left faults (group_reader old) (group_reader new) cut
group_cause left faults old new ReadFault limits some c = record {
  rose = c.rose;
  torn = torn_either old new limits c.torn;
  at_limit = λ one. absurd (omega (arith, one, above_one old.heads));
}
group_cause left faults old new (LineTooLong line) limits some c = record {
  number = c.0;
  begins = subst (λ n. BeginsTooLong n new.cutter.pending) limits.0 c.1;
  within = λ one. absurd (omega (arith, one, above_one old.heads));
}
group_cause left faults old new TooManyLines limits some c = record {
  at_limit = c.at_limit ∙ limits.1;
  some = some_line new.cutter.pending c.line c.begins;
  whole = λ _. record { line = c.line; fits = subst (λ n. length c.line ≤ n) limits.0 c.fits; taken = c.begins; of_all = c.of_all };
}
group_cause left faults old new OutOfMemory limits some c = some refl

group_refused : {S : Type 0} (left : S → Option (List ℕ)) (faults : S → ℕ) (old new : JoinerState S Stamps) (cut : Cut) → HasLimits old.cutter → (cut ≡ OutOfMemory → old.cutter.progress ≢ Open) → RefusedToJoin left faults heads_of old new cut → RefusedToRead left faults (group_reader old) (group_reader new) cut
group_refused left faults old new cut limits memory r = record {
  progress = r.progress;
  given = r.given;
  lines = r.lines;
  no_message = r.no_message;
  left_same = r.left_same;
  cause = λ is_open. group_cause left faults old new cut limits (λ e. memory e is_open) (r.cause is_open);
}

pub groups_give : {S : Type 0} (left : S → Option (List ℕ)) (old new : JoinerState S Stamps) (result : Result (Option Mark) Cut) → HasLimits old.cutter
    → IfOk result (λ o. IfSome o (λ m. GaveMessage left heads_of m.ended new.cutter.line old new)) → IfOk result (λ o. IfSome o (λ m. ReadMessage left m.ended (group_reader old) (group_reader new)))
groups_give left old new (Err cut) limits is = tt
groups_give left old new (Ok None) limits is = tt
groups_give left old new (Ok (Some m)) limits is = group_gave left m.ended old new limits is

pub groups_refuse : {S : Type 0} (left : S → Option (List ℕ)) (faults : S → ℕ) (old new : JoinerState S Stamps) (result : Result (Option Mark) Cut) → HasLimits old.cutter → (IsErrOf result OutOfMemory → old.cutter.progress ≢ Open)
    → IfErr result (RefusedToJoin left faults heads_of old new) → IfErr result (RefusedToRead left faults (group_reader old) (group_reader new))
groups_refuse left faults old new (Ok o) limits memory is = tt
groups_refuse left faults old new (Err cut) limits memory is = group_refused left faults old new cut limits (λ e. memory (ap (λ c. Err c) e)) is

-- ---- what is said of what is inside, said of the reader

pub carry : {S : Type 0} (P : ReaderState S → ReaderState S → Result (Option Mark) Cut → Type 0) (state : ReaderState S) (was from now to : Cuts S) (result inner : Result (Option Mark) Cut)
    → state ≡ reader_of was → was ≡ from → now ≡ to → result ≡ inner → P (reader_of from) (reader_of to) inner → P state (reader_of now) result
carry P state was from now to result inner state_is was_is now_is result_is p =
    subst (λ r. P state (reader_of now) r) (sym result_is)
    (subst (λ n. P state (reader_of n) inner) (sym now_is)
    (subst (λ s. P s (reader_of to) inner) (sym (state_is ∙ ap reader_of was_is)) p))
