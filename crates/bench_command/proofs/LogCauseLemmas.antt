-- Why generated logs are not whole, and how many messages they have.
use Rattle.std.proofs.Common.{◌≡◌, inl, inr, refl, sym, ap, subst, ◌∙◌, ℕ, ◌*◌, ◌+◌, ◌<◌, ◌≤◌, Bool, true, List, [], ◌∷◌, Option, None, Some, length, length-append, arith}
use Rattle.std.specs.Prelude.{All, IfSome, option_map, slice_get}
use Rattle.std.specs.List.{AllZip, flat_map, sum_by}
use Rattle.std.proofs.lemmas.List.{length-map}
use Rattle.std.proofs.lemmas.List.Elements.{All-cons, All-head, All-nil, All-tail}
use Rattle.std.proofs.lemmas.List.Sums.{sum_by-cons}
use Rattle.log_seams.specs.Disk.{DiskState}
use Rattle.log_seams.specs.Outside.{Rose}
use Rattle.log_messages.specs.Groups.{Group, lines_of, text_of}
use Rattle.log_messages.proofs.LawLemmas.{messages_agree as lines_agree}
use Rattle.message_reader.specs.Versions.{MessagesOf}
use Rattle.message_reader.proofs.VersionLawLemmas.{lines_in_version_one, messages_agree, messages_exist}
use Rattle.generated_logs.specs.Logs.{content_of as generated, log_named, log_of, name_of}
use Rattle.generated_logs.specs.States.{GeneratedState, faults_of_log, open_faults_of}
use Rattle.generated_logs.proofs.LineLemmas.{logs_have_lines}
use Rattle.archive_meaning.specs.Held.{File}
use Rattle.disk_seal.proofs.ToldLemmas.{told_map}
use Rattle.command_answers.specs.Benched.{IsSpared, IsTakenWhole, MayRefuseLog, generated_names}
use Rattle.command_refusals.specs.Ending.{RoseIn}
use Rattle.command_answers.specs.Ingested.{AreCutShort, FileOutcome, HasMoreThan, IsFront, Logs, names_in}
use Rattle.command_refusals.specs.LogLimits.{IsLong, most_messages}
use Rattle.file_outcomes.specs.StepsCauses.{CameIn, HasCauseIn, HaveFileCauses, Target}
use Rattle.command_refusals.specs.declared.outcome.PartCause.{PartCause}
use Rattle.bench_command.proofs.BenchLemmas.{rose_on}
use Rattle.write_commands.proofs.FileCauseLemmas.{at_of}
use Rattle.file_outcomes.proofs.FitLemmas.{fit_later}

-- ---- the names

-- the name is that of one of the four logs
record IsGenerated (name : List ℕ) : Type 0 where
  log : ℕ
  four : log ≤ 3
  named : log_named name ≡ Some log

all_generated : All IsGenerated generated_names
all_generated =
    All-cons IsGenerated (name_of 0) (name_of 1 ∷ name_of 2 ∷ name_of 3 ∷ []) (record { log = 0; four = omega arith; named = refl })
    (All-cons IsGenerated (name_of 1) (name_of 2 ∷ name_of 3 ∷ []) (record { log = 1; four = omega arith; named = refl })
    (All-cons IsGenerated (name_of 2) (name_of 3 ∷ []) (record { log = 2; four = omega arith; named = refl })
    (All-cons IsGenerated (name_of 3) [] (record { log = 3; four = omega arith; named = refl }) (All-nil IsGenerated))))

all_named : (came : List FileOutcome) → names_in came ≡ generated_names → All IsGenerated (names_in came)
all_named came are = subst (All IsGenerated) (sym are) all_generated

-- opening one of them never fails
calm : (s later : GeneratedState) (name : List ℕ) → IsGenerated name → ◌≡◌ {A = ℕ × ℕ} (open_faults_of s name, open_faults_of later name) (0, 0)
calm s later name is = ap (λ (f : Option ℕ). (faults_of_log s.others f, faults_of_log later.others f)) is.named

not_risen : Rose 0 0 → ⊥
not_risen (inl more) = omega (arith, more)
not_risen (inr full) = omega (arith, full)

-- a message has a line at least
few_groups : (groups : List Group) → length groups ≤ length (flat_map lines_of groups)
few_groups [] = omega arith
few_groups (group ∷ groups) = omega (arith, length-append (lines_of group) (flat_map lines_of groups), few_groups groups)

module _ (number lines : ℕ) where
  -- ---- the messages of one log

  content_is : (name : List ℕ) (is : IsGenerated name) → generated number lines name ≡ Some (log_of number lines is.log)
  content_is name is = ap (λ (f : Option ℕ). option_map (log_of number lines) f) is.named

  few_messages : (version f : ℕ) → f ≤ 3 → (messages : List (List ℕ)) (ended : Bool) → MessagesOf version (log_of number lines f) messages ended → length messages ≤ lines
  few_messages version f four messages ended are =
      let have = logs_have_lines number lines f four in
      let same = lines_agree (log_of number lines f) are.lines have.lines ended true are.are_lines have.are in
      omega (arith, ap length are.are, length-map are.groups text_of, few_groups are.groups, ap length are.are_groups.cut, ap length same.0, have.counted)

  as_many : (f : ℕ) → f ≤ 3 → (messages : List (List ℕ)) (ended : Bool) → MessagesOf 1 (log_of number lines f) messages ended → length messages ≡ lines
  as_many f four messages ended are =
      let have = logs_have_lines number lines f four in
      let same = messages_agree 1 (log_of number lines f) messages have.lines ended true are ((lines_in_version_one (log_of number lines f) have.lines true).1 have.are) in
      ap length same.0 ∙ have.counted

  none_long : (name : List ℕ) → IsGenerated name → (line : ℕ) → IfSome (generated number lines name) (λ bytes. IsLong bytes line) → ⊥
  none_long name is line holds =
      let long : IsLong (log_of number lines is.log) line = subst (λ (o : Option (List ℕ)). IfSome o (λ bytes. IsLong bytes line)) (content_is name is) holds in
      let have = logs_have_lines number lines is.log is.four in
      let same = lines_agree (log_of number lines is.log) long.messages have.lines long.ended true long.are have.are in
      let short = at_of (λ (l : List ℕ). length l ≤ 58) have.lines long.before long.message have.short (ap (λ (ls : List (List ℕ)). slice_get ls long.before) (sym same.0) ∙ long.stands) in
      omega (arith, long.long, short)

  none_many : lines ≤ 1000000 → (version : ℕ) (name : List ℕ) → IsGenerated name → HasMoreThan most_messages version (generated number lines name) → ⊥
  none_many most version name is more =
      let told : (messages : List (List ℕ)) (ended : Bool) → MessagesOf version (log_of number lines is.log) messages ended → most_messages < length messages = subst (λ (o : Option (List ℕ)). HasMoreThan most_messages version o) (content_is name is) more in
      let some = messages_exist version (log_of number lines is.log) in
      omega (arith, told some.0 some.1 some.2, few_messages version is.log is.four some.0 some.1 some.2, most)

  -- ---- how many messages there are

  -- the file is told by the bytes of its log
  abbrev pub IsLogged : FileOutcome → Type 0
  IsLogged c = c.log ≡ generated number lines c.name

  one_counted : (c : FileOutcome) (file : File) → IsGenerated c.name → IsLogged c → IsFront 1 c file → c.refusal ≡ None → c.messages ≡ lines
  one_counted c file is logged front whole =
      sym front.messages
      ∙ as_many is.log is.four file.messages file.ended (subst (λ (o : Option (List ℕ)). IfSome o (λ bytes. MessagesOf 1 bytes file.messages file.ended)) (logged ∙ content_is c.name is) (front.all whole).1)

  abbrev IsCounted : FileOutcome → Type 0
  IsCounted c = c.messages ≡ lines

  each_counted : (came : List FileOutcome) (files : List File) → All IsGenerated (names_in came) → All IsLogged came → AllZip (IsFront 1) came files → All IsTakenWhole came → All IsCounted came
  each_counted [] files are logged fronts whole = All-nil IsCounted
  each_counted (c ∷ came) [] are logged fronts whole = absurd fronts
  each_counted (c ∷ came) (file ∷ files) are logged fronts whole =
      All-cons IsCounted c came (one_counted c file (All-head IsGenerated c.name (names_in came) are) (All-head IsLogged c came logged) fronts.0 (All-head IsTakenWhole c came whole))
      (each_counted came files (All-tail IsGenerated c.name (names_in came) are) (All-tail IsLogged c came logged) fronts.1 (All-tail IsTakenWhole c came whole))

  abbrev messages_in : List FileOutcome → ℕ
  messages_in came = sum_by (λ (c : FileOutcome). c.messages) came

  one_more : (c : FileOutcome) (came : List FileOutcome) (n : ℕ) → All IsCounted (c ∷ came) → messages_in came ≡ n → messages_in (c ∷ came) ≡ lines + n
  one_more c came n all rest = omega (arith, sum_by-cons (λ (x : FileOutcome). x.messages) c came, All-head IsCounted c came all, rest)

  four_counted : (came : List FileOutcome) → names_in came ≡ generated_names → All IsCounted came → messages_in came ≡ 4 * lines
  four_counted [] are all = absurd (omega (arith, ap length are))
  four_counted (a ∷ []) are all = absurd (omega (arith, ap length are))
  four_counted (a ∷ b ∷ []) are all = absurd (omega (arith, ap length are))
  four_counted (a ∷ b ∷ c ∷ []) are all = absurd (omega (arith, ap length are))
  four_counted (a ∷ b ∷ c ∷ d ∷ []) are all =
      let behind_a = All-tail IsCounted a (b ∷ c ∷ d ∷ []) all in
      let behind_b = All-tail IsCounted b (c ∷ d ∷ []) behind_a in
      let behind_c = All-tail IsCounted c (d ∷ []) behind_b in
      omega (arith, one_more a (b ∷ c ∷ d ∷ []) _ all (one_more b (c ∷ d ∷ []) _ behind_a (one_more c (d ∷ []) _ behind_b (one_more d [] 0 behind_c refl))))
  four_counted (a ∷ b ∷ c ∷ d ∷ e ∷ came) are all = absurd (omega (arith, ap length are))

  pub all_counted : (came : List FileOutcome) (files : List File) → names_in came ≡ generated_names → All IsLogged came → AllZip (IsFront 1) came files → All IsTakenWhole came → messages_in came ≡ 4 * lines
  all_counted came files are logged fronts whole = four_counted came are (each_counted came files (all_named came are) logged fronts whole)

  -- ---- causes

  -- what is told of the four logs where the openings of others may fail, and where none does
  abbrev told_with : (List ℕ → Option (List ℕ)) → (List ℕ → ℕ × ℕ) → Logs
  told_with unread opens = record { opens = opens; reads = λ name. (0, 0); unread = unread }

  module _ (unread unread' : List ℕ → Option (List ℕ)) (most : lines ≤ 1000000) (opens : List ℕ → ℕ × ℕ) (none : (name : List ℕ) → IsGenerated name → opens name ≡ (0, 0)) (into : Target) (old mid new : DiskState) (same : new.seen ≡ mid.seen) (later : mid.faults ≤ new.faults) where
    abbrev Spares : FileOutcome → Option PartCause → Type 0
    Spares c r = HasCauseIn (told_with unread' (λ name. (0, 0))) into old new c r × MayRefuseLog r

    spares : (c : FileOutcome) → IsGenerated c.name → IsLogged c → (r : Option PartCause) → HasCauseIn (told_with unread opens) into old mid c r → Spares c r
    spares c is logged None cause = (cause, tt)
    spares c is logged (Some PartCause.OpenFault) cause = absurd (not_risen (subst RoseIn (none c.name is) cause.0))
    spares c is logged (Some PartCause.ReadFault) cause = absurd (not_risen cause)
    spares c is logged (Some (PartCause.LineTooLong line)) cause = absurd (none_long c.name is line (subst (λ (o : Option (List ℕ)). IfSome o (λ bytes. IsLong bytes line)) logged cause.0))
    spares c is logged (Some PartCause.TooManyLines) cause = absurd (none_many most into.header.version c.name is (subst (λ (o : Option (List ℕ)). HasMoreThan most_messages into.header.version o) logged cause.1))
    spares c is logged (Some (PartCause.Full book count)) cause = (cause, tt)
    spares c is logged (Some (PartCause.ArchiveFull end need)) cause = ((cause.0, told_map into.told (fit_later unread unread' opens (λ name. (0, 0)) (λ name. (0, 0)) into.rows into.first into.came into.header into.entries mid new same c end need) cause.1), tt)
    spares c is logged (Some PartCause.DiskFault) cause = (rose_on old.faults mid.faults new.faults later cause, tt)
    spares c is logged (Some PartCause.OutOfMemory) cause = (tt, tt)

    abbrev Before : FileOutcome → Type 0
    Before = CameIn (told_with unread opens) into old mid

    abbrev After : FileOutcome → Type 0
    After = CameIn (told_with unread' (λ name. (0, 0))) into old new

    each_after : (came : List FileOutcome) → All IsGenerated (names_in came) → All IsLogged came → All Before came → All After came
    each_after [] are logged all = All-nil After
    each_after (c ∷ came) are logged all =
        let one : Before c = All-head Before c came all in
        All-cons After c came (record { cause = (spares c (All-head IsGenerated c.name (names_in came) are) (All-head IsLogged c came logged) c.refusal one.cause).0; part = one.part; unopened = one.unopened })
        (each_after came (All-tail IsGenerated c.name (names_in came) are) (All-tail IsLogged c came logged) (All-tail Before c came all))

    each_spared : (came : List FileOutcome) → All IsGenerated (names_in came) → All IsLogged came → All Before came → All IsSpared came
    each_spared [] are logged all = All-nil IsSpared
    each_spared (c ∷ came) are logged all =
        let one : Before c = All-head Before c came all in
        All-cons IsSpared c came (spares c (All-head IsGenerated c.name (names_in came) are) (All-head IsLogged c came logged) c.refusal one.cause).1
        (each_spared came (All-tail IsGenerated c.name (names_in came) are) (All-tail IsLogged c came logged) (All-tail Before c came all))

  -- the causes of the four logs
  module _ (unread unread' : List ℕ → Option (List ℕ)) (most : lines ≤ 1000000) (s later : GeneratedState) (workers rows : ℕ) (old mid new : DiskState) (same : new.seen ≡ mid.seen) (counts : mid.faults ≤ new.faults) (came : List FileOutcome) (are : names_in came ≡ generated_names) (logged : All IsLogged came) where
    abbrev opens_in : List ℕ → ℕ × ℕ
    opens_in name = (open_faults_of s name, open_faults_of later name)

    pub logs_spared : HaveFileCauses (told_with unread opens_in) workers rows old mid came → All IsSpared came
    logs_spared have = each_spared unread unread' most opens_in (calm s later) have.into old mid new same counts came (all_named came are) logged have.causes.each

    -- no read of them failed
    none_cut : (have : HaveFileCauses (told_with unread opens_in) workers rows old mid came) → AreCutShort unread' have.into.header.version came
    none_cut have = λ place c bytes at is log. absurd (subst MayRefuseLog is (at_of IsSpared came place c (logs_spared have) at))

    pub log_causes : HaveFileCauses (told_with unread opens_in) workers rows old mid came → HaveFileCauses (told_with unread' (λ name. (0, 0))) workers rows old new came
    log_causes have = record { into = have.into; came_are = have.came_are; rows_are = have.rows_are; told = have.told; causes = record { each = each_after unread unread' most opens_in (calm s later) have.into old mid new same counts came (all_named came are) logged have.causes.each; cut = none_cut have; in_turn = have.causes.in_turn } }
