-- A worker that takes the messages of a source.
use Rattle.std.proofs.Common.{◌≡◌, ◌≢◌, ⊎_elim, inl, inr, ℕ, zero, suc, ◌+◌, ◌-◌, ◌<◌, ◌≤◌, List, [], ◌∷◌, ◌++◌, Bool, true, false, length, refl, sym, ap, ◌∙◌, subst, arith, append-nil, length-append, Option, None, Some, Result, Ok, Err}
use Rattle.std.specs.Prelude.{IfSome, IfNone, IfErr, IsErrOf, OnOk, is_some, not, take}
use Rattle.std.proofs.Math.Nat.{add-sub_of_le}
use Rattle.std.proofs.Math.Seq.{take-append-add}
use Rattle.std.specs.List.{Contains, flat_map}
use Rattle.std.proofs.lemmas.Bool.{ne_eqb}
use Rattle.std.proofs.lemmas.List.Elements.{All-nil, Contains-append_left, Contains-push}
use mathlib.Core.List.{IsPrefix}
use Rattle.log_seams.specs.Disk.{DiskState}
use Rattle.turn_lock.specs.Words.{seen, number_of, IsReady}
use Rattle.turn_lock.proofs.FrontLemmas.{prefix_self, prefix_trans}
use Rattle.column_store.specs.Columns.{IsFull}
use Rattle.row_codec.specs.Means.{AreCanonical}
use Rattle.row_codec.specs.Messages.{IsMessage}
use Rattle.row_codec.specs.Numbers.{numbers_of_row}
use Rattle.message_reader.specs.Reading.{HasOpenEnd, IsNewReader, ReadMessage, ReadToEnd, ReaderStays, ReaderState, RefusedToRead, left_of}
use Rattle.message_reader.specs.Taken.{HasRead, IsFrontOf, ToldFirst}
use Rattle.message_reader.specs.Versions.{MessagesOf}
use Rattle.message_reader.proofs.TakenLemmas.{reading_before_refusal, reading_begins, reading_ends, reading_goes_on, reading_is_front}
use Rattle.message_reader.proofs.VersionLawLemmas.{messages_agree, messages_exist, messages_join}
use Rattle.archive_meaning.specs.declared.TheConstants.{MAX_MESSAGES}
use Rattle.archive_meaning.specs.Held.{ends_open, last_is_open}
use Rattle.disk_seal.specs.declared.namer.LockNamer.{LockNamer}
use Rattle.disk_seal.specs.Draft.{journal_seen}
use Rattle.disk_seal.specs.Fixed.{KeeperPass}
use Rattle.ingest_workers.specs.declared.open_segment.OpenSegment.{OpenSegment}
use Rattle.ingest_workers.specs.declared.outcome.Cause.{Cause}
use Rattle.ingest_workers.specs.declared.outcome.Cause.TheVariants.{ReadFault as WasReadFault, LineTooLong as WasTooLong, TooManyLines as WereTooMany, Full, DiskFault, ArchiveFull, OutOfMemory}
use Rattle.ingest_workers.specs.declared.outcome.Outcome.{Outcome}
use Rattle.ingest_workers.specs.declared.file_end.FileEnd.{FileEnd}
use Rattle.ingest_workers.specs.declared.file_end.FileEnd.TheVariants.{Part as PartStop, Lost}
use Rattle.log_messages.specs.Laws.{file_text}
use Rattle.log_seams.specs.Outside.{CountsOf}
use Rattle.line_cut.specs.Length.{bytes_left}
use Rattle.line_cut.specs.declared.cut.Cut.{Cut}
use Rattle.line_cut.specs.declared.cut.Cut.TheVariants.{ReadFault, LineTooLong, TooManyLines, OutOfMemory as CutOutOfMemory}
use Rattle.line_cut.specs.declared.cut.Mark.{Mark}
use Rattle.ingest_workers.specs.Causes.{EndsLog, HasJobCause, HasLogCause, HasSealCause, HaveMoreThan, IsFullCause, Log, cause_by, grounds_of, log_from, log_of}
use Rattle.ingest_workers.specs.NoRoom.{FoundNoRoom}
use Rattle.row_codec.specs.declared.namer.Which.{Which}
use Rattle.ingest_meaning.specs.Given.{AreAllOf, AreFirstOf, IsAmongFirst, IsNextOf}
use Rattle.ingest_workers.specs.Full.{Books, IsMore, WasFullBehind, WasFullFor, book_of, books_by}
use Rattle.ingest_workers.specs.Namer.{HasOnlySeen}
use Rattle.ingest_workers.proofs.FullLemmas.{books_on, full_wider, more_self}
use Rattle.ingest_workers.specs.Doing.{Doing, NotSealed}
use Rattle.ingest_workers.specs.Done.{IsOutcome}
use Rattle.ingest_workers.specs.OpenSegment.{IsEmptySegment}
use Rattle.ingest_workers.specs.JobDone.{CameTo, CameToAll}
use Rattle.ingest_workers.specs.Journal.{FrontHolds, HasSoFar}
use Rattle.ingest_workers.specs.MaySeal.{IsWorker}
use Rattle.ingest_workers.specs.Namer.{types_pass, words_pass, types_seen, words_seen}
use Rattle.ingest_workers.specs.Naming.{HasNamed}
use Rattle.ingest_workers.specs.Outcome.{met_by, unsealed_by}
use Rattle.ingest_meaning.specs.Parts.{Part, IsCut, IsOpen, columns_of, front, messages_in, segments_from}
use Rattle.ingest_workers.specs.Stopping.{IsAtStop}
use Rattle.ingest_workers.specs.Taking.{AreTaken, HasLearned, HasStopCause, StopsAt, Taking, Took, UpToRest, mark_of, why_of}
use Rattle.ingest_workers.proofs.CauseLemmas.{cause_on, log_cause_on, name_cause, of_log, of_seal}
use Rattle.ingest_workers.proofs.MaySealLemmas.{nothing_added}
use Rattle.ingest_workers.proofs.NamingLemmas.{named_only, named_self, named_then, named_wider}
use Rattle.ingest_workers.proofs.NoRoomLemmas.{found_on}
use Rattle.ingest_workers.proofs.SealLemmas.{if_told, of_told}
use Rattle.ingest_workers.specs.FileEnd.{refused_by}
use Rattle.ingest_workers.specs.Turns.{LearnBoth, TakesFewOf, EndBoth, spare_of, stop_in}
use Rattle.ingest_workers.proofs.TurnsLemmas.{learn_self, learn_then, learn_wider, take_few, take_none}

abbrev Texts : Type 0
Texts = List (List ℕ)

-- ---- options and results

if_some : {T : Type 0} (o : Option T) (P Q : T → Type 0) → ((x : T) → P x → Q x) → IfSome o P → IfSome o Q
if_some None P Q f p = tt
if_some (Some x) P Q f p = f x p

each_some : {T : Type 0} (o : Option T) (P : T → Type 0) → ((x : T) → P x) → IfSome o P
each_some None P f = tt
each_some (Some x) P f = f x

pub err_at : {T E : Type 0} (r : Result T E) (y : E) (P : E → Type 0) → r ≡ Err y → IfErr r P → P y
err_at r y P is p = subst (λ s. IfErr s P) is p

pub ok_at : {T E : Type 0} (r : Result T E) (x : T) (P : Type 0) → r ≡ Ok x → OnOk r P → P
ok_at r x P is p = subst (λ s. OnOk s P) is p

pub some_at : {T : Type 0} (o : Option T) (x : T) (P : T → Type 0) → o ≡ Some x → IfSome o P → P x
some_at o x P is p = subst (λ q. IfSome q P) is p

pub none_at : {T : Type 0} (o : Option T) (P : Type 0) → o ≡ None → IfNone o P → P
none_at o P is p = subst (λ q. IfNone q P) is p

-- ---- the last line

open_at : (front : List ℕ) (last : ℕ) → last ≢ 10 → ends_open (front ++ last ∷ []) ≡ true
open_at [] last some = ap not (ne_eqb last 10 some)
open_at (b ∷ []) last some = open_at [] last some
open_at (b ∷ c ∷ front) last some = open_at (c ∷ front) last some

open_of : (text : List ℕ) → HasOpenEnd text → ends_open text ≡ true
open_of text o = subst (λ l. ends_open l ≡ true) (sym o.2) (open_at o.0 o.1 o.3)

last_open : (xs : Texts) (x : List ℕ) → ends_open x ≡ true → last_is_open (xs ++ x ∷ []) ≡ true
last_open [] x is = is
last_open (y ∷ []) x is = is
last_open (y ∷ z ∷ xs) x is = last_open (z ∷ xs) x is

-- ---- what the source tells

-- they are the first ones, and all
abbrev AreFirst : ℕ → Texts → List ℕ → Type 0
AreFirst version taken b = (messages : Texts) (e : Bool) → MessagesOf version b messages e → IsPrefix taken messages

abbrev AreAll : ℕ → Texts → Bool → List ℕ → Type 0
AreAll version taken ended b = (messages : Texts) (e : Bool) → MessagesOf version b messages e → (taken ≡ messages) × (ended ≡ e)

front_of : {S : Type 0} (left : S → Option (List ℕ)) (version : ℕ) (bytes : Option (List ℕ)) (taken : Texts) (r : ReaderState S) → HasRead left version bytes taken r → IfSome bytes (AreFirst version taken)
front_of left version bytes taken r h =
    if_some bytes (IsFrontOf version taken) (AreFirst version taken) (λ b f messages e m. let more = f messages e m in (more.0, sym more.1)) (reading_is_front left version bytes taken r h)

all_of : (version : ℕ) (bytes : Option (List ℕ)) (taken : Texts) (ended : Bool) → IfSome bytes (λ b. MessagesOf version b taken ended) → IfSome bytes (AreAll version taken ended)
all_of version bytes taken ended told =
    if_some bytes (λ b. MessagesOf version b taken ended) (AreAll version taken ended) (λ b mine messages e m. messages_agree version b taken messages ended e mine m) told

-- they are among the first ones, as many as there are or more
among_first : (version : ℕ) (bytes : Option (List ℕ)) (met : Texts) (count : ℕ) → AreFirstOf version bytes met → length met ≤ count → (x : List ℕ) → Contains met x → IsAmongFirst version bytes count x
among_first version bytes met count first le x is =
    if_some bytes (AreFirst version met) (λ b. (messages : Texts) (e : Bool) → MessagesOf version b messages e → Contains (take count messages) x)
    (λ b are messages e m. let f = are messages e m in subst (λ l. Contains (take count l) x) f.1 (in_front f.0)) first
  where
    in_front : (rest : Texts) → Contains (take count (met ++ rest)) x
    in_front rest = let behind = take (count - length met) rest in
        subst (λ n. Contains (take n (met ++ rest)) x) (add-sub_of_le le) (subst (λ l. Contains l x) (sym (take-append-add met rest (count - length met))) (Contains-append_left met behind x is))

-- more is left than as many messages as the limit
text_of : (version : ℕ) (rest : List ℕ) (messages : Texts) (ended : Bool) → MessagesOf version rest messages ended → messages ≡ [] → 0 < length rest → ⊥
text_of version rest messages ended m none some =
    let joined : file_text [] ended ≡ rest = subst (λ l. file_text l ended ≡ rest) none (messages_join version rest messages ended m) in no_text ended rest joined some
  where
    no_text : (e : Bool) (bytes : List ℕ) → file_text [] e ≡ bytes → 0 < length bytes → ⊥
    no_text true bytes is some = let size = ap length is in omega (arith, size, some)
    no_text false bytes is some = let size = ap length is in omega (arith, size, some)

one_more : (messages : Texts) → (messages ≡ [] → ⊥) → 0 < length messages
one_more [] some = absurd (some refl)
one_more (m ∷ messages) some = omega arith

more_than : (version : ℕ) (bytes : Option (List ℕ)) (taken : Texts) (rest : Option (List ℕ)) (held : List ℕ) (left : Option (List ℕ)) → ToldFirst version bytes taken rest → rest ≡ bytes_left held left → 0 < length held → length taken ≡ MAX_MESSAGES
    → HaveMoreThan MAX_MESSAGES version bytes
more_than version None taken rest held left told is some most = tt
more_than version (Some b) taken None held left told is some most = absurd told
more_than version (Some b) taken (Some r) held None told is some most = absurd (cc (is))
more_than version (Some b) taken (Some r) held (Some x) told is some most = λ messages ended m.
    let begins : r ≡ held ++ x = cc (is) in
    let others = messages_exist version r in
    let all : messages ≡ taken ++ others.0 = (messages_agree version b messages (taken ++ others.0) ended others.1 m (told.others others.0 others.1 others.2)).0 in
    let long = ap length begins in let held_more = length-append held x in
    let left_some : 0 < length others.0 = one_more others.0 (λ none. text_of version r others.0 others.1 others.2 none (omega (arith, long, held_more, some))) in
    omega (arith, ap length all, length-append taken others.0, most, left_some)

-- ---- causes, by what was met

one_refused : (full : Which → ℕ → Type 0) (cause : Cause) → IsFullCause full cause → refused_by (Some cause) ≡ 1
one_refused full (Full book count) is = refl
one_refused full WasReadFault is = absurd is
one_refused full (WasTooLong line) is = absurd is
one_refused full WereTooMany is = absurd is
one_refused full (DiskFault opened now) is = absurd is
one_refused full (ArchiveFull end need) is = absurd is
one_refused full OutOfMemory is = absurd is

one_unsealed : (rows : ℕ) (cause : Option Cause) → refused_by cause ≤ unsealed_by rows cause
one_unsealed rows None = omega arith
one_unsealed rows (Some (Full book count)) = omega arith
one_unsealed rows (Some WasReadFault) = omega arith
one_unsealed rows (Some (WasTooLong line)) = omega arith
one_unsealed rows (Some WereTooMany) = omega arith
one_unsealed rows (Some (DiskFault opened now)) = omega arith
one_unsealed rows (Some (ArchiveFull end need)) = omega arith
one_unsealed rows (Some OutOfMemory) = omega arith

all_in_hand : {D : Type 0} (state : D → DiskState) (no_room : ℕ → ℕ → Type 0) (rows : ℕ) (p q : KeeperPass D) (cause : Cause) → HasSealCause state no_room p q cause → unsealed_by rows (Some cause) ≡ rows
all_in_hand state no_room rows p q (DiskFault opened now) has = refl
all_in_hand state no_room rows p q (ArchiveFull end need) has = refl
all_in_hand state no_room rows p q OutOfMemory has = refl
all_in_hand state no_room rows p q WasReadFault has = absurd has
all_in_hand state no_room rows p q (WasTooLong line) has = absurd has
all_in_hand state no_room rows p q WereTooMany has = absurd has
all_in_hand state no_room rows p q (Full book count) has = absurd has

-- ---- the next message

module _ {S D R A B C : Type 0} (state : D → DiskState) (left : S → Option (List ℕ)) (limit : ℕ) (bytes : Option (List ℕ)) (start p : KeeperPass D) (m n : LockNamer R A B C) (segment : OpenSegment) (old new : ReaderState S) (taken : Texts)
    (t : Taking state left limit bytes start p m n segment old taken) where
  -- no text was named since
  learned_none : (answer : Result Bool FileEnd) → HasLearned state n.version bytes start p m n answer taken
  learned_none answer = record {
    met = taken;
    front = prefix_self taken;
    few = omega arith;
    first = front_of left n.version bytes taken old t.read;
    learned = learn_then state (Contains taken) (stop_in answer) start p p m n n t.version t.learned (learn_self state (Contains taken) (stop_in answer) p n);
    named = t.named;
  }

  pub took_all : (faults : S → ℕ) → faults new.source ≡ faults old.source → ReadToEnd left old new → Took state limit n.version (log_from bytes left faults old.source new.source) start p m n segment (Ok true)
  took_all faults steady at_end = record {
    caused = steady;
    taken = taken;
    few = t.few;
    stops = (t.doing, λ e. absurd (cc (e)));
    told = all_of n.version bytes taken true ((reading_ends left n.version bytes taken old new t.read).1 at_end t.going);
    learned = learned_none (Ok true);
  }

  -- the reader refused, and this is its cause
  module _ (faults : S → ℕ) (result : Result (Option Mark) Cut) (counts : CountsOf ReadFault (faults old.source) (faults new.source) result) (full : List (List ℕ) → Which → ℕ → Type 0) where
    cut_cause : (cut : Cut) → IsErrOf result cut → RefusedToRead left faults old new cut → HasStopCause full (log_from bytes left faults old.source new.source) n.version taken (Err (PartStop (cause_by cut)))
    cut_cause ReadFault is r = (counts.failed is, reading_before_refusal left faults n.version bytes taken old new ReadFault t.read r t.going)
    cut_cause (LineTooLong line) is r = let g = reading_before_refusal left faults n.version bytes taken old new (LineTooLong line) t.read r t.going in (counts.spared (LineTooLong line) is (λ e. cc (e)), g.0, g.1)
    cut_cause TooManyLines is r = (
      counts.spared TooManyLines is (λ e. cc (e)),
      reading_before_refusal left faults n.version bytes taken old new TooManyLines t.read r t.going,
      more_than n.version bytes taken (left_of left old) new.pending (left new.source) t.read.told (sym r.left_same) (r.cause t.going).some
          (reading_before_refusal left faults n.version bytes taken old new TooManyLines t.read r t.going),
    )
    cut_cause CutOutOfMemory is r = absurd (r.cause t.going)

  pub took_part : (faults : S → ℕ) (result : Result (Option Mark) Cut) → CountsOf ReadFault (faults old.source) (faults new.source) result → (cut : Cut) (cause : Cause) → cause ≡ cause_by cut → IsErrOf result cut → RefusedToRead left faults old new cut
      → Took state limit n.version (log_from bytes left faults old.source new.source) start p m n segment (Err (PartStop cause))
  took_part faults result counts cut cause same is r = let full = WasFullBehind n.version (books_by (types_pass n) (words_pass n)) bytes in record {
    taken = taken;
    few = t.few;
    stops = t.doing;
    told = front_of left n.version bytes taken old t.read;
    learned = learned_none (Err (PartStop cause));
    caused = subst (λ x. HasStopCause full (log_from bytes left faults old.source new.source) n.version taken (Err (PartStop x))) (sym same) (cut_cause faults result counts full cut is r);
  }

  pub room_for_one : (ended : Bool) → ReadMessage left ended old new → length taken < MAX_MESSAGES
  room_for_one ended m = omega (arith, m.within, t.read.given)

  few_more : (ended : Bool) → ReadMessage left ended old new → length (taken ++ new.message ∷ []) ≤ MAX_MESSAGES
  few_more ended m = omega (arith, room_for_one ended m, length-append taken (new.message ∷ []))

  module _ (name : S → Option (List ℕ)) (faults : S → ℕ) (stays : ReaderStays name faults old new) where
    front_more : (ended : Bool) → ReadMessage left ended old new → IfSome bytes (AreFirst n.version (taken ++ new.message ∷ []))
    front_more true m = front_of left n.version bytes (taken ++ new.message ∷ []) new (reading_goes_on left name faults n.version bytes taken old new t.read stays m)
    front_more false m =
        let more = taken ++ new.message ∷ [] in
        if_some bytes (AreAll n.version more false) (AreFirst n.version more) (λ b all messages e is. subst (IsPrefix more) (all messages e is).0 (prefix_self more))
        (all_of n.version bytes more false ((reading_ends left n.version bytes taken old new t.read).0 m))

    module _ (line : List ℕ) (same : line ≡ new.message) (q : KeeperPass D) (o : LockNamer R A B C) (next : OpenSegment) (named : HasNamed (λ x. x ≡ line) n o) where
      -- the messages that were met then
      abbrev met_now : List ℕ → Type 0
      met_now = Contains (taken ++ new.message ∷ [])

      before_it : (x : List ℕ) → Contains taken x → met_now x
      before_it x is = Contains-append_left taken (new.message ∷ []) x is

      the_last : (x : List ℕ) → x ≡ line → met_now x
      the_last x is = subst met_now (sym (is ∙ same)) (Contains-push taken new.message)

      named_more : HasNamed met_now m o
      named_more = named_then met_now m n o (named_wider (Contains taken) met_now before_it m n t.named) (named_wider (λ x. x ≡ line) met_now the_last n o named)

      learned_more : (stop : Option FileEnd) → LearnBoth state (λ x. x ≡ line) stop p q n o → LearnBoth state met_now stop start q m o
      learned_more stop l =
          learn_then state met_now stop start p q m n o t.version (learn_wider state (Contains taken) met_now before_it None start p m n t.learned) (learn_wider state (λ x. x ≡ line) met_now the_last stop p q n o l)

      pub took_stop : (ended : Bool) → ReadMessage left ended old new → faults new.source ≡ faults old.source → (y : FileEnd) → LearnBoth state (λ x. x ≡ line) (Some y) p q n o → IsAtStop state limit start q o next taken line y
          → Took state limit n.version (log_from bytes left faults old.source new.source) start q m o next (Err y)
      took_stop ended message steady (PartStop cause) l d = record {
        taken = taken;
        few = t.few;
        stops = d.0;
        told = front_of left n.version bytes taken old t.read;
        learned = record {
          met = taken ++ new.message ∷ [];
          front = (new.message ∷ [], refl);
          few = let one = one_refused (WasFullFor o.version (λ x. x ≡ line) (books_by (types_pass o) (words_pass o))) cause d.1 in omega (arith, one, length-append taken (new.message ∷ []));
          first = front_more ended message;
          learned = learned_more (Some (PartStop cause)) l;
          named = named_more;
        };
        caused = let known = books_by (types_pass o) (words_pass o) in
            name_cause (WasFullFor o.version (λ x. x ≡ line) known) (WasFullBehind n.version known bytes) (log_from bytes left faults old.source new.source) n.version taken (λ book count is.
            full_wider n.version (λ x. x ≡ line) (IsNextOf n.version bytes taken) (λ x at. subst (IsNextOf n.version bytes taken) (sym (at ∙ same)) (front_more ended message)) known known (λ b. more_self (book_of known b)) book count
            (subst (λ v. WasFullFor v (λ x. x ≡ line) known book count) named.version is)) cause steady d.1;
      }
      took_stop ended message steady (Lost cause) l c = record {
        caused = tt;
        taken = taken ++ new.message ∷ [];
        few = few_more ended message;
        stops = subst (λ l. NotSealed state limit start q o next (taken ++ l ∷ []) cause) same c;
        told = front_more ended message;
        learned = record {
          met = taken ++ new.message ∷ [];
          front = prefix_self (taken ++ new.message ∷ []);
          few = omega arith;
          first = front_more ended message;
          learned = learned_more (Some (Lost cause)) l;
          named = named_more;
        };
      }

      pub taking_more : (ended : Bool) → ended ≡ true → ReadMessage left ended old new → LearnBoth state (λ x. x ≡ line) None p q n o → Doing state limit start q o next (taken ++ line ∷ []) → Taking state left limit bytes start q m o next new (taken ++ new.message ∷ [])
      taking_more ended is message l d =
          let m' = subst (λ e. ReadMessage left e old new) is message in record {
            doing = subst (λ l. Doing state limit start q o next (taken ++ l ∷ [])) same d;
            read = subst (λ v. HasRead left v bytes (taken ++ new.message ∷ []) new) (sym named.version) (reading_goes_on left name faults n.version bytes taken old new t.read stays m');
            going = m'.progress;
            few = few_more true m';
            version = named.version ∙ t.version;
            learned = learned_more None l;
            named = named_more;
          }

      pub took_last : (ended : Bool) → ended ≡ false → ReadMessage left ended old new → faults new.source ≡ faults old.source → LearnBoth state (λ x. x ≡ line) None p q n o → Doing state limit start q o next (taken ++ line ∷ [])
          → Took state limit n.version (log_from bytes left faults old.source new.source) start q m o next (Ok false)
      took_last ended is message steady l d =
          let m' = subst (λ e. ReadMessage left e old new) is message in record {
            caused = steady;
            taken = taken ++ new.message ∷ [];
            few = few_more false m';
            stops = (subst (λ l. Doing state limit start q o next (taken ++ l ∷ [])) same d, λ e. last_open taken new.message (open_of new.message (m'.open_end refl)));
            told = all_of n.version bytes (taken ++ new.message ∷ []) false ((reading_ends left n.version bytes taken old new t.read).0 m');
            learned = record {
              met = taken ++ new.message ∷ [];
              front = prefix_self (taken ++ new.message ∷ []);
              few = omega arith;
              first = front_more false m';
              learned = learned_more None l;
              named = named_more;
            };
          }

-- ---- over several messages

module _ {S D R A B C : Type 0} (state : D → DiskState) (left : S → Option (List ℕ)) (limit : ℕ) (bytes : Option (List ℕ)) (start p q : KeeperPass D) (m n o : LockNamer R A B C) (segment next : OpenSegment) (old new : ReaderState S) (taken : Texts) (text : List ℕ) where
  pub one_less : Taking state left limit bytes start p m n segment old taken → Taking state left limit bytes start q m o next new (taken ++ text ∷ []) → MAX_MESSAGES - new.given < MAX_MESSAGES - old.given
  one_less a b = omega (arith, a.read.given, b.read.given, b.few, length-append taken (text ∷ []))

-- told since an earlier moment, since when no read failed
pub took_since : {S : Type 0} (bytes : Option (List ℕ)) (left : S → Option (List ℕ)) (faults : S → ℕ) (first old new : S) → faults old ≡ faults first → (P : Log → Type 0) → P (log_from bytes left faults old new) → P (log_from bytes left faults first new)
took_since bytes left faults first old new steady P p = subst (λ n. P (record { bytes = bytes; behind = left new; faults = n; faults_now = faults new })) steady p

-- ---- before the first message

abbrev none : Part
none = record { rows = []; messages = [] }

never_full : (limit : ℕ) → 1 ≤ limit → IsFull (record { rows = []; bytes = 0 }) limit → ⊥
never_full limit least (inl le) = let low : limit ≤ 0 = le in omega (arith, low, least)
never_full limit least (inr (inl le)) = let low : 1048576 ≤ 0 = le in omega (arith, low)
never_full limit least (inr (inr le)) = let low : 16777216 ≤ 0 = le in omega (arith, low)

none_full : (limit : ℕ) → 1 ≤ limit → (k : ℕ) → IsFull (columns_of (front k none)) limit → ⊥
none_full limit least zero full = never_full limit least full
none_full limit least (suc k) full = never_full limit least full

none_open : (limit : ℕ) → 1 ≤ limit → IsOpen limit none
none_open limit least = record { even = refl; not_yet = λ k le. none_full limit least k }

module _ {D R A B C : Type 0} (state : D → DiskState) (limit : ℕ) (least : 1 ≤ limit) (p : KeeperPass D) (so_far : HasSoFar state p []) where
  doing_none : (n : LockNamer R A B C) (segment : OpenSegment) (file : ℕ) → IsWorker p n → file ≡ number_of p → IsEmptySegment file 0 segment → Doing state limit p p n segment []
  doing_none n segment file worker is empty = record {
    closed = [];
    messages = [];
    more = [];
    taken_is = refl;
    cut = All-nil (IsCut limit);
    not_yet = subst (λ rows. IsOpen limit (record { rows = rows; messages = [] })) (sym empty.rows) (none_open limit least);
    has = record {
      canonical = subst (λ rows. AreCanonical n.version rows (types_seen n) (words_seen n) []) (sym empty.rows) tt;
      used = empty.used ∙ ap (flat_map (numbers_of_row (types_seen n))) (sym empty.rows);
      bytes = empty.bytes;
    };
    each = All-nil (IsMessage n.version);
    first = empty.first_is;
    file = empty.file_is ∙ is;
    not_last = empty.not_last;
    not_ended = empty.not_ended;
    worker = worker;
    added = nothing_added p worker.ready;
    segments = λ a at. if_told (is_some (state a.fixed.opened).seen) _ (λ told. refl);
    so_far = so_far;
  }

  pub taking_none : {S : Type 0} (left : S → Option (List ℕ)) (source : S) (r : ReaderState S) (n : LockNamer R A B C) (segment : OpenSegment) (file : ℕ) → IsWorker p n → file ≡ number_of p → IsEmptySegment file 0 segment → IsNewReader n.version source r
      → Taking state left limit (left source) p p n n segment r []
  taking_none left source r n segment file worker is empty fresh =
      record {
        doing = doing_none n segment file worker is empty;
        read = reading_begins left n.version source r fresh;
        going = fresh.progress;
        few = omega arith;
        version = refl;
        learned = learn_self state (Contains []) None p n;
        named = named_self (Contains []) n;
      }

module _ {D : Type 0} (state : D → DiskState) (limit : ℕ) (least : 1 ≤ limit) (p : KeeperPass D) (so_far : HasSoFar state p []) where
  pub came_none : (version : ℕ) (books : Books) (log : Log) → IsReady p → (why : Option Cause) → HasJobCause (grounds_of state limit version books log.bytes p p) log version [] why → CameTo state limit version books log p p (record { messages = 0; whole = false; cause = why })
  came_none version books log ready why right = record {
    caused = right;
    covered = [];
    ended = false;
    count = refl;
    done = record {
      closed = [];
      rest = none;
      more = [];
      covered_is = refl;
      cut = All-nil (IsCut limit);
      not_yet = none_open limit least;
      added = nothing_added p ready;
      segments = λ a at. if_told (is_some (state a.fixed.opened).seen) _ (λ told. refl);
      held = λ a at. if_told (is_some (state a.fixed.opened).seen) _ (λ told.
          let found : FrontHolds a.fixed.header (journal_seen (seen p)) (number_of p) [] false false = record {
            front = journal_seen (seen p);
            begins = prefix_self (journal_seen (seen p));
            holds = of_told (is_some (state a.fixed.opened).seen) _ told (so_far a at);
          } in found);
    };
    first = each_some log.bytes (AreFirst version []) (λ b messages e is. (messages, refl));
    all = λ w. absurd (cc (w));
  }

-- ---- the end

module _ {D R A B C : Type 0} (state : D → DiskState) (limit : ℕ) (start p : KeeperPass D) (n : LockNamer R A B C) (segment : OpenSegment) (taken : Texts) where
  pub at_end : (answer : Result Bool FileEnd) (ended : Bool) → answer ≡ Ok ended → StopsAt state limit start p n segment taken answer → Doing state limit start p n segment taken × (ended ≡ false → last_is_open taken ≡ true)
  at_end answer ended is s = subst (StopsAt state limit start p n segment taken) is s

  pub at_part : (answer : Result Bool FileEnd) (cause : Cause) → answer ≡ Err (PartStop cause) → StopsAt state limit start p n segment taken answer → Doing state limit start p n segment taken
  at_part answer cause is s = subst (StopsAt state limit start p n segment taken) is s

  lost_done : 1 ≤ limit → (cause : Cause) → NotSealed state limit start p n segment taken cause → IsOutcome state limit n.version (books_by (types_pass n) (words_pass n)) start p taken (λ all. ⊥) false None (record { messages = segment.draft.first; whole = false; cause = Some cause })
  lost_done least cause s = let c = s.covering in record {
    caused = inr (cause, refl, s.caused);
    covered = messages_in c.closed;
    front = c.front;
    few = omega (arith, c.few);
    all = λ is. absurd (cc (is));
    whole_none = λ is. absurd (cc (is));
    count = c.first;
    done = record {
      closed = c.closed;
      rest = none;
      more = c.more;
      covered_is = sym (append-nil (messages_in c.closed));
      cut = c.cut;
      not_yet = none_open limit least;
      added = c.added;
      segments = λ a at. if_told (is_some (state a.fixed.opened).seen) _ (λ told.
          of_told (is_some (state a.fixed.opened).seen) _ told (c.segments a at) ∙ sym (append-nil (segments_from (number_of start) 0 c.closed)));
      held = c.held;
    };
  }

  pub lost_outcome : 1 ≤ limit → (answer : Result Bool FileEnd) (cause : Cause) → answer ≡ Err (Lost cause) → StopsAt state limit start p n segment taken answer
      → IsOutcome state limit n.version (books_by (types_pass n) (words_pass n)) start p taken (UpToRest answer taken) (mark_of answer) (why_of answer) (record { messages = segment.draft.first; whole = false; cause = Some cause })
  lost_outcome least answer cause is s =
      let at = subst (StopsAt state limit start p n segment taken) is s in
      subst (λ a. IsOutcome state limit n.version (books_by (types_pass n) (words_pass n)) start p taken (UpToRest a taken) (mark_of a) (why_of a) (record { messages = segment.draft.first; whole = false; cause = Some cause })) (sym is) (lost_done least cause at)

first_of : (answer : Result Bool FileEnd) (taken covered messages : Texts) (e : Bool) → IsPrefix covered taken → AreTaken answer taken messages e → IsPrefix covered messages
first_of (Ok ended) taken covered messages e front is = subst (IsPrefix covered) is.0 front
first_of (Err y) taken covered messages e front is = prefix_trans covered taken messages front is

all_at_end : (answer : Result Bool FileEnd) (ended : Bool) → answer ≡ Ok ended → (taken covered messages : Texts) (e : Bool) → covered ≡ taken → AreTaken answer taken messages e → (covered ≡ messages) × (mark_of answer ≡ e)
all_at_end (Ok x) ended is_end taken covered messages e same is = (same ∙ is.0, is.1)
all_at_end (Err y) ended is_end taken covered messages e same is = absurd (cc (is_end))

module _ {D R A B C : Type 0} (state : D → DiskState) (limit version : ℕ) (log : Log) (start p : KeeperPass D) (m n : LockNamer R A B C) (segment : OpenSegment) (answer : Result Bool FileEnd) (t : Took state limit version log start p m n segment answer) (q : KeeperPass D)
    (outcome : Outcome) where
  abbrev known : Books
  known = books_by (types_pass n) (words_pass n)

  -- the cause, where no further message was taken for it and all that were are sealed
  stopped_by : (a : Result Bool FileEnd) (covered : Texts) (o : Option Cause) → HasStopCause (WasFullBehind version known log.bytes) log version t.taken a → ((x : Cause) → a ≡ Err (Lost x) → o ≡ None → ⊥) → o ≡ why_of a → covered ≡ t.taken
      → HasJobCause (grounds_of state limit version known log.bytes start q) log version covered o
  stopped_by (Ok ended) covered o has lost is all = subst (HasJobCause (grounds_of state limit version known log.bytes start q) log version covered) (sym is) has
  stopped_by (Err (PartStop cause)) covered o has lost is all =
      subst (HasJobCause (grounds_of state limit version known log.bytes start q) log version covered) (sym is)
      (subst (λ l. HasJobCause (grounds_of state limit version known log.bytes start q) log version l (Some cause)) (sym all) (of_log state limit known start q log version t.taken cause has))
  stopped_by (Err (Lost cause)) covered o has lost is all = absurd (lost cause refl is)

  abbrev told : List ℕ → Type 0
  told b = (messages : Texts) (e : Bool) → MessagesOf version b messages e → AreTaken answer t.taken messages e

  -- the first of the messages taken are the first of the log
  first_taken : (first : Texts) → IsPrefix first t.taken → AreFirstOf version log.bytes first
  first_taken first front = if_some log.bytes told (AreFirst version first) (λ b tells messages e is. first_of answer t.taken first messages e front (tells messages e is)) t.told

  -- where those taken may be sealed, no further one of the log is
  last_taken : (books : Books) → ((book : Which) → IsMore (book_of known book) (book_of books book)) → (all : Texts) → UpToRest answer t.taken all → EndsLog (WasFullBehind version books log.bytes) log version all
  last_taken books more all upto = ends_by answer t.caused t.told upto
    where
      ends_by : (a : Result Bool FileEnd) → HasStopCause (WasFullBehind version known log.bytes) log version t.taken a → IfSome log.bytes (λ b. (messages : Texts) (e : Bool) → MessagesOf version b messages e → AreTaken a t.taken messages e)
          → UpToRest a t.taken all → EndsLog (WasFullBehind version books log.bytes) log version all
      ends_by (Ok ended) caused tells is = inl (if_some log.bytes (λ b. (messages : Texts) (e : Bool) → MessagesOf version b messages e → (t.taken ≡ messages) × (ended ≡ e))
          (λ b. (messages : Texts) (e : Bool) → MessagesOf version b messages e → all ≡ messages) (λ b these messages e of. is ∙ (these messages e of).0) tells)
      ends_by (Err (PartStop cause)) caused tells is = inr (
        cause,
        log_cause_on (WasFullBehind version known log.bytes) (WasFullBehind version books log.bytes) log version all cause (full_wider version (IsNextOf version log.bytes all) (IsNextOf version log.bytes all) (λ x next. next) known books more)
            (subst (λ ms. HasLogCause (WasFullBehind version known log.bytes) log version ms cause) (sym is) caused),
      )
      ends_by (Err (Lost cause)) caused tells is = absurd is

  module _ (books : Books) (o : IsOutcome state limit version books start q t.taken (UpToRest answer t.taken) (mark_of answer) (why_of answer) outcome) (ends : outcome.cause ≡ None → (ended : Bool) × (answer ≡ Ok ended)) where
    not_lost : (x : Cause) → answer ≡ Err (Lost x) → outcome.cause ≡ None → ⊥
    not_lost x is none = cc ((ends none).1, is)

    caused_by : ((book : Which) → IsMore (book_of known book) (book_of books book)) → HasJobCause (grounds_of state limit version books log.bytes start q) log version o.covered outcome.cause
    caused_by more =
        ⊎_elim
        (λ (stop : (outcome.cause ≡ why_of answer) × (o.covered ≡ t.taken)).
        cause_on (grounds_of state limit version known log.bytes start q) (grounds_of state limit version books log.bytes start q) log version o.covered outcome.cause
        (λ ms. full_wider version (IsNextOf version log.bytes ms) (IsNextOf version log.bytes ms) (λ x is. is) known books more)
        (λ last last' on. found_on state limit version known books (AreFirstOf version log.bytes) (AreFirstOf version log.bytes) last last' start q more (λ ms first. first) on o.covered) (λ opened now has. has)
        (stopped_by answer o.covered outcome.cause t.caused not_lost stop.0 stop.1))
        (λ (seal : (c : Cause) × (outcome.cause ≡ Some c) × HasSealCause state (FoundNoRoom state limit version books (λ first. IsPrefix first t.taken) (UpToRest answer t.taken) start q o.covered) start q c).
        subst (HasJobCause (grounds_of state limit version books log.bytes start q) log version o.covered) (sym seal.1)
        (of_seal state limit books start q log version o.covered _
        (found_on state limit version books books (λ first. IsPrefix first t.taken) (AreFirstOf version log.bytes) (UpToRest answer t.taken) (EndsLog (WasFullBehind version books log.bytes) log version) start q (λ book. more_self (book_of books book))
        first_taken (last_taken books more) o.covered) seal.0 seal.2))
        o.caused

  -- at the end of the source those that were taken are all of the log
  covered_all : (covered : Texts) (ended : Bool) → answer ≡ Ok ended → covered ≡ t.taken → AreAllOf version log.bytes covered
  covered_all covered ended is all = if_some log.bytes told (λ b. (messages : Texts) (e : Bool) → MessagesOf version b messages e → covered ≡ messages)
      (λ b tells messages e of. (all_at_end answer ended is t.taken covered messages e all (tells messages e of)).0) t.told

  pub came_to : (m : LockNamer R A B C) → HasOnlySeen n m → (v : ℕ) → v ≡ version → IsOutcome state limit v (books_by (types_pass m) (words_pass m)) start q t.taken (UpToRest answer t.taken) (mark_of answer) (why_of answer) outcome → (outcome.cause ≡ None → (ended : Bool) × (answer ≡ Ok ended))
      → CameToAll state limit version (books_by (types_pass m) (words_pass m)) log start q outcome
  came_to m seen v same at_v ends =
      let o : IsOutcome state limit version (books_by (types_pass m) (words_pass m)) start q t.taken (UpToRest answer t.taken) (mark_of answer) (why_of answer) outcome
      = subst (λ x. IsOutcome state limit x (books_by (types_pass m) (words_pass m)) start q t.taken (UpToRest answer t.taken) (mark_of answer) (why_of answer) outcome) same at_v in record {
        came = record {
          covered = o.covered;
          ended = mark_of answer;
          count = o.count;
          caused = caused_by (books_by (types_pass m) (words_pass m)) o ends (books_on (types_pass n) (types_pass m) (words_pass n) (words_pass m) seen.types seen.words);
          done = o.done;
          first = if_some log.bytes told (AreFirst version o.covered) (λ b tells messages e is. first_of answer t.taken o.covered messages e o.front (tells messages e is)) t.told;
          all = λ w. let at_end = ends (o.whole_none w) in if_some log.bytes told (AreAll version o.covered (mark_of answer)) (λ b tells messages e is.
              all_at_end answer at_end.0 at_end.1 t.taken o.covered messages e (o.all w) (tells messages e is)) t.told;
        };
        none = λ none. let at_end = ends none in covered_all o.covered at_end.0 at_end.1 (all_sealed o none);
      }
    where
      all_sealed : (o : IsOutcome state limit version (books_by (types_pass m) (words_pass m)) start q t.taken (UpToRest answer t.taken) (mark_of answer) (why_of answer) outcome) → outcome.cause ≡ None → o.covered ≡ t.taken
      all_sealed o none =
          ⊎_elim
          (λ (stop : (outcome.cause ≡ why_of answer) × (o.covered ≡ t.taken)). stop.1)
          (λ (seal : (c : Cause) × (outcome.cause ≡ Some c) × HasSealCause state (FoundNoRoom state limit version (books_by (types_pass m) (words_pass m)) (λ first. IsPrefix first t.taken) (UpToRest answer t.taken) start q o.covered) start q c).
          absurd (cc (sym none ∙ seal.1)))
          o.caused

  module _ (v : ℕ) (books : Books) (o : IsOutcome state limit v books start q t.taken (UpToRest answer t.taken) (mark_of answer) (why_of answer) outcome) where
    -- what was met, where these messages are sealed
    few_met : length t.learned.met ≤ met_by limit outcome
    few_met =
        ⊎_elim
        (λ (stop : (outcome.cause ≡ why_of answer) × (o.covered ≡ t.taken)). few_stopped outcome.cause stop.0 (ap length stop.1))
        (λ (seal : (c : Cause) × (outcome.cause ≡ Some c) × HasSealCause state (FoundNoRoom state limit v books (λ first. IsPrefix first t.taken) (UpToRest answer t.taken) start q o.covered) start q c).
        let rows : unsealed_by limit outcome.cause ≡ limit = ap (unsealed_by limit) seal.1 ∙ all_in_hand state _ limit start q seal.0 seal.2 in omega (arith, rows, t.learned.few, o.few, o.count))
        o.caused
      where
        few_stopped : (c : Option Cause) → c ≡ why_of answer → length o.covered ≡ length t.taken → length t.learned.met ≤ outcome.messages + unsealed_by limit c
        few_stopped c is size =
            let le : refused_by c ≤ unsealed_by limit c = one_unsealed limit c in let same : refused_by c ≡ refused_by (why_of answer) = ap refused_by is in omega (arith, le, same, size, t.learned.few, o.count)

    -- what the passes added is of these
    pub named_met : (end : LockNamer R A B C) → HasOnlySeen n end → HasNamed (IsAmongFirst version log.bytes (met_by limit outcome)) m end
    named_met end only =
        let P = IsAmongFirst version log.bytes (met_by limit outcome) in
        named_then P m n end (named_wider (Contains t.learned.met) P (among_first version log.bytes t.learned.met (met_by limit outcome) t.learned.first few_met) m n t.learned.named) (named_only P n end only)

    -- the whole job
    pub took_few : (end : LockNamer R A B C) → version ≡ m.version → EndBoth state (spare_of (stop_in answer)) p q n end → TakesFewOf state limit log.bytes outcome start q m end
    took_few end same ends = record {
      met = t.learned.met;
      are = record {
        first = subst (λ v. AreFirstOf v log.bytes t.learned.met) same t.learned.first;
        covered = o.covered;
        ended = mark_of answer;
        done = o.done;
        count = o.count;
        front = prefix_trans o.covered t.taken t.learned.met o.front t.learned.front;
        few = few_met;
      };
      few = take_few state (Contains t.learned.met) (stop_in answer) start p q m n end t.learned.learned ends;
    }

-- before any message, all that were met are sealed
pub met_none : {D R A B C : Type 0} (state : D → DiskState) (limit : ℕ) (books : Books) (log : Log) (p : KeeperPass D) (m : LockNamer R A B C) (o : Outcome) → CameTo state limit m.version books log p p o → TakesFewOf state limit log.bytes o p p m m
met_none state limit books log p m o came = record {
  met = came.covered;
  are = record {
    first = came.first;
    covered = came.covered;
    ended = came.ended;
    done = came.done;
    count = came.count;
    front = prefix_self came.covered;
    few = omega (arith, came.count);
  };
  few = take_none state (Contains came.covered) p m;
}

-- told of the source, which the reader had and gave back
pub came_back : {S : Type 0} (left : S → Option (List ℕ)) (faults : S → ℕ) (source had has back : S) → had ≡ source → back ≡ has → (P : Log → Type 0) → P (log_from (left source) left faults had has) → P (log_of left faults source back)
came_back left faults source had has back was is P p = subst (λ x. P (log_from (left source) left faults source x)) (sym is) (subst (λ x. P (log_from (left source) left faults x has)) was p)
