-- How the events, the content and the images of a disk in memory go on.
use Rattle.std.proofs.Common.{◌≡◌, ◌⊎◌, inl, inr, ⊎_elim, ℕ, zero, suc, ◌+◌, ◌-◌, ◌/◌, ◌<◌, ◌≤◌, get_or, replicate, length-take, Bool, true, false, List, [], ◌∷◌, ◌++◌, length, take, drop, refl, sym, ◌∙◌, ap, subst, arith, rules, length-append, length-drop}
use Rattle.std.proofs.lemmas.List.{take-append-le, drop-append-le, drop-drop, take_at, drop_at, length-take-le, append_assoc, take_all, drop_more, take_more, length-replicate}
use Rattle.std.proofs.lemmas.Bool.Decides.{nat_tests}
use Rattle.log_seams.specs.Disk.{laid, Torn, Follows, NoMore, Elapses}
use Rattle.log_seams.specs.Replay.{Event, wrote, read, synced, other, logged, event_of, events_after, events, after_event, content, IsImage, IsSince, held, torn_by, left_by}
use Rattle.log_seams.specs.StepsReplay.{total, reads_as, IsQuiet}
use Rattle.log_seams.specs.MemDisk.{first_of, bytes_of, events_of, disk_state, lacks_room}
use Rattle.log_seams.specs.declared.mem_disk.MemDisk.{MemDisk}
use Rattle.log_seams.specs.declared.mem_disk.Call.{Call}
use Rattle.log_seams.specs.declared.mem_disk.Call.TheVariants.{Wrote, Read, Synced, Other}
use Rattle.log_seams.specs.declared.mem_disk.Pending.{Pending}
use Rattle.log_seams.specs.declared.mem_disk.Pending.TheVariants.{All, Nothing, FirstHalf, Ones}

event_front : (c : Call) (log bytes : List ℕ) → logged c ≤ length log → event_of c (log ++ bytes) ≡ event_of c log
event_front (Wrote at count done) log bytes le = ap (λ (l : List ℕ). wrote done at l) (take-append-le count log bytes le)
event_front (Read at count) log bytes le = refl
event_front Synced log bytes le = refl
event_front Other log bytes le = refl

-- bytes behind those of the calls change no event
events_front : (older : List Event) (calls : List Call) (log bytes : List ℕ) → total calls ≤ length log → events_after older calls (log ++ bytes) ≡ events_after older calls log
events_front older [] log bytes le = refl
events_front older (c ∷ calls) log bytes le =
    let one = event_front c log bytes (omega arith) in
    let rest = drop-append-le (logged c) log bytes (omega arith) in
    ap (λ (e : Event). events_after (e ∷ older) calls (drop (logged c) (log ++ bytes))) one
    ∙ ap (λ (l : List ℕ). events_after (event_of c log ∷ older) calls l) rest
    ∙ events_front (event_of c log ∷ older) calls (drop (logged c) log) bytes (omega (arith, length-drop (logged c) log))

-- one call more, whose bytes stand behind those of the others
pub events_more : (older : List Event) (calls : List Call) (c : Call) (log : List ℕ) → events_after older (calls ++ c ∷ []) log ≡ event_of c (drop (total calls) log) ∷ events_after older calls log
events_more older [] c log = refl
events_more older (k ∷ calls) c log =
    events_more (event_of k log ∷ older) calls c (drop (logged k) log)
    ∙ ap (λ (l : List ℕ). event_of c l ∷ events_after (event_of k log ∷ older) calls (drop (logged k) log)) (drop-drop (total calls) (logged k) log)

pub events_push : (calls : List Call) (c : Call) (log bytes : List ℕ) → total calls ≡ length log → events (calls ++ c ∷ []) (log ++ bytes) ≡ event_of c bytes ∷ events calls log
events_push calls c log bytes whole =
    events_more [] calls c (log ++ bytes)
    ∙ ap (λ (l : List ℕ). event_of c l ∷ events calls (log ++ bytes)) (drop_at log bytes (total calls) (sym whole))
    ∙ ap (λ (l : List Event). event_of c bytes ∷ l) (events_front [] calls log bytes (omega arith))

pub total_push : (calls : List Call) (c : Call) → total (calls ++ c ∷ []) ≡ total calls + logged c
total_push [] c = omega arith
total_push (k ∷ calls) c = omega (arith, total_push calls c)

-- what was written is one of the outcomes of a write that a crash cuts short
pub torn_laid : (at : ℕ) (bytes old : List ℕ) → at ≤ length old → Torn at (length bytes) old (laid at bytes old)
torn_laid at bytes old le =
    let size = length-take-le at old le in
    let behind : laid at bytes old ≡ take at old ++ (bytes ++ drop (at + length bytes) old) = append_assoc (take at old) bytes (drop (at + length bytes) old) in
    let front : length (take at old ++ bytes) ≡ at + length bytes = omega (arith, length-append (take at old) bytes, size) in
    record {
      before = ap (λ (l : List ℕ). take at l) behind ∙ take_at (take at old) (bytes ++ drop (at + length bytes) old) at size;
      after = drop_at (take at old ++ bytes) (drop (at + length bytes) old) (at + length bytes) front;
      no_shorter = omega (arith, length-append (take at old ++ bytes) (drop (at + length bytes) old), front, length-drop (at + length bytes) old);
      no_longer = omega (arith, length-append (take at old ++ bytes) (drop (at + length bytes) old), front, length-drop (at + length bytes) old);
    }

pub torn_same : (at n : ℕ) (old : List ℕ) → Torn at n old old
torn_same at n old = record { before = refl; after = refl; no_shorter = omega arith; no_longer = omega arith }

-- what holds after one event more, told of the disk as it is then
after_one : (P : List ℕ → List Event → Type 0) (first begun : List ℕ) (older newer : List Event) (e : Event) → begun ≡ first → newer ≡ e ∷ older → P first (e ∷ older) → P begun newer
after_one P first begun older newer e same is here =
    subst (λ (f : List ℕ). P f newer) (sym same) (subst (λ (l : List Event). P first l) (sym is) here)

-- an image after a write is one before it that the write may have torn
wrote_from : (first : List ℕ) (older : List Event) (done : Bool) (at : ℕ) (bytes : List ℕ) → at ≤ length (content first older)
    → Follows (Torn at (length bytes)) (IsImage first older) (IsImage first (wrote done at bytes ∷ older))
wrote_from first older true at bytes le c (inl is) =
    (content first older, reads_as first older, subst (λ (l : List ℕ). Torn at (length bytes) (content first older) l) (sym is) (torn_laid at bytes (content first older) le))
wrote_from first older false at bytes le c (inl is) =
    (content first older, reads_as first older, subst (λ (l : List ℕ). Torn at (length bytes) (content first older) l) (sym is) (torn_same at (length bytes) (content first older)))
wrote_from first older done at bytes le c (inr torn) = torn

pub wrote_follows : (first begun : List ℕ) (older newer : List Event) (done : Bool) (at : ℕ) (bytes : List ℕ) → begun ≡ first → newer ≡ wrote done at bytes ∷ older → at ≤ length (content first older)
    → Follows (Torn at (length bytes)) (IsImage first older) (IsImage begun newer)
wrote_follows first begun older newer done at bytes same is le =
    after_one (λ f l. Follows (Torn at (length bytes)) (IsImage first older) (IsImage f l)) first begun older newer (wrote done at bytes) same is (wrote_from first older done at bytes le)

-- a sync leaves an image that there was, and what is read
pub synced_less : (first begun : List ℕ) (older newer : List Event) → begun ≡ first → newer ≡ synced ∷ older → NoMore (IsImage first older) (IsImage begun newer)
synced_less first begun older newer same is =
    after_one (λ f l. NoMore (IsImage first older) (IsImage f l)) first begun older newer synced same is (λ c left. subst (IsImage first older) (sym left) (reads_as first older))

pub synced_only : (first begun : List ℕ) (older newer : List Event) → begun ≡ first → newer ≡ synced ∷ older → (c : List ℕ) → IsImage begun newer c → c ≡ content first older
synced_only first begun older newer same is =
    after_one (λ f l. (c : List ℕ) → IsImage f l c → c ≡ content first older) first begun older newer synced same is (λ c left. left)

-- time goes on by one event
abbrev GoesOn : List ℕ → List Event → List ℕ → List Event → Type 0
GoesOn first older begun newer =
    (length older ≤ length newer)
    × ((t : ℕ) (c : List ℕ) → t ≤ length older → IsSince begun newer t c → IsSince first older t c ⊎ IsImage begun newer c)
    × ((t : ℕ) (c : List ℕ) → t ≤ length older → IsSince first older t c → IsSince begun newer t c)

goes_on : (first begun : List ℕ) (older newer : List Event) (e : Event) → begun ≡ first → newer ≡ e ∷ older → GoesOn first older begun newer
goes_on first begun older newer e same is =
    after_one (λ f l. GoesOn first older f l) first begun older newer e same is
    (omega arith, λ t c le left. ⊎_elim (λ now. inr now) (λ was. inl was.1) left, λ t c le was. inr (le, was))

pub elapses : (old new : MemDisk) (e : Event) → first_of new ≡ first_of old → events_of new ≡ e ∷ events_of old → Elapses (disk_state old) (disk_state new)
elapses old new e same is =
    let time = goes_on (first_of old) (first_of new) (events_of old) (events_of new) e same is in
    record { later = time.0; nothing_else = time.1; keeps = time.2 }

-- a call that is no write is one event more, and the bytes stay
quiet_event : (call : Call) (log : List ℕ) → IsQuiet call → event_of call log ≡ event_of call []
quiet_event (Wrote at count done) log none = absurd none
quiet_event (Read at count) log quiet = refl
quiet_event Synced log quiet = refl
quiet_event Other log quiet = refl

quiet_content : (call : Call) (old : List ℕ) → IsQuiet call → after_event (event_of call []) old ≡ old
quiet_content (Wrote at count done) old none = absurd none
quiet_content (Read at count) old quiet = refl
quiet_content Synced old quiet = refl
quiet_content Other old quiet = refl

quiet_logged : (call : Call) → IsQuiet call → logged call ≡ 0
quiet_logged (Wrote at count done) none = absurd none
quiet_logged (Read at count) quiet = refl
quiet_logged Synced quiet = refl
quiet_logged Other quiet = refl

pub noted_events : (calls : List Call) (call : Call) (log : List ℕ) → IsQuiet call → events (calls ++ call ∷ []) log ≡ event_of call [] ∷ events calls log
noted_events calls call log quiet =
    events_more [] calls call log ∙ ap (λ (e : Event). e ∷ events calls log) (quiet_event call (drop (total calls) log) quiet)

pub noted_total : (calls : List Call) (call : Call) (log : List ℕ) → IsQuiet call → total calls ≡ length log → total (calls ++ call ∷ []) ≡ length log
noted_total calls call log quiet whole = omega (arith, total_push calls call, quiet_logged call quiet)

pub noted_content : (first : List ℕ) (calls : List Call) (call : Call) (log : List ℕ) → IsQuiet call → content first (events (calls ++ call ∷ []) log) ≡ content first (events calls log)
noted_content first calls call log quiet =
    ap (λ (l : List Event). content first l) (noted_events calls call log quiet) ∙ quiet_content call (content first (events calls log)) quiet

-- a write is one event more, with its bytes
pub wrote_events : (calls : List Call) (at count : ℕ) (done : Bool) (log bytes : List ℕ) → total calls ≡ length log → count ≡ length bytes
    → events (calls ++ Wrote at count done ∷ []) (log ++ bytes) ≡ wrote done at bytes ∷ events calls log
wrote_events calls at count done log bytes whole long =
    events_push calls (Wrote at count done) log bytes whole
    ∙ ap (λ (l : List ℕ). wrote done at l ∷ events calls log) (take_all count bytes (omega arith))

pub wrote_total : (calls : List Call) (at count : ℕ) (done : Bool) (log bytes : List ℕ) → total calls ≡ length log → count ≡ length bytes
    → total (calls ++ Wrote at count done ∷ []) ≡ length (log ++ bytes)
wrote_total calls at count done log bytes whole long = omega (arith, total_push calls (Wrote at count done), length-append log bytes)

-- the calls up to one have fewer bytes than all of them
pub total_split : (calls : List Call) (i : ℕ) → total calls ≡ total (take i calls) + total (drop i calls)
total_split calls zero = omega arith
total_split [] (suc i) = refl
total_split (c ∷ calls) (suc i) = omega (arith, total_split calls i)

pub total_within : (calls : List Call) (i : ℕ) (d : Call) → i < length calls → total (take i calls) + logged (get_or calls i d) ≤ total calls
total_within calls i d below = omega (arith, total_split calls i, ap total (drop_more calls i d below))

pub total_more : (calls : List Call) (i : ℕ) (d : Call) → i < length calls → total (take (i + 1) calls) ≡ total (take i calls) + logged (get_or calls i d)
total_more calls i d below = ap total (take_more calls i d below) ∙ total_push (take i calls) (get_or calls i d)

pub events_next : (calls : List Call) (i : ℕ) (d : Call) (log : List ℕ) → i < length calls
    → events (take (i + 1) calls) log ≡ event_of (get_or calls i d) (drop (total (take i calls)) log) ∷ events (take i calls) log
events_next calls i d log below =
    ap (λ (l : List Call). events l log) (take_more calls i d below) ∙ events_more [] (take i calls) (get_or calls i d) log

torn_wider : (at m n : ℕ) (old new : List ℕ) → m ≤ n → Torn at m old new → Torn at n old new
torn_wider at m n old new le torn =
    let more : (l : List ℕ) → drop (n - m) (drop (at + m) l) ≡ drop (at + n) l = λ l. drop-drop (n - m) (at + m) l ∙ ap (λ (k : ℕ). drop k l) (omega arith) in
    record {
      before = torn.before;
      after = sym (more new) ∙ ap (λ (l : List ℕ). drop (n - m) l) torn.after ∙ more old;
      no_shorter = torn.no_shorter;
      no_longer = omega (arith, torn.no_longer);
    }

held_torn : (pending : Pending) (at : ℕ) (bytes old : List ℕ) → at ≤ length old → Torn at (length bytes) old (held pending at bytes old)
held_torn All at bytes old le = torn_laid at bytes old le
held_torn Nothing at bytes old le = torn_same at (length bytes) old
held_torn FirstHalf at bytes old le =
    torn_wider at (length (take (length bytes / 2) bytes)) (length bytes) old _ (omega (arith, length-take (length bytes / 2) bytes)) (torn_laid at (take (length bytes / 2) bytes) old le)
held_torn Ones at bytes old le =
    torn_wider at (length (replicate (length bytes) 1)) (length bytes) old _ (omega (arith, length-replicate {A = ℕ} (length bytes) 1)) (torn_laid at (replicate (length bytes) 1) old le)

torn_by_torn : (pending : Pending) (at : ℕ) (bytes old : List ℕ) → Torn at (length bytes) old (torn_by pending at bytes old)
torn_by_torn pending at bytes old = elim (cases_le at (length old)) [
  | inl le ↦ subst (λ (l : List ℕ). Torn at (length bytes) old l) (sym (within le)) (held_torn pending at bytes old le)
  | inr past ↦ subst (λ (l : List ℕ). Torn at (length bytes) old l) (sym (beyond past)) (torn_same at (length bytes) old)
]
  where
    cases_le : (a b : ℕ) → (a ≤ b) ⊎ (b < a)
    cases_le a b = grind arith

    within : at ≤ length old → torn_by pending at bytes old ≡ held pending at bytes old
    within le = grind (arith, nat_tests)

    beyond : length old < at → torn_by pending at bytes old ≡ old
    beyond past = grind (arith, nat_tests)

-- what a crash leaves so is an image
pub left_image : (pending : Pending) (first : List ℕ) (events : List Event) → IsImage first events (left_by pending first events)
left_image pending first [] = refl
left_image pending first (wrote done at bytes ∷ older) = inr (left_by pending first older, left_image pending first older, torn_by_torn pending at bytes (left_by pending first older))
left_image pending first (read at n ∷ older) = left_image pending first older
left_image pending first (synced ∷ older) = refl
left_image pending first (other ∷ older) = left_image pending first older

-- a write for which there is room begins within the bytes
pub within_end : (m : MemDisk) (at n : ℕ) → lacks_room m at n ≡ false → at ≤ length (bytes_of m)
within_end m at n none = search (rules, nat_tests, none)
