-- How the ranges that a disk in memory tells go on, at its own calls and where a part comes back.
use Rattle.std.proofs.Common.{◌≡◌, ℕ, suc, ◌+◌, ◌-◌, ◌≤◌, List, [], ◌∷◌, ◌++◌, length, take, drop, refl, sym, ◌∙◌, ap, arith, length-append, inl, Some}
use Rattle.std.proofs.lemmas.List.{append-nil, append_assoc}
use Rattle.log_seams.specs.Disk.{Elapses, Rests, Follows, Torn}
use Rattle.log_seams.specs.Parts.{no_ranges, with_ranges}
use Rattle.log_seams.specs.MemPart.{part_state}
use Rattle.log_seams.specs.Replay.{Event, wrote, read, synced, other, logged, event_of, events_after, reads_of}
use Rattle.log_seams.specs.StepsReplay.{with_read}
use Rattle.log_seams.specs.Returned.{ranges_told, came_after}
use Rattle.log_seams.specs.declared.mem_disk.Call.{Call}
use Rattle.log_seams.specs.declared.mem_part.MemPart.{MemPart}
use Rattle.log_seams.proofs.EventLemmas.{torn_same}
use Rattle.log_seams.specs.declared.returned.Returned.{Returned, Nothing, Part'}

reads_next : (e : Event) (older : List Event) → reads_of (e ∷ older) ≡ with_read e (reads_of older)
reads_next (wrote done at bytes) older = refl
reads_next (read at n) older = refl
reads_next synced older = refl
reads_next other older = refl

read_behind : (e : Event) (a b : List (ℕ × ℕ)) → a ++ with_read e b ≡ with_read e (a ++ b)
read_behind (wrote done at bytes) a b = refl
read_behind (read at n) a b = sym (append_assoc a b ((at, n) ∷ []))
read_behind synced a b = refl
read_behind other a b = refl

-- one event more
pub ranges_next : (e : Event) (events : List Event) (r : Returned) → came_after r ≤ length events → ranges_told (e ∷ events) r ≡ with_read e (ranges_told events r)
ranges_next e events Nothing within = reads_next e events
ranges_next e events (Part' calls ranges p before) within =
    let k = length events - calls in
    let one : suc (length events) - calls ≡ suc k = omega (arith, within) in
    ap (λ (j : ℕ). ranges_told (drop j (e ∷ events)) before ++ ranges.items ++ reads_of (take j (e ∷ events))) one
    ∙ ap (λ (l : List (ℕ × ℕ)). ranges_told (drop k events) before ++ ranges.items ++ l) (reads_next e (take k events))
    ∙ read_behind e (ranges_told (drop k events) before ++ ranges.items) (reads_of (take k events))

-- a part more came back, after so many calls
pub ranges_back : (events : List Event) (calls : ℕ) (ranges : _) (p : _) (before : Returned) → calls ≡ length events → ranges_told events (Part' calls ranges p before) ≡ ranges_told events before ++ ranges.items
ranges_back events calls ranges p before same =
    let none : length events - calls ≡ 0 = omega (arith, same) in
    ap (λ (j : ℕ). ranges_told (drop j events) before ++ ranges.items ++ reads_of (take j events)) none
    ∙ append-nil (ranges_told events before ++ ranges.items)

-- each call is one event
pub count_events : (older : List Event) (calls : List Call) (log : List ℕ) → length (events_after older calls log) ≡ length calls + length older
count_events older [] log = omega arith
count_events older (c ∷ calls) log = count_events (event_of c log ∷ older) calls (drop (logged c) log) ∙ omega arith

-- a part holds what it held
pub part_elapses : (old new : MemPart) → new.bytes.items ≡ old.bytes.items → Elapses (part_state old) (part_state new)
part_elapses old new same = record {
  later = omega arith;
  nothing_else = λ t c le since. inl (since ∙ same);
  keeps = λ t c le since. since ∙ sym same;
}

pub part_rests : (old new : MemPart) → new.bytes.items ≡ old.bytes.items → Rests (part_state old) (part_state new)
part_rests old new same = record {
  seen = ap (λ (l : List ℕ). Some l) same;
  no_more = λ c image. image ∙ same;
  no_fewer = λ c image. image ∙ sym same;
  time = part_elapses old new same;
}

-- a write that changed nothing leaves the images
pub part_follows : (old new : MemPart) (at n : ℕ) → new.bytes.items ≡ old.bytes.items → Follows (Torn at n) (part_state old).images (part_state new).images
part_follows old new at n same = λ c image. (c, image ∙ same, torn_same at n c)

some_same : (a b : List (ℕ × ℕ)) → Some a ≡ Some b → a ≡ b
some_same a b is = cc

-- a part came back to a disk after so many calls
pub took_back : (part more old new : List (ℕ × ℕ)) → new ≡ old ++ part → Some part ≡ with_ranges more (no_ranges (Some old)) → Some new ≡ with_ranges more (Some old)
took_back part more old new is did = ap (λ (l : List (ℕ × ℕ)). Some l) (is ∙ ap (λ (l : List (ℕ × ℕ)). old ++ l) (some_same part more did))

-- what came back within the calls came back within their events
pub within_events : (calls : List Call) (log : List ℕ) (r : Returned) → came_after r ≤ length calls → came_after r ≤ length (events_after [] calls log)
within_events calls log r within = omega (arith, within, count_events [] calls log)

-- and within one call more
pub within_next : (calls : List Call) (c : Call) (r : Returned) → came_after r ≤ length calls → came_after r ≤ length (calls ++ c ∷ [])
within_next calls c r within = omega (arith, within, length-append calls (c ∷ []))
