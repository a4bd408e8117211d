-- The table of minutes, step by step.
use Rattle.std.proofs.Common.{◌≡◌, ◌+◌, ◌<◌, ◌≤◌, ◌^◌, ◌∷◌, ◌++◌, ◌≢◌, ℕ, zero, suc, ℤ, Bool, true, false, List, [], length, cond, count_by, is_none, Option, Some, None, arith, refl, ap, sym, subst, ◌∙◌, length-append}
use Rattle.std.specs.BTreeMap.{BTreeMap, IsOrdered, is_at}
use Rattle.std.specs.Map.{lookup}
use Rattle.std.specs.Ordering.{int_cmp, is_eq}
use Rattle.std.proofs.lemmas.Cmp.{int_cmp_total, tied_itself}
use Rattle.std.proofs.lemmas.List.Sums.{count_by-le-length, sum_by_push}
use Rattle.search_meaning.specs.declared.groups.Group.{Group}
use Rattle.search_meaning.specs.Groups.{AreGroups, by_moment, how_often, stamped}
use Rattle.group_count.specs.Tables.{AreMinutes, AreTallied, HoldMinutes, MinuteState, is_minute, minute_at, minute_entries, some_of, start_of}
use Rattle.group_count.proofs.CountLemmas.{count_cons}
use Rattle.group_count.proofs.GroupLemmas.{tally_groups}

pub none_in : (b : Bool) → cond {A = ℕ} b 0 0 ≡ 0
none_in true = refl
none_in false = refl

-- what adding a run to the minutes before says
abbrev pub Put : MinuteState → List (ℤ × ℕ) → Type 0
Put table minutes =
    (often : ℤ → ℕ) → ((q : ℤ) → often q + cond (is_eq (int_cmp table.first q)) table.run 0 < 2 ^ 64)
    → AreTallied int_cmp table.minutes often → AreTallied int_cmp minutes (λ q. often q + cond (is_eq (int_cmp table.first q)) table.run 0)

pub none_held : (table : MinuteState) → table.minutes ≡ [] → table.run ≡ 0 → table.without ≡ 0 → AreMinutes table []
none_held table empty run without = λ few. record {
  often = λ _. 0;
  tally = λ q. ap (lookup (is_at (int_cmp q))) empty;
  each = λ q.
      let none : cond (is_eq (int_cmp table.first q)) table.run 0 ≡ 0 = ap (λ (n : ℕ). cond (is_eq (int_cmp table.first q)) n 0) run ∙ none_in (is_eq (int_cmp table.first q)) in
      omega arith;
  others = without;
}

pub all_put : (table : MinuteState) (minutes : List (ℤ × ℕ)) (keys : List (Option ℤ)) → length keys < 2 ^ 64 → (held : HoldMinutes table keys) → Put table minutes
    → AreTallied int_cmp minutes (λ q. held.often q + cond (is_eq (int_cmp table.first q)) table.run 0)
all_put table minutes keys few held put =
    put held.often (λ q. let most = count_by-le-length (is_minute q) keys in let each = held.each q in omega arith) held.tally

-- a run that is added leaves all as it was
pub run_put : (old new : MinuteState) (keys : List (Option ℤ)) → Put old new.minutes → new.run ≡ 0 → new.without ≡ old.without
    → AreMinutes old keys → AreMinutes new keys
run_put old new keys put run without are = λ few.
    let held = are few in record {
      often = λ q. held.often q + cond (is_eq (int_cmp old.first q)) old.run 0;
      tally = all_put old new.minutes keys few held put;
      each = λ q.
          let none : cond (is_eq (int_cmp new.first q)) new.run 0 ≡ 0 = ap (λ (n : ℕ). cond (is_eq (int_cmp new.first q)) n 0) run ∙ none_in (is_eq (int_cmp new.first q)) in
          let each = held.each q in
          omega arith;
      others = without ∙ held.others;
    }

join_run : (b : Bool) (n : ℕ) → cond {A = ℕ} b (n + 1) 0 ≡ cond b n 0 + cond b 1 0
join_run true n = refl
join_run false n = refl

one_of_run : (old new : MinuteState) (keys : List (Option ℤ)) → new.minutes ≡ old.minutes → new.first ≡ old.first → new.without ≡ old.without
    → (old.run + 1 < 2 ^ 64 → new.run ≡ old.run + 1) → AreMinutes old keys → AreMinutes new (keys ++ Some old.first ∷ [])
one_of_run old new keys minutes first without raised are = λ few.
    let long = length-append keys (Some old.first ∷ []) in
    let held = are (omega arith) in
    let run : old.run ≤ length keys =
    let here = rw (ap is_eq (tied_itself int_cmp_total old.first)) at (held.each old.first) in
    let most = count_by-le-length (is_minute old.first) keys in
    omega arith in
    let more : new.run ≡ old.run + 1 = raised (omega arith) in record {
      often = held.often;
      tally = subst (λ (m : List (ℤ × ℕ)). AreTallied int_cmp m held.often) (sym minutes) held.tally;
      each = λ q.
          let here : cond (is_eq (int_cmp new.first q)) new.run 0 ≡ cond (is_eq (int_cmp old.first q)) old.run 0 + cond (is_eq (int_cmp old.first q)) 1 0 =
          rw (first, more) (join_run (is_eq (int_cmp old.first q)) old.run) in
          let each = held.each q in
          let push : count_by (is_minute q) (keys ++ Some old.first ∷ []) ≡ count_by (is_minute q) keys + cond (is_eq (int_cmp old.first q)) 1 0 =
          sum_by_push (λ k. cond (is_minute q k) 1 0) keys (Some old.first) in
          omega arith;
      others =
          let push : count_by is_none (keys ++ Some old.first ∷ []) ≡ count_by is_none keys + 0 = sum_by_push (λ k. cond (is_none k) 1 0) keys (Some old.first) in
          let others = held.others in
          omega arith;
    }

-- one more of the minute at hand
pub one_more : (old new : MinuteState) (keys : List (Option ℤ)) (key : Option ℤ) → key ≡ Some old.first → new.minutes ≡ old.minutes → new.first ≡ old.first → new.without ≡ old.without
    → (old.run + 1 < 2 ^ 64 → new.run ≡ old.run + 1) → AreMinutes old keys → AreMinutes new (keys ++ key ∷ [])
one_more old new keys key is minutes first without raised are =
    subst (λ k. AreMinutes new (keys ++ k ∷ [])) (sym is) (one_of_run old new keys minutes first without raised are)

-- one more without stamp
pub one_without : (old new : MinuteState) (keys : List (Option ℤ)) → new.minutes ≡ old.minutes → new.first ≡ old.first → new.run ≡ old.run
    → (old.without + 1 < 2 ^ 64 → new.without ≡ old.without + 1) → AreMinutes old keys → AreMinutes new (keys ++ None ∷ [])
one_without old new keys minutes first run raised are = λ few.
    let none : Option ℤ = None in
    let long = length-append keys (none ∷ []) in
    let held = are (omega arith) in
    let most = count_by-le-length is_none keys in
    let others = held.others in
    let more : new.without ≡ old.without + 1 = raised (omega arith) in record {
      often = held.often;
      tally = subst (λ (m : List (ℤ × ℕ)). AreTallied int_cmp m held.often) (sym minutes) held.tally;
      each = λ q.
          let here : cond (is_eq (int_cmp new.first q)) new.run 0 ≡ cond (is_eq (int_cmp old.first q)) old.run 0 = rw (first, run) refl in
          let each = held.each q in
          let push : count_by (is_minute q) (keys ++ None ∷ []) ≡ count_by (is_minute q) keys + 0 = sum_by_push (λ k. cond (is_minute q k) 1 0) keys None in
          omega arith;
      others =
          let push : count_by is_none (keys ++ None ∷ []) ≡ count_by is_none keys + 1 = sum_by_push (λ (k : Option ℤ). cond (is_none k) 1 0) keys None in
          omega arith;
    }

count_stamped : (q : ℤ) (keys : List (Option ℤ)) → count_by (is_minute q) keys ≡ how_often int_cmp q (stamped keys)
count_stamped q [] = refl
count_stamped q (None ∷ keys) =
    let here : count_by (is_minute q) (None ∷ keys) ≡ 0 + count_by (is_minute q) keys = count_cons (is_minute q) None keys in
    let rest = count_stamped q keys in
    omega arith
count_stamped q (Some key ∷ keys) =
    let here : count_by (is_minute q) (Some key ∷ keys) ≡ cond (is_eq (int_cmp key q)) 1 0 + count_by (is_minute q) keys = count_cons (is_minute q) (Some key) keys in
    here ∙ ap (λ (n : ℕ). cond (is_eq (int_cmp key q)) 1 0 + n) (count_stamped q keys) ∙ sym (count_cons (λ k. is_eq (int_cmp k q)) key (stamped keys))

-- a row with a stamp has a minute
pub minute_some : (micro : Bool) (k : ℕ) (moment : ℤ) → k ≢ 0 → minute_at micro k moment ≡ Some (start_of micro moment)
minute_some micro zero moment other = absurd (other refl)
minute_some micro (suc k) moment other = refl

-- the groups of the minutes, once the last run is added
pub minute_groups : (table : MinuteState) (minutes : BTreeMap ℤ ℕ) (keys : List (Option ℤ)) (groups : List Group) → AreMinutes table keys → length keys < 2 ^ 64
    → Put table minutes.entries → IsOrdered int_cmp minutes → by_moment groups ≡ minute_entries minutes.entries → AreGroups int_cmp (stamped keys) (by_moment groups)
minute_groups table minutes keys groups are few put ordered entries =
    let held = are few in
    let tally = all_put table minutes.entries keys few held put in
    subst (AreGroups int_cmp (stamped keys)) (sym entries)
    (tally_groups int_cmp (λ (k : ℤ). k) int_cmp_total (λ k. k) (λ _. refl) (stamped keys) minutes (λ q. tally q ∙ ap some_of (held.each q ∙ count_stamped q keys)) ordered)
