-- The mark in a store's list.
use Rattle.std.proofs.Common.{◌≡◌, ℕ, zero, suc, List, [], ◌∷◌, ◌++◌, Bool, true, false, map, Option, Some, None, refl, ap, ◌∙◌, append-nil}
use Rattle.archive_meaning.specs.declared.entry.JournalEntry.{JournalEntry}
use Rattle.disk_seal.specs.declared.entry.StoreEntry.{StoreEntry}
use Rattle.disk_seal.specs.declared.entry.StoreEntry.TheVariants.{Entry, Blank, Stopped}
use Rattle.disk_seal.specs.Told.{journal_in, recorded, blanks, mark, entry_for}
use Rattle.disk_seal.specs.View.{StoreState, store_entries}

-- the list has no mark
abbrev HasNoMark : List StoreEntry → Type 0
HasNoMark [] = Unit {0}
HasNoMark (Entry e ∷ xs) = HasNoMark xs
HasNoMark (Blank ∷ xs) = HasNoMark xs
HasNoMark (Stopped now ∷ xs) = ⊥

blank_list : (n : ℕ) → HasNoMark (blanks n)
blank_list zero = tt
blank_list (suc n) = blank_list n

entry_list : (es : List JournalEntry) → HasNoMark (map Entry es)
entry_list [] = tt
entry_list (e ∷ es) = entry_list es

recorded_list : (told : Option (List ℕ)) (n : ℕ) → HasNoMark (recorded told n)
recorded_list None n = blank_list n
recorded_list (Some bytes) n = entry_list (journal_in (Some bytes) n)

no_mark : (xs : List StoreEntry) → HasNoMark xs → (front rest : List StoreEntry) (now : ℕ) → front ++ Stopped now ∷ rest ≡ xs → ⊥
no_mark [] none [] rest now is = cc (is)
no_mark [] none (y ∷ front) rest now is = cc (is)
no_mark (Entry e ∷ xs) none [] rest now is = cc (is)
no_mark (Entry e ∷ xs) none (y ∷ front) rest now is = no_mark xs none front rest now (cc (is))
no_mark (Blank ∷ xs) none [] rest now is = cc (is)
no_mark (Blank ∷ xs) none (y ∷ front) rest now is = no_mark xs none front rest now (cc (is))
no_mark (Stopped k ∷ xs) none front rest now is = none

one_mark : (xs : List StoreEntry) → HasNoMark xs → (front rest : List StoreEntry) (now k : ℕ) → front ++ Stopped now ∷ rest ≡ xs ++ Stopped k ∷ [] → k ≡ now
one_mark [] none [] rest now k is = cc (is)
one_mark [] none (y ∷ []) rest now k is = absurd (cc (is))
one_mark [] none (y ∷ z ∷ front) rest now k is = absurd (cc (is))
one_mark (Entry e ∷ xs) none [] rest now k is = absurd (cc (is))
one_mark (Entry e ∷ xs) none (y ∷ front) rest now k is = one_mark xs none front rest now k (cc (is))
one_mark (Blank ∷ xs) none [] rest now k is = absurd (cc (is))
one_mark (Blank ∷ xs) none (y ∷ front) rest now k is = one_mark xs none front rest now k (cc (is))
one_mark (Stopped j ∷ xs) none front rest now k is = absurd none

marked : (told : Option (List ℕ)) (n : ℕ) (o : Option ℕ) (front rest : List StoreEntry) (now : ℕ) → front ++ Stopped now ∷ rest ≡ recorded told n ++ mark o → o ≡ Some now
marked told n None front rest now is = absurd (no_mark (recorded told n) (recorded_list told n) front rest now (is ∙ append-nil (recorded told n)))
marked told n (Some k) front rest now is = ap (λ (x : ℕ). Some x) (one_mark (recorded told n) (recorded_list told n) front rest now k is)

-- a store whose list has a mark was stopped, at the mark's count
pub stopped_by : (s : StoreState) (front rest : List StoreEntry) (now : ℕ) → front ++ Stopped now ∷ rest ≡ store_entries s → s.stopped ≡ Some now
stopped_by s front rest now is = marked s.disk.seen s.count s.stopped front rest now is

-- and one whose list has none runs
unmarked : (xs : List StoreEntry) (told : Option (List ℕ)) (n : ℕ) (o : Option ℕ) → HasNoMark xs → recorded told n ++ mark o ≡ xs → o ≡ None
unmarked xs told n None none is = refl
unmarked xs told n (Some k) none is = absurd (no_mark xs none (recorded told n) [] k is)

joined_list : (xs ys : List StoreEntry) → HasNoMark xs → HasNoMark ys → HasNoMark (xs ++ ys)
joined_list [] ys none more = more
joined_list (Entry e ∷ xs) ys none more = joined_list xs ys none more
joined_list (Blank ∷ xs) ys none more = joined_list xs ys none more
joined_list (Stopped k ∷ xs) ys none more = none

entries_list : (b : Bool) (es : List JournalEntry) → HasNoMark (map (entry_for b) es)
entries_list false [] = tt
entries_list true [] = tt
entries_list false (e ∷ es) = entries_list false es
entries_list true (e ∷ es) = entries_list true es

running_list : (told : Option (List ℕ)) (n : ℕ) (o : Option ℕ) → o ≡ None → HasNoMark (recorded told n ++ mark o)
running_list told n None is = joined_list (recorded told n) [] (recorded_list told n) tt
running_list told n (Some k) is = absurd (cc (is))

-- a store runs whose list is that of one that runs, and entries
pub running_by : (s t : StoreState) (b : Bool) (es : List JournalEntry) → s.stopped ≡ None → store_entries t ≡ store_entries s ++ map (entry_for b) es → t.stopped ≡ None
running_by s t b es runs is =
    unmarked (store_entries s ++ map (entry_for b) es) t.disk.seen t.count t.stopped
    (joined_list (store_entries s) (map (entry_for b) es) (running_list s.disk.seen s.count s.stopped runs) (entries_list b es)) is
