-- How long a store's list is.
use Rattle.std.proofs.Common.{◌≡◌, ℕ, ◌+◌, [], ◌∷◌, ◌++◌, length, sym, ap, ◌∙◌, Some, None, arith, append-nil, length-append}
use Rattle.disk_seal.specs.declared.entry.StoreEntry.TheVariants.{Stopped}
use Rattle.disk_seal.specs.Told.{recorded, mark}
use Rattle.disk_seal.specs.View.{StoreState, store_entries}
use Rattle.disk_seal.proofs.ToldLemmas.{length-recorded}

pub count_running : (s : StoreState) → s.stopped ≡ None → s.count ≡ length (store_entries s)
count_running s runs = sym (ap (λ o. length (recorded s.disk.seen s.count ++ mark o)) runs ∙ (ap length (append-nil (recorded s.disk.seen s.count)) ∙ length-recorded s.disk.seen s.count))

pub count_stopped : (s : StoreState) (n : ℕ) → s.stopped ≡ Some n → s.count + 1 ≡ length (store_entries s)
count_stopped s n halted = sym (ap (λ o. length (recorded s.disk.seen s.count ++ mark o)) halted ∙ (omega (arith, length-append (recorded s.disk.seen s.count) (Stopped n ∷ []), length-recorded s.disk.seen s.count)))
