-- A search that found damage, in an archive that was opened.
use Rattle.std.proofs.Common.{◌≡◌, refl, sym, ◌∙◌, ◌-◌, ℕ, List, [], Option, None, Some}
use Rattle.std.specs.Prelude.{IfSome}
use Rattle.archive_open.specs.Shown.{HasLastGate, RefusedAt, Shown, StandsForNone}
use Rattle.archive_open.specs.Kept.{none_of}
use Rattle.archive_open.proofs.OpenLemmas.{refused_at_last}
use Rattle.archive_places.specs.declared.places.Places.{Places}
use Rattle.archive_places.specs.Opened.{EndsAtGate}
use Rattle.search_walk.specs.declared.refusal.SearchRefusal.{SearchRefusal}
use Rattle.search_meaning.specs.Journal.{OfJournal}
use Rattle.search_refusals.specs.Outcome.{from_search}
use Rattle.command_refusals.specs.declared.outcome.ReadRefusal.{ReadRefusal}

search_damaged : (told : ReadRefusal) (r : SearchRefusal) (place at : ℕ) → told ≡ from_search place r → told ≡ ReadRefusal.Damaged at → (r ≡ SearchRefusal.Damaged) × (place ≡ at)
search_damaged told SearchRefusal.DiskFault place at is damaged = absurd (cc (is, damaged))
search_damaged told SearchRefusal.SinkFault place at is damaged = absurd (cc (is, damaged))
search_damaged told SearchRefusal.Damaged place at is damaged = (refl, cc (is, damaged))
search_damaged told SearchRefusal.OutOfMemory place at is damaged = absurd (cc (is, damaged))

none_found : (seen : Option (List ℕ)) → OfJournal seen (λ _ _ _. ⊥) → IfSome seen StandsForNone
none_found None none = tt
none_found (Some bytes) none = none

-- the places as an archive of which the end is known
abbrev with_end : Places → Shown
with_end a = record { header = a.header; kept = none_of a.header; files = a.files; segments = []; entries = a.entries; end = a.end }

gate_is : (seen : Option (List ℕ)) (a : Places) → EndsAtGate seen a → HasLastGate seen (with_end a)
gate_is None a gate = tt
gate_is (Some bytes) a gate = gate

-- a search in an archive that was opened by places, whose last gate is told
pub search_refused_at : (told : ReadRefusal) (r : SearchRefusal) (place at : ℕ) (seen later : Option (List ℕ)) (a : Places) → told ≡ from_search place r → told ≡ ReadRefusal.Damaged at
    → later ≡ seen → EndsAtGate seen a → place ≡ a.end - 1 → (r ≡ SearchRefusal.Damaged → OfJournal later (λ _ _ _. ⊥)) → RefusedAt at seen
search_refused_at told r place at seen later a is damaged same last place_is none =
    let here = search_damaged told r place at is damaged in
    refused_at_last seen later (with_end a) at same (gate_is seen a last) (sym here.1 ∙ place_is) (none_found later (none here.0))
