-- Which entry a record is of, and which records bytes begin with.
use Rattle.std.proofs.Common.{◌≡◌, ℕ, ◌≤◌, List, [], ◌∷◌, ◌++◌, length, drop, refl, sym, ◌∙◌, ap, ap₂, subst, arith}
use Rattle.std.proofs.lemmas.List.{append_assoc, append_cancel_left}
use Rattle.disk_journal.specs.Record.{Saved, Fits, body, first_of, spelled}
use Rattle.disk_journal.proofs.SpellingLemmas.{first_of-body}
use Rattle.archive_meaning.specs.declared.entry.JournalEntry.{JournalEntry}
use Rattle.archive_meaning.specs.Back.{entry_in}
use Rattle.archive_meaning.specs.Spelled.{record_of, records_from, types_in}
use Rattle.archive_meaning.specs.StepsForms.{HasForm, HaveForms}
use Rattle.archive_meaning.proofs.BackLemmas.{entry_back}

-- no two entries behind the same log types have one record
pub one_entry : (types : List (List ℕ)) (e f : JournalEntry) → HasForm types e → HasForm types f → record_of types e ≡ record_of types f → e ≡ f
one_entry types e f a b same = sym (entry_back types e a) ∙ ap entry_in same ∙ entry_back types f b

-- two records at the front of bytes are one
pub one_body : (r s : Saved) (x y : List ℕ) → Fits r → Fits s → body r ++ x ≡ body s ++ y → (r ≡ s) × (x ≡ y)
one_body r s x y fit_r fit_s same =
    let one : r ≡ s = sym (first_of-body r x fit_r) ∙ ap (λ (l : List ℕ). first_of (1 ∷ l)) same ∙ first_of-body s y fit_s in
    (one, append_cancel_left (body s) x y (subst (λ (q : Saved). body q ++ x ≡ body s ++ y) one same))

-- Of two lists of entries that bytes begin with, the one that is not longer is the front of the other.
pub one_front : (types : List (List ℕ)) (es fs : List JournalEntry) (x y : List ℕ) → HaveForms types es → HaveForms types fs
    → spelled (records_from types es) ++ x ≡ spelled (records_from types fs) ++ y → length es ≤ length fs
    → (rest : List JournalEntry) × (fs ≡ es ++ rest)
one_front types [] fs x y a b same few = (fs, refl)
one_front types (e ∷ es) [] x y a b same few = absurd (omega (arith, few))
one_front types (e ∷ es) (f ∷ fs) x y a b same few =
    let r = record_of types e in
    let s = record_of types f in
    let more_es = spelled (records_from (types ++ types_in e) es) in
    let more_fs = spelled (records_from (types ++ types_in f) fs) in
    let split : body r ++ (more_es ++ x) ≡ body s ++ (more_fs ++ y) =
    sym (append_assoc (body r) more_es x) ∙ ap (λ (l : List ℕ). drop 1 l) same ∙ append_assoc (body s) more_fs y in
    let one : (r ≡ s) × (more_es ++ x ≡ more_fs ++ y) = one_body r s (more_es ++ x) (more_fs ++ y) a.1 b.1 split in
    let head : e ≡ f = one_entry types e f a.0 b.0 one.0 in
    let forms : HaveForms (types ++ types_in e) fs = subst (λ (g : JournalEntry). HaveForms (types ++ types_in g) fs) (sym head) b.2 in
    let rest : spelled (records_from (types ++ types_in e) es) ++ x ≡ spelled (records_from (types ++ types_in e) fs) ++ y =
    one.1 ∙ ap (λ (g : JournalEntry). spelled (records_from (types ++ types_in g) fs) ++ y) (sym head) in
    let back = one_front (types ++ types_in e) es fs x y a.2 forms rest (omega (arith, few)) in
    (back.0, ap₂ (λ (g : JournalEntry) (l : List JournalEntry). g ∷ l) (sym head) back.1)
