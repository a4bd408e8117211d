-- Framed records and their entries.
use Rattle.std.proofs.Common.{◌≡◌, ℕ, ◌<◌, ◌≤◌, ◌^◌, List, [], length, refl, ap, ◌∙◌, arith}
use Rattle.std.proofs.lemmas.List.Elements.{All-weaker}
use Rattle.record_format.specs.Lists.{AreTexts, texts_payload}
use Rattle.disk_journal.specs.Record.{Saved, IsFrame, saved_of}
use Rattle.archive_meaning.specs.declared.entry.JournalEntry.{JournalEntry}
use Rattle.archive_meaning.specs.declared.entry.JournalEntry.TheVariants.{Types, Words}
use Rattle.archive_meaning.specs.Back.{entry_in}
use Rattle.archive_meaning.specs.Spelled.{record_of}
use Rattle.archive_meaning.specs.StepsForms.{HasForm}
use Rattle.archive_meaning.specs.Sums.{AddsNames}
use Rattle.archive_meaning.proofs.BackLemmas.{entry_back}
use Rattle.disk_seal.specs.Told.{entry_of}
use Rattle.disk_seal.specs.Framed.{IsFramed}

pub entry_is : (types : List (List ℕ)) (e : JournalEntry) (r : Saved) → r ≡ record_of types e → HasForm types e → entry_of r ≡ e
unfolding entry_of
entry_is types e r same form = ap entry_in same ∙ entry_back types e form

pub framed_types : (first : ℕ) (texts : List (List ℕ)) (payload text : List ℕ) → first < 2 ^ 32 → AreTexts texts → payload ≡ texts_payload first texts → IsFrame text
    → saved_of text ≡ record { kind = 2; payload = payload } → (n : ℕ) → n ≡ length texts → IsFramed (Types first texts) (length texts) 0 (record { text = text; types = n; words = 0 })
framed_types first texts payload text fits are spelled framed saved n count =
    let same : saved_of text ≡ record_of [] (Types first texts) = saved ∙ ap (λ (p : List ℕ). record { kind = 2; payload = p }) spelled in
    record { framed = framed; saved = same; is = entry_is [] (Types first texts) (saved_of text) same (fits, are); types_is = count; words_is = refl }

pub framed_words : (first : ℕ) (texts : List (List ℕ)) (payload text : List ℕ) → first < 2 ^ 32 → AreTexts texts → payload ≡ texts_payload first texts → IsFrame text
    → saved_of text ≡ record { kind = 3; payload = payload } → (n : ℕ) → n ≡ length texts → IsFramed (Words first texts) 0 (length texts) (record { text = text; types = 0; words = n })
framed_words first texts payload text fits are spelled framed saved n count =
    let same : saved_of text ≡ record_of [] (Words first texts) = saved ∙ ap (λ (p : List ℕ). record { kind = 3; payload = p }) spelled in
    record { framed = framed; saved = same; is = entry_is [] (Words first texts) (saved_of text) same (fits, are); types_is = refl; words_is = count }

pub names_fit : (held : ℕ) (names : List (List ℕ)) → AddsNames held names → AreTexts names
names_fit held names adds = record {
  count = omega (arith, adds.few);
  lengths = All-weaker (λ (name : List ℕ). length name ≤ 4096) (λ (name : List ℕ). length name < 2 ^ 32) (λ name short. omega (arith, short)) names adds.short;
}
