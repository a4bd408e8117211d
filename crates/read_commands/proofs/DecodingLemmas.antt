-- The command that prints a file, from opening and decoding.
use Rattle.std.proofs.Common.{◌≡◌, refl, sym, ap, subst, ◌∙◌, ◌<◌, ◌≤◌, ◌-◌, ℕ, Bool, List, Option, None, Some, Result, Err, length, arith}
use Rattle.std.specs.Prelude.{IfSome, is_ok}
use Rattle.std.proofs.lemmas.List.{length-map}
use Rattle.archive_meaning.specs.Held.{content_of}
use Rattle.archive_open.specs.Shown.{HasLastGate, Opens, RefusedAt, Shown, StandsForNone, counted}
use Rattle.archive_open.proofs.OpenLemmas.{refused_at_last}
use Rattle.archive_text.specs.Decoded.{Decodes}
use Rattle.archive_text.specs.declared.refusal.DecodeRefusal.{DecodeRefusal}
use Rattle.command_answers.specs.Decoding.{LacksFile, PrintsFile}
use Rattle.read_commands.specs.Decoding.{from_decode}
use Rattle.command_refusals.specs.Reading.{OverJournal}
use Rattle.command_refusals.specs.declared.outcome.FileRefusal.{FileRefusal}

-- the archive has as many files as the journal
files_counted : (seen : Option (List ℕ)) (a : Shown) (count : ℕ) → Opens seen a → count ≡ length a.files → OverJournal seen (λ held. count ≡ length (content_of held))
files_counted None a count opened is = tt
files_counted (Some bytes) a count opened is = λ h es stood. is ∙ (ap length (opened h es stood).files ∙ length-map (content_of stood.legal.held) counted)

pub file_lacks : (seen old : Option (List ℕ)) (a : Shown) (number n count told told_count : ℕ) (r : Result Unit FileRefusal) → Opens seen a → count ≡ length a.files → count ≤ number → n ≡ number
    → r ≡ Err (FileRefusal.NoSuchFile n count) → r ≡ Err (FileRefusal.NoSuchFile told told_count) → LacksFile number told told_count seen old old
file_lacks seen old a number n count told told_count r opened is above same e f =
    subst (λ c. LacksFile number told c seen old old) (same_count e f) (record { same = sym (same_told e f) ∙ same; absent = above; all = files_counted seen a count opened is; nothing = refl })
  where
    same_told : r ≡ Err (FileRefusal.NoSuchFile n count) → r ≡ Err (FileRefusal.NoSuchFile told told_count) → n ≡ told
    same_told e f = cc

    same_count : r ≡ Err (FileRefusal.NoSuchFile n count) → r ≡ Err (FileRefusal.NoSuchFile told told_count) → count ≡ told_count
    same_count e f = cc

pub file_there : (seen : Option (List ℕ)) (a : Shown) (number count : ℕ) → Opens seen a → count ≡ length a.files → number < count → OverJournal seen (λ held. number < length (content_of held))
file_there None a number count opened is below = tt
file_there (Some bytes) a number count opened is below = λ h es stood. omega (arith, below, is, ap length (opened h es stood).files, length-map (content_of stood.legal.held) counted)

-- the refusal of a decoding is damage only where that was
decode_damaged : (told : FileRefusal) (r : DecodeRefusal) (place at : ℕ) → told ≡ from_decode place r → told ≡ FileRefusal.Damaged at → (r ≡ DecodeRefusal.Damaged) × (place ≡ at)
decode_damaged told DecodeRefusal.DiskFault place at is damaged = absurd (cc (is, damaged))
decode_damaged told DecodeRefusal.Damaged place at is damaged = (refl, cc (is, damaged))
decode_damaged told DecodeRefusal.SinkFault place at is damaged = absurd (cc (is, damaged))
decode_damaged told DecodeRefusal.OutOfMemory place at is damaged = absurd (cc (is, damaged))

-- and is for want of no file
pub decode_lacks_none : (told : FileRefusal) (r : DecodeRefusal) (place number count : ℕ) → told ≡ from_decode place r → told ≡ FileRefusal.NoSuchFile number count → ⊥
decode_lacks_none told DecodeRefusal.DiskFault place number count is lacks = absurd (cc (is, lacks))
decode_lacks_none told DecodeRefusal.Damaged place number count is lacks = absurd (cc (is, lacks))
decode_lacks_none told DecodeRefusal.SinkFault place number count is lacks = absurd (cc (is, lacks))
decode_lacks_none told DecodeRefusal.OutOfMemory place number count is lacks = absurd (cc (is, lacks))

-- a decoding in an archive that was opened, whose last gate is told
pub decode_refused_at : (told : FileRefusal) (r : DecodeRefusal) (place at : ℕ) (seen later : Option (List ℕ)) (a : Shown) → told ≡ from_decode place r → told ≡ FileRefusal.Damaged at
    → later ≡ seen → HasLastGate seen a → place ≡ a.end - 1 → (r ≡ DecodeRefusal.Damaged → IfSome later StandsForNone) → RefusedAt at seen
decode_refused_at told r place at seen later a is damaged same last place_is none =
    let here = decode_damaged told r place at is damaged in
    refused_at_last seen later a at same last (sym here.1 ∙ place_is) (none here.0)

pub file_printed : (done : Bool) (r : Result Unit FileRefusal) (number : ℕ) (seen later old new : Option (List ℕ)) → is_ok r ≡ done → later ≡ seen → Decodes done number later old new → PrintsFile r number seen old new
file_printed done r number None later old new e same decoded = tt
file_printed done r number (Some bytes) later old new e same decoded = λ h es stood. subst (λ b. Decodes b number (Some bytes) old new) (sym e) (subst (λ s. Decodes done number s old new) same decoded) h es stood
