-- The archive that is upgraded, as it was opened.
use Rattle.std.proofs.Common.{◌≡◌, ◌≢◌, ◌+◌, ◌-◌, ◌≤◌, ◌<◌, refl, sym, ap, subst, ◌∙◌, ℕ, List, [], ◌∷◌, length, map, Option, Some, None, Result, Ok, Err, arith}
use Rattle.std.specs.Prelude.{All, IfOk}
use Rattle.std.proofs.lemmas.List.{length-append, length-map}
use Rattle.std.proofs.lemmas.List.Elements.{All-cons, All-head, All-nil, All-tail}
use Rattle.std.proofs.Math.Decide.{dec_le}
use Rattle.std.proofs.Math.Logic.{dite}
use Rattle.std.proofs.Math.Nat.{lt_of_not-le}
use Rattle.log_seams.specs.Disk.{DiskState}
use Rattle.record_format.specs.Header.{IsHeader}
use Rattle.record_format.specs.declared.header.Header.{Header}
use Rattle.record_format.specs.declared.header.TheConstants.{LAST_VERSION}
use Rattle.archive_meaning.specs.declared.TheConstants.{MAX_FILES, MAX_NAME_LEN}
use Rattle.archive_meaning.specs.Held.{Held, Piece, files_from, nothing_held}
use Rattle.archive_meaning.specs.Legal.{AreNamed, Run}
use Rattle.archive_meaning.specs.declared.entry.JournalEntry.{JournalEntry}
use Rattle.archive_meaning.specs.declared.entry.JournalEntry.TheVariants.{Files, Segment, Types, Words}
use Rattle.archive_open.specs.Shown.{HasLastGate, Opens, Shown, StandsForNone, counted}
use Rattle.archive_open.specs.declared.files.FileEntry.{FileEntry}
use Rattle.search_meaning.specs.Journal.{OfJournal}
use Rattle.name_records.specs.Named.{IsShort, names_of}
use Rattle.command_refusals.specs.declared.outcome.UpgradeRefusal.{UpgradeRefusal}
use Rattle.file_outcomes.proofs.NamingLemmas.{names_grow, refused_last}
use Rattle.upgrade_command.specs.Old.{IsOld, MayBeNamed, RefusesOld, RefusesOpened}

-- ---- the names of a legal archive

few_grow : (h : Header) (held more : Held) (es : List JournalEntry) (count : ℕ) → Run h held es more → AreNamed count es → count ≡ length held.names → count ≤ MAX_FILES → length more.names ≤ MAX_FILES
few_grow h held more [] count run named same few = omega (arith, same, few, ap (λ (x : Held). length x.names) run)
few_grow h held more (Files names ∷ es) count run named same few =
    few_grow h run.0 more es (count + length names) run.2 named.4 (omega (arith, same, ap (λ (x : Held). length x.names) run.1, length-append held.names names)) named.3
few_grow h held more (Types first texts ∷ es) count run named same few = few_grow h run.0 more es count run.2 named (same ∙ ap (λ (x : Held). length x.names) (sym run.1.1)) few
few_grow h held more (Words first texts ∷ es) count run named same few = few_grow h run.0 more es count run.2 named (same ∙ ap (λ (x : Held). length x.names) (sym run.1.1)) few
few_grow h held more (Segment s ∷ es) count run named same few = few_grow h run.0 more es count run.2 named.1 (same ∙ ap (λ (x : Held). length x.names) (sym run.1.2)) few

names_counted : (k : ℕ) (names : List (List ℕ)) (ps : List Piece) → names_of (map counted (files_from k names ps)) ≡ names
names_counted k [] ps = refl
names_counted k (name ∷ names) ps = ap (λ ns. name ∷ ns) (names_counted (k + 1) names ps)

-- short names are those of files with short names
pub short_files : (files : List FileEntry) → All IsShort (names_of files) → All (λ (f : FileEntry). length f.name ≤ MAX_NAME_LEN) files
short_files [] short = All-nil (λ (f : FileEntry). length f.name ≤ MAX_NAME_LEN)
short_files (f ∷ files) short = All-cons (λ (x : FileEntry). length x.name ≤ MAX_NAME_LEN) f files (All-head IsShort f.name (names_of files) short) (short_files files (All-tail IsShort f.name (names_of files) short))

pub short_names : (files : List FileEntry) → All (λ (f : FileEntry). length f.name ≤ MAX_NAME_LEN) files → All IsShort (names_of files)
short_names [] short = All-nil IsShort
short_names (f ∷ files) short = All-cons IsShort f.name (names_of files) (All-head (λ (x : FileEntry). length x.name ≤ MAX_NAME_LEN) f files short) (short_names files (All-tail (λ (x : FileEntry). length x.name ≤ MAX_NAME_LEN) f files short))

-- a legal archive's files may be named
may_be_named : (a : Shown) (bytes : List ℕ) → Opens (Some bytes) a → ¬ MayBeNamed a.files → StandsForNone bytes
may_be_named a bytes opens may_not = λ h es stood.
    let is = opens h es stood in
    let held = stood.legal.held in
    let names : names_of a.files ≡ held.names = ap names_of is.files ∙ names_counted 0 held.names held.pieces in
    may_not (record {
      few = omega (arith, sym (length-map a.files (λ (f : FileEntry). f.name)), ap length names, few_grow h nothing_held held es 0 stood.legal.run stood.legal.named refl (omega arith));
      short = short_files a.files (subst (All IsShort) (sym names) (names_grow h nothing_held held es 0 stood.legal.run stood.legal.named (All-nil IsShort)));
    })

-- ---- why it is not upgraded

newest_of : (seen : Option (List ℕ)) (a : Shown) → Opens seen a → a.header.version ≡ LAST_VERSION → OfJournal seen (λ h es held. h.version ≡ LAST_VERSION)
newest_of None a opens newest = tt
newest_of (Some bytes) a opens newest = λ h es stood. subst (λ (x : Header). x.version ≡ LAST_VERSION) (opens h es stood).header newest

pub opened_refuses : (old new : DiskState) (a : Shown) → Opens old.seen a → HasLastGate old.seen a → (r : UpgradeRefusal) → RefusesOpened a r → RefusesOld old new r
opened_refuses old new a opens last (UpgradeRefusal.Damaged at) cause = refused_last old.seen a at cause.0 last (λ bytes is. may_be_named a bytes (subst (λ t. Opens t a) is opens) cause.1)
opened_refuses old new a opens last UpgradeRefusal.OutOfMemory cause = tt
opened_refuses old new a opens last (UpgradeRefusal.AlreadyNewest version) cause = (cause.0, newest_of old.seen a opens cause.1)
opened_refuses old new a opens last UpgradeRefusal.DiskFault cause = absurd cause
opened_refuses old new a opens last UpgradeRefusal.SecondFault cause = absurd cause
opened_refuses old new a opens last (UpgradeRefusal.NotEmpty len) cause = absurd cause
opened_refuses old new a opens last (UpgradeRefusal.ArchiveFull end need) cause = absurd cause

earlier : (a : Shown) → IsHeader a.header → a.header.version ≢ LAST_VERSION → a.header.version < LAST_VERSION
earlier a header other =
    dite (dec_le LAST_VERSION a.header.version)
    (λ (low : LAST_VERSION ≤ a.header.version). absurd (other (omega (arith, low, header.most_version))))
    (λ high. lt_of_not-le high)

module _ {A E X : Type 0} (archive : A → X) (show : X → Shown) (cut : A → List (List ℕ)) (seen : Option (List ℕ)) (x : X) (opens : Opens seen (show x)) (last : HasLastGate seen (show x)) (header : IsHeader (show x).header) where
  -- the archive that was opened is one of an earlier version
  pub old_of : (result : Result A E) → IfOk result (λ o. archive o ≡ x) → IfOk result (λ o. cut o ≡ (show x).kept.types) → IfOk result (λ o. (show x).header.version ≢ LAST_VERSION) → IfOk result (λ o. MayBeNamed (show x).files)
      → IfOk result (λ o. IsOld seen (show (archive o)) (cut o))
  old_of (Ok o) kept layouts older named = subst (λ y. IsOld seen (show y) (cut o)) (sym kept) (record { opens = opens; last = last; header = header; older = earlier (show x) header older; layouts_are = layouts; named = named })
  old_of (Err e) kept layouts older named = tt
