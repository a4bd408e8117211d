-- Records of names behind a journal, and the archive with the files that have them.
use Rattle.std.proofs.Common.{◌≡◌, ◌+◌, ◌-◌, ◌≤◌, inr, refl, sym, ap, ap₂, subst, ◌∙◌, ℕ, List, [], ◌∷◌, ◌++◌, length, Option, Some, None, append_assoc, append-nil}
use Rattle.std.specs.Prelude.{All}
use Rattle.std.proofs.lemmas.List.Elements.{All-append}
use Rattle.record_format.specs.declared.header.Header.{Header}
use Rattle.archive_meaning.specs.declared.entry.JournalEntry.{JournalEntry}
use Rattle.archive_meaning.specs.declared.entry.JournalEntry.TheVariants.{Files, Types, Words, Segment}
use Rattle.archive_meaning.specs.Held.{Held, content_of, files_from, nothing_held}
use Rattle.archive_meaning.specs.Legal.{AreNamed, Run}
use Rattle.archive_meaning.specs.Spelled.{types_of}
use Rattle.archive_meaning.specs.Stands.{IsLegal, StandsFor}
use Rattle.archive_meaning.proofs.RunLemmas.{one_held, runs_split}
use Rattle.archive_open.specs.Shown.{HasLastGate, IsGate, RefusedAt, Shown, StandsForNone}
use Rattle.ingest_meaning.specs.WordsIn.{words_of}
use Rattle.name_records.specs.Named.{AreNamesOf, IsShort}
use Rattle.file_outcomes.proofs.JoinLemmas.{content_grows, with_names}
use Rattle.file_outcomes.proofs.PieceLemmas.{HasGrown, IsNewFrom, grown}

-- ---- an archive that is opened

-- a legal archive's names are short
pub names_grow : (h : Header) (held more : Held) (es : List JournalEntry) (count : ℕ) → Run h held es more → AreNamed count es → All IsShort held.names → All IsShort more.names
names_grow h held more [] count run named short = subst (λ (x : Held). All IsShort x.names) (sym run) short
names_grow h held more (Files names ∷ es) count run named short =
    names_grow h run.0 more es (count + length names) run.2 named.4
    (subst (λ (x : Held). All IsShort x.names) (sym run.1) (All-append IsShort held.names names short named.2))
names_grow h held more (Types first texts ∷ es) count run named short =
    names_grow h run.0 more es count run.2 named (subst (λ (x : Held). All IsShort x.names) (sym run.1.1) short)
names_grow h held more (Words first texts ∷ es) count run named short =
    names_grow h run.0 more es count run.2 named (subst (λ (x : Held). All IsShort x.names) (sym run.1.1) short)
names_grow h held more (Segment s ∷ es) count run named short =
    names_grow h run.0 more es count run.2 named.1 (subst (λ (x : Held). All IsShort x.names) (sym run.1.2) short)

-- the last gate of an archive is told where its bytes stand for none
pub refused_last : (told : Option (List ℕ)) (b : Shown) (last : ℕ) → last ≡ b.end - 1 → HasLastGate told b → ((bytes : List ℕ) → told ≡ Some bytes → StandsForNone bytes) → RefusedAt last told
refused_last None b last same gate none = tt
refused_last (Some bytes) b last same gate none = record {
  none = none bytes refl;
  behind = λ first damage. subst (λ n. first ≤ n) (sym same) (gate.behind first damage);
  gate = inr (subst (λ n. IsGate n bytes) (sym same) gate.gate);
}

-- ---- records of names

with_these : (held : Held) (names : List (List ℕ)) → names ≡ held.names → record held { names = names } ≡ held
with_these held names same = ap (λ ns. record held { names = ns }) same

pub run_names : (h : Header) (held : Held) (es : List JournalEntry) (names : List (List ℕ)) (more : Held) → AreNamesOf es names → Run h held es more → more ≡ with_names held names
run_names h held [] names more none run = run ∙ sym (with_these held (held.names ++ names) (ap (λ ns. held.names ++ ns) none ∙ append-nil held.names))
run_names h held (Files some ∷ es) names more are run =
    let rest = are.2.0 in
    let later = run_names h run.0 es rest more are.2.2 run.2 in
    later
    ∙ (ap (λ (x : Held). with_names x rest) run.1
    ∙ ap (λ ns. record held { names = ns }) (append_assoc held.names some rest ∙ ap (λ ns. held.names ++ ns) (sym are.2.1)))
run_names h held (Types number texts ∷ es) names more are run = absurd are
run_names h held (Words number texts ∷ es) names more are run = absurd are
run_names h held (Segment s ∷ es) names more are run = absurd are

-- records of names add none
pub types_behind : (naming fresh : List JournalEntry) (names : List (List ℕ)) → AreNamesOf naming names → types_of (naming ++ fresh) ≡ types_of fresh
types_behind [] fresh names are = refl
types_behind (Files some ∷ naming) fresh names are = types_behind naming fresh are.2.0 are.2.2
types_behind (Types number texts ∷ naming) fresh names are = absurd are
types_behind (Words number texts ∷ naming) fresh names are = absurd are
types_behind (Segment s ∷ naming) fresh names are = absurd are

pub words_behind : (naming fresh : List JournalEntry) (names : List (List ℕ)) → AreNamesOf naming names → words_of (naming ++ fresh) ≡ words_of fresh
words_behind [] fresh names are = refl
words_behind (Files some ∷ naming) fresh names are = words_behind naming fresh are.2.0 are.2.2
words_behind (Types number texts ∷ naming) fresh names are = absurd are
words_behind (Words number texts ∷ naming) fresh names are = absurd are
words_behind (Segment s ∷ naming) fresh names are = absurd are

-- ---- the archive with the new files

module _ (h : Header) (before naming fresh : List JournalEntry) (names : List (List ℕ)) {bytes : List ℕ} (stood : StandsFor bytes h before) (runs : (more : Held) → Run h stood.legal.held naming more → more ≡ with_names stood.legal.held names)
    (legal : IsLegal h (before ++ (naming ++ fresh))) (new : All (IsNewFrom (length stood.legal.held.names)) fresh) where
  abbrev first : ℕ
  first = length stood.legal.held.names

  abbrev mid : Held
  mid = with_names stood.legal.held names

  pub run_behind : Run h stood.legal.held (naming ++ fresh) legal.held
  run_behind =
      let split = runs_split h nothing_held legal.held before (naming ++ fresh) legal.run in
      subst (λ (x : Held). Run h x (naming ++ fresh) legal.held) (one_held h nothing_held split.0 stood.legal.held before split.1 stood.legal.run) split.2

  pub run_of_new : Run h mid fresh legal.held
  run_of_new =
      let split = runs_split h stood.legal.held legal.held naming fresh run_behind in
      subst (λ (x : Held). Run h x fresh legal.held) (runs split.0 split.1) split.2

  grown_of_new : HasGrown first mid legal.held
  grown_of_new = grown h first mid legal.held fresh run_of_new new

  -- the old files stay, and behind them stand the new ones
  pub content_of_new : content_of legal.held ≡ content_of stood.legal.held ++ files_from first names legal.held.pieces
  content_of_new =
      ap₂ (λ ns ps. files_from 0 ns ps) grown_of_new.names grown_of_new.pieces
      ∙ (content_grows stood.legal.held.names names stood.legal.held.pieces grown_of_new.more grown_of_new.from
      ∙ ap (λ ps. content_of stood.legal.held ++ files_from first names ps) (sym grown_of_new.pieces))
