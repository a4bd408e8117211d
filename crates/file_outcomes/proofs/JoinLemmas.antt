-- An archive with the names of new files, and what further entries of these files leave of the old ones.
use Rattle.std.proofs.Common.{◌≡◌, ◌+◌, ◌<◌, ◌≤◌, ◌==◌, ◌||◌, ◌&&◌, refl, sym, ap, ap₂, subst, ◌∙◌, ℕ, suc, Bool, true, false, List, [], ◌∷◌, ◌++◌, if◌then◌else◌, length, arith, append-nil, ne_eqb}
use Rattle.std.proofs.lemmas.List.{length-append}
use Rattle.record_format.specs.declared.header.Header.{Header}
use Rattle.archive_meaning.specs.declared.entry.JournalEntry.{JournalEntry}
use Rattle.archive_meaning.specs.declared.entry.JournalEntry.TheVariants.{Files}
use Rattle.archive_meaning.specs.Held.{File, Held, Piece, files_from, is_ended, is_whole, messages_of, nothing_held}
use Rattle.archive_meaning.specs.Legal.{AreNamed, Run}
use Rattle.archive_meaning.specs.Stands.{IsLegal}
use Rattle.archive_meaning.proofs.JudgeLemmas.{run_names, run_types}
use Rattle.archive_meaning.proofs.RunLemmas.{runs_go_on}
use Rattle.archive_meaning.proofs.SumsLemmas.{AreBelow, messages_joined, whole_joined}
use Rattle.archive_meaning.specs.Spelled.{types_in, types_of}
use Rattle.ingest_meaning.specs.WordsIn.{words_in, words_of}
use Rattle.disk_seal.proofs.NextLemmas.{run_words}

-- ---- the segments of other files

-- the segments are of files from a number on
abbrev pub AreFrom : ℕ → List Piece → Type 0
AreFrom count [] = Unit {0}
AreFrom count (p ∷ ps) = (count ≤ p.file) × AreFrom count ps

-- nothing is held of a file
pub record HasNone (file : ℕ) (ps : List Piece) : Type 0 where
  pub messages : messages_of file ps ≡ []
  pub whole : is_whole file ps ≡ false
  pub ended : is_ended file ps ≡ false

none_more : (file : ℕ) (p : Piece) (ps : List Piece) → p.file == file ≡ false → HasNone file ps → HasNone file (p ∷ ps)
none_more file p ps other none = record {
  messages = ap₂ (λ b l. (if b then p.messages else []) ++ l) other none.messages;
  whole = ap₂ (λ b c. (b && p.last) || c) other none.whole;
  ended = ap₂ (λ b c. (b && p.last && p.ended) || c) other none.ended;
}

pub none_below : (count file : ℕ) (ps : List Piece) → AreBelow count ps → count ≤ file → HasNone file ps
none_below count file [] below past = record { messages = refl; whole = refl; ended = refl }
none_below count file (p ∷ ps) below past = none_more file p ps (ne_eqb p.file file (λ e. omega (arith, e, below.0, past))) (none_below count file ps below.1 past)

pub none_from : (count file : ℕ) (ps : List Piece) → AreFrom count ps → file < count → HasNone file ps
none_from count file [] from low = record { messages = refl; whole = refl; ended = refl }
none_from count file (p ∷ ps) from low = none_more file p ps (ne_eqb p.file file (λ e. omega (arith, e, from.0, low))) (none_from count file ps from.1 low)

or_joined : (a b c : Bool) → (a || (b || c)) ≡ ((a || b) || c)
or_joined true b c = refl
or_joined false b c = refl

or_false : (a : Bool) → (a || false) ≡ a
or_false true = refl
or_false false = refl

pub ended_joined : (file : ℕ) (ps qs : List Piece) → is_ended file (ps ++ qs) ≡ (is_ended file ps || is_ended file qs)
ended_joined file [] qs = refl
ended_joined file (p ∷ ps) qs =
    ap (λ b. (p.file == file && p.last && p.ended) || b) (ended_joined file ps qs) ∙ or_joined (p.file == file && p.last && p.ended) (is_ended file ps) (is_ended file qs)

-- ---- old files keep their content

-- a file is as it was where nothing was added of it
abbrev file_with : List ℕ → ℕ → List Piece → File
file_with name file ps = record { name = name; messages = messages_of file ps; whole = is_whole file ps; ended = is_ended file ps }

same_file : (name : List ℕ) (file : ℕ) (ps qs : List Piece) → HasNone file qs → file_with name file (ps ++ qs) ≡ file_with name file ps
same_file name file ps qs none =
    let messages : messages_of file (ps ++ qs) ≡ messages_of file ps = messages_joined file ps qs ∙ (ap (λ l. messages_of file ps ++ l) none.messages ∙ append-nil (messages_of file ps)) in
    let whole : is_whole file (ps ++ qs) ≡ is_whole file ps = whole_joined file ps qs ∙ (ap (λ b. is_whole file ps || b) none.whole ∙ or_false (is_whole file ps)) in
    let ended : is_ended file (ps ++ qs) ≡ is_ended file ps = ended_joined file ps qs ∙ (ap (λ b. is_ended file ps || b) none.ended ∙ or_false (is_ended file ps)) in
    λ i. record { name = name; messages = messages i; whole = whole i; ended = ended i }

old_files : (count k : ℕ) (names : List (List ℕ)) (ps qs : List Piece) → k + length names ≤ count → AreFrom count qs → files_from k names (ps ++ qs) ≡ files_from k names ps
old_files count k [] ps qs few from = refl
old_files count k (name ∷ names) ps qs few from =
    ap₂ (λ (f : File) (fs : List File). f ∷ fs) (same_file name k ps qs (none_from count k qs from (omega (arith, few)))) (old_files count (k + 1) names ps qs (omega (arith, few)) from)

files_joined : (k : ℕ) (names more : List (List ℕ)) (ps : List Piece) → files_from k (names ++ more) ps ≡ files_from k names ps ++ files_from (k + length names) more ps
files_joined k [] more ps = let same : k ≡ k + 0 = omega arith in ap (λ l. files_from l more ps) same
files_joined k (name ∷ names) more ps =
    let same : k + 1 + length names ≡ k + suc (length names) = omega arith in
    ap (λ (fs : List File). file_with name k ps ∷ fs) (files_joined (k + 1) names more ps ∙ ap (λ l. files_from (k + 1) names ps ++ files_from l more ps) same)

-- Where the segments that were added are all of new files, the old files keep their content, and the new ones stand behind them.
pub content_grows : (names more : List (List ℕ)) (ps qs : List Piece) → AreFrom (length names) qs
    → files_from 0 (names ++ more) (ps ++ qs) ≡ files_from 0 names ps ++ files_from (length names) more (ps ++ qs)
content_grows names more ps qs from =
    files_joined 0 names more (ps ++ qs)
    ∙ ap₂ (λ (fs gs : List File). fs ++ gs) (old_files (length names) 0 names ps qs (omega arith) from) (ap (λ l. files_from l more (ps ++ qs)) (omega arith))

-- ---- the names of new files

below_held : (h : Header) (es : List JournalEntry) (legal : IsLegal h es) → AreBelow (length legal.held.names) legal.held.pieces
below_held h es legal =
    (run_names h nothing_held legal.held es [] legal.run (subst (λ fs. AreNamed 0 fs) (sym (append-nil es)) legal.named) tt).1

abbrev pub with_names : Held → List (List ℕ) → Held
with_names held names = record held { names = held.names ++ names }

-- A file with a new name: the entries run, the file has its name, and nothing is held of it.
pub record IsEmptyFile (h : Header) (es : List JournalEntry) (held : Held) (file : ℕ) : Type 0 where
  pub run : Run h nothing_held es held
  pub named : file < length held.names
  pub none : HasNone file held.pieces

pub new_file : (h : Header) (es : List JournalEntry) (names : List (List ℕ)) (legal : IsLegal h es) (i : ℕ) → i < length names
    → IsEmptyFile h (es ++ Files names ∷ []) (with_names legal.held names) (length legal.held.names + i)
new_file h es names legal i within = record {
  run = runs_go_on h nothing_held legal.held (with_names legal.held names) es (Files names ∷ []) legal.run (with_names legal.held names, refl, refl);
  named = omega (arith, length-append legal.held.names names, within);
  none = none_below (length legal.held.names) (length legal.held.names + i) legal.held.pieces (below_held h es legal) (omega arith);
}

-- ---- the texts of both books

pub types_held : (h : Header) (es : List JournalEntry) (legal : IsLegal h es) → legal.held.types ≡ types_of es
types_held h es legal = run_types h nothing_held legal.held es legal.run

pub words_held : (h : Header) (es : List JournalEntry) (legal : IsLegal h es) → legal.held.words ≡ words_of es
words_held h es legal = run_words h nothing_held legal.held es legal.run

-- names add no texts
pub types_named : (es : List JournalEntry) (names : List (List ℕ)) → types_of (es ++ Files names ∷ []) ≡ types_of es
types_named [] names = refl
types_named (e ∷ es) names = ap (λ ts. types_in e ++ ts) (types_named es names)

pub words_named : (es : List JournalEntry) (names : List (List ℕ)) → words_of (es ++ Files names ∷ []) ≡ words_of es
words_named [] names = refl
words_named (e ∷ es) names = ap (λ ws. words_in e ++ ws) (words_named es names)
