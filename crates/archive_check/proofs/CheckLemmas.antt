-- A check along the records of bytes that are told.
use Rattle.std.proofs.Common.{◌≡◌, inl, inr, ℕ, suc, ◌+◌, ◌^◌, ◌<◌, List, [], ◌∷◌, ◌++◌, Some, get_or, length, take, drop, refl, sym, ◌∙◌, ap, subst, arith, length-append}
use Rattle.std.specs.Prelude.{IfSome, IsNone, None, Option}
use Rattle.std.specs.List.{sum_by}
use Rattle.std.proofs.lemmas.List.{append-nil, append_assoc, drop_at}
use Rattle.std.proofs.Math.Seq.{get_or-append_seam}
use Rattle.std.proofs.lemmas.List.Sums.{sum_by-cons}
use Rattle.record_format.specs.declared.header.Header.{Header}
use Rattle.record_format.specs.Header.{IsHeader, header_bytes}
use Rattle.record_format.proofs.HeaderLemmas.{length-header_bytes}
use Rattle.disk_journal.specs.Record.{Saved, Fits, body, payload_len}
use Rattle.disk_journal.specs.Place.{ClosedAt, HasClosedGate, HasRecord, HasWalked, IsDamaged, NoHeader, OpenAt, Walked}
use Rattle.disk_journal.proofs.SpellingLemmas.{length-body, payload_len-body}
use Rattle.archive_meaning.specs.declared.sums.FileSum.{FileSum}
use Rattle.archive_meaning.specs.declared.entry.JournalEntry.{JournalEntry}
use Rattle.archive_meaning.specs.declared.entry.JournalEntry.TheVariants.{Files, Types, Words, Segment}
use Rattle.archive_meaning.specs.Held.{File, Held, Piece, files_from, is_ended, is_whole, messages_of, nothing_held}
use Rattle.archive_meaning.specs.Spelled.{front_of, record_of, types_in, types_of}
use Rattle.archive_meaning.specs.Stands.{IsBadBehind, IsDamagedAt, IsLegal, StandsFor}
use Rattle.archive_meaning.specs.StepsForms.{HasForm, HaveForms}
use Rattle.archive_meaning.specs.Sums.{Admits, AreSums, Sums, sum_of, sums_from}
use Rattle.archive_meaning.proofs.JudgeLemmas.{admitted, legal_admitted, same_types}
use Rattle.archive_meaning.specs.Legal.{Run}
use Rattle.archive_meaning.proofs.RunLemmas.{one_held}
use Rattle.archive_meaning.proofs.SpellingLemmas.{one_body}
use Rattle.archive_meaning.proofs.UniqueLemmas.{front_joined, legal_forms}
use Rattle.check_meaning.specs.Checked.{DamagedAt, Stood}
use Rattle.archive_check.specs.Checked.{Checked, HasChecked}
use Rattle.archive_check.specs.Taken.{Takes, TakesNone}
use Rattle.check_meaning.specs.declared.summary.Summary.{Summary}

-- ---- forms of the last entry

last_form : (types : List (List ℕ)) (es : List JournalEntry) (e : JournalEntry) → HaveForms types (es ++ e ∷ [])
    → HasForm (types ++ types_of es) e × Fits (record_of (types ++ types_of es) e)
last_form types [] e forms = subst (λ t. HasForm t e × Fits (record_of t e)) (sym (append-nil types)) (forms.0, forms.1)
last_form types (f ∷ es) e forms =
    subst (λ t. HasForm t e × Fits (record_of t e)) (append_assoc types (types_in f) (types_of es)) (last_form (types ++ types_in f) es e forms.2)

next_form : (h : Header) (es : List JournalEntry) (e : JournalEntry) → IsHeader h → IsLegal h (es ++ e ∷ []) → HasForm (types_of es) e × Fits (record_of (types_of es) e)
next_form h es e header legal = last_form [] es e (legal_forms h (es ++ e ∷ []) header legal)

-- ---- the sums are those of a legal journal

sums_legal : (sums : Sums) (es : List JournalEntry) → AreSums sums es → IsLegal sums.header es
sums_legal sums es are = record { held = are.held; run = are.run; named = are.named; short = omega (arith, are.end, are.short) }

same_header : (old new : Sums) (e : JournalEntry) → Admits old e new → new.header ≡ old.header
same_header old new (Files names) admits = ap (λ (s : Sums). s.header) admits.0.1
same_header old new (Types first texts) admits = ap (λ (s : Sums). s.header) admits.0.1
same_header old new (Words first texts) admits = ap (λ (s : Sums). s.header) admits.0.1
same_header old new (Segment s) admits = ap (λ (s : Sums). s.header) admits.0.1.2

-- ---- behind the place

-- the bytes from the place on
behind : (bytes front rest : List ℕ) (place : ℕ) → bytes ≡ front ++ rest → place ≡ length front → drop place bytes ≡ rest
behind bytes front rest place is at = ap (λ (l : List ℕ). drop place l) is ∙ drop_at front rest place (sym at)

gate_is : (bytes front rest : List ℕ) (gate place : ℕ) → bytes ≡ front ++ gate ∷ rest → place ≡ length front → get_or bytes place 0 ≡ gate
gate_is bytes front rest gate place is at =
    ap (λ (l : List ℕ). get_or l place 0) is ∙ ap (λ k. get_or (front ++ gate ∷ rest) k 0) at ∙ get_or-append_seam front gate rest 0

size_is : (bytes front rest : List ℕ) → bytes ≡ front ++ rest → length bytes ≡ length front + length rest
size_is bytes front rest is = ap length is ∙ length-append front rest

pub standing : (h : Header) (place count : ℕ) (sums : Sums) (bytes : List ℕ) (checked : HasChecked h place count sums bytes) → HasClosedGate place bytes
    → StandsFor bytes h checked.es
standing h place count sums bytes checked closed = stands_by checked.begins.rest checked.begins.spells where
  stands_by : (rest : List ℕ) → bytes ≡ front_of h checked.es ++ rest → StandsFor bytes h checked.es
  stands_by [] is = absurd (omega (arith, closed.there, size_is bytes (front_of h checked.es) [] is, checked.at))
  stands_by (gate ∷ rest) is = record {
    header = checked.begins.header;
    legal = checked.begins.legal;
    stands = record {
      gate = gate;
      rest = rest;
      spells = is;
      closed = λ one. closed.shut (gate_is bytes (front_of h checked.es) rest gate place is checked.at ∙ one);
    };
  }

-- a gate that is missing, or is open without a whole record
pub damage_here : (h : Header) (place count : ℕ) (sums : Sums) (bytes : List ℕ) → HasChecked h place count sums bytes → IsDamaged place (Some bytes) → IsDamagedAt bytes place
damage_here h place count sums bytes checked damaged = record {
  h = h;
  es = checked.es;
  begins = checked.begins;
  gate = checked.at;
  bad = bad checked.begins.rest checked.begins.spells damaged;
} where
  bad : (rest : List ℕ) → bytes ≡ front_of h checked.es ++ rest → IsDamaged place (Some bytes) → IsBadBehind h checked.es rest
  bad [] is damaged = tt
  bad (gate ∷ rest) is (inl past) = absurd (omega (arith, past, size_is bytes (front_of h checked.es) (gate ∷ rest) is, checked.at))
  bad (gate ∷ rest) is (inr short) =
      let here : drop place bytes ≡ gate ∷ rest = behind bytes (front_of h checked.es) (gate ∷ rest) place is checked.at in
      let one : gate ≡ 1 = sym (gate_is bytes (front_of h checked.es) rest gate place is checked.at) ∙ short.0 in (
        one,
        λ e more legal same.
            let r : Saved = record_of (types_of checked.es) e in
            let fits = (next_form h checked.es e checked.begins.header legal).1 in
            let all : gate ∷ rest ≡ 1 ∷ body r ++ more = ap (λ g. g ∷ rest) one ∙ ap (λ (l : List ℕ). 1 ∷ l) same in
            let long : payload_len (drop place bytes) ≡ length r.payload = ap payload_len (here ∙ all) ∙ payload_len-body r more fits in
            omega (arith, short.1, long, size_is bytes (front_of h checked.es) (gate ∷ rest) is, ap length same, length-append (body r) more, length-body r, checked.at),
      )

-- ---- a record that was passed

-- its bytes stand behind the place
module _ (h : Header) (place count kind len : ℕ) (sums : Sums) (bytes payload : List ℕ) (checked : HasChecked h place count sums bytes)
    (found : HasRecord place kind len bytes) (loaded : payload ≡ take len (drop (place + 10) bytes)) (size : length payload ≡ len) where
  rest_is : checked.begins.rest ≡ 1 ∷ body (record { kind = kind; payload = payload }) ++ drop (place + 10 + len) bytes
  rest_is =
      sym (behind bytes (front_of h checked.es) checked.begins.rest place checked.begins.spells checked.at) ∙ found.spells
      ∙ ap (λ (p : List ℕ). 1 ∷ body (record { kind = kind; payload = p }) ++ drop (place + 10 + len) bytes) (sym loaded)

  fits : length payload < 2 ^ 64
  fits = omega (arith, size, found.fits)

  pub refused_here : TakesNone sums kind payload → IsDamagedAt bytes place
  refused_here none = record {
    h = h;
    es = checked.es;
    begins = checked.begins;
    gate = checked.at;
    bad = subst (λ (l : List ℕ). IsBadBehind h checked.es l) (sym rest_is) (
      refl,
      λ e more legal same.
          let mine : Saved = record { kind = kind; payload = payload } in
          let theirs : Saved = record_of (types_of checked.es) e in
          let form = next_form h checked.es e checked.begins.header legal in
          let one : mine ≡ theirs = (one_body mine theirs (drop (place + 10 + len) bytes) more fits form.1 same).0 in
          let here : IsLegal sums.header (checked.es ++ e ∷ []) = subst (λ k. IsLegal k (checked.es ++ e ∷ [])) (sym checked.same) legal in
          let admits = legal_admitted sums checked.es e checked.sums_are here in
          let types : sums.types ≡ types_of checked.es = same_types sums checked.es checked.sums_are in
          none e admits.0 (subst (λ t. HasForm t e) (sym types) form.0) admits.1 (ap (λ t. record_of t e) types ∙ sym one),
    );
  }

  pub taken_here : (new : Sums) (place_after : ℕ) → place_after ≡ place + 10 + len → Takes sums kind payload new → HasChecked h place_after (count + 1) new bytes
  taken_here new place_after after takes =
      let e : JournalEntry = takes.0 in
      let types : sums.types ≡ types_of checked.es = same_types sums checked.es checked.sums_are in
      let mine : Saved = record { kind = kind; payload = payload } in
      let one : record_of (types_of checked.es) e ≡ mine = ap (λ t. record_of t e) (sym types) ∙ takes.1 in
      let are : AreSums new (checked.es ++ e ∷ []) = admitted sums new checked.es e checked.sums_are takes.2 in
      let header : new.header ≡ h = same_header sums new e takes.2 ∙ checked.same in
      let front : front_of h (checked.es ++ e ∷ []) ≡ front_of h checked.es ++ 1 ∷ body mine =
      front_joined h checked.es (e ∷ []) ∙ ap (λ (q : Saved). front_of h checked.es ++ (1 ∷ body q ++ [])) one ∙ ap (λ (l : List ℕ). front_of h checked.es ++ 1 ∷ l) (append-nil (body mine)) in
      let spells : bytes ≡ front_of h (checked.es ++ e ∷ []) ++ drop (place + 10 + len) bytes =
      checked.begins.spells ∙ ap (λ (l : List ℕ). front_of h checked.es ++ l) rest_is ∙ sym (append_assoc (front_of h checked.es) (1 ∷ body mine) (drop (place + 10 + len) bytes))
      ∙ ap (λ (l : List ℕ). l ++ drop (place + 10 + len) bytes) (sym front) in
      record {
        es = checked.es ++ e ∷ [];
        begins = record {
          header = checked.begins.header;
          legal = subst (λ k. IsLegal k (checked.es ++ e ∷ [])) header (sums_legal new (checked.es ++ e ∷ []) are);
          rest = drop (place + 10 + len) bytes;
          spells = spells;
        };
        at = omega (arith, after, ap length front, length-append (front_of h checked.es) (1 ∷ body mine), length-body mine, checked.at, size);
        counted = omega (arith, checked.counted, length-append checked.es (e ∷ []));
        sums_are = are;
        same = header;
      }

-- ---- the beginning and the end

pub checked_first : (h : Header) (sums : Sums) (bytes : List ℕ) → IsHeader h → HasWalked (header_bytes h) 32 0 bytes → sums.header ≡ h → sums.types ≡ [] → sums.words ≡ [] → sums.files ≡ []
    → sums.end ≡ 33 → HasChecked h 32 0 sums bytes
checked_first h sums bytes header walked same types words files end =
    let size : length (front_of h []) ≡ 32 = ap length (append-nil (header_bytes h)) ∙ length-header_bytes h in
    record {
      es = [];
      begins = record {
        header = header;
        legal = record { held = nothing_held; run = refl; named = tt; short = omega (arith, size, header.least_length) };
        rest = walked.rest;
        spells = walked.spells;
      };
      at = sym size;
      counted = refl;
      sums_are = record {
        header = subst IsHeader (sym same) header;
        held = nothing_held;
        run = refl;
        named = tt;
        types = types;
        words = words;
        files = files;
        end = omega (arith, end, ap (λ k. length (front_of k [])) same, size);
        short = omega (arith, end, header.least_length, ap (λ (k : Header). k.length_limit) same);
      };
      same = same;
    }

length-files : (k : ℕ) (names : List (List ℕ)) (ps : List Piece) → length (files_from k names ps) ≡ length (sums_from k names ps)
length-files k [] ps = refl
length-files k (name ∷ names) ps = ap suc (length-files (k + 1) names ps)

messages-files : (k : ℕ) (names : List (List ℕ)) (ps : List Piece) → sum_by (λ (f : File). length f.messages) (files_from k names ps) ≡ sum_by (λ (f : FileSum). f.messages) (sums_from k names ps)
messages-files k [] ps = refl
messages-files k (name ∷ names) ps =
    let file : File = record { name = name; messages = messages_of k ps; whole = is_whole k ps; ended = is_ended k ps } in
    sum_by-cons (λ (f : File). length f.messages) file (files_from (k + 1) names ps) ∙ ap (λ n. length (messages_of k ps) + n) (messages-files (k + 1) names ps)
    ∙ sym (sum_by-cons (λ (f : FileSum). f.messages) (sum_of k ps) (sums_from (k + 1) names ps))

pub stood : (h : Header) (place count : ℕ) (sums : Sums) (bytes : List ℕ) (summary : Summary) → HasChecked h place count sums bytes → HasClosedGate place bytes
    → summary.entries ≡ count → summary.files ≡ length sums.files → summary.messages ≡ sum_by (λ (f : FileSum). f.messages) sums.files → Stood summary bytes
stood h place count sums bytes summary checked closed entries files messages =
    let stands = standing h place count sums bytes checked closed in
    let are = checked.sums_are in
    let held : Held = stands.legal.held in
    let one : are.held ≡ held = one_held h nothing_held are.held held checked.es (subst (λ k. Run k nothing_held checked.es are.held) checked.same are.run) stands.legal.run in
    let sums_here : sums.files ≡ sums_from 0 held.names held.pieces = are.files ∙ ap (λ (x : Held). sums_from 0 x.names x.pieces) one in
    record {
      h = h;
      es = checked.es;
      stands = stands;
      entries = entries ∙ checked.counted;
      files = files ∙ ap length sums_here ∙ sym (length-files 0 held.names held.pieces);
      messages = messages ∙ ap (sum_by (λ (f : FileSum). f.messages)) sums_here ∙ sym (messages-files 0 held.names held.pieces);
    }

-- ---- the same over a disk that may not tell its bytes

pub damage_told : (told : Option (List ℕ)) (h : Header) (place count at : ℕ) (sums : Sums) → Checked h place count sums told → at ≡ place → IsDamaged at told → IfSome told (DamagedAt at)
damage_told None h place count at sums checked here damaged = tt
damage_told (Some bytes) h place count at sums checked here damaged =
    subst (λ k. DamagedAt k bytes) (sym here) (inr (damage_here h place count sums bytes checked (subst (λ k. IsDamaged k (Some bytes)) here damaged)))

pub untold : (told : Option (List ℕ)) (P : List ℕ → Type 0) → IsNone told → IfSome told P
untold None P none = tt
untold (Some bytes) P none = absurd (cc (none))

pub refused_told : (told : Option (List ℕ)) (h : Header) (place count at from kind len : ℕ) (sums : Sums) (payload : List ℕ) → Checked h place count sums told → OpenAt place kind len told
    → IfSome told (λ bytes. payload ≡ take len (drop from bytes)) → from ≡ place + 10 → length payload ≡ len → at ≡ place → TakesNone sums kind payload → IfSome told (DamagedAt at)
refused_told None h place count at from kind len sums payload checked found loaded here size same none = tt
refused_told (Some bytes) h place count at from kind len sums payload checked found loaded here size same none =
    subst (λ k. DamagedAt k bytes) (sym same)
    (inr (refused_here h place count kind len sums bytes payload checked found (loaded ∙ ap (λ k. take len (drop k bytes)) here) size none))

pub taken_told : (told now : Option (List ℕ)) (h after : Header) (place count at from kind len place_after count_after : ℕ) (sums new : Sums) (payload : List ℕ) → Checked h place count sums told
    → OpenAt place kind len told → IfSome told (λ bytes. payload ≡ take len (drop from bytes)) → from ≡ place + 10 → length payload ≡ len → Takes sums kind payload new
    → now ≡ told → after ≡ h → place_after ≡ from + len → count_after ≡ count + 1 → Checked after place_after count_after new now
taken_told told now h after place count at from kind len place_after count_after sums new payload checked found loaded here size takes same_told same_header same_place same_count =
    subst (λ t. Checked after place_after count_after new t) (sym same_told)
    (subst (λ k. Checked k place_after count_after new told) (sym same_header)
    (subst (λ n. Checked h place_after n new told) (sym same_count) (by_told told checked found loaded))) where
      by_told : (told : Option (List ℕ)) → Checked h place count sums told → OpenAt place kind len told → IfSome told (λ bytes. payload ≡ take len (drop from bytes)) → Checked h place_after (count + 1) new told
      by_told None checked found loaded = tt
      by_told (Some bytes) checked found loaded =
          taken_here h place count kind len sums bytes payload checked found (loaded ∙ ap (λ k. take len (drop k bytes)) here) size new place_after (omega (arith, same_place, here)) takes

pub stood_told : (told now : Option (List ℕ)) (h : Header) (place count : ℕ) (sums : Sums) (summary : Summary) → now ≡ told → Checked h place count sums now → ClosedAt place now
    → summary.entries ≡ count → summary.files ≡ length sums.files → summary.messages ≡ sum_by (λ (f : FileSum). f.messages) sums.files → IfSome told (Stood summary)
stood_told told now h place count sums summary same checked closed entries files messages =
    subst (λ t. IfSome t (Stood summary)) same (by_told now checked closed) where
      by_told : (now : Option (List ℕ)) → Checked h place count sums now → ClosedAt place now → IfSome now (Stood summary)
      by_told None checked closed = tt
      by_told (Some bytes) checked closed = stood h place count sums bytes summary checked closed entries files messages

from_first : (told : Option (List ℕ)) (h : Header) (sums : Sums) → IsHeader h → Walked (header_bytes h) 32 0 told → sums.header ≡ h → sums.types ≡ [] → sums.words ≡ [] → sums.files ≡ []
    → sums.end ≡ 33 → Checked h 32 0 sums told
from_first None h sums header walked same types words files end = tt
from_first (Some bytes) h sums header walked same types words files end = checked_first h sums bytes header walked same types words files end

pub first_told : (told now : Option (List ℕ)) (h after : Header) (place count : ℕ) (sums : Sums) → IsHeader h → Walked (header_bytes h) 32 0 told → sums.header ≡ h → sums.types ≡ [] → sums.words ≡ [] → sums.files ≡ []
    → sums.end ≡ 33 → now ≡ told → after ≡ h → place ≡ 32 → count ≡ 0 → Checked after place count sums now
first_told told now h after place count sums header walked same types words files end same_told same_header same_place same_count =
    subst (λ t. Checked after place count sums t) (sym same_told)
    (subst (λ k. Checked k place count sums told) (sym same_header)
    (subst (λ n. Checked h n count sums told) (sym same_place)
    (subst (λ n. Checked h 32 n sums told) (sym same_count) (from_first told h sums header walked same types words files end))))

pub no_header_told : (told : Option (List ℕ)) (at : ℕ) → at ≡ 0 → NoHeader told → IfSome told (DamagedAt at)
no_header_told None at zero none = tt
no_header_told (Some bytes) at zero none = inl (zero, λ has. none has.h has.header has.spells)
