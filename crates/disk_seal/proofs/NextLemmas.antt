-- Which records may follow.
use Rattle.std.proofs.Common.{◌≡◌, ℕ, ◌+◌, ◌-◌, ◌<◌, ◌≤◌, List, [], ◌∷◌, ◌++◌, Bool, true, false, length, drop, refl, sym, ap, ◌∙◌, subst, Some, None, Option, arith, append-nil, append_assoc}
use Rattle.std.specs.Prelude.{is_some}
use Rattle.std.proofs.lemmas.List.{take-append-drop, length-take-le, take_all, length-drop}
use Rattle.std.proofs.lemmas.List.Elements.{All-append, All-nil}
use Rattle.logtype_text.specs.Fair.{IsFairType, IsFairWord}
use Rattle.turn_lock.specs.Words.{seen}
use Rattle.plain_list.specs.Texts.{AreDistinct}
use Rattle.dict_lock.specs.Shared.{BookPass, HasSeenBook}
use Rattle.record_format.specs.declared.header.Header.{Header}
use Rattle.record_format.specs.Header.{header_bytes}
use Rattle.disk_journal.specs.Record.{Saved, IsFrame, saved_of, spelled}
use Rattle.disk_journal.specs.Place.{entries, AtEnd}
use Rattle.disk_journal.proofs.SpellingLemmas.{length-frame}
use Rattle.archive_meaning.specs.declared.entry.JournalEntry.{JournalEntry}
use Rattle.archive_meaning.specs.declared.entry.JournalEntry.TheVariants.{Files, Types, Words, Segment}
use Rattle.archive_meaning.specs.Held.{Held, nothing_held}
use Rattle.archive_meaning.specs.Legal.{Accepts, AddsTexts, AreNamed, IsBook, Run}
use Rattle.archive_meaning.specs.Spelled.{end_of, front_of as bytes_of, record_of, records_of, types_in, types_of}
use Rattle.archive_meaning.specs.Stands.{IsLegal}
use Rattle.archive_meaning.proofs.JudgeLemmas.{run_types, end_more}
use Rattle.archive_meaning.proofs.RunLemmas.{runs_go_on}
use Rattle.disk_seal.specs.Told.{IfTold, entry_of, journal_in}
use Rattle.ingest_meaning.specs.WordsIn.{words_in, words_of}
use Rattle.disk_seal.specs.View.{StoreState, tells, journal_of, KnowsBook, Kept}
use Rattle.disk_seal.specs.Adding.{IsNext, Saves, Front, front_of, CanAdd}
use Rattle.disk_seal.specs.StepsFront.{IsGoodFront}
use Rattle.disk_seal.proofs.ToldLemmas.{told_both}

abbrev Texts : Type 0
Texts = List (List ℕ)

pub told_always : {P : Type 0} (b : Bool) → P → IfTold b P
told_always false p = tt
told_always true p = p

-- ---- the front of a store that runs

pub gate_at : (h : Header) (told : Option (List ℕ)) (place n : ℕ) (images : List ℕ → Type 0) → AtEnd (header_bytes h) place n told images → entries told n ≡ records_of (journal_in told n)
    → IfTold (is_some told) (place + 1 ≡ end_of h (journal_in told n))
gate_at h None place n images ends spells = tt
gate_at h (Some bytes) place n images ends spells =
    let same : length (header_bytes h ++ spelled (entries (Some bytes) n)) ≡ length (bytes_of h (journal_in (Some bytes) n)) = ap (λ l. length (header_bytes h ++ spelled l)) spells in
    let at : place ≡ length (header_bytes h ++ spelled (entries (Some bytes) n)) = ends.at in
    ap (λ (k : ℕ). k + 1) (at ∙ same)

pub good_front : (s : StoreState) → Kept s → s.stopped ≡ None → IsGoodFront (front_of s)
good_front s k runs = record {
  is_header = k.header;
  legal = subst (λ es. IfTold (tells s) (IsLegal s.header es)) (ap (λ l. journal_of s ++ l) (k.going runs).0 ∙ append-nil (journal_of s)) k.legal;
  gate = subst (λ b. IfTold b (s.place + 1 ≡ end_of s.header (journal_of s))) k.tells_still (gate_at s.header s.disk.seen s.place s.count s.disk.images (k.going runs).1 k.spelled);
  of_types = k.types;
  of_words = k.words;
}

-- ---- the books of a legal journal

module _ (h : Header) where
  types_step : (old more : Held) (e : JournalEntry) → Accepts h old e more → IsBook IsFairType h.types_limit old.types → IsBook IsFairType h.types_limit more.types
  types_step old more (Files names) adds book = subst (λ (x : Held). IsBook IsFairType h.types_limit x.types) (sym adds) book
  types_step old more (Types first texts) adds book = subst (λ (x : Held). IsBook IsFairType h.types_limit x.types) (sym adds.1) adds.0.book
  types_step old more (Words first texts) adds book = subst (λ (x : Held). IsBook IsFairType h.types_limit x.types) (sym adds.1) book
  types_step old more (Segment s) adds book = subst (λ (x : Held). IsBook IsFairType h.types_limit x.types) (sym adds.2) book

  types_book : (old more : Held) (es : List JournalEntry) → Run h old es more → IsBook IsFairType h.types_limit old.types → IsBook IsFairType h.types_limit more.types
  types_book old more [] run book = subst (λ (x : Held). IsBook IsFairType h.types_limit x.types) (sym run) book
  types_book old more (e ∷ es) run book = types_book run.0 more es run.2 (types_step old run.0 e run.1 book)

  words_step : (old more : Held) (e : JournalEntry) → Accepts h old e more → IsBook IsFairWord h.words_limit old.words → IsBook IsFairWord h.words_limit more.words
  words_step old more (Files names) adds book = subst (λ (x : Held). IsBook IsFairWord h.words_limit x.words) (sym adds) book
  words_step old more (Types first texts) adds book = subst (λ (x : Held). IsBook IsFairWord h.words_limit x.words) (sym adds.1) book
  words_step old more (Words first texts) adds book = subst (λ (x : Held). IsBook IsFairWord h.words_limit x.words) (sym adds.1) adds.0.book
  words_step old more (Segment s) adds book = subst (λ (x : Held). IsBook IsFairWord h.words_limit x.words) (sym adds.2) book

  words_book : (old more : Held) (es : List JournalEntry) → Run h old es more → IsBook IsFairWord h.words_limit old.words → IsBook IsFairWord h.words_limit more.words
  words_book old more [] run book = subst (λ (x : Held). IsBook IsFairWord h.words_limit x.words) (sym run) book
  words_book old more (e ∷ es) run book = words_book run.0 more es run.2 (words_step old run.0 e run.1 book)

  words_after : (old more : Held) (e : JournalEntry) → Accepts h old e more → more.words ≡ old.words ++ words_in e
  words_after old more (Files names) adds = ap (λ (x : Held). x.words) adds ∙ sym (append-nil old.words)
  words_after old more (Types first texts) adds = ap (λ (x : Held). x.words) adds.1 ∙ sym (append-nil old.words)
  words_after old more (Words first texts) adds = ap (λ (x : Held). x.words) adds.1
  words_after old more (Segment s) adds = ap (λ (x : Held). x.words) adds.2 ∙ sym (append-nil old.words)

  pub run_words : (old more : Held) (es : List JournalEntry) → Run h old es more → more.words ≡ old.words ++ words_of es
  run_words old more [] run = ap (λ (x : Held). x.words) run ∙ sym (append-nil old.words)
  run_words old more (e ∷ es) run = run_words run.0 more es run.2 ∙ (ap (λ l. l ++ words_of es) (words_after old run.0 e run.1) ∙ append_assoc old.words (words_in e) (words_of es))

no_book : (F : List ℕ → Type 0) (limit : ℕ) → IsBook F limit []
no_book F limit = record { distinct = λ i j text a b. absurd (cc (a)); fair = All-nil F; most = omega arith }

-- ---- the texts that are not saved

-- what a pass has seen is one dictionary: the texts of the journal, and those that are not saved
adds_texts : (F : List ℕ → Type 0) (first limit : ℕ) (p : BookPass) (saved : ℕ) (texts : Texts) → KnowsBook F first limit true p saved texts → IsBook F limit texts → HasSeenBook p → 0 < length (drop saved (seen p))
    → AddsTexts F limit texts saved (drop saved (seen p))
adds_texts F first limit p saved texts k book whole some =
    let joined : texts ++ drop saved (seen p) ≡ seen p = ap (λ l. l ++ drop saved (seen p)) (sym k.front) ∙ take-append-drop saved (seen p) in
    let few : length (seen p) ≤ k.known.fixed = whole.within k.known k.is in
    record {
      some = some;
      behind = sym (ap length (sym k.front) ∙ length-take-le saved (seen p) k.low);
      book = record {
        distinct = subst AreDistinct (sym joined) whole.distinct;
        fair = All-append F texts (drop saved (seen p)) book.fair k.fair;
        most = omega (arith, ap length joined, few, k.within);
      };
    }

-- ---- one entry more

pub legal_more : (h : Header) (es : List JournalEntry) (e : JournalEntry) (legal : IsLegal h es) (more : Held) → Accepts h legal.held e more → AreNamed 0 (es ++ e ∷ []) → end_of h (es ++ e ∷ []) ≤ h.length_limit → IsLegal h (es ++ e ∷ [])
legal_more h es e legal more accepts named short = record {
  held = more;
  run = runs_go_on h nothing_held legal.held more es (e ∷ []) legal.run (more, accepts, refl);
  named = named;
  short = short;
}

-- the end behind a framed record
pub end_with : (h : Header) (es : List JournalEntry) (e : JournalEntry) (place : ℕ) (text : List ℕ) → place + 1 ≡ end_of h es → IsFrame text → saved_of text ≡ record_of (types_of es) e → end_of h (es ++ e ∷ []) ≡ place + 1 + length text
end_with h es e place text gate framed saved =
    let long : length text ≡ 10 + length (saved_of text).payload = ap length framed ∙ length-frame (saved_of text) in
    let pay : length (saved_of text).payload ≡ length (record_of (types_of es) e).payload = ap (λ (r : Saved). length r.payload) saved in
    omega (arith, end_more h es e, gate, long, pay)

named_texts : (n : ℕ) (es : List JournalEntry) (e : JournalEntry) → ((m : ℕ) → AreNamed m (e ∷ [])) → AreNamed n es → AreNamed n (es ++ e ∷ [])
named_texts n [] e last named = last n
named_texts n (Files names ∷ es) e last named = (named.0, named.1, named.2, named.3, named_texts (n + length names) es e last named.4)
named_texts n (Types first texts ∷ es) e last named = named_texts n es e last named
named_texts n (Words first texts ∷ es) e last named = named_texts n es e last named
named_texts n (Segment s ∷ es) e last named = (named.0, named_texts n es e last named.1)

module _ (f : Front) (good : IsGoodFront f) (text : List ℕ) (framed : IsFrame text) (e : JournalEntry) (is : entry_of (saved_of text) ≡ e) (saved : (types : Texts) → saved_of text ≡ record_of types e)
    (room : f.place + 1 + length text ≤ f.header.length_limit) where
  next_by : IfTold f.told ((legal : IsLegal f.header f.journal) → (more : Held) × Accepts f.header legal.held e more) → ((m : ℕ) → AreNamed m (e ∷ [])) → IfTold f.told (IsNext f.header f.journal (saved_of text))
  next_by accepts last =
      told_both f.told (λ (legal : IsLegal f.header f.journal × ((legal : IsLegal f.header f.journal) → (more : Held) × Accepts f.header legal.held e more)) (gate : f.place + 1 ≡ end_of f.header f.journal).
      let a = legal.1 legal.0 in
      record {
        form = ap (record_of (types_of f.journal)) is ∙ sym (saved (types_of f.journal));
        legal = subst (λ x. IsLegal f.header (f.journal ++ x ∷ [])) (sym is)
            (legal_more f.header f.journal e legal.0 a.0 a.1 (named_texts 0 f.journal e last legal.0.named) (omega (arith, room, end_with f.header f.journal e f.place text gate framed (saved (types_of f.journal)))));
      }) (told_both f.told (λ (l : IsLegal f.header f.journal) (g : (legal : IsLegal f.header f.journal) → (more : Held) × Accepts f.header legal.held e more). (l, g)) good.legal accepts) good.gate

-- ---- the record of log types, and that of words

types_accepts : (b : Bool) (h : Header) (es : List JournalEntry) (p : BookPass) (saved : ℕ) → KnowsBook IsFairType 0 h.types_limit b p saved (types_of es) → HasSeenBook p → 0 < length (drop saved (seen p))
    → IfTold b ((legal : IsLegal h es) → (more : Held) × Accepts h legal.held (Types saved (drop saved (seen p))) more)
types_accepts false h es p saved k whole some = tt
types_accepts true h es p saved k whole some = λ legal.
    let held = legal.held in
    let same : held.types ≡ types_of es = run_types h nothing_held held es legal.run in
    let book : IsBook IsFairType h.types_limit held.types = types_book h nothing_held held es legal.run (no_book IsFairType h.types_limit) in
    let adds = adds_texts IsFairType 0 h.types_limit p saved (types_of es) k (subst (IsBook IsFairType h.types_limit) same book) whole some in
    (record held { types = held.types ++ drop saved (seen p) }, (subst (λ l. AddsTexts IsFairType h.types_limit l saved (drop saved (seen p))) (sym same) adds, refl))

words_accepts : (b : Bool) (h : Header) (es : List JournalEntry) (p : BookPass) (saved first : ℕ) → KnowsBook IsFairWord first h.words_limit b p saved (words_of es) → HasSeenBook p → 0 < length (drop saved (seen p))
    → IfTold b ((legal : IsLegal h es) → (more : Held) × Accepts h legal.held (Words saved (drop saved (seen p))) more)
words_accepts false h es p saved first k whole some = tt
words_accepts true h es p saved first k whole some = λ legal.
    let held = legal.held in
    let same : held.words ≡ words_of es = run_words h nothing_held held es legal.run in
    let book : IsBook IsFairWord h.words_limit held.words = words_book h nothing_held held es legal.run (no_book IsFairWord h.words_limit) in
    let adds = adds_texts IsFairWord first h.words_limit p saved (words_of es) k (subst (IsBook IsFairWord h.words_limit) same book) whole some in
    (record held { words = held.words ++ drop saved (seen p) }, (subst (λ l. AddsTexts IsFairWord h.words_limit l saved (drop saved (seen p))) (sym same) adds, refl))

saves_all : (b : Bool) (p : BookPass) (saved more : ℕ) (texts : Texts) → saved ≤ length (seen p) → HasSeenBook p → more ≡ length (drop saved (seen p)) → texts ≡ drop saved (seen p) → Saves b p saved more texts
saves_all b p saved more texts low whole count is =
    let long : length (drop saved (seen p)) ≡ length (seen p) - saved = length-drop saved (seen p) in
    record {
      low = omega (arith, low, count, long);
      small = omega (arith, low, count, long, whole.few);
      these = told_always b (take_all more (drop saved (seen p)) (omega (arith, count)) ∙ sym is);
    }

saves_none : (b : Bool) (p : BookPass) (saved : ℕ) (texts : Texts) → saved ≤ length (seen p) → HasSeenBook p → texts ≡ [] → Saves b p saved 0 texts
saves_none b p saved texts low whole is = record {
  low = omega (arith, low);
  small = omega (arith, low, whole.few);
  these = told_always b (sym is);
}

-- a record of the log types that are not saved may follow
pub types_next : (f : Front) → IsGoodFront f → HasSeenBook f.types → HasSeenBook f.words → (text : List ℕ) → IsFrame text → 0 < length (drop f.types_saved (seen f.types))
    → saved_of text ≡ record_of [] (Types f.types_saved (drop f.types_saved (seen f.types))) → entry_of (saved_of text) ≡ Types f.types_saved (drop f.types_saved (seen f.types))
    → (count : ℕ) → count ≡ length (drop f.types_saved (seen f.types)) → f.place + 1 + length text ≤ f.header.length_limit → CanAdd text count 0 f
types_next f good whole whole_words text framed some saved is count counted room =
    let texts = drop f.types_saved (seen f.types) in
    record {
      framed = framed;
      next = next_by f good text framed (Types f.types_saved texts) is (λ types. saved) room (types_accepts f.told f.header f.journal f.types f.types_saved good.of_types whole some) (λ m. tt);
      room = room;
      of_types = saves_all f.told f.types f.types_saved count (types_in (entry_of (saved_of text))) good.of_types.low whole counted (ap types_in is);
      of_words = saves_none f.told f.words f.words_saved (words_in (entry_of (saved_of text))) good.of_words.low whole_words (ap words_in is);
    }

-- and one of the words
pub words_next : (f : Front) → IsGoodFront f → HasSeenBook f.types → HasSeenBook f.words → (text : List ℕ) → IsFrame text → 0 < length (drop f.words_saved (seen f.words))
    → saved_of text ≡ record_of [] (Words f.words_saved (drop f.words_saved (seen f.words))) → entry_of (saved_of text) ≡ Words f.words_saved (drop f.words_saved (seen f.words))
    → (count : ℕ) → count ≡ length (drop f.words_saved (seen f.words)) → f.place + 1 + length text ≤ f.header.length_limit → CanAdd text 0 count f
words_next f good whole_types whole text framed some saved is count counted room =
    let texts = drop f.words_saved (seen f.words) in
    record {
      framed = framed;
      next = next_by f good text framed (Words f.words_saved texts) is (λ types. saved) room (words_accepts f.told f.header f.journal f.words f.words_saved _ good.of_words whole some) (λ m. tt);
      room = room;
      of_types = saves_none f.told f.types f.types_saved (types_in (entry_of (saved_of text))) good.of_types.low whole_types (ap types_in is);
      of_words = saves_all f.told f.words f.words_saved count (words_in (entry_of (saved_of text))) good.of_words.low whole counted (ap words_in is);
    }
