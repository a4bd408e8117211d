-- The records of texts of a journal.
use Rattle.std.proofs.Common.{◌≡◌, ℕ, ◌+◌, ◌^◌, ◌<◌, ◌≤◌, List, [], ◌∷◌, ◌++◌, length, take, drop, refl, sym, ◌∙◌, ap, ap₂, subst, arith, length-append}
use Rattle.std.proofs.lemmas.List.{append-nil, append_assoc, drop_at, take_at}
use Rattle.record_format.specs.declared.header.Header.{Header}
use Rattle.record_format.specs.Lists.{AreTexts, texts_payload}
use Rattle.row_codec.specs.declared.namer.Which.{Which}
use Rattle.row_codec.specs.declared.namer.Which.TheVariants as which
use Rattle.disk_journal.specs.Record.{Saved, body, spelled}
use Rattle.disk_journal.proofs.SpellingLemmas.{length-body}
use Rattle.archive_meaning.specs.declared.entry.JournalEntry.{JournalEntry}
use Rattle.archive_meaning.specs.declared.entry.JournalEntry.TheVariants.{Files, Types, Words, Segment}
use Rattle.archive_meaning.specs.Held.{Held, nothing_held}
use Rattle.archive_meaning.specs.Legal.{Accepts, Run}
use Rattle.archive_meaning.specs.Spelled.{end_of, front_of, record_of, records_from, types_in, types_of}
use Rattle.archive_meaning.specs.Stands.{StandsFor}
use Rattle.archive_meaning.specs.StepsForms.{HasForm, HaveForms}
use Rattle.archive_meaning.proofs.JudgeLemmas.{end_more}
use Rattle.archive_meaning.proofs.UniqueLemmas.{legal_forms}
use Rattle.segment_pages.proofs.StandLemmas.{form_at, payload_stands}
use Rattle.archive_open.proofs.NextLemmas.{front_length}
use Rattle.word_places.specs.declared.place.WordsPlace.{WordsPlace}
use Rattle.word_places.specs.Places.{AreInOrder, AreWords, Spells, payload_in}
use Rattle.archive_places.specs.Words.{texts_from, texts_place, texts_placed}
use Rattle.archive_places.specs.Laws.{TypesStand, WordsStand}
use Rattle.archive_places.specs.StepsPlaced.{RunOn}

-- ---- one entry more

texts_joined : (kind : Which) (at : ℕ) (types : List (List ℕ)) (es : List JournalEntry) (e : JournalEntry)
    → texts_from kind at types (es ++ e ∷ []) ≡ texts_from kind at types es ++ texts_placed kind (at + length (spelled (records_from types es))) e
texts_joined kind at types [] e =
    let same : at + 0 ≡ at = omega arith in
    append-nil (texts_placed kind at e) ∙ ap (λ n. texts_placed kind n e) (sym same)
texts_joined kind at types (f ∷ es) e =
    let r : Saved = record_of types f in
    let rest : List ℕ = spelled (records_from (types ++ types_in f) es) in
    let next : ℕ = at + 10 + length r.payload in
    let same : next + length rest ≡ at + length (1 ∷ body r ++ rest) = omega (arith, length-append (body r) rest, length-body r) in
    ap (λ l. texts_placed kind at f ++ l) (texts_joined kind next (types ++ types_in f) es e)
    ∙ sym (append_assoc (texts_placed kind at f) (texts_from kind next (types ++ types_in f) es) (texts_placed kind (next + length rest) e))
    ∙ ap (λ n. texts_from kind at types (f ∷ es) ++ texts_placed kind n e) same

pub texts_more : (kind : Which) (h : Header) (es : List JournalEntry) (e : JournalEntry) → texts_from kind 32 [] (es ++ e ∷ []) ≡ texts_from kind 32 [] es ++ texts_placed kind (length (front_of h es)) e
texts_more kind h es e = texts_joined kind 32 [] es e ∙ ap (λ n. texts_from kind 32 [] es ++ texts_placed kind n e) (sym (front_length h es))

-- one that is no record of these
pub texts_same : (kind : Which) (h : Header) (es : List JournalEntry) (e : JournalEntry) → texts_placed kind (length (front_of h es)) e ≡ [] → texts_from kind 32 [] (es ++ e ∷ []) ≡ texts_from kind 32 [] es
texts_same kind h es e none = texts_more kind h es e ∙ ap (λ (l : List WordsPlace). texts_from kind 32 [] es ++ l) none ∙ append-nil (texts_from kind 32 [] es)

-- ---- texts stand

-- the texts of a dictionary
abbrev pub book_of : Which → Held → List (List ℕ)
book_of which.Types held = held.types
book_of which.Words held = held.words

-- what is held at the end has texts behind those that are held now, and they stand at the places behind
pub record TextsBehind (kind : Which) (bytes : List ℕ) (h : Header) (before after : List JournalEntry) (mid end : Held) : Type 0 where
  pub texts : List (List ℕ)
  pub are : AreWords (length (book_of kind mid)) (texts_from kind (length (front_of h before)) (types_of before) after) bytes texts
  pub held : book_of kind end ≡ book_of kind mid ++ texts

-- the payload of a record of texts is where its place says
payload_is : (bytes : List ℕ) (h : Header) (es before after : List JournalEntry) (e : JournalEntry) (first : ℕ) (texts : List (List ℕ)) → StandsFor bytes h es → es ≡ before ++ e ∷ after
    → (record_of (types_of before) e).payload ≡ texts_payload first texts → payload_in (texts_place (length (front_of h before)) first texts) bytes ≡ texts_payload first texts
payload_is bytes h es before after e first texts stood is same =
    let stands = payload_stands bytes h es before after e stood is in
    let payload : List ℕ = texts_payload first texts in
    let there : drop (length (front_of h before) + 10) bytes ≡ (record_of (types_of before) e).payload ++ stands.behind =
    ap (λ (l : List ℕ). drop (length (front_of h before) + 10) l) stands.spells
    ∙ drop_at stands.front ((record_of (types_of before) e).payload ++ stands.behind) (length (front_of h before) + 10) stands.place in
    ap (λ (l : List ℕ). take (length payload) l) (there ∙ ap (λ (l : List ℕ). l ++ stands.behind) same) ∙ take_at payload stands.behind (length payload) refl

texts_spelled : (bytes : List ℕ) (h : Header) (es before after : List JournalEntry) (e : JournalEntry) (first : ℕ) (texts : List (List ℕ)) → StandsFor bytes h es → es ≡ before ++ e ∷ after
    → (record_of (types_of before) e).payload ≡ texts_payload first texts → (first < 2 ^ 32) × AreTexts texts
    → Spells (texts_place (length (front_of h before)) first texts) (payload_in (texts_place (length (front_of h before)) first texts) bytes) texts
texts_spelled bytes h es before after e first texts stood is same form =
    let payload = payload_is bytes h es before after e first texts stood is same in
    record { size = ap length payload; are = form.1; first = form.0; count = refl; spelled = payload }

-- the form of an entry of a journal
has_form : (bytes : List ℕ) (h : Header) (es before after : List JournalEntry) (e : JournalEntry) → StandsFor bytes h es → es ≡ before ++ e ∷ after → HasForm ([] ++ types_of before) e
has_form bytes h es before after e stood is = form_at [] before after e (subst (HaveForms []) is (legal_forms h es stood.header stood.legal))

-- the place behind an entry
pub behind_entry : (h : Header) (before : List JournalEntry) (e : JournalEntry) → length (front_of h (before ++ e ∷ [])) ≡ length (front_of h before) + 10 + length (record_of (types_of before) e).payload
behind_entry h before e =
    let more : end_of h (before ++ e ∷ []) ≡ end_of h before + 10 + length (record_of (types_of before) e).payload = end_more h before e in
    omega (arith, more)

pub types_behind : (before : List JournalEntry) (e : JournalEntry) → types_of (before ++ e ∷ []) ≡ types_of before ++ types_in e
types_behind [] e = append-nil (types_in e)
types_behind (b ∷ before) e = ap (λ l. types_in b ++ l) (types_behind before e) ∙ sym (append_assoc (types_in b) (types_of before) (types_in e))

-- the places behind an entry
places_behind : (kind : Which) (h : Header) (before after : List JournalEntry) (e : JournalEntry)
    → texts_from kind (length (front_of h (before ++ e ∷ []))) (types_of (before ++ e ∷ [])) after
    ≡ texts_from kind (length (front_of h before) + 10 + length (record_of (types_of before) e).payload) (types_of before ++ types_in e) after
places_behind kind h before after e = ap₂ (λ n t. texts_from kind n t after) (behind_entry h before e) (types_behind before e)

-- an entry that is no record of these texts
pass_entry : (kind : Which) (bytes : List ℕ) (h : Header) (before after : List JournalEntry) (e : JournalEntry) (mid next end : Held) → texts_placed kind (length (front_of h before)) e ≡ []
    → book_of kind next ≡ book_of kind mid → TextsBehind kind bytes h (before ++ e ∷ []) after next end → TextsBehind kind bytes h before (e ∷ after) mid end
pass_entry kind bytes h before after e mid next end none same rest =
    let places : texts_from kind (length (front_of h (before ++ e ∷ []))) (types_of (before ++ e ∷ [])) after ≡ texts_from kind (length (front_of h before)) (types_of before) (e ∷ after) =
    places_behind kind h before after e ∙ ap (λ l. l ++ texts_from kind (length (front_of h before) + 10 + length (record_of (types_of before) e).payload) (types_of before ++ types_in e) after) (sym none) in
    record {
      texts = rest.texts;
      are = subst (λ (ps : List WordsPlace). AreWords (length (book_of kind mid)) ps bytes rest.texts) places
          (subst (λ (ws : List (List ℕ)). AreWords (length ws) (texts_from kind (length (front_of h (before ++ e ∷ []))) (types_of (before ++ e ∷ [])) after) bytes rest.texts) same rest.are);
      held = rest.held ∙ ap (λ (ws : List (List ℕ)). ws ++ rest.texts) same;
    }

-- a record of them
take_texts : (kind : Which) (bytes : List ℕ) (h : Header) (before after : List JournalEntry) (e : JournalEntry) (first : ℕ) (texts : List (List ℕ)) (mid next end : Held)
    → texts_placed kind (length (front_of h before)) e ≡ texts_place (length (front_of h before)) first texts ∷ []
    → Spells (texts_place (length (front_of h before)) first texts) (payload_in (texts_place (length (front_of h before)) first texts) bytes) texts
    → first ≡ length (book_of kind mid) → book_of kind next ≡ book_of kind mid ++ texts → TextsBehind kind bytes h (before ++ e ∷ []) after next end → TextsBehind kind bytes h before (e ∷ after) mid end
take_texts kind bytes h before after e first texts mid next end here spells behind more rest =
    let from : ℕ = length (book_of kind mid) in
    let others : List WordsPlace = texts_from kind (length (front_of h before) + 10 + length (record_of (types_of before) e).payload) (types_of before ++ types_in e) after in
    let count : length (book_of kind next) ≡ from + length texts = ap length more ∙ length-append (book_of kind mid) texts in
    let left : AreWords (from + length texts) others bytes rest.texts =
    subst (λ (ps : List WordsPlace). AreWords (from + length texts) ps bytes rest.texts) (places_behind kind h before after e)
    (subst (λ (n : ℕ). AreWords n (texts_from kind (length (front_of h (before ++ e ∷ []))) (types_of (before ++ e ∷ [])) after) bytes rest.texts) count rest.are) in
    let are : AreWords from (texts_place (length (front_of h before)) first texts ∷ others) bytes (texts ++ rest.texts) = (texts, rest.texts, behind, spells, left, refl) in
    record {
      texts = texts ++ rest.texts;
      are = subst (λ (ps : List WordsPlace). AreWords from (ps ++ others) bytes (texts ++ rest.texts)) (sym here) are;
      held = rest.held ∙ ap (λ (ws : List (List ℕ)). ws ++ rest.texts) more ∙ append_assoc (book_of kind mid) texts rest.texts;
    }

-- one entry, whatever it is
entry_step : (kind : Which) (bytes : List ℕ) (h : Header) (es before after : List JournalEntry) (e : JournalEntry) (mid next end : Held) → StandsFor bytes h es → es ≡ before ++ e ∷ after
    → Accepts h mid e next → TextsBehind kind bytes h (before ++ e ∷ []) after next end → TextsBehind kind bytes h before (e ∷ after) mid end
entry_step which.Types bytes h es before after (Files names) mid next end stood is takes rest =
    pass_entry which.Types bytes h before after (Files names) mid next end refl (ap (λ (x : Held). x.types) takes) rest
entry_step which.Words bytes h es before after (Files names) mid next end stood is takes rest =
    pass_entry which.Words bytes h before after (Files names) mid next end refl (ap (λ (x : Held). x.words) takes) rest
entry_step which.Types bytes h es before after (Types first texts) mid next end stood is takes rest =
    take_texts which.Types bytes h before after (Types first texts) first texts mid next end refl
    (texts_spelled bytes h es before after (Types first texts) first texts stood is refl (has_form bytes h es before after (Types first texts) stood is))
    takes.0.behind (ap (λ (x : Held). x.types) takes.1) rest
entry_step which.Words bytes h es before after (Types first texts) mid next end stood is takes rest =
    pass_entry which.Words bytes h before after (Types first texts) mid next end refl (ap (λ (x : Held). x.words) takes.1) rest
entry_step which.Types bytes h es before after (Words first texts) mid next end stood is takes rest =
    pass_entry which.Types bytes h before after (Words first texts) mid next end refl (ap (λ (x : Held). x.types) takes.1) rest
entry_step which.Words bytes h es before after (Words first texts) mid next end stood is takes rest =
    take_texts which.Words bytes h before after (Words first texts) first texts mid next end refl
    (texts_spelled bytes h es before after (Words first texts) first texts stood is refl (has_form bytes h es before after (Words first texts) stood is))
    takes.0.behind (ap (λ (x : Held). x.words) takes.1) rest
entry_step which.Types bytes h es before after (Segment s) mid next end stood is takes rest =
    pass_entry which.Types bytes h before after (Segment s) mid next end refl (ap (λ (x : Held). x.types) takes.2) rest
entry_step which.Words bytes h es before after (Segment s) mid next end stood is takes rest =
    pass_entry which.Words bytes h before after (Segment s) mid next end refl (ap (λ (x : Held). x.words) takes.2) rest

texts_run : (kind : Which) (bytes : List ℕ) (h : Header) (es : List JournalEntry) → StandsFor bytes h es → (before after : List JournalEntry) (mid end : Held) → es ≡ before ++ after → Run h mid after end
    → TextsBehind kind bytes h before after mid end
texts_run kind bytes h es stood before [] mid end is run = record { texts = []; are = refl; held = ap (book_of kind) run ∙ sym (append-nil (book_of kind mid)) }
texts_run kind bytes h es stood before (e ∷ after) mid end is run =
    entry_step kind bytes h es before after e mid run.0 end stood is run.1
    (texts_run kind bytes h es stood (before ++ e ∷ []) after run.0 end (is ∙ sym (append_assoc before (e ∷ []) after)) run.2)

-- those of all entries
texts_all : (kind : Which) (bytes : List ℕ) (h : Header) (es : List JournalEntry) (end : Held) → TextsBehind kind bytes h [] es nothing_held end → book_of kind nothing_held ≡ []
    → AreWords 0 (texts_from kind 32 [] es) bytes (book_of kind end)
texts_all kind bytes h es end all none =
    let start : length (front_of h []) ≡ 32 = front_length h [] ∙ (let e : 32 + 0 ≡ 32 = omega arith in e) in
    let held : book_of kind end ≡ all.texts = all.held ∙ ap (λ (l : List (List ℕ)). l ++ all.texts) none in
    let are : AreWords 0 (texts_from kind (length (front_of h [])) [] es) bytes all.texts =
    subst (λ (l : List (List ℕ)). AreWords (length l) (texts_from kind (length (front_of h [])) [] es) bytes all.texts) none all.are in
    subst (λ (ws : List (List ℕ)). AreWords 0 (texts_from kind 32 [] es) bytes ws) (sym held)
    (subst (λ (n : ℕ). AreWords 0 (texts_from kind n [] es) bytes all.texts) start are)

pub types_stand : TypesStand
types_stand bytes h es stood = texts_all which.Types bytes h es stood.legal.held (texts_run which.Types bytes h es stood [] es nothing_held stood.legal.held refl stood.legal.run) refl

pub words_stand : WordsStand
words_stand bytes h es stood = texts_all which.Words bytes h es stood.legal.held (texts_run which.Words bytes h es stood [] es nothing_held stood.legal.held refl stood.legal.run) refl

-- ---- numbers that go on

pub run_more : (from : ℕ) (places : List WordsPlace) (to : ℕ) (p : WordsPlace) → RunOn from places to → p.first ≡ to → RunOn from (places ++ p ∷ []) (to + p.count)
run_more from [] to p run first = (first ∙ sym run, ap (λ (n : ℕ). n + p.count) run)
run_more from (q ∷ places) to p run first = (run.0, run_more (from + q.count) places to p run.1 first)

pub run_in_order : (from : ℕ) (places : List WordsPlace) (to : ℕ) → RunOn from places to → to ≤ 2 ^ 32 → AreInOrder from places
run_in_order from [] to run most = subst (λ (n : ℕ). n ≤ 2 ^ 32) (sym run) most
run_in_order from (q ∷ places) to run most = (run.0, run_in_order (from + q.count) places to run.1 most)
