-- The sums of a journal and one entry more.
use Rattle.std.proofs.Common.{◌≡◌, ℕ, suc, ◌+◌, ◌<◌, ◌≤◌, List, [], ◌∷◌, ◌++◌, length, get_or, set, replicate, refl, sym, ◌∙◌, ap, ap₂, subst, arith, length-append}
use Rattle.std.specs.Prelude.{false}
use Rattle.std.proofs.lemmas.List.{append-nil, append_assoc}
use Rattle.disk_journal.specs.Record.{Saved, body}
use Rattle.disk_journal.proofs.SpellingLemmas.{length-body}
use Rattle.record_format.specs.declared.header.Header.{Header}
use Rattle.column_store.specs.declared.row.Row.{Row}
use Rattle.row_codec.specs.Means.{AreCanonical}
use Rattle.archive_meaning.specs.declared.entry.SegmentEntry.{SegmentEntry}
use Rattle.archive_meaning.specs.declared.entry.JournalEntry.{JournalEntry}
use Rattle.archive_meaning.specs.declared.entry.JournalEntry.TheVariants.{Files, Types, Words, Segment}
use Rattle.archive_meaning.specs.declared.sums.FileSum.{FileSum}
use Rattle.archive_meaning.specs.Held.{Held, Piece, nothing_held, messages_of, is_whole, last_is_open}
use Rattle.logtype_text.specs.Fair.{IsFairType, IsFairWord}
use Rattle.archive_meaning.specs.Legal.{Accepts, AddsSegment, AddsTexts, AreNamed, Run, piece_of}
use Rattle.archive_meaning.specs.Spelled.{end_of, front_of, record_of, types_in, types_of}
use Rattle.archive_meaning.specs.Stands.{IsLegal}
use Rattle.archive_meaning.specs.Sums.{AddsNames, AddsRows, AdmittedAreSums, AreSums, LegalIsAdmitted, Sums, end_with, no_messages, open_after, sum_of, sum_with, sums_from}
use Rattle.archive_meaning.proofs.LegalLemmas.{types_after}
use Rattle.archive_meaning.proofs.RunLemmas.{one_held, runs_go_on, runs_split}
use Rattle.archive_meaning.proofs.SumsLemmas.{AreBelow, length-sums, open_joined, own_sum, sums_get, sums_named, sums_set}
use Rattle.archive_meaning.proofs.UniqueLemmas.{front_joined}

-- ---- what a run tells of names, log types and segments

pub run_types : (h : Header) (old more : Held) (es : List JournalEntry) → Run h old es more → more.types ≡ old.types ++ types_of es
run_types h old more [] run = ap (λ (x : Held). x.types) run ∙ sym (append-nil old.types)
run_types h old more (e ∷ es) run =
    run_types h run.0 more es run.2 ∙ ap (λ l. l ++ types_of es) (types_after h old run.0 e run.1) ∙ append_assoc old.types (types_in e) (types_of es)

below_more : (count more : ℕ) (ps : List Piece) → AreBelow count ps → count ≤ more → AreBelow more ps
below_more count more [] below less = tt
below_more count more (p ∷ ps) below less = (omega (arith, below.0, less), below_more count more ps below.1 less)

below_push : (count : ℕ) (ps : List Piece) (p : Piece) → AreBelow count ps → p.file < count → AreBelow count (ps ++ p ∷ [])
below_push count [] p below less = (less, tt)
below_push count (q ∷ ps) p below less = (below.0, below_push count ps p below.1 less)

step_names : (h : Header) (old mid : Held) (e : JournalEntry) (rest : List JournalEntry) → Accepts h old e mid → AreNamed (length old.names) (e ∷ rest)
    → AreBelow (length old.names) old.pieces → AreNamed (length mid.names) rest × AreBelow (length mid.names) mid.pieces
step_names h old mid (Files names) rest takes named below =
    let size : length (old.names ++ names) ≡ length old.names + length names = length-append old.names names in
    subst (λ (x : Held). AreNamed (length x.names) rest × AreBelow (length x.names) x.pieces) (sym takes)
    (subst (λ n. AreNamed n rest) (sym size) named.4, below_more (length old.names) _ old.pieces below (omega (arith, size)))
step_names h old mid (Types first texts) rest takes named below =
    subst (λ (x : Held). AreNamed (length x.names) rest × AreBelow (length x.names) x.pieces) (sym takes.1) (named, below)
step_names h old mid (Words first texts) rest takes named below =
    subst (λ (x : Held). AreNamed (length x.names) rest × AreBelow (length x.names) x.pieces) (sym takes.1) (named, below)
step_names h old mid (Segment s) rest takes named below =
    subst (λ (x : Held). AreNamed (length x.names) rest × AreBelow (length x.names) x.pieces) (sym takes.2)
    (named.1, below_push (length old.names) old.pieces (piece_of s takes.0) below named.0)

pub run_names : (h : Header) (old more : Held) (es rest : List JournalEntry) → Run h old es more → AreNamed (length old.names) (es ++ rest)
    → AreBelow (length old.names) old.pieces → AreNamed (length more.names) rest × AreBelow (length more.names) more.pieces
run_names h old more [] rest run named below =
    subst (λ (x : Held). AreNamed (length x.names) rest × AreBelow (length x.names) x.pieces) (sym run) (named, below)
run_names h old more (e ∷ es) rest run named below =
    let next = step_names h old run.0 e (es ++ rest) run.1 named below in
    run_names h run.0 more es rest run.2 next.0 next.1

-- and a name's record more keeps the names good
name_step : (h : Header) (old mid : Held) (e : JournalEntry) (es rest : List JournalEntry) → Accepts h old e mid → AreNamed (length old.names) (e ∷ es)
    → AreNamed (length mid.names) (es ++ rest) → AreNamed (length old.names) (e ∷ es ++ rest)
name_step h old mid (Files names) es rest takes named back =
    let same : length mid.names ≡ length old.names + length names = ap (λ (x : Held). length x.names) takes ∙ length-append old.names names in
    (named.0, named.1, named.2, named.3, subst (λ n. AreNamed n (es ++ rest)) same back)
name_step h old mid (Types first texts) es rest takes named back = subst (λ (x : Held). AreNamed (length x.names) (es ++ rest)) takes.1 back
name_step h old mid (Words first texts) es rest takes named back = subst (λ (x : Held). AreNamed (length x.names) (es ++ rest)) takes.1 back
name_step h old mid (Segment s) es rest takes named back = (named.0, subst (λ (x : Held). AreNamed (length x.names) (es ++ rest)) takes.2 back)

pub named_more : (h : Header) (old more : Held) (es rest : List JournalEntry) → Run h old es more → AreNamed (length old.names) es
    → AreBelow (length old.names) old.pieces → AreNamed (length more.names) rest → AreNamed (length old.names) (es ++ rest)
named_more h old more [] rest run named below back = subst (λ (x : Held). AreNamed (length x.names) rest) run back
named_more h old more (e ∷ es) rest run named below back =
    let next = step_names h old run.0 e es run.1 named below in
    name_step h old run.0 e es rest run.1 named (named_more h run.0 more es rest run.2 next.0 next.1 back)

-- ---- the end

pub end_more : (h : Header) (es : List JournalEntry) (e : JournalEntry) → end_of h (es ++ e ∷ []) ≡ end_of h es + 10 + length (record_of (types_of es) e).payload
end_more h es e =
    let r : Saved = record_of (types_of es) e in
    omega (
      arith,
      ap length (front_joined h es (e ∷ [])),
      length-append (front_of h es) (1 ∷ body r ++ []),
      length-append (1 ∷ body r) [],
      length-body r,
    )

-- ---- the sums and one entry more

pub same_types : (sums : Sums) (es : List JournalEntry) → (are : AreSums sums es) → sums.types ≡ types_of es
same_types sums es are = are.types ∙ run_types sums.header nothing_held are.held es are.run

same_end : (sums : Sums) (es : List JournalEntry) (e : JournalEntry) → AreSums sums es → end_with sums e ≡ end_of sums.header (es ++ e ∷ [])
same_end sums es e are =
    let size : length (record_of sums.types e).payload ≡ length (record_of (types_of es) e).payload = ap (λ t. length (record_of t e).payload) (same_types sums es are) in
    omega (arith, are.end, end_more sums.header es e, size)

below_names : (sums : Sums) (es : List JournalEntry) → (are : AreSums sums es) → AreBelow (length are.held.names) are.held.pieces
below_names sums es are =
    (run_names sums.header nothing_held are.held es [] are.run (subst (λ l. AreNamed 0 l) (sym (append-nil es)) are.named) tt).1

count_is : (sums : Sums) (es : List JournalEntry) → (are : AreSums sums es) → length sums.files ≡ length are.held.names
count_is sums es are = ap length are.files ∙ length-sums 0 are.held.names are.held.pieces

sum_is : (sums : Sums) (es : List JournalEntry) → (are : AreSums sums es) → (file : ℕ) → file < length sums.files
    → get_or sums.files file no_messages ≡ sum_of file are.held.pieces
sum_is sums es are file within =
    let same : 0 + file ≡ file = omega arith in
    ap (λ (l : List FileSum). get_or l file no_messages) are.files
    ∙ sums_get 0 are.held.names are.held.pieces file (omega (arith, within, count_is sums es are))
    ∙ ap (λ f. sum_of f are.held.pieces) same

-- a segment that goes on with the sum goes on with what is held
segment_of_rows : (version : ℕ) (held : Held) (s : SegmentEntry) (messages : List (List ℕ))
    → AddsRows version (sum_of s.file held.pieces) held.types held.words s messages → AddsSegment version held s messages
segment_of_rows version held s messages adds = record {
  first = adds.first;
  goes_on = adds.goes_on;
  most = adds.most;
  rows = adds.rows;
  variables = adds.variables;
  fit = adds.fit;
  some = adds.some;
  ended = adds.ended;
  end = λ last ended. open_joined (messages_of s.file held.pieces) messages ∙ adds.end last ended;
  canonical = adds.canonical;
  each = adds.each;
}

rows_of_segment : (version : ℕ) (held : Held) (s : SegmentEntry) (messages : List (List ℕ))
    → AddsSegment version held s messages → AddsRows version (sum_of s.file held.pieces) held.types held.words s messages
rows_of_segment version held s messages adds = record {
  first = adds.first;
  goes_on = adds.goes_on;
  most = adds.most;
  rows = adds.rows;
  variables = adds.variables;
  fit = adds.fit;
  some = adds.some;
  ended = adds.ended;
  end = λ last ended. sym (open_joined (messages_of s.file held.pieces) messages) ∙ adds.end last ended;
  canonical = adds.canonical;
  each = adds.each;
}

moved_rows : (version : ℕ) (a b : FileSum) (types other_types words other_words : List (List ℕ)) (s : SegmentEntry) (messages : List (List ℕ))
    → a ≡ b → types ≡ other_types → words ≡ other_words → AddsRows version a types words s messages → AddsRows version b other_types other_words s messages
moved_rows version a b types other_types words other_words s messages sum same_t same_w adds =
    subst (λ w. AddsRows version b other_types w s messages) same_w
    (subst (λ t. AddsRows version b t words s messages) same_t (subst (λ x. AddsRows version x types words s messages) sum adds))

canonical_length : (version : ℕ) (rows : List Row) (types words messages : List (List ℕ)) → AreCanonical version rows types words messages → length rows ≡ length messages
canonical_length version [] types words [] are = refl
canonical_length version [] types words (m ∷ messages) are = absurd are
canonical_length version (r ∷ rows) types words [] are = absurd are
canonical_length version (r ∷ rows) types words (m ∷ messages) are = ap suc (canonical_length version rows types words messages are.1)

sums_with : (held : Held) (s : SegmentEntry) (messages : List (List ℕ)) → s.file < length held.names → is_whole s.file held.pieces ≡ false → length s.rows ≡ length messages
    → sums_from 0 held.names (held.pieces ++ piece_of s messages ∷ [])
    ≡ set (sums_from 0 held.names held.pieces) s.file (sum_with (sum_of s.file held.pieces) s messages)
sums_with held s messages within goes_on size =
    let p : Piece = piece_of s messages in
    sums_set 0 held.names held.pieces p s.file (omega arith) within
    ∙ ap (λ (x : FileSum). set (sums_from 0 held.names held.pieces) s.file x) (
    own_sum p held.pieces goes_on
    ∙ ap (λ n. record { messages = length (messages_of s.file held.pieces) + n; whole = s.last; open_end = open_after (last_is_open (messages_of s.file held.pieces)) messages }) (sym size)
    )

pub admitted : AdmittedAreSums
admitted sums more es (Files names) are admits =
    let h : Header = sums.header in
    let held : Held = are.held in
    let mid : Held = record held { names = held.names ++ names } in
    let adds : AddsNames (length sums.files) names = admits.0.0 in
    let named : AreNamed (length held.names) (Files names ∷ []) =
    (adds.some, adds.few, adds.short, omega (arith, adds.all, count_is sums es are), tt) in
    subst (λ x. AreSums x (es ++ Files names ∷ [])) (sym admits.0.1) (record {
      header = are.header;
      held = mid;
      run = runs_go_on h nothing_held held mid es (Files names ∷ []) are.run (mid, refl, refl);
      named = named_more h nothing_held held es (Files names ∷ []) are.run are.named tt named;
      types = are.types;
      words = are.words;
      files = ap (λ l. l ++ replicate (length names) no_messages) are.files ∙ sym (sums_named held.names names held.pieces (below_names sums es are));
      end = same_end sums es (Files names) are;
      short = subst (λ (x : Sums). x.end ≤ h.length_limit) admits.0.1 admits.1;
    })
admitted sums more es (Types first texts) are admits =
    let h : Header = sums.header in
    let held : Held = are.held in
    let mid : Held = record held { types = held.types ++ texts } in
    subst (λ x. AreSums x (es ++ Types first texts ∷ [])) (sym admits.0.1) (record {
      header = are.header;
      held = mid;
      run = runs_go_on h nothing_held held mid es (Types first texts ∷ []) are.run
          (mid, (subst (λ t. AddsTexts IsFairType h.types_limit t first texts) are.types admits.0.0, refl), refl);
      named = named_more h nothing_held held es (Types first texts ∷ []) are.run are.named tt tt;
      types = ap (λ t. t ++ texts) are.types;
      words = are.words;
      files = are.files;
      end = same_end sums es (Types first texts) are;
      short = subst (λ (x : Sums). x.end ≤ h.length_limit) admits.0.1 admits.1;
    })
admitted sums more es (Words first texts) are admits =
    let h : Header = sums.header in
    let held : Held = are.held in
    let mid : Held = record held { words = held.words ++ texts } in
    subst (λ x. AreSums x (es ++ Words first texts ∷ [])) (sym admits.0.1) (record {
      header = are.header;
      held = mid;
      run = runs_go_on h nothing_held held mid es (Words first texts ∷ []) are.run
          (mid, (subst (λ t. AddsTexts IsFairWord h.words_limit t first texts) are.words admits.0.0, refl), refl);
      named = named_more h nothing_held held es (Words first texts ∷ []) are.run are.named tt tt;
      types = are.types;
      words = ap (λ t. t ++ texts) are.words;
      files = are.files;
      end = same_end sums es (Words first texts) are;
      short = subst (λ (x : Sums). x.end ≤ h.length_limit) admits.0.1 admits.1;
    })
admitted sums more es (Segment s) are admits =
    let h : Header = sums.header in
    let held : Held = are.held in
    let messages : List (List ℕ) = admits.0.1.0 in
    let mid : Held = record held { pieces = held.pieces ++ piece_of s messages ∷ [] } in
    let within : s.file < length held.names = omega (arith, admits.0.0, count_is sums es are) in
    let sum : get_or sums.files s.file no_messages ≡ sum_of s.file held.pieces = sum_is sums es are s.file admits.0.0 in
    let rows : AddsRows h.version (sum_of s.file held.pieces) held.types held.words s messages =
    moved_rows h.version _ _ _ _ _ _ s messages sum are.types are.words admits.0.1.1 in
    let adds : AddsSegment h.version held s messages = segment_of_rows h.version held s messages rows in
    subst (λ x. AreSums x (es ++ Segment s ∷ [])) (sym admits.0.1.2) (record {
      header = are.header;
      held = mid;
      run = runs_go_on h nothing_held held mid es (Segment s ∷ []) are.run (mid, (messages, adds, refl), refl);
      named = named_more h nothing_held held es (Segment s ∷ []) are.run are.named tt (within, tt);
      types = are.types;
      words = are.words;
      files =
          ap₂ (λ (l : List FileSum) (x : FileSum). set l s.file (sum_with x s messages)) are.files sum
          ∙ sym (sums_with held s messages within adds.goes_on (canonical_length h.version s.rows held.types held.words messages adds.canonical));
      end = same_end sums es (Segment s) are;
      short = subst (λ (x : Sums). x.end ≤ h.length_limit) admits.0.1.2 admits.1;
    })

-- the entry is accepted where the entries with it run
last_step : (sums : Sums) (es : List JournalEntry) (e : JournalEntry) → (are : AreSums sums es) → IsLegal sums.header (es ++ e ∷ [])
    → (mid : Held) × Accepts sums.header are.held e mid
last_step sums es e are legal =
    let split = runs_split sums.header nothing_held legal.held es (e ∷ []) legal.run in
    (split.2.0, subst (λ x. Accepts sums.header x e split.2.0) (one_held sums.header nothing_held split.0 are.held es split.1 are.run) split.2.1)

last_name : (sums : Sums) (es : List JournalEntry) (e : JournalEntry) → (are : AreSums sums es) → IsLegal sums.header (es ++ e ∷ [])
    → AreNamed (length are.held.names) (e ∷ [])
last_name sums es e are legal = (run_names sums.header nothing_held are.held es (e ∷ []) are.run legal.named tt).0

within_limit : (sums : Sums) (es : List JournalEntry) (e : JournalEntry) → AreSums sums es → IsLegal sums.header (es ++ e ∷ []) → end_with sums e ≤ sums.header.length_limit
within_limit sums es e are legal = omega (arith, same_end sums es e are, legal.short)

pub legal_admitted : LegalIsAdmitted
legal_admitted sums es (Files names) are legal =
    let named = last_name sums es (Files names) are legal in
    let adds : AddsNames (length sums.files) names = record {
      some = named.0;
      few = named.1;
      short = named.2;
      all = omega (arith, named.3, count_is sums es are);
    } in
    (_, ((adds, refl), within_limit sums es (Files names) are legal))
legal_admitted sums es (Types first texts) are legal =
    let step = last_step sums es (Types first texts) are legal in
    (_, ((subst (λ t. AddsTexts IsFairType sums.header.types_limit t first texts) (sym are.types) step.1.0, refl), within_limit sums es (Types first texts) are legal))
legal_admitted sums es (Words first texts) are legal =
    let step = last_step sums es (Words first texts) are legal in
    (_, ((subst (λ t. AddsTexts IsFairWord sums.header.words_limit t first texts) (sym are.words) step.1.0, refl), within_limit sums es (Words first texts) are legal))
legal_admitted sums es (Segment s) are legal =
    let named = last_name sums es (Segment s) are legal in
    let step = last_step sums es (Segment s) are legal in
    let within : s.file < length sums.files = omega (arith, named.0, count_is sums es are) in
    let sum : get_or sums.files s.file no_messages ≡ sum_of s.file are.held.pieces = sum_is sums es are s.file within in
    let rows = rows_of_segment sums.header.version are.held s step.1.0 step.1.1 in
    (_, ((within, (step.1.0, moved_rows sums.header.version _ _ _ _ _ _ s step.1.0 (sym sum) (sym are.types) (sym are.words) rows, refl)), within_limit sums es (Segment s) are legal))
