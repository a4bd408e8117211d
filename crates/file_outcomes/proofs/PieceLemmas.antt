-- What entries behind the names of new files add to these files.
use Rattle.std.proofs.Common.{◌≡◌, ◌+◌, ◌≤◌, ◌==◌, ◌||◌, ◌&&◌, refl, sym, ap, ap₂, subst, ◌∙◌, ℕ, suc, Bool, true, false, List, [], ◌∷◌, ◌++◌, length, arith, append-nil, append_assoc}
use Rattle.std.specs.Prelude.{All}
use Rattle.std.specs.List.{filter_map}
use Rattle.std.proofs.lemmas.List.{length-append, nil_from_length}
use Rattle.std.proofs.lemmas.List.Elements.{All-head, All-tail, filter_map-append}
use Rattle.record_format.specs.declared.header.Header.{Header}
use Rattle.column_store.specs.declared.row.Row.{Row}
use Rattle.row_codec.specs.Means.{AreCanonical}
use Rattle.archive_meaning.specs.declared.entry.SegmentEntry.{SegmentEntry}
use Rattle.archive_meaning.specs.declared.entry.JournalEntry.{JournalEntry}
use Rattle.archive_meaning.specs.declared.entry.JournalEntry.TheVariants.{Files, Types, Words, Segment}
use Rattle.archive_meaning.specs.Held.{Held, Piece, is_ended, is_whole, messages_of, nothing_held}
use Rattle.archive_meaning.specs.Legal.{Accepts, Run, piece_of}
use Rattle.archive_meaning.proofs.RunLemmas.{one_held, runs_go_on, runs_split}
use Rattle.archive_meaning.proofs.SumsLemmas.{messages_joined, whole_joined}
use Rattle.ingest_workers.specs.Journal.{FrontHolds}
use Rattle.ingest_meaning.specs.Parts.{in_file}
use Rattle.ingest_meaning.specs.Parts.{IsCut, IsOpen, Part, messages_in, rest_of, segments_from}
use Rattle.file_outcomes.proofs.JoinLemmas.{AreFrom, HasNone, ended_joined}

-- texts, and segments of files from a number on
abbrev pub IsNewFrom : ℕ → JournalEntry → Type 0
IsNewFrom first (Files names) = ⊥
IsNewFrom first (Types number texts) = Unit {0}
IsNewFrom first (Words number texts) = Unit {0}
IsNewFrom first (Segment s) = first ≤ s.file

-- the same names, and pieces of files from a number on behind those of before
pub record HasGrown (first : ℕ) (old new : Held) : Type 0 where
  pub names : new.names ≡ old.names
  pub more : List Piece
  pub pieces : new.pieces ≡ old.pieces ++ more
  pub from : AreFrom first more

grown_step : (h : Header) (first : ℕ) (old mid : Held) (e : JournalEntry) → Accepts h old e mid → IsNewFrom first e → HasGrown first old mid
grown_step h first old mid (Files names) takes new = absurd new
grown_step h first old mid (Types number texts) takes new = subst (HasGrown first old) (sym takes.1) (record { names = refl; more = []; pieces = sym (append-nil old.pieces); from = tt })
grown_step h first old mid (Words number texts) takes new = subst (HasGrown first old) (sym takes.1) (record { names = refl; more = []; pieces = sym (append-nil old.pieces); from = tt })
grown_step h first old mid (Segment s) takes new = subst (HasGrown first old) (sym takes.2) (record { names = refl; more = piece_of s takes.0 ∷ []; pieces = refl; from = (new, tt) })

from_joined : (first : ℕ) (ps qs : List Piece) → AreFrom first ps → AreFrom first qs → AreFrom first (ps ++ qs)
from_joined first [] qs a b = b
from_joined first (p ∷ ps) qs a b = (a.0, from_joined first ps qs a.1 b)

pub grown : (h : Header) (first : ℕ) (old new : Held) (es : List JournalEntry) → Run h old es new → All (IsNewFrom first) es → HasGrown first old new
grown h first old new [] run each = subst (HasGrown first old) (sym run) (record { names = refl; more = []; pieces = sym (append-nil old.pieces); from = tt })
grown h first old new (e ∷ es) run each =
    let one = grown_step h first old run.0 e run.1 (All-head (IsNewFrom first) e es each) in
    let rest = grown h first run.0 new es run.2 (All-tail (IsNewFrom first) e es each) in
    record {
      names = rest.names ∙ one.names;
      more = one.more ++ rest.more;
      pieces = rest.pieces ∙ (ap (λ l. l ++ rest.more) one.pieces ∙ append_assoc old.pieces one.more rest.more);
      from = from_joined first one.more rest.more one.from rest.from;
    }

-- ---- the pieces of one file

-- how many rows segments have, and whether one of them is marked last, and ended
abbrev pub rows_in : List SegmentEntry → ℕ
rows_in [] = 0
rows_in (s ∷ ss) = length s.rows + rows_in ss

abbrev pub has_last : List SegmentEntry → Bool
has_last [] = false
has_last (s ∷ ss) = s.last || has_last ss

abbrev pub has_ended : List SegmentEntry → Bool
has_ended [] = false
has_ended (s ∷ ss) = (s.last && s.ended) || has_ended ss

-- what is held of a file, where these segments of it were added
pub record HasSegments (file : ℕ) (ss : List SegmentEntry) (old new : List Piece) : Type 0 where
  pub count : length (messages_of file new) ≡ length (messages_of file old) + rows_in ss
  pub whole : is_whole file new ≡ (is_whole file old || has_last ss)
  pub ended : is_ended file new ≡ (is_ended file old || has_ended ss)

or_nothing : (a : Bool) → a ≡ (a || false)
or_nothing true = refl
or_nothing false = refl

or_later : (a b c : Bool) → ((a || b) || c) ≡ (a || (b || c))
or_later true b c = refl
or_later false b c = refl

no_segments : (file : ℕ) (ps : List Piece) → HasSegments file [] ps ps
no_segments file ps = record { count = omega arith; whole = or_nothing (is_whole file ps); ended = or_nothing (is_ended file ps) }

segments_on : (file : ℕ) (ss ts : List SegmentEntry) (old mid new : List Piece) → HasSegments file ss old mid → HasSegments file ts mid new → HasSegments file (ss ++ ts) old new
segments_on file ss ts old mid new a b = record {
  count = omega (arith, a.count, b.count, rows_joined ss ts);
  whole = b.whole ∙ (ap (λ x. x || has_last ts) a.whole ∙ (or_later (is_whole file old) (has_last ss) (has_last ts) ∙ ap (λ x. is_whole file old || x) (sym (last_joined ss ts))));
  ended = b.ended ∙ (ap (λ x. x || has_ended ts) a.ended ∙ (or_later (is_ended file old) (has_ended ss) (has_ended ts) ∙ ap (λ x. is_ended file old || x) (sym (ends_joined ss ts))));
}
  where
    rows_joined : (ss ts : List SegmentEntry) → rows_in (ss ++ ts) ≡ rows_in ss + rows_in ts
    rows_joined [] ts = omega arith
    rows_joined (s ∷ ss) ts = omega (arith, rows_joined ss ts)

    last_joined : (ss ts : List SegmentEntry) → has_last (ss ++ ts) ≡ (has_last ss || has_last ts)
    last_joined [] ts = refl
    last_joined (s ∷ ss) ts = ap (λ x. s.last || x) (last_joined ss ts) ∙ sym (or_later s.last (has_last ss) (has_last ts))

    ends_joined : (ss ts : List SegmentEntry) → has_ended (ss ++ ts) ≡ (has_ended ss || has_ended ts)
    ends_joined [] ts = refl
    ends_joined (s ∷ ss) ts = ap (λ x. (s.last && s.ended) || x) (ends_joined ss ts) ∙ sym (or_later (s.last && s.ended) (has_ended ss) (has_ended ts))

length-canonical : (version : ℕ) (rows : List Row) (types words messages : List (List ℕ)) → AreCanonical version rows types words messages → length rows ≡ length messages
length-canonical version [] types words [] are = refl
length-canonical version [] types words (m ∷ messages) are = absurd are
length-canonical version (r ∷ rows) types words [] are = absurd are
length-canonical version (r ∷ rows) types words (m ∷ messages) are = ap suc (length-canonical version rows types words messages are.1)

-- one segment more
abbrev one_of : ℕ → SegmentEntry → List SegmentEntry
one_of file s = filter_map (in_file file) (Segment s ∷ [])

segment_more : (file : ℕ) (s : SegmentEntry) (ps : List Piece) (messages : List (List ℕ)) → length s.rows ≡ length messages → HasSegments file (one_of file s) ps (ps ++ piece_of s messages ∷ [])
segment_more file s ps messages long = record {
  count = omega (arith, ap length (messages_joined file ps (piece_of s messages ∷ [])), length-append (messages_of file ps) (messages_of file (piece_of s messages ∷ [])), count_one (s.file == file) refl);
  whole = whole_joined file ps (piece_of s messages ∷ []) ∙ ap (λ x. is_whole file ps || x) (whole_one (s.file == file) refl);
  ended = ended_joined file ps (piece_of s messages ∷ []) ∙ ap (λ x. is_ended file ps || x) (ended_one (s.file == file) refl);
}
  where
    count_one : (b : Bool) → (s.file == file) ≡ b → length (messages_of file (piece_of s messages ∷ [])) ≡ rows_in (one_of file s)
    count_one true is = rw is (omega (arith, long, length-append messages []))
    count_one false is = rw is refl

    whole_one : (b : Bool) → (s.file == file) ≡ b → is_whole file (piece_of s messages ∷ []) ≡ has_last (one_of file s)
    whole_one true is = rw is refl
    whole_one false is = rw is refl

    ended_one : (b : Bool) → (s.file == file) ≡ b → is_ended file (piece_of s messages ∷ []) ≡ has_ended (one_of file s)
    ended_one true is = rw is refl
    ended_one false is = rw is refl

segments_step : (h : Header) (file : ℕ) (old mid : Held) (e : JournalEntry) → Accepts h old e mid → HasSegments file (filter_map (in_file file) (e ∷ [])) old.pieces mid.pieces
segments_step h file old mid (Files names) takes = subst (λ (x : Held). HasSegments file [] old.pieces x.pieces) (sym takes) (no_segments file old.pieces)
segments_step h file old mid (Types number texts) takes = subst (λ (x : Held). HasSegments file [] old.pieces x.pieces) (sym takes.1) (no_segments file old.pieces)
segments_step h file old mid (Words number texts) takes = subst (λ (x : Held). HasSegments file [] old.pieces x.pieces) (sym takes.1) (no_segments file old.pieces)
segments_step h file old mid (Segment s) takes =
    subst (λ (x : Held). HasSegments file (one_of file s) old.pieces x.pieces) (sym takes.2)
    (segment_more file s old.pieces takes.0 (length-canonical h.version s.rows old.types old.words takes.0 takes.1.canonical))

-- what a run adds of a file
pub segments_held : (h : Header) (file : ℕ) (old new : Held) (es : List JournalEntry) → Run h old es new → HasSegments file (filter_map (in_file file) es) old.pieces new.pieces
segments_held h file old new [] run = subst (λ (x : Held). HasSegments file [] old.pieces x.pieces) (sym run) (no_segments file old.pieces)
segments_held h file old new (e ∷ es) run =
    subst (λ ss. HasSegments file ss old.pieces new.pieces) (sym (filter_map-append (in_file file) (e ∷ []) es))
    (segments_on file (filter_map (in_file file) (e ∷ [])) (filter_map (in_file file) es) old.pieces run.0.pieces new.pieces (segments_step h file old run.0 e run.1) (segments_held h file run.0 new es run.2))

-- ---- the parts that a file was cut in

-- what segments tell of the messages of a file
pub record Tells (ss : List SegmentEntry) (count : ℕ) (whole ended : Bool) : Type 0 where
  pub rows : rows_in ss ≡ count
  pub last : has_last ss ≡ whole
  pub end : has_ended ss ≡ ended

closed_tell : (file first limit : ℕ) (ps : List Part) (ss : List SegmentEntry) (count : ℕ) (whole ended : Bool) → All (IsCut limit) ps → Tells ss count whole ended
    → Tells (segments_from file first ps ++ ss) (length (messages_in ps) + count) whole ended
closed_tell file first limit [] ss count whole ended cut tells = record { rows = omega (arith, tells.rows); last = tells.last; end = tells.end }
closed_tell file first limit (p ∷ ps) ss count whole ended cut tells =
    let rest = closed_tell file (first + length p.messages) limit ps ss count whole ended (All-tail (IsCut limit) p ps cut) tells in
    record {
      rows = omega (arith, rest.rows, (All-head (IsCut limit) p ps cut).even, length-append p.messages (messages_in ps));
      last = rest.last;
      end = rest.end;
    }

rest_tells : (file first : ℕ) (whole ended : Bool) (rows : List Row) (messages : List (List ℕ)) → length rows ≡ length messages
    → Tells (rest_of file first whole ended (record { rows = rows; messages = messages })) (length messages) whole (whole && ended)
rest_tells file first true false rows messages even = record { rows = omega (arith, even); last = refl; end = refl }
rest_tells file first true true rows messages even = record { rows = omega (arith, even); last = refl; end = refl }
rest_tells file first false ended [] messages even = record { rows = even; last = refl; end = refl }
rest_tells file first false ended (r ∷ rows) messages even = record { rows = omega (arith, even); last = refl; end = refl }

-- ---- one file

-- the file's messages, and its marks
pub record HoldsOf (file : ℕ) (ps : List Piece) (covered : List (List ℕ)) (whole ended : Bool) : Type 0 where
  pub messages : messages_of file ps ≡ covered
  pub whole_is : is_whole file ps ≡ whole
  pub ended_is : is_ended file ps ≡ ended

-- pieces stand behind those of before
record HasBehind (old new : Held) : Type 0 where
  pub more : List Piece
  pub pieces : new.pieces ≡ old.pieces ++ more

behind_step : (h : Header) (old mid : Held) (e : JournalEntry) → Accepts h old e mid → HasBehind old mid
behind_step h old mid (Files names) takes = subst (HasBehind old) (sym takes) (record { more = []; pieces = sym (append-nil old.pieces) })
behind_step h old mid (Types number texts) takes = subst (HasBehind old) (sym takes.1) (record { more = []; pieces = sym (append-nil old.pieces) })
behind_step h old mid (Words number texts) takes = subst (HasBehind old) (sym takes.1) (record { more = []; pieces = sym (append-nil old.pieces) })
behind_step h old mid (Segment s) takes = subst (HasBehind old) (sym takes.2) (record { more = piece_of s takes.0 ∷ []; pieces = refl })

behind : (h : Header) (old new : Held) (es : List JournalEntry) → Run h old es new → HasBehind old new
behind h old new [] run = subst (HasBehind old) (sym run) (record { more = []; pieces = sym (append-nil old.pieces) })
behind h old new (e ∷ es) run =
    let one = behind_step h old run.0 e run.1 in
    let rest = behind h run.0 new es run.2 in
    record { more = one.more ++ rest.more; pieces = rest.pieces ∙ (ap (λ l. l ++ rest.more) one.pieces ∙ append_assoc old.pieces one.more rest.more) }

-- where a front of the entries holds so many messages of the file as they do, these are all
pub all_of_front : (h : Header) (es : List JournalEntry) (held : Held) (file : ℕ) (covered : List (List ℕ)) (whole ended : Bool) → Run h nothing_held es held → FrontHolds h es file covered whole ended → length (messages_of file held.pieces) ≡ length covered → messages_of file held.pieces ≡ covered
all_of_front h es held file covered whole ended run front long =
    let split = runs_split h nothing_held held front.front front.begins.0 (subst (λ l. Run h nothing_held l held) (sym front.begins.1) run) in
    let same : split.0 ≡ front.holds.held = one_held h nothing_held split.0 front.holds.held front.front split.1 front.holds.run in
    let more : HasBehind split.0 held = behind h split.0 held front.begins.0 split.2 in
    let joined : messages_of file held.pieces ≡ covered ++ messages_of file more.more =
    ap (messages_of file) more.pieces ∙ (messages_joined file split.0.pieces more.more ∙ ap (λ l. l ++ messages_of file more.more) (ap (λ (x : Held). messages_of file x.pieces) same ∙ front.holds.messages_are)) in
    joined
    ∙ (ap (λ l. covered ++ l) (nil_from_length (messages_of file more.more) (omega (arith, long, ap length joined, length-append covered (messages_of file more.more)))) ∙ append-nil covered)

-- A front of the entries holds these messages of the file, and its segments have no more rows: then these are all.
module _ (h : Header) (base fresh : List JournalEntry) (mid held : Held) (file : ℕ) (none : HasNone file mid.pieces) (ran : Run h nothing_held base mid) (run : Run h mid fresh held) where
  pub one_file : (limit : ℕ) (covered : List (List ℕ)) (whole ended : Bool) (closed : List Part) (rest : Part) → covered ≡ messages_in closed ++ rest.messages → All (IsCut limit) closed → IsOpen limit rest
      → filter_map (in_file file) fresh ≡ segments_from file 0 closed ++ rest_of file (length (messages_in closed)) whole ended rest
      → FrontHolds h (base ++ fresh) file covered whole (whole && ended) → HoldsOf file held.pieces covered whole (whole && ended)
  one_file limit covered whole ended closed rest parts cut not_yet segments front =
      let added : HasSegments file (filter_map (in_file file) fresh) mid.pieces held.pieces = segments_held h file mid held fresh run in
      let tells : Tells (filter_map (in_file file) fresh) (length (messages_in closed) + length rest.messages) whole (whole && ended) =
      subst (λ ss. Tells ss (length (messages_in closed) + length rest.messages) whole (whole && ended)) (sym segments)
      (closed_tell file 0 limit closed (rest_of file (length (messages_in closed)) whole ended rest) (length rest.messages) whole (whole && ended) cut
      (rest_tells file (length (messages_in closed)) whole ended rest.rows rest.messages not_yet.even)) in
      record {
        messages = all_of_front h (base ++ fresh) held file covered whole (whole && ended) (runs_go_on h nothing_held mid held base fresh ran run) front (omega (arith, added.count, tells.rows, ap length none.messages, ap length parts, length-append (messages_in closed) rest.messages));
        whole_is = added.whole ∙ ap₂ (λ a b. a || b) none.whole tells.last;
        ended_is = added.ended ∙ ap₂ (λ a b. a || b) none.ended tells.end;
      }
