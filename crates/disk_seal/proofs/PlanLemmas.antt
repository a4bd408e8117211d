-- The records of a turn: texts that are not saved, and then a segment.
use Rattle.std.proofs.Common.{◌≡◌, ◌≢◌, ℕ, ◌+◌, ◌<◌, ◌≤◌, ◌^◌, List, [], ◌∷◌, ◌++◌, Bool, true, false, length, map, take, drop, get_or, refl, sym, ap, ap₂, ◌∙◌, subst, Some, None, Option, arith, append_assoc, All}
use Rattle.std.proofs.lemmas.List.{length-drop, take_all, take_more}
use Rattle.log_seams.specs.Disk.{DiskState}
use Rattle.std.proofs.lemmas.List.Elements.{All-weaker, All-cons, All-nil}
use mathlib.Core.List.{IsPrefix}
use Rattle.logtype_text.specs.Fair.{IsFairType, IsFairWord}
use Rattle.turn_lock.specs.Words.{seen, StaysAs}
use Rattle.dict_core.specs.declared.grows.TheConstants.{WORDS_FIRST}
use Rattle.dict_lock.specs.Shared.{BookPass, HasSeenBook}
use Rattle.record_format.specs.Lists.{AreTexts}
use Rattle.record_format.specs.Lists.{texts_payload}
use Rattle.disk_journal.proofs.SpellingLemmas.{length-frame}
use Rattle.disk_journal.specs.Record.{Saved, IsFrame, saved_of}
use Rattle.segment_format.specs.Layout.{segment_bytes}
use Rattle.archive_meaning.specs.declared.entry.SegmentEntry.{SegmentEntry}
use Rattle.archive_meaning.specs.declared.entry.JournalEntry.{JournalEntry}
use Rattle.archive_meaning.specs.declared.entry.JournalEntry.TheVariants.{Files, Types, Words, Segment}
use Rattle.archive_meaning.specs.Spelled.{types_in, types_of, end_of}
use Rattle.archive_meaning.specs.Stands.{IsLegal}
use Rattle.disk_seal.specs.declared.pieces.Piece.{Piece}
use Rattle.disk_seal.specs.Told.{IfTold, entry_of, entry_for}
use Rattle.ingest_meaning.specs.WordsIn.{words_in, words_of}
use Rattle.disk_seal.specs.View.{KnowsBook, StoreView, StoreState, state_by, tells, Kept}
use Rattle.disk_seal.specs.Collected.{IsSameButBooks, HasSeenMore}
use Rattle.disk_seal.specs.Prepare.{MayFollowNow, IsPlanned}
use Rattle.disk_seal.specs.Adding.{IsNext, Saves, Front, front_of, CanAdd}
use Rattle.disk_seal.specs.Pieces.{front_with, CanFollow, size_of, added_by}
use Rattle.disk_seal.specs.Framed.{IsFramedOrNone, one_or_none, in_order}
use Rattle.disk_seal.specs.StepsFront.{IsGoodFront}
use Rattle.disk_seal.specs.declared.draft.Draft.{Draft}
use Rattle.disk_seal.specs.declared.entry.StoreEntry.{StoreEntry}
use Rattle.disk_seal.specs.declared.entry.StoreEntry.TheVariants.{Entry}
use Rattle.disk_seal.specs.May.{MayAdd}
use Rattle.disk_seal.specs.Planned.{LeavesFile, IsTextsThen, IsBehind, IsNextOf, IsSealed, ArePlanned, HasRoom, segment_of, types_from, words_from, entries_with, segment_need, needed}
use Rattle.ingest_meaning.specs.Room.{texts_need}
use Rattle.disk_seal.proofs.ToldLemmas.{told_map, told_both}
use Rattle.disk_seal.proofs.KeptLemmas.{knows_more, types_more, words_more}
use Rattle.disk_seal.proofs.NextLemmas.{types_next, words_next, end_with, told_always, good_front}
use Rattle.disk_seal.proofs.SegmentLemmas.{segment_next}

abbrev Texts : Type 0
Texts = List (List ℕ)

-- ---- the texts that are not saved have a spelling

pub types_spelled : (first limit : ℕ) (b : Bool) (p : BookPass) (saved : ℕ) (texts : Texts) → KnowsBook IsFairType first limit b p saved texts → HasSeenBook p → AreTexts (drop saved (seen p))
types_spelled first limit b p saved texts k whole = record {
  count = omega (arith, length-drop saved (seen p), whole.few);
  lengths = All-weaker IsFairType (λ (t : List ℕ). length t < 2 ^ 32) (λ t fair. omega (arith, fair.short)) (drop saved (seen p)) k.fair;
}

pub words_spelled : (first limit : ℕ) (b : Bool) (p : BookPass) (saved : ℕ) (texts : Texts) → KnowsBook IsFairWord first limit b p saved texts → HasSeenBook p → AreTexts (drop saved (seen p))
words_spelled first limit b p saved texts k whole = record {
  count = omega (arith, length-drop saved (seen p), whole.few);
  lengths = All-weaker IsFairWord (λ (t : List ℕ). length t < 2 ^ 32) (λ t fair. omega (arith, fair.short)) (drop saved (seen p)) k.fair;
}

told_four : {P Q R S T : Type 0} (b : Bool) → (P → Q → R → S → T) → IfTold b P → IfTold b Q → IfTold b R → IfTold b S → IfTold b T
told_four false f p q r s = tt
told_four true f p q r s = f p q r s

-- ---- one record after another

good_step : (p : Piece) (f : Front) → IsGoodFront f → CanAdd p.text p.types p.words f → IsGoodFront (front_with p f)
good_step p f good can =
    let e = entry_of (saved_of p.text) in
    record {
      is_header = good.is_header;
      legal = told_map f.told (λ (n : IsNext f.header f.journal (saved_of p.text)). n.legal) can.next;
      gate = told_both f.told (λ (n : IsNext f.header f.journal (saved_of p.text)) (g : f.place + 1 ≡ end_of f.header f.journal).
          let at = end_with f.header f.journal e f.place p.text g can.framed (sym n.form) in omega (arith, at)) can.next good.gate;
      of_types = knows_more IsFairType 0 f.header.types_limit f.told f.types f.types_saved p.types (types_of f.journal) (types_in e) (types_of (f.journal ++ e ∷ [])) good.of_types can.of_types (told_always f.told (types_more f.journal e));
      of_words = knows_more IsFairWord WORDS_FIRST f.header.words_limit f.told f.words f.words_saved p.words (words_of f.journal) (words_in e) (words_of (f.journal ++ e ∷ [])) good.of_words can.of_words (told_always f.told (words_more f.journal e));
    }

-- ---- the segment

-- the framed record of a segment, and what it follows
pub record Seals (f : Front) (p : Piece) (s : SegmentEntry) (types words : Texts) (numbers : List ℕ) : Type 0 where
  pub framed : IsFrame p.text
  pub saved : saved_of p.text ≡ record { kind = 4; payload = segment_bytes s.file s.first s.last s.ended s.rows numbers }
  pub types_is : p.types ≡ 0
  pub words_is : p.words ≡ 0
  pub types_front : IsPrefix types (seen f.types)
  pub words_front : IsPrefix words (seen f.words)
  pub behind : IfTold f.told (IsBehind f.header f.journal s types words numbers)

leaves_append : (file : ℕ) (es fs : List JournalEntry) → LeavesFile file es → LeavesFile file fs → LeavesFile file (es ++ fs)
leaves_append file [] fs a b = b
leaves_append file (Files names ∷ es) fs a b = leaves_append file es fs a b
leaves_append file (Types first texts ∷ es) fs a b = leaves_append file es fs a b
leaves_append file (Words first texts ∷ es) fs a b = leaves_append file es fs a b
leaves_append file (Segment s ∷ es) fs a b = (a.0, leaves_append file es fs a.1 b)

seals_step : (f : Front) (p q : Piece) (s : SegmentEntry) (types words : Texts) (numbers : List ℕ) → LeavesFile s.file (entry_of (saved_of q.text) ∷ []) → Seals f p s types words numbers → Seals (front_with q f) p s types words numbers
seals_step f p q s types words numbers leaves seals =
    let e = entry_of (saved_of q.text) in
    record {
      framed = seals.framed;
      saved = seals.saved;
      types_is = seals.types_is;
      words_is = seals.words_is;
      types_front = seals.types_front;
      words_front = seals.words_front;
      behind = told_map f.told (λ (b : IsBehind f.header f.journal s types words numbers). record {
        front = b.front;
        rest = b.rest ++ e ∷ [];
        is = ap (λ l. l ++ e ∷ []) b.is ∙ append_assoc b.front b.rest (e ∷ []);
        leaves = leaves_append s.file b.rest (e ∷ []) b.leaves leaves;
        may = b.may;
      }) seals.behind;
    }

-- what is told of a good front
record Known (f : Front) : Type 0 where
  legal : IsLegal f.header f.journal
  gate : f.place + 1 ≡ end_of f.header f.journal
  types : take f.types_saved (seen f.types) ≡ types_of f.journal
  words : take f.words_saved (seen f.words) ≡ words_of f.journal

known : (f : Front) → IsGoodFront f → IfTold f.told (Known f)
known f good =
    told_four f.told
    (λ (l : IsLegal f.header f.journal) (g : f.place + 1 ≡ end_of f.header f.journal) (t : take f.types_saved (seen f.types) ≡ types_of f.journal) (w : take f.words_saved (seen f.words) ≡ words_of f.journal).
    let k : Known f = record { legal = l; gate = g; types = t; words = w } in k)
    good.legal good.gate good.of_types.front good.of_words.front

module _ (f : Front) (good : IsGoodFront f) (whole_types : HasSeenBook f.types) (whole_words : HasSeenBook f.words) (all_types : f.types_saved ≡ length (seen f.types)) (all_words : f.words_saved ≡ length (seen f.words))
    (p : Piece) (s : SegmentEntry) (types words : Texts) (numbers : List ℕ) (seals : Seals f p s types words numbers) (room : f.place + 1 + length p.text ≤ f.header.length_limit) where
  segment_told : IfTold f.told (IsNext f.header f.journal (saved_of p.text) × (entry_of (saved_of p.text) ≡ Segment s))
  segment_told = told_both f.told (λ (b : IsBehind f.header f.journal s types words numbers) (rest : Known f).
      let back : b.front ++ b.rest ≡ f.journal = sym b.is in
      let types_there : seen f.types ≡ types_of (b.front ++ b.rest) = sym (take_all f.types_saved (seen f.types) (omega (arith, all_types))) ∙ (rest.types ∙ ap types_of b.is) in
      let words_there : seen f.words ≡ words_of (b.front ++ b.rest) = sym (take_all f.words_saved (seen f.words) (omega (arith, all_words))) ∙ (rest.words ∙ ap words_of b.is) in
      let gate : f.place + 1 ≡ end_of f.header (b.front ++ b.rest) = rest.gate ∙ ap (end_of f.header) b.is in
      let next = segment_next f.header good.is_header b.front b.rest types words s numbers b.may b.leaves (subst (IsLegal f.header) b.is rest.legal) (subst (IsPrefix types) types_there seals.types_front)
      (subst (IsPrefix words) words_there seals.words_front) p.text f.place seals.framed gate seals.saved room in
      (subst (λ es. IsNext f.header es (saved_of p.text)) back next.0, next.1))
      seals.behind (known f good)

  pub segment_can : CanAdd p.text p.types p.words f
  segment_can = record {
    framed = seals.framed;
    next = told_map f.told (λ (n : IsNext f.header f.journal (saved_of p.text) × (entry_of (saved_of p.text) ≡ Segment s)). n.0) segment_told;
    room = room;
    of_types = record {
      low = omega (arith, seals.types_is, good.of_types.low);
      small = omega (arith, seals.types_is, good.of_types.low, whole_types.few);
      these = told_map f.told (λ (n : IsNext f.header f.journal (saved_of p.text) × (entry_of (saved_of p.text) ≡ Segment s)). ap (λ k. take k (drop f.types_saved (seen f.types))) seals.types_is ∙ sym (ap types_in n.1)) segment_told;
    };
    of_words = record {
      low = omega (arith, seals.words_is, good.of_words.low);
      small = omega (arith, seals.words_is, good.of_words.low, whole_words.few);
      these = told_map f.told (λ (n : IsNext f.header f.journal (saved_of p.text) × (entry_of (saved_of p.text) ≡ Segment s)). ap (λ k. take k (drop f.words_saved (seen f.words))) seals.words_is ∙ sym (ap words_in n.1)) segment_told;
    };
  }

-- ---- all of them

leaves_types : (file first : ℕ) (texts : Texts) (e : JournalEntry) → e ≡ Types first texts → LeavesFile file (e ∷ [])
leaves_types file first texts e is = subst (λ x. LeavesFile file (x ∷ [])) (sym is) tt

leaves_words : (file first : ℕ) (texts : Texts) (e : JournalEntry) → e ≡ Words first texts → LeavesFile file (e ∷ [])
leaves_words file first texts e is = subst (λ x. LeavesFile file (x ∷ [])) (sym is) tt

abbrev unsaved_types : Front → Texts
unsaved_types f = drop f.types_saved (seen f.types)

abbrev unsaved_words : Front → Texts
unsaved_words f = drop f.words_saved (seen f.words)

module _ (p : Piece) (s : SegmentEntry) (types words : Texts) (numbers : List ℕ) where
  words_follow : (f : Front) → IsGoodFront f → HasSeenBook f.types → HasSeenBook f.words → f.types_saved ≡ length (seen f.types) → (w : Option Piece)
      → IsFramedOrNone (Words f.words_saved (unsaved_words f)) (length (unsaved_words f)) 0 (length (unsaved_words f)) w → Seals f p s types words numbers
      → f.place + 1 + size_of (one_or_none w ++ p ∷ []) ≤ f.header.length_limit → CanFollow (one_or_none w ++ p ∷ []) f
  words_follow f good whole_types whole_words all_types None none seals room =
      (segment_can f good whole_types whole_words all_types (omega (arith, none, length-drop f.words_saved (seen f.words), good.of_words.low)) p s types words numbers seals (omega (arith, room)), tt)
  words_follow f good whole_types whole_words all_types (Some q) framed seals room =
      let can0 = words_next f good whole_types whole_words q.text framed.1.framed framed.0 framed.1.saved framed.1.is q.words framed.1.words_is (omega (arith, room)) in
      let can : CanAdd q.text q.types q.words f = subst (λ t. CanAdd q.text t q.words f) (sym framed.1.types_is) can0 in (
        can,
        (
          segment_can (front_with q f) (good_step q f good can) whole_types whole_words (omega (arith, all_types, framed.1.types_is)) (omega (arith, framed.1.words_is, length-drop f.words_saved (seen f.words), good.of_words.low))
              p s types words numbers (seals_step f p q s types words numbers (leaves_words s.file f.words_saved (unsaved_words f) (entry_of (saved_of q.text)) framed.1.is) seals) (omega (arith, room)),
          tt,
        ),
      )

  pub all_follow : (f : Front) → IsGoodFront f → HasSeenBook f.types → HasSeenBook f.words → (t w : Option Piece)
      → IsFramedOrNone (Types f.types_saved (unsaved_types f)) (length (unsaved_types f)) (length (unsaved_types f)) 0 t
      → IsFramedOrNone (Words f.words_saved (unsaved_words f)) (length (unsaved_words f)) 0 (length (unsaved_words f)) w → Seals f p s types words numbers
      → f.place + 1 + size_of (in_order t w p) ≤ f.header.length_limit → CanFollow (in_order t w p) f
  all_follow f good whole_types whole_words None w none framed_w seals room =
      words_follow f good whole_types whole_words (omega (arith, none, length-drop f.types_saved (seen f.types), good.of_types.low)) w framed_w seals room
  all_follow f good whole_types whole_words (Some q) w framed framed_w seals room =
      let can0 = types_next f good whole_types whole_words q.text framed.1.framed framed.0 framed.1.saved framed.1.is q.types framed.1.types_is (omega (arith, room)) in
      let can : CanAdd q.text q.types q.words f = subst (λ t. CanAdd q.text q.types t f) (sym framed.1.words_is) can0 in
      let same : f.words_saved ≡ f.words_saved + q.words = omega (arith, framed.1.words_is) in (
        can,
        words_follow (front_with q f) (good_step q f good can) whole_types whole_words (omega (arith, framed.1.types_is, length-drop f.types_saved (seen f.types), good.of_types.low)) w
            (subst (λ n. IsFramedOrNone (Words n (drop n (seen f.words))) (length (drop n (seen f.words))) 0 (length (drop n (seen f.words))) w) same framed_w)
            (seals_step f p q s types words numbers (leaves_types s.file f.types_saved (unsaved_types f) (entry_of (saved_of q.text)) framed.1.is) seals) (omega (arith, room)),
      )

-- ---- what the pass may add

may_types : (n first : ℕ) (texts : Texts) (b : Bool) (e : JournalEntry) → e ≡ Types first texts → MayAdd n (entry_for b e)
may_types n first texts false e is = tt
may_types n first texts true e is = subst (λ x. MayAdd n (Entry x)) (sym is) tt

may_words : (n first : ℕ) (texts : Texts) (b : Bool) (e : JournalEntry) → e ≡ Words first texts → MayAdd n (entry_for b e)
may_words n first texts false e is = tt
may_words n first texts true e is = subst (λ x. MayAdd n (Entry x)) (sym is) tt

may_segment : (n : ℕ) (s : SegmentEntry) (b : Bool) (e : JournalEntry) → s.file ≡ n → IfTold b (e ≡ Segment s) → MayAdd n (entry_for b e)
may_segment n s false e same is = tt
may_segment n s true e same is = subst (λ x. MayAdd n (Entry x)) (sym is) same

all_cons : (n : ℕ) (x : StoreEntry) (xs : List StoreEntry) → MayAdd n x → All (MayAdd n) xs → All (MayAdd n) (x ∷ xs)
all_cons n x xs one rest = All-cons (MayAdd n) x xs one rest

module _ (p : Piece) (s : SegmentEntry) (types words : Texts) (numbers : List ℕ) where
  -- the entry of the segment's record, behind those of the texts
  words_may : (f : Front) → IsGoodFront f → HasSeenBook f.types → HasSeenBook f.words → f.types_saved ≡ length (seen f.types) → (w : Option Piece)
      → IsFramedOrNone (Words f.words_saved (unsaved_words f)) (length (unsaved_words f)) 0 (length (unsaved_words f)) w → Seals f p s types words numbers
      → f.place + 1 + size_of (one_or_none w ++ p ∷ []) ≤ f.header.length_limit → All (MayAdd s.file) (map (entry_for f.told) (added_by (one_or_none w ++ p ∷ [])))
  words_may f good whole_types whole_words all_types None none seals room =
      all_cons s.file (entry_for f.told (entry_of (saved_of p.text))) [] (may_segment s.file s f.told (entry_of (saved_of p.text)) refl
      (told_map f.told (λ (n : IsNext f.header f.journal (saved_of p.text) × (entry_of (saved_of p.text) ≡ Segment s)). n.1)
      (segment_told f good whole_types whole_words all_types (omega (arith, none, length-drop f.words_saved (seen f.words), good.of_words.low)) p s types words numbers seals (omega (arith, room))))) (All-nil (MayAdd s.file))
  words_may f good whole_types whole_words all_types (Some q) framed seals room =
      let can0 = words_next f good whole_types whole_words q.text framed.1.framed framed.0 framed.1.saved framed.1.is q.words framed.1.words_is (omega (arith, room)) in
      let can : CanAdd q.text q.types q.words f = subst (λ t. CanAdd q.text t q.words f) (sym framed.1.types_is) can0 in
      let e = entry_of (saved_of p.text) in
      all_cons s.file (entry_for f.told (entry_of (saved_of q.text))) (entry_for f.told e ∷ []) (may_words s.file f.words_saved (unsaved_words f) f.told (entry_of (saved_of q.text)) framed.1.is)
      (all_cons s.file (entry_for f.told e) [] (may_segment s.file s f.told e refl
      (told_map f.told (λ (n : IsNext f.header (f.journal ++ entry_of (saved_of q.text) ∷ []) (saved_of p.text) × (entry_of (saved_of p.text) ≡ Segment s)). n.1)
      (segment_told (front_with q f) (good_step q f good can) whole_types whole_words (omega (arith, all_types, framed.1.types_is)) (omega (arith, framed.1.words_is, length-drop f.words_saved (seen f.words), good.of_words.low))
      p s types words numbers (seals_step f p q s types words numbers (leaves_words s.file f.words_saved (unsaved_words f) (entry_of (saved_of q.text)) framed.1.is) seals) (omega (arith, room))))) (All-nil (MayAdd s.file)))

  pub all_may : (f : Front) → IsGoodFront f → HasSeenBook f.types → HasSeenBook f.words → (t w : Option Piece)
      → IsFramedOrNone (Types f.types_saved (unsaved_types f)) (length (unsaved_types f)) (length (unsaved_types f)) 0 t
      → IsFramedOrNone (Words f.words_saved (unsaved_words f)) (length (unsaved_words f)) 0 (length (unsaved_words f)) w → Seals f p s types words numbers
      → f.place + 1 + size_of (in_order t w p) ≤ f.header.length_limit → All (MayAdd s.file) (map (entry_for f.told) (added_by (in_order t w p)))
  all_may f good whole_types whole_words None w none framed_w seals room =
      words_may f good whole_types whole_words (omega (arith, none, length-drop f.types_saved (seen f.types), good.of_types.low)) w framed_w seals room
  all_may f good whole_types whole_words (Some q) w framed framed_w seals room =
      let can0 = types_next f good whole_types whole_words q.text framed.1.framed framed.0 framed.1.saved framed.1.is q.types framed.1.types_is (omega (arith, room)) in
      let can : CanAdd q.text q.types q.words f = subst (λ t. CanAdd q.text q.types t f) (sym framed.1.words_is) can0 in
      let same : f.words_saved ≡ f.words_saved + q.words = omega (arith, framed.1.words_is) in
      all_cons s.file (entry_for f.told (entry_of (saved_of q.text))) (map (entry_for f.told) (added_by (one_or_none w ++ p ∷ []))) (may_types s.file f.types_saved (unsaved_types f) f.told (entry_of (saved_of q.text)) framed.1.is)
      (words_may (front_with q f) (good_step q f good can) whole_types whole_words (omega (arith, framed.1.types_is, length-drop f.types_saved (seen f.types), good.of_types.low)) w
      (subst (λ n. IsFramedOrNone (Words n (drop n (seen f.words))) (length (drop n (seen f.words))) 0 (length (drop n (seen f.words))) w) same framed_w)
      (seals_step f p q s types words numbers (leaves_types s.file f.types_saved (unsaved_types f) (entry_of (saved_of q.text)) framed.1.is) seals) (omega (arith, room)))

-- ---- what they are

module _ (p : Piece) (s : SegmentEntry) (types words : Texts) (numbers : List ℕ) where
  -- the entry of the segment's record, behind those of the texts
  words_before : (f : Front) → IsGoodFront f → HasSeenBook f.types → HasSeenBook f.words → f.types_saved ≡ length (seen f.types) → (w : Option Piece)
      → IsFramedOrNone (Words f.words_saved (unsaved_words f)) (length (unsaved_words f)) 0 (length (unsaved_words f)) w → Seals f p s types words numbers
      → f.place + 1 + size_of (one_or_none w ++ p ∷ []) ≤ f.header.length_limit → IfTold f.told (entry_of (saved_of p.text) ≡ Segment s)
  words_before f good whole_types whole_words all_types None none seals room =
      told_map f.told (λ (n : IsNext f.header f.journal (saved_of p.text) × (entry_of (saved_of p.text) ≡ Segment s)). n.1)
      (segment_told f good whole_types whole_words all_types (omega (arith, none, length-drop f.words_saved (seen f.words), good.of_words.low)) p s types words numbers seals (omega (arith, room)))
  words_before f good whole_types whole_words all_types (Some q) framed seals room =
      let can0 = words_next f good whole_types whole_words q.text framed.1.framed framed.0 framed.1.saved framed.1.is q.words framed.1.words_is (omega (arith, room)) in
      let can : CanAdd q.text q.types q.words f = subst (λ t. CanAdd q.text t q.words f) (sym framed.1.types_is) can0 in
      told_map f.told (λ (n : IsNext f.header (f.journal ++ entry_of (saved_of q.text) ∷ []) (saved_of p.text) × (entry_of (saved_of p.text) ≡ Segment s)). n.1)
      (segment_told (front_with q f) (good_step q f good can) whole_types whole_words (omega (arith, all_types, framed.1.types_is)) (omega (arith, framed.1.words_is, length-drop f.words_saved (seen f.words), good.of_words.low))
      p s types words numbers (seals_step f p q s types words numbers (leaves_words s.file f.words_saved (unsaved_words f) (entry_of (saved_of q.text)) framed.1.is) seals) (omega (arith, room)))

  all_before : (f : Front) → IsGoodFront f → HasSeenBook f.types → HasSeenBook f.words → (t w : Option Piece)
      → IsFramedOrNone (Types f.types_saved (unsaved_types f)) (length (unsaved_types f)) (length (unsaved_types f)) 0 t
      → IsFramedOrNone (Words f.words_saved (unsaved_words f)) (length (unsaved_words f)) 0 (length (unsaved_words f)) w → Seals f p s types words numbers
      → f.place + 1 + size_of (in_order t w p) ≤ f.header.length_limit → IfTold f.told (entry_of (saved_of p.text) ≡ Segment s)
  all_before f good whole_types whole_words None w none framed_w seals room =
      words_before f good whole_types whole_words (omega (arith, none, length-drop f.types_saved (seen f.types), good.of_types.low)) w framed_w seals room
  all_before f good whole_types whole_words (Some q) w framed framed_w seals room =
      let can0 = types_next f good whole_types whole_words q.text framed.1.framed framed.0 framed.1.saved framed.1.is q.types framed.1.types_is (omega (arith, room)) in
      let can : CanAdd q.text q.types q.words f = subst (λ t. CanAdd q.text q.types t f) (sym framed.1.words_is) can0 in
      let same : f.words_saved ≡ f.words_saved + q.words = omega (arith, framed.1.words_is) in
      words_before (front_with q f) (good_step q f good can) whole_types whole_words (omega (arith, framed.1.types_is, length-drop f.types_saved (seen f.types), good.of_types.low)) w
      (subst (λ n. IsFramedOrNone (Words n (drop n (seen f.words))) (length (drop n (seen f.words))) 0 (length (drop n (seen f.words))) w) same framed_w)
      (seals_step f p q s types words numbers (leaves_types s.file f.types_saved (unsaved_types f) (entry_of (saved_of q.text)) framed.1.is) seals) (omega (arith, room))

types_added : (first : ℕ) (texts : Texts) (t : Option Piece) → IsFramedOrNone (Types first texts) (length texts) (length texts) 0 t → added_by (one_or_none t) ≡ types_from first texts
types_added first [] None none = refl
types_added first (x ∷ xs) None none = absurd (omega (arith, none))
types_added first [] (Some p) framed = absurd (omega (arith, framed.0))
types_added first (x ∷ xs) (Some p) framed = ap (λ (e : JournalEntry). e ∷ []) framed.1.is

words_added : (first : ℕ) (texts : Texts) (w : Option Piece) → IsFramedOrNone (Words first texts) (length texts) 0 (length texts) w → added_by (one_or_none w) ≡ words_from first texts
words_added first [] None none = refl
words_added first (x ∷ xs) None none = absurd (omega (arith, none))
words_added first [] (Some p) framed = absurd (omega (arith, framed.0))
words_added first (x ∷ xs) (Some p) framed = ap (λ (e : JournalEntry). e ∷ []) framed.1.is

added_joined : (ps qs : List Piece) → added_by (ps ++ qs) ≡ added_by ps ++ added_by qs
added_joined [] qs = refl
added_joined (p ∷ ps) qs = ap (λ es. entry_of (saved_of p.text) ∷ es) (added_joined ps qs)

all_added : (first_t first_w : ℕ) (ts ws : Texts) (t w : Option Piece) (p : Piece) (s : SegmentEntry)
    → IsFramedOrNone (Types first_t ts) (length ts) (length ts) 0 t → IsFramedOrNone (Words first_w ws) (length ws) 0 (length ws) w → entry_of (saved_of p.text) ≡ Segment s
    → added_by (in_order t w p) ≡ types_from first_t ts ++ (words_from first_w ws ++ Segment s ∷ [])
all_added first_t first_w ts ws t w p s framed_t framed_w is =
    added_joined (one_or_none t) (one_or_none w ++ p ∷ [])
    ∙ ap₂ (λ (x y : List JournalEntry). x ++ y) (types_added first_t ts t framed_t)
    (added_joined (one_or_none w) (p ∷ []) ∙ ap₂ (λ (x : List JournalEntry) (e : JournalEntry). x ++ e ∷ []) (words_added first_w ws w framed_w) is)

types_then : (s : SegmentEntry) (first : ℕ) (texts : Texts) (es : List JournalEntry) → IsTextsThen s es → IsTextsThen s (types_from first texts ++ es)
types_then s first [] es ends = ends
types_then s first (t ∷ ts) es ends = ends

words_then : (s : SegmentEntry) (first : ℕ) (texts : Texts) (es : List JournalEntry) → IsTextsThen s es → IsTextsThen s (words_from first texts ++ es)
words_then s first [] es ends = ends
words_then s first (t ∷ ts) es ends = ends

pub segment_last : (d : Draft) (s : StoreState) → IsTextsThen (segment_of d) (entries_with d s)
segment_last d s =
    let one : List JournalEntry = Segment (segment_of d) ∷ [] in
    types_then (segment_of d) s.types_saved (drop s.types_saved (seen s.types)) (words_from s.words_saved (drop s.words_saved (seen s.words)) ++ one)
    (words_then (segment_of d) s.words_saved (drop s.words_saved (seen s.words)) one (refl, refl))

-- ---- as a store's plan

pub planned : (s : StoreState) → Kept s → s.stopped ≡ None → HasSeenBook s.types → HasSeenBook s.words → (d : Draft) → IsNextOf d s → (t w : Option Piece) (p : Piece)
    → IsFramedOrNone (Types s.types_saved (drop s.types_saved (seen s.types))) (length (drop s.types_saved (seen s.types))) (length (drop s.types_saved (seen s.types))) 0 t
    → IsFramedOrNone (Words s.words_saved (drop s.words_saved (seen s.words))) (length (drop s.words_saved (seen s.words))) 0 (length (drop s.words_saved (seen s.words))) w
    → IsSealed d p → HasRoom (in_order t w p) s → ArePlanned d (in_order t w p) s
planned s k runs whole_types whole_words d next t w p framed_t framed_w sealed room =
    let good = good_front s k runs in
    let seals : Seals (front_of s) p (segment_of d) next.types next.words d.words = record {
      framed = sealed.framed;
      saved = sealed.saved;
      types_is = sealed.types_is;
      words_is = sealed.words_is;
      types_front = next.types_front;
      words_front = next.words_front;
      behind = next.behind;
    } in
    record {
      can = all_follow p (segment_of d) next.types next.words d.words (front_of s) good whole_types whole_words t w framed_t framed_w seals room;
      may = all_may p (segment_of d) next.types next.words d.words (front_of s) good whole_types whole_words t w framed_t framed_w seals room;
      all = told_map (tells s) (λ (is : entry_of (saved_of p.text) ≡ Segment (segment_of d)).
          all_added s.types_saved s.words_saved (drop s.types_saved (seen s.types)) (drop s.words_saved (seen s.words)) t w p (segment_of d) framed_t framed_w is)
          (all_before p (segment_of d) next.types next.words d.words (front_of s) good whole_types whole_words t w framed_t framed_w seals room);
    }

-- ---- behind a turn with each book

pub next_after : {D : Type 0} (state : D → DiskState) (v w : StoreView D) (d : Draft) (types words : Texts) → v.stopped ≡ None → IsSameButBooks v w → HasSeenMore v.types w.types types → HasSeenMore v.words w.words words
    → MayFollowNow d types words (state_by state v) → IsNextOf d (state_by state w)
next_after state v w d types words runs same seen_types seen_words may =
    subst (λ x. IsNextOf d (state_by state x)) (sym same.passes)
    (record { types = types; words = words; types_front = seen_types.noted_on; words_front = seen_words.noted_on; behind = may runs })

pub planned_none : (d : Draft) (s : StoreState) → s.stopped ≢ None → IsPlanned d [] s
planned_none d s halted = record { can = λ runs. absurd (halted runs); may = All-nil (MayAdd d.file); all = λ runs. absurd (halted runs) }

-- the passes were noted, and have seen what they had

saves_seen : (b : Bool) (p q : BookPass) (saved more : ℕ) (texts : Texts) → seen p ≡ seen q → Saves b p saved more texts → Saves b q saved more texts
saves_seen b p q saved more texts same saves = record {
  low = subst (λ l. saved + more ≤ length l) same saves.low;
  small = saves.small;
  these = told_map b (λ (e : take more (drop saved (seen p)) ≡ texts). subst (λ l. take more (drop saved l) ≡ texts) same e) saves.these;
}

follow_seen : (ps : List Piece) (f : Front) (t w : BookPass) → seen f.types ≡ seen t → seen f.words ≡ seen w → CanFollow ps f → CanFollow ps (record f { types = t; words = w })
follow_seen [] f t w same_t same_w can = tt
follow_seen (p ∷ ps) f t w same_t same_w can = (
  record {
    framed = can.0.framed;
    next = can.0.next;
    room = can.0.room;
    of_types = saves_seen f.told f.types t f.types_saved p.types (types_in (entry_of (saved_of p.text))) same_t can.0.of_types;
    of_words = saves_seen f.told f.words w f.words_saved p.words (words_in (entry_of (saved_of p.text))) same_w can.0.of_words;
  },
  follow_seen ps (front_with p f) t w same_t same_w can.1,
)

pub planned_on : {D : Type 0} (state : D → DiskState) (m n : StoreView D) (d : Draft) (ps : List Piece) → IsSameButBooks m n → StaysAs m.types n.types → StaysAs m.words n.words
    → (HasRoom ps (state_by state m) → ArePlanned d ps (state_by state m)) → HasRoom ps (state_by state n) → IsPlanned d ps (state_by state n)
planned_on state m n d ps same types words plan =
    subst (λ x. HasRoom ps (state_by state x) → IsPlanned d ps (state_by state x)) (sym same.passes)
    (λ room. let a = plan room in record {
      can = λ _. follow_seen ps (front_of (state_by state m)) n.types n.words (sym types.seen_is) (sym words.seen_is) a.can;
      may = a.may;
      all = λ _. told_map (tells (state_by state m)) (λ (is : added_by ps ≡ entries_with d (state_by state m)). is ∙ same_entries) a.all;
    })
  where
    same_entries : entries_with d (state_by state m) ≡ entries_with d (state_by state (record m { types = n.types; words = n.words }))
    same_entries = ap₂ (λ (ts ws : Texts). types_from m.types_saved (drop m.types_saved ts) ++ (words_from m.words_saved (drop m.words_saved ws) ++ Segment (segment_of d) ∷ [])) (sym types.seen_is) (sym words.seen_is)

pub size_more : (ps : List Piece) (i : ℕ) (d : Piece) → i < length ps → size_of (take (i + 1) ps) ≡ size_of (take i ps) + length (get_or ps i d).text
size_more ps i d inside = ap size_of (take_more ps i d inside) ∙ (size_joined (take i ps) (get_or ps i d ∷ []) ∙ omega arith)
  where
    size_joined : (xs ys : List Piece) → size_of (xs ++ ys) ≡ size_of xs + (size_of ys)
    size_joined [] ys = omega arith
    size_joined (x ∷ xs) ys = omega (arith, size_joined xs ys)

-- ---- how many bytes they need

framed_size : (text : List ℕ) → IsFrame text → length text ≡ 10 + length (saved_of text).payload
framed_size text framed = ap length framed ∙ length-frame (saved_of text)

texts_size : (first n : ℕ) (texts : Texts) → 0 < length texts → n ≡ 10 + length (texts_payload first texts) → n ≡ texts_need first texts
texts_size first n [] some is = absurd (omega (arith, some))
texts_size first n (t ∷ ts) some is = is

none_size : (first : ℕ) (texts : Texts) → length texts ≡ 0 → 0 ≡ texts_need first texts
none_size first [] none = refl
none_size first (t ∷ ts) none = absurd (omega (arith, none))

types_size : (first : ℕ) (texts : Texts) (t : Option Piece) → IsFramedOrNone (Types first texts) (length texts) (length texts) 0 t → size_of (one_or_none t) ≡ texts_need first texts
types_size first texts None none = none_size first texts none
types_size first texts (Some p) framed =
    let long : length p.text ≡ 10 + length (texts_payload first texts) = framed_size p.text framed.1.framed ∙ ap (λ (r : Saved). 10 + length r.payload) framed.1.saved in
    let all : size_of (p ∷ []) ≡ length p.text = omega arith in all ∙ texts_size first (length p.text) texts framed.0 long

words_size : (first : ℕ) (texts : Texts) (w : Option Piece) → IsFramedOrNone (Words first texts) (length texts) 0 (length texts) w → size_of (one_or_none w) ≡ texts_need first texts
words_size first texts None none = none_size first texts none
words_size first texts (Some p) framed =
    let long : length p.text ≡ 10 + length (texts_payload first texts) = framed_size p.text framed.1.framed ∙ ap (λ (r : Saved). 10 + length r.payload) framed.1.saved in
    let all : size_of (p ∷ []) ≡ length p.text = omega arith in all ∙ texts_size first (length p.text) texts framed.0 long

order_size : (t w : Option Piece) (p : Piece) → size_of (in_order t w p) ≡ size_of (one_or_none t) + (size_of (one_or_none w) + length p.text)
order_size None None p = omega arith
order_size None (Some w) p = omega arith
order_size (Some t) None p = omega arith
order_size (Some t) (Some w) p = omega arith

pub all_size : (s : StoreState) (d : Draft) (t w : Option Piece) (p : Piece)
    → IsFramedOrNone (Types s.types_saved (drop s.types_saved (seen s.types))) (length (drop s.types_saved (seen s.types))) (length (drop s.types_saved (seen s.types))) 0 t
    → IsFramedOrNone (Words s.words_saved (drop s.words_saved (seen s.words))) (length (drop s.words_saved (seen s.words))) 0 (length (drop s.words_saved (seen s.words))) w
    → IsSealed d p → size_of (in_order t w p) ≡ needed d s
all_size s d t w p framed_t framed_w sealed =
    let one : length p.text ≡ segment_need d = framed_size p.text sealed.framed ∙ ap (λ (r : Saved). 10 + length r.payload) sealed.saved in
    order_size t w p
    ∙ (ap₂ (λ x y. x + (y + length p.text)) (types_size s.types_saved (drop s.types_saved (seen s.types)) t framed_t) (words_size s.words_saved (drop s.words_saved (seen s.words)) w framed_w)
    ∙ ap (λ x. texts_need s.types_saved (drop s.types_saved (seen s.types)) + (texts_need s.words_saved (drop s.words_saved (seen s.words)) + x)) one)
