-- What is in hand after one row more, and after many.
use Rattle.std.proofs.Common.{◌≡◌, ℕ, zero, suc, ◌+◌, ◌<◌, List, [], ◌∷◌, ◌++◌, append_assoc, length, length-append, take, refl, sym, ◌∙◌, ap, ap₂, subst, arith, false}
use Rattle.std.specs.Prelude.{Some, slice_get, slice_index_or}
use Rattle.std.specs.List.{Contains, flat_map}
use Rattle.std.proofs.lemmas.List.{append-nil, get_or_append_left}
use Rattle.std.proofs.lemmas.List.Concat.{flat_map-cons}
use Rattle.std.proofs.lemmas.List.Sums.{sum_by-append, sum_by-cons, sum_by-take-le}
use Rattle.std.proofs.lemmas.Option.{get_or_from_slice_get, slice_get_within}
use mathlib.Core.List.{IsPrefix}
use Rattle.logtype_text.specs.declared.symbols.Kind.{Kind}
use Rattle.column_store.specs.declared.row.Row.{Row}
use Rattle.column_store.specs.Row.{variable_count}
use Rattle.row_codec.specs.Means.{AreCanonical, IsCanonical}
use Rattle.row_codec.specs.Numbers.{kinds_from, numbers_of_row, word_numbers}
use Rattle.row_codec.specs.Naming.{Known}
use Rattle.row_codec.proofs.GrowthLemmas.{grows_self, grows_then}
use Rattle.row_codec.proofs.MeansLemmas.{canonical_stays}
use Rattle.row_rename.specs.Renamed.{AreRenamed, IsRenamed, IsTextOfRow, used_in}
use Rattle.row_rename.specs.declared.refusal.RenameRefusal.{RenameRefusal}
use Rattle.row_rename.specs.declared.refusal.RenameRefusal.TheVariants.{Full, Damaged, OutOfMemory}
use Rattle.row_rename.specs.declared.tables.Tables.{Tables}
use Rattle.row_rename.specs.Tables.{AreTables, HasNamedBoth}
use Rattle.row_rename.proofs.RenameLemmas.{renamed_means_same}
use Rattle.row_rename.proofs.TableLemmas.{grown_weaker}
use Rattle.row_codec.specs.declared.namer.Which.{Which}
use Rattle.row_codec.specs.declared.namer.Which.TheVariants.{Types, Words}
use Rattle.archive_merge.specs.declared.hand.Hand.{Hand}
use Rattle.archive_merge.specs.declared.stop.Stop.TheVariants.{Full as StopFull, SecondDamaged, SecondFault}
use Rattle.archive_merge.specs.Stops.{stop_by}
use Rattle.archive_merge.specs.InHand.{HasInHand, MayTake, MayTakeAll, SameMarks, TakesAll, TakesRow, Texts}
use Rattle.archive_merge.specs.Needed.{IsTextOfRows}

-- ---- lists of rows

pub all_stay : (version : ℕ) (rows : List Row) (types words more_types more_words ms : List (List ℕ)) → IsPrefix types more_types → IsPrefix words more_words
    → AreCanonical version rows types words ms → AreCanonical version rows more_types more_words ms
all_stay version [] types words more_types more_words [] a b are = tt
all_stay version [] types words more_types more_words (m ∷ ms) a b are = absurd are
all_stay version (r ∷ rows) types words more_types more_words [] a b are = absurd are
all_stay version (r ∷ rows) types words more_types more_words (m ∷ ms) a b are =
    (canonical_stays version r types words more_types more_words m a b are.0, all_stay version rows types words more_types more_words ms a b are.1)

numbers_stay : (version : ℕ) (rows : List Row) (types words more ms : List (List ℕ)) → IsPrefix types more → AreCanonical version rows types words ms → flat_map (numbers_of_row types) rows ≡ flat_map (numbers_of_row more) rows
numbers_stay version [] types words more ms front are = refl
numbers_stay version (r ∷ rows) types words more [] front are = absurd are
numbers_stay version (r ∷ rows) types words more (m ∷ ms) front are =
    let inside : r.log_type < length types = slice_get_within types r.log_type _ are.0.means.typed in
    let here : slice_index_or types r.log_type [] ≡ slice_index_or more r.log_type [] = sym (get_or_append_left types front.0 [] r.log_type inside) ∙ ap (λ l. slice_index_or l r.log_type []) front.1 in
    flat_map-cons (numbers_of_row types) r rows
    ∙ (ap₂ (λ t l. word_numbers (kinds_from false t) r.words ++ l) here (numbers_stay version rows types words more ms front are.1)
    ∙ sym (flat_map-cons (numbers_of_row more) r rows))

canonical_push : (version : ℕ) (rows : List Row) (row : Row) (types words ms : List (List ℕ)) (m : List ℕ) → AreCanonical version rows types words ms → IsCanonical version row types words m → AreCanonical version (rows ++ row ∷ []) types words (ms ++ m ∷ [])
canonical_push version [] row types words [] m are is = (is, tt)
canonical_push version [] row types words (n ∷ ms) m are is = absurd are
canonical_push version (r ∷ rows) row types words [] m are is = absurd are
canonical_push version (r ∷ rows) row types words (n ∷ ms) m are is = (are.0, canonical_push version rows row types words ms m are.1 is)

numbers_push : (f : Row → List ℕ) (rows : List Row) (row : Row) → flat_map f (rows ++ row ∷ []) ≡ flat_map f rows ++ f row
numbers_push f [] row = flat_map-cons f row [] ∙ append-nil (f row)
numbers_push f (r ∷ rows) row =
    flat_map-cons f r (rows ++ row ∷ []) ∙ ap (λ l. f r ++ l) (numbers_push f rows row) ∙ sym (append_assoc (f r) (flat_map f rows) (f row)) ∙ ap (λ l. l ++ f row) (sym (flat_map-cons f r rows))

-- rows and one behind them are the encodings of messages and of one behind them
record Parted (version : ℕ) (rows : List Row) (row : Row) (types words ms : List (List ℕ)) : Type 0 where
  front : List (List ℕ)
  last : List ℕ
  is : ms ≡ front ++ last ∷ []
  canonical : AreCanonical version rows types words front
  encoding : IsCanonical version row types words last

parted : (version : ℕ) (rows : List Row) (row : Row) (types words ms : List (List ℕ)) → AreCanonical version (rows ++ row ∷ []) types words ms → Parted version rows row types words ms
parted version [] row types words [] are = absurd are
parted version [] row types words (m ∷ []) are = record { front = []; last = m; is = refl; canonical = tt; encoding = are.0 }
parted version [] row types words (m ∷ n ∷ ms) are = absurd are.1
parted version (r ∷ rows) row types words [] are = absurd are
parted version (r ∷ rows) row types words (m ∷ ms) are =
    let rest = parted version rows row types words ms are.1 in
    record { front = m ∷ rest.front; last = rest.last; is = ap (λ l. m ∷ l) rest.is; canonical = (are.0, rest.canonical); encoding = rest.encoding }

take_push : (rows : List Row) (i : ℕ) (r : Row) → slice_get rows i ≡ Some r → take (suc i) rows ≡ take i rows ++ r ∷ []
take_push [] i r at = absurd (cc (at))
take_push (q ∷ rows) zero r at = let same : q ≡ r = cc (at) in ap (λ (x : Row). x ∷ []) same
take_push (q ∷ rows) (suc i) r at = ap (λ (l : List Row). q ∷ l) (take_push rows i r at)

variables_push : (rows : List Row) (row : Row) → variable_count (rows ++ row ∷ []) ≡ variable_count rows + length row.words
variables_push rows row =
    omega (arith, sum_by-append (λ (r : Row). length r.words) rows (row ∷ []), sum_by-cons (λ (r : Row). length r.words) row [])

-- ---- one row

pub renamed_long : (old new : List (List ℕ)) (kinds : List Kind) (words renamed : List ℕ) → AreRenamed old new kinds words renamed → length renamed ≡ length words
renamed_long old new [] [] [] are = refl
renamed_long old new [] [] (r ∷ renamed) are = absurd are
renamed_long old new [] (w ∷ words) renamed are = absurd are
renamed_long old new (k ∷ kinds) [] renamed are = absurd are
renamed_long old new (k ∷ kinds) (w ∷ words) [] are = absurd are
renamed_long old new (k ∷ kinds) (w ∷ words) (r ∷ renamed) are = ap suc (renamed_long old new kinds words renamed are.1)

pub takes_one : (old before after : Texts) (row renamed : Row) (hand hand_new : Hand) → IsPrefix before.types after.types → IsPrefix before.words after.words
    → IsRenamed old.types old.words after.types after.words row renamed
    → hand_new.draft.columns.rows ≡ hand.draft.columns.rows ++ renamed ∷ [] → used_in hand_new.renamed ≡ used_in hand.renamed ++ numbers_of_row after.types renamed
    → TakesRow old before after row hand hand_new
takes_one old before after row renamed hand hand_new types_on words_on to rows used = record {
  goes = λ version messages message is has. record {
    canonical = subst (λ (l : List Row). AreCanonical version l after.types after.words (messages ++ message ∷ [])) (sym rows)
        (canonical_push version hand.draft.columns.rows renamed after.types after.words messages message
        (all_stay version hand.draft.columns.rows before.types before.words after.types after.words messages types_on words_on has.canonical)
        (renamed_means_same version row renamed old.types old.words after.types after.words message to is));
    used = used ∙ ap (λ l. l ++ numbers_of_row after.types renamed) (has.used ∙ numbers_stay version hand.draft.columns.rows before.types before.words after.types messages types_on has.canonical)
        ∙ sym (numbers_push (numbers_of_row after.types) hand.draft.columns.rows renamed) ∙ ap (λ (l : List Row). flat_map (numbers_of_row after.types) l) (sym rows);
  };
  rows_long = ap length rows ∙ length-append hand.draft.columns.rows (renamed ∷ []);
  words_long = ap variable_count rows ∙ variables_push hand.draft.columns.rows renamed ∙ ap (λ n. variable_count hand.draft.columns.rows + n) (renamed_long old.words after.words (kinds_from false to.text) row.words renamed.words to.words_are);
}

-- ---- many rows

none_of_none : (version : ℕ) (types words ms : List (List ℕ)) → AreCanonical version [] types words ms → ms ≡ []
none_of_none version types words [] are = refl
none_of_none version types words (m ∷ ms) are = absurd are

pub takes_none : (old texts : Texts) (hand : Hand) → TakesAll old texts texts [] hand hand
takes_none old texts hand = record {
  goes = λ version messages more are has. subst (λ l. HasInHand version texts l hand) (sym (ap (λ l. messages ++ l) (none_of_none version old.types old.words more are) ∙ append-nil messages)) has;
  rows_long = omega arith;
  words_long = omega arith;
}

pub takes_more : (old before middle after : Texts) (rows : List Row) (i : ℕ) (row : Row) (hand hand_mid hand_new : Hand) → slice_get rows i ≡ Some row
    → TakesAll old before middle (take i rows) hand hand_mid → TakesRow old middle after row hand_mid hand_new → TakesAll old before after (take (suc i) rows) hand hand_new
takes_more old before middle after rows i row hand hand_mid hand_new at all one = record {
  goes = λ version messages more are has.
      let cut = parted version (take i rows) row old.types old.words more (subst (λ (l : List Row). AreCanonical version l old.types old.words more) (take_push rows i row at) are) in
      let joins : (messages ++ cut.front) ++ cut.last ∷ [] ≡ messages ++ more = append_assoc messages cut.front (cut.last ∷ []) ∙ ap (λ l. messages ++ l) (sym cut.is) in
      subst (λ l. HasInHand version after l hand_new) joins (one.goes version (messages ++ cut.front) cut.last cut.encoding (all.goes version messages cut.front cut.canonical has));
  rows_long = omega (arith, one.rows_long, all.rows_long, ap length (take_push rows i row at), length-append (take i rows) (row ∷ []));
  words_long = omega (arith, one.words_long, all.words_long, ap variable_count (take_push rows i row at), variables_push (take i rows) row);
}

-- a row of rows that may be taken may be taken
pub may_take : (old before middle : Texts) (rows : List Row) (i : ℕ) (row : Row) (hand hand_mid : Hand) → slice_get rows i ≡ Some row
    → TakesAll old before middle (take i rows) hand hand_mid → MayTakeAll old.types old.words rows hand → MayTake old.types old.words row hand_mid
may_take old before middle rows i row hand hand_mid at all may = record {
  may = may.each i row at;
  few = omega (arith, may.few, all.words_long, ap variable_count (take_push rows i row at), variables_push (take i rows) row, sum_by-take-le (λ (r : Row). length r.words) rows (suc i));
}

-- ---- what is named, and the marks

pub both_none : (P : Which → List ℕ → Type 0) (types words : List (List ℕ)) (t w : Known) (tables : Tables) → AreTables types words t.texts w.texts tables → HasNamedBoth P types words t t w w tables
both_none P types words t w tables are = record { types_grown = grows_self (P Types) t; words_grown = grows_self (P Words) w; kept = are }

pub both_then : (P : Which → List ℕ → Type 0) (types words : List (List ℕ)) (ta tb tc wa wb wc : Known) (tables tables_new : Tables)
    → HasNamedBoth P types words ta tb wa wb tables → HasNamedBoth P types words tb tc wb wc tables_new → HasNamedBoth P types words ta tc wa wc tables_new
both_then P types words ta tb tc wa wb wc tables tables_new one two = record {
  types_grown = grows_then (P Types) ta tb tc one.types_grown two.types_grown;
  words_grown = grows_then (P Words) wa wb wc one.words_grown two.words_grown;
  kept = two.kept;
}

-- one of the rows was named
pub row_named : (old : Texts) (rows : List Row) (i : ℕ) (row : Row) (t t_new w w_new : Known) (tables : Tables) → slice_get rows i ≡ Some row
    → HasNamedBoth (IsTextOfRow old.types old.words row) old.types old.words t t_new w w_new tables → HasNamedBoth (IsTextOfRows old rows) old.types old.words t t_new w w_new tables
row_named old rows i row t t_new w w_new tables at named = record {
  types_grown = grown_weaker (IsTextOfRow old.types old.words row Types) (IsTextOfRows old rows Types) (λ text needs. (row, there, needs)) t t_new named.types_grown;
  words_grown = grown_weaker (IsTextOfRow old.types old.words row Words) (IsTextOfRows old rows Words) (λ text needs. (row, there, needs)) w w_new named.words_grown;
  kept = named.kept;
}
  where
    there : Contains rows row
    there = (i, slice_get_within rows i row at, get_or_from_slice_get rows i row row at)

pub marks_then : (a b c : Hand) → SameMarks a b → SameMarks b c → SameMarks a c
marks_then a b c one two = record { file = two.file ∙ one.file; first = two.first ∙ one.first; last = two.last ∙ one.last; ended = two.ended ∙ one.ended }

-- ---- why a row was not renamed

pub stopped_full : (r : RenameRefusal) (book : Which) (count : ℕ) → stop_by r ≡ StopFull book count → r ≡ Full book count
stopped_full (Full b n) book count is = cc
stopped_full Damaged book count is = absurd (cc (is))
stopped_full OutOfMemory book count is = absurd (cc (is))

pub stopped_damaged : (r : RenameRefusal) → stop_by r ≡ SecondDamaged → r ≡ Damaged
stopped_damaged (Full b n) is = absurd (cc (is))
stopped_damaged Damaged is = refl
stopped_damaged OutOfMemory is = absurd (cc (is))

pub stopped_no_fault : (r : RenameRefusal) → stop_by r ≡ SecondFault → ⊥
stopped_no_fault (Full b n) is = absurd (cc (is))
stopped_no_fault Damaged is = absurd (cc (is))
stopped_no_fault OutOfMemory is = absurd (cc (is))
