-- A segment that goes on with its file.
use Rattle.std.proofs.Common.{◌≡◌, ℕ, zero, suc, List, [], ◌∷◌, ◌++◌, All, arith, sym, ap, ◌∙◌, subst, length}
use Rattle.std.specs.Prelude.{Bool, IsTrue, Option, Some, false, map, slice_get, true}
use Rattle.std.specs.List.{flat_map}
use Rattle.std.proofs.lemmas.List.Elements.{All-contains}
use Rattle.logtype_text.specs.Fair.{IsFairType, IsFairWord}
use Rattle.logtype_text.specs.declared.symbols.Kind.TheVariants.{Whole, Word, Decimal}
use Rattle.logtype_text.specs.Parts.{Constant, Part, Variable, symbol_of}
use Rattle.logtype_text.specs.TypeText.{type_text}
use Rattle.column_store.specs.declared.row.Row.{Row}
use Rattle.column_store.specs.Row.{variable_count}
use Rattle.row_codec.specs.Means.{AreCanonical, EachWord, HasWord, Means}
use Rattle.row_codec.specs.Numbers.{numbers_of_row}
use Rattle.row_codec.proofs.EncoderLemmas.{kinds_are, slots}
use Rattle.row_rename.specs.Causes.{HasFairText, MayRename, MayRenameWords}
use Rattle.row_rename.specs.Renamed.{used_in}
use Rattle.row_rename.proofs.TableLemmas.{contains_at}
use Rattle.archive_meaning.specs.declared.sums.FileSum.{FileSum}
use Rattle.archive_core.specs.declared.segment.Part.{Part as FilePart}
use Rattle.archive_core.specs.Part.{MayFollow}
use Rattle.archive_core.proofs.SegmentLemmas.{ends_of, may_of}
use Rattle.archive_open.specs.declared.segments.SegmentPlace.{SegmentPlace}
use Rattle.archive_merge.specs.declared.hand.Hand.{Hand}
use Rattle.archive_merge.specs.InHand.{TakesAll, Texts, sum_in}
use Rattle.archive_merge.specs.Next.{HasMarksOf, HoldsNext, TakesNext, part_of}
use Rattle.archive_merge.specs.Taken.{MayTakeSegment, TakesSegment}

pub not_true : (b : Bool) → b ≡ false → IsTrue b → ⊥
not_true b is true_is = absurd (cc (is, true_is))

-- ---- rows of a legal archive may be taken over

abbrev fair_at : (IsFair : List ℕ → Type 0) (texts : List (List ℕ)) (number : ℕ) (text : List ℕ) → All IsFair texts → slice_get texts number ≡ Some text → HasFairText IsFair texts number
fair_at IsFair texts number text fair at = record { text = text; at = at; fair = All-contains IsFair texts text fair (contains_at texts number text at) }

words_may : (words : List (List ℕ)) (parts : List Part) (row : List ℕ) → All IsFairWord words → EachWord (HasWord words) parts row → MayRenameWords words (slots parts) row
words_may words [] [] fair each = tt
words_may words [] (w ∷ row) fair each = absurd each
words_may words (Constant b ∷ parts) row fair each = words_may words parts row fair each
words_may words (Variable kind text ∷ parts) [] fair each = absurd each
words_may words (Variable Whole text ∷ parts) (w ∷ row) fair each = words_may words parts row fair each.1
words_may words (Variable Word text ∷ parts) (w ∷ row) fair each = (fair_at IsFairWord words w text fair each.0.1, words_may words parts row fair each.1)
words_may words (Variable Decimal text ∷ parts) (w ∷ row) fair each = words_may words parts row fair each.1

row_may : (types words : List (List ℕ)) (row : Row) (message : List ℕ) → All IsFairType types → All IsFairWord words → Means row types words message → MayRename types words row
row_may types words row message fair_types fair_words means =
    let text = type_text (map symbol_of means.parts) in
    record {
      log_type = fair_at IsFairType types row.log_type text fair_types means.typed;
      words_may = subst (λ k. MayRenameWords words k row.words) (sym (kinds_are means.parts)) (words_may words means.parts row.words fair_words means.coded);
    }

each_may : (version : ℕ) (types words : List (List ℕ)) (rows : List Row) (messages : List (List ℕ)) → All IsFairType types → All IsFairWord words → AreCanonical version rows types words messages
    → (place : ℕ) (row : Row) → slice_get rows place ≡ Some row → MayRename types words row
each_may version types words [] messages fair_types fair_words are place row at = absurd (cc (at))
each_may version types words (r ∷ rows) [] fair_types fair_words are place row at = absurd are
each_may version types words (r ∷ rows) (m ∷ messages) fair_types fair_words are zero row at =
    let same : r ≡ row = cc (at) in subst (λ (x : Row). MayRename types words x) same (row_may types words r m fair_types fair_words are.0.means)
each_may version types words (r ∷ rows) (m ∷ messages) fair_types fair_words are (suc place) row at = each_may version types words rows messages fair_types fair_words are.1 place row at

module _ (version : ℕ) (old : Texts) (place : SegmentPlace) (bytes : List ℕ) (hand : Hand) where
  pub may_take_next : hand.draft.columns.rows ≡ [] → HoldsNext version old place bytes hand → MayTakeSegment version old place bytes hand
  may_take_next none has = record {
    rows = has.rows;
    messages = has.messages;
    holds = has.holds;
    few = has.adds.rows;
    are = (has.adds.canonical, has.adds.each);
    may = record {
      each = each_may version old.types old.words has.rows has.messages has.fair_types has.fair_words has.adds.canonical;
      few = omega (arith, ap variable_count none, has.adds.variables);
    };
  }

-- ---- what follows

-- the same of as many rows and variables
follows_same : (sum : FileSum) (part : FilePart) (rows others : List Row) → length others ≡ length rows → variable_count others ≡ variable_count rows → MayFollow sum part rows → MayFollow sum part others
follows_same sum part rows others long many may = record {
  first = may.first;
  goes_on = may.goes_on;
  most = omega (arith, may.most, long);
  count = omega (arith, may.count, long);
  variables = omega (arith, may.variables, many);
  some = λ last. omega (arith, may.some last, long);
  ended = may.ended;
}

module _ (version : ℕ) (old before after : Texts) (place : SegmentPlace) (seen : Option (List ℕ)) (hand hand_new : Hand) (open_end : Bool)
    (took : TakesSegment version old before after place seen hand hand_new hand.open_end open_end) (none : hand.draft.columns.rows ≡ []) where
  -- rows that may not follow are those of no segment that goes on with the file
  pub not_following : (bytes : List ℕ) → seen ≡ Some bytes → (MayFollow (sum_in hand) (part_of place.head) hand_new.draft.columns.rows → ⊥) → HoldsNext version old place bytes hand → ⊥
  not_following bytes told not has =
      let all = took.told bytes has.rows told has.holds in
      not (follows_same (sum_in hand) (part_of place.head) has.rows hand_new.draft.columns.rows
      (omega (arith, took.takes.takes.rows_long, ap length none, ap length all)) (omega (arith, took.takes.takes.words_long, ap variable_count none, ap variable_count all))
      (may_of version (sum_in hand) old.types old.words (part_of place.head) has.rows has.messages has.adds))

  -- nor do rows whose file may not end so
  pub not_ending : (bytes : List ℕ) → seen ≡ Some bytes → ((place.head.last ≡ true → place.head.ended ≡ false → open_end ≡ true) → ⊥) → HoldsNext version old place bytes hand → ⊥
  not_ending bytes told not has =
      let all = took.told bytes has.rows told has.holds in
      let canonical = subst (λ (l : List Row). AreCanonical version l old.types old.words took.takes.more) (sym all) took.takes.source.0 in
      not (ends_of version (sum_in hand) old.types old.words (part_of place.head) has.rows has.messages took.takes.more open_end has.adds (canonical, took.takes.source.1) took.takes.open_is)

  pub takes_next : (new : Hand) → new.draft.columns ≡ hand_new.draft.columns → new.renamed ≡ hand_new.renamed → new.open_end ≡ open_end → HasMarksOf place.head hand new
      → MayFollow (sum_in hand) (part_of place.head) hand_new.draft.columns.rows → (place.head.last ≡ true → place.head.ended ≡ false → open_end ≡ true)
      → TakesNext version old before after place seen hand new
  takes_next new columns renamed open_is marks follows end = record {
    rows = took.rows;
    messages = took.takes.more;
    source = took.takes.source;
    takes = taken_same;
    told = took.told;
    follows = subst (λ c. MayFollow (sum_in hand) (part_of place.head) c.rows) (sym columns) follows;
    marks = marks;
    open_is = open_is ∙ took.takes.open_is;
    end = λ last ended. open_is ∙ end last ended;
  }
    where
      taken_same : TakesAll old before after took.rows hand new
      taken_same = record {
        goes = λ v messages more are has. let was = took.takes.takes.goes v messages more are has in record {
          canonical = subst (λ c. AreCanonical v c.rows after.types after.words (messages ++ more)) (sym columns) was.canonical;
          used = ap (λ r. used_in r) renamed ∙ (was.used ∙ ap (λ c. flat_map (numbers_of_row after.types) c.rows) (sym columns));
        };
        rows_long = ap (λ c. length c.rows) columns ∙ took.takes.takes.rows_long;
        words_long = ap (λ c. variable_count c.rows) columns ∙ took.takes.takes.words_long;
      }
