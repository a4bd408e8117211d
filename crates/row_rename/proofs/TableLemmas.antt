-- What is known of texts stays as more of them are named, and why one was not named.
use Rattle.std.proofs.Common.{◌≡◌, ◌≢◌, ℕ, zero, suc, List, [], ◌∷◌, ◌++◌, append_assoc, length, sym, ◌∙◌, ap, subst, arith}
use Rattle.std.specs.Prelude.{MatchOption, is_some, true, Option, None, Some, slice_get, slice_range}
use Rattle.std.specs.List.{Contains}
use Rattle.std.proofs.lemmas.List.{append-nil, take_rest}
use Rattle.std.proofs.lemmas.List.Elements.{All-weaker}
use Rattle.std.proofs.lemmas.Option.{get_or_from_slice_get, slice_get_within}
use mathlib.Core.List.{IsPrefix}
use Rattle.logtype_text.specs.declared.spans.Span.{Span}
use Rattle.logtype_text.specs.Encoded.{texts_at}
use Rattle.row_codec.specs.declared.namer.NameRefusal.{NameRefusal}
use Rattle.row_codec.specs.declared.namer.NameRefusal.TheVariants.{Full, OutOfMemory}
use Rattle.row_codec.specs.declared.namer.Which.{Which}
use Rattle.row_codec.specs.declared.namer.Which.TheVariants.{Types, Words}
use Rattle.row_codec.specs.Naming.{HasGrown, Known, MetLimit}
use Rattle.row_codec.proofs.GrowthLemmas.{grows_self, grows_then}
use Rattle.row_codec.proofs.MeansLemmas.{prefix_keeps}
use Rattle.row_rename.specs.declared.log_types.LogType.{LogType}
use Rattle.row_rename.specs.declared.refusal.RenameRefusal.TheVariants.{Full as RenameFull}
use Rattle.row_rename.specs.Causes.{IsFullOf, refused_by}
use Rattle.row_rename.specs.Renamed.{HaveOneText, IsTextAt}
use Rattle.row_rename.specs.declared.tables.Tables.{Tables}
use Rattle.row_rename.specs.Tables.{AreLogTypes, HasNamedBoth, HasNamedSome, IsLogType, IsTable}

-- ---- lists of texts

pub front_self : (xs : List (List ℕ)) → IsPrefix xs xs
front_self xs = ([], append-nil xs)

pub front_then : (xs ys zs : List (List ℕ)) → IsPrefix xs ys → IsPrefix ys zs → IsPrefix xs zs
front_then xs ys zs (a, a_is) (b, b_is) = (a ++ b, sym (append_assoc xs a b) ∙ ap (λ l. l ++ b) a_is ∙ b_is)

pub contains_at : (texts : List (List ℕ)) (number : ℕ) (text : List ℕ) → slice_get texts number ≡ Some text → Contains texts text
contains_at texts number text at = (number, slice_get_within texts number text at, get_or_from_slice_get texts number text text at)

-- ---- what stays

pub one_text_stays : (old new more : List (List ℕ)) (number renamed : ℕ) → IsPrefix new more → HaveOneText old new number renamed → HaveOneText old more number renamed
one_text_stays old new more number renamed front has = record { text = has.text; was = has.was; is = prefix_keeps new more renamed has.text front has.is }

pub table_stays : (old new more : List (List ℕ)) (numbers : List ℕ) → IsPrefix new more → IsTable old new numbers → IsTable old more numbers
table_stays old new more numbers front is = λ number renamed at other. one_text_stays old new more number renamed front (is number renamed at other)

pub log_type_stays : (old new more : List (List ℕ)) (number : ℕ) (l : LogType) → IsPrefix new more → IsLogType old new number l → IsLogType old more number l
log_type_stays old new more number l front is = record { text = is.text; was = is.was; is = prefix_keeps new more l.number is.text front is.is; kinds = is.kinds }

pub log_types_stay : (old new more : List (List ℕ)) (named : List (Option LogType)) → IsPrefix new more → AreLogTypes old new named → AreLogTypes old more named
log_types_stay old new more named front are = λ number l at. log_type_stays old new more number l front (are number l at)

pushed_none : (named : List (Option LogType)) (number : ℕ) (l : LogType) → slice_get (named ++ None ∷ []) number ≡ Some (Some l) → slice_get named number ≡ Some (Some l)
pushed_none [] zero l at = absurd (cc (at))
pushed_none [] (suc number) l at = absurd (cc (at))
pushed_none (x ∷ named) zero l at = at
pushed_none (x ∷ named) (suc number) l at = pushed_none named number l at

pub none_more : (old new : List (List ℕ)) (named : List (Option LogType)) → AreLogTypes old new named → AreLogTypes old new (named ++ None ∷ [])
none_more old new named are = λ number l at. are number l (pushed_none named number l at)

-- ---- what is named

pub grown_weaker : (P Q : List ℕ → Type 0) → ((t : List ℕ) → P t → Q t) → (known more : Known) → HasGrown P known more → HasGrown Q known more
grown_weaker P Q weaker known more grown = record {
  limit = grown.limit;
  front = grown.front;
  more = grown.more;
  added = grown.added;
  allowed = All-weaker P Q weaker grown.more grown.allowed;
}

-- the text with a number was named
pub grown_text : (old : List (List ℕ)) (number : ℕ) (text : List ℕ) (known more : Known) → slice_get old number ≡ Some text → HasGrown (λ t. t ≡ text) known more → HasGrown (IsTextAt old number) known more
grown_text old number text known more at = grown_weaker (λ (t : List ℕ). t ≡ text) (IsTextAt old number) (λ t same. subst (IsTextAt old number) (sym same) at) known more

-- a text as a place of itself
pub whole_text : (text : List ℕ) (whole : Span) → whole.start ≡ 0 → whole.end ≡ length text → texts_at text (whole ∷ []) ≡ text ∷ []
whole_text text whole start end =
    ap (λ (t : List ℕ). t ∷ [])
    (ap (λ a. slice_range text a whole.end) start ∙ ap (λ b. slice_range text 0 b) end ∙ take_rest text 0)

one_of_one : (text t : List ℕ) → Contains (text ∷ []) t → t ≡ text
one_of_one text t (zero, low, is) = sym is
one_of_one text t (suc k, low, is) = absurd (omega (arith, low))

pub grown_spans : (old : List (List ℕ)) (number : ℕ) (text : List ℕ) (texts : List (List ℕ)) (known more : Known) → texts ≡ text ∷ [] → slice_get old number ≡ Some text
    → HasGrown (Contains texts) known more → HasGrown (IsTextAt old number) known more
grown_spans old number text texts known more is at =
    grown_weaker (Contains texts) (IsTextAt old number) (λ t held. subst (IsTextAt old number) (sym (one_of_one text t (subst (λ l. Contains l t) is held))) at) known more

-- ---- a full dictionary

one_at : (text t : List ℕ) (at : ℕ) → slice_get (text ∷ []) at ≡ Some t → t ≡ text
one_at text t zero is = cc
one_at text t (suc at) is = absurd (cc (is))

pub full_of : (old : List (List ℕ)) (text : List ℕ) (texts : List (List ℕ)) (known : Known) (count : ℕ) → texts ≡ text ∷ [] → Contains old text → MetLimit known texts count → IsFullOf old known count
full_of old text texts known count is has met =
    let same : met.text ≡ text = one_at text met.text met.at (ap (λ l. slice_get l met.at) (sym is) ∙ met.here) in
    record { text = met.text; is = subst (Contains old) (sym same) has; new = met.new; all = met.all; most = met.most }

pub refused_full : (r : NameRefusal) (book : Which) (count : ℕ) → refused_by r ≡ RenameFull book count → r ≡ Full book count
refused_full (Full b n) book count is = cc
refused_full OutOfMemory book count is = absurd (cc (is))

-- ---- a table after a naming

pub named_none : (P : List ℕ → Type 0) (old : List (List ℕ)) (known : Known) (numbers : List ℕ) → IsTable old known.texts numbers → HasNamedSome P old known known numbers
named_none P old known numbers is = record { grown = grows_self P known; kept = is }

pub named_one : (P : List ℕ → Type 0) (old : List (List ℕ)) (known more : Known) (before numbers : List ℕ) → HasGrown P known more → IsTable old known.texts before
    → (IsTable old more.texts before → IsTable old more.texts numbers) → HasNamedSome P old known more numbers
named_one P old known more before numbers grown is set = record { grown = grown; kept = set (table_stays old known.texts more.texts before grown.front is) }

pub named_then : (P : List ℕ → Type 0) (old : List (List ℕ)) (a b c : Known) (some numbers : List ℕ) → HasNamedSome P old a b some → HasNamedSome P old b c numbers → HasNamedSome P old a c numbers
named_then P old a b c some numbers one two = record { grown = grows_then P a b c one.grown two.grown; kept = two.kept }

pub named_weaker : (P Q : List ℕ → Type 0) → ((t : List ℕ) → P t → Q t) → (old : List (List ℕ)) (known more : Known) (numbers : List ℕ) → HasNamedSome P old known more numbers → HasNamedSome Q old known more numbers
named_weaker P Q weaker old known more numbers named = record { grown = grown_weaker P Q weaker known more named.grown; kept = named.kept }

-- ---- log types

-- what is found is known
pub found_known : {A : Type 0} (r : Option A) (now : A → LogType) (named : List (Option LogType)) (number : ℕ) → MatchOption r ((l : LogType) → slice_get named number ≢ Some (Some l)) (λ a. slice_get named number ≡ Some (Some (now a))) → is_some r ≡ true → (l : LogType) × (slice_get named number ≡ Some (Some l))
found_known None now named number told some = absurd (cc (some))
found_known (Some a) now named number told some = (now a, told)

-- only log types were named
pub named_types : (P : Which → List ℕ → Type 0) (types words : List (List ℕ)) (t t_new w w_new : Known) (tables : Tables) → HasGrown (P Types) t t_new → w_new ≡ w
    → AreLogTypes types t_new.texts tables.log_types.named.items → IsTable words w.texts tables.words.numbers.items
    → HasNamedBoth P types words t t_new w w_new tables
named_types P types words t t_new w w_new tables grown same are is = record {
  types_grown = grown;
  words_grown = subst (λ (k : Known). HasGrown (P Words) w k) (sym same) (grows_self (P Words) w);
  kept = record { log_types = are; words_are = subst (λ (k : Known). IsTable words k.texts tables.words.numbers.items) (sym same) is };
}

-- and then words
pub named_words : (P : Which → List ℕ → Type 0) (types words : List (List ℕ)) (t t_mid t_new w w_mid w_new : Known) (tables : Tables) → HasGrown (P Types) t t_mid → t_new ≡ t_mid
    → AreLogTypes types t_mid.texts tables.log_types.named.items → w_mid ≡ w → HasNamedSome (P Words) words w_mid w_new tables.words.numbers.items
    → HasNamedBoth P types words t t_new w w_new tables
named_words P types words t t_mid t_new w w_mid w_new tables grown same are before some = record {
  types_grown = subst (λ (k : Known). HasGrown (P Types) t k) (sym same) grown;
  words_grown = subst (λ (k : Known). HasGrown (P Words) k w_new) before some.grown;
  kept = record { log_types = subst (λ (k : Known). AreLogTypes types k.texts tables.log_types.named.items) (sym same) are; words_are = some.kept };
}
