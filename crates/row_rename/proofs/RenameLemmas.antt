-- Rows with the numbers of another archive.
use Rattle.std.proofs.Common.{◌≡◌, ℕ, List, [], ◌∷◌, ◌++◌, append_assoc, length, map, refl, sym, ◌∙◌, ap, ap₂, subst, arith, false, ◌<◌}
use Rattle.std.specs.Prelude.{ℤ, Some, slice_get, slice_index_or}
use Rattle.std.proofs.lemmas.List.{append-nil}
use Rattle.std.proofs.lemmas.List.Elements.{Contains-append_left, Contains-append_right, Contains-get_or}
use Rattle.std.specs.List.{Contains}
use Rattle.std.proofs.lemmas.Option.{get_or_from_slice_get}
use mathlib.Core.List.{IsPrefix}
use Rattle.logtype_text.specs.declared.symbols.Kind.{Kind}
use Rattle.logtype_text.specs.declared.symbols.Kind.TheVariants.{Whole, Word, Decimal}
use Rattle.logtype_text.specs.Fair.{IsFairWord}
use Rattle.logtype_text.specs.Parts.{Part, Constant, Variable, symbol_of}
use Rattle.logtype_text.specs.TypeText.{type_text}
use Rattle.column_store.specs.declared.row.Row.{Row}
use Rattle.row_codec.specs.Means.{EachWord, HasWord, IsCanonical}
use Rattle.row_codec.specs.Numbers.{kinds_from, word_numbers}
use Rattle.row_codec.proofs.EncoderLemmas.{kinds_are, slots}
use Rattle.row_rename.specs.Causes.{HasFairText, MayRename, MayRenameWords}
use Rattle.row_rename.specs.Laws.{RenamedMeansSame}
use Rattle.row_rename.specs.Renamed.{AreRenamed, IsRenamed, IsSlot, IsTextAmong, IsTextAt}
use Rattle.row_rename.specs.StepsPut.{HasPut, PutsSlot}
use Rattle.row_codec.specs.Naming.{Known}
use Rattle.row_rename.specs.declared.log_types.LogType.{LogType}
use Rattle.row_rename.specs.Tables.{IsLogType}
use Rattle.row_rename.proofs.TableLemmas.{front_self, front_then, one_text_stays}

same_at : (texts : List (List ℕ)) (number : ℕ) (a b : List ℕ) → slice_get texts number ≡ Some a → slice_get texts number ≡ Some b → a ≡ b
same_at texts number a b one two = let found : Some a ≡ Some b = sym one ∙ two in cc

-- ---- the law

word_renamed : (old new : List (List ℕ)) (kind : Kind) (text : List ℕ) (word renamed : ℕ) → IsSlot old new kind word renamed → HasWord old kind text word → HasWord new kind text renamed
word_renamed old new Whole text word renamed same has = subst (HasWord new Whole text) (sym same) has
word_renamed old new Decimal text word renamed same has = subst (HasWord new Decimal text) (sym same) has
word_renamed old new Word text word renamed one has =
    (has.0, one.is ∙ ap (λ (t : List ℕ). Some t) (same_at old word one.text text one.was has.1))

words_renamed : (old new : List (List ℕ)) (parts : List Part) (words renamed : List ℕ) → AreRenamed old new (slots parts) words renamed → EachWord (HasWord old) parts words → EachWord (HasWord new) parts renamed
words_renamed old new [] [] [] are has = tt
words_renamed old new [] [] (r ∷ renamed) are has = absurd are
words_renamed old new [] (w ∷ words) renamed are has = absurd has
words_renamed old new (Constant b ∷ parts) words renamed are has = words_renamed old new parts words renamed are has
words_renamed old new (Variable kind text ∷ parts) [] renamed are has = absurd has
words_renamed old new (Variable kind text ∷ parts) (w ∷ words) [] are has = absurd are
words_renamed old new (Variable kind text ∷ parts) (w ∷ words) (r ∷ renamed) are has =
    (word_renamed old new kind text w r are.0 has.0, words_renamed old new parts words renamed are.1 has.1)

abbrev row_with : ℕ → ℤ → Row → Row
row_with pattern moment row = record { pattern = pattern; moment = moment; log_type = row.log_type; words = row.words }

row_same : (row renamed : Row) → renamed.pattern ≡ row.pattern → renamed.moment ≡ row.moment → row_with row.pattern row.moment renamed ≡ renamed
row_same row renamed pattern moment = ap₂ (λ k m. row_with k m renamed) (sym pattern) (sym moment)

pub renamed_means_same : RenamedMeansSame
renamed_means_same version row renamed types words new_types new_words message to is =
    let parts = is.means.parts in
    let text : to.text ≡ type_text (map symbol_of parts) = same_at types row.log_type to.text (type_text (map symbol_of parts)) to.was is.means.typed in
    let kinds : kinds_from false to.text ≡ slots parts = ap (λ (t : List ℕ). kinds_from false t) text ∙ kinds_are parts in
    let built : IsCanonical version (row_with row.pattern row.moment renamed) new_types new_words message = record {
      means = record {
        stamp = is.means.stamp;
        parts = parts;
        typed = to.is ∙ ap (λ (t : List ℕ). Some t) text;
        coded = words_renamed words new_words parts row.words renamed.words (subst (λ (k : List Kind). AreRenamed words new_words k row.words renamed.words) kinds to.words_are) is.means.coded;
        stamped = is.means.stamped;
        is = is.means.is;
      };
      body = is.body;
      stamp = is.stamp;
    } in
    subst (λ (r : Row). IsCanonical version r new_types new_words message) (row_same row renamed to.pattern to.moment) built

-- ---- slot by slot

pub slot_stays : (old new more : List (List ℕ)) (kind : Kind) (word renamed : ℕ) → IsPrefix new more → IsSlot old new kind word renamed → IsSlot old more kind word renamed
slot_stays old new more Whole word renamed front is = is
slot_stays old new more Decimal word renamed front is = is
slot_stays old new more Word word renamed front is = one_text_stays old new more word renamed front is

pub put_none : (old new : List (List ℕ)) (kinds : List Kind) (words : List ℕ) → HasPut old new kinds kinds words words [] []
put_none old new kinds words = record {
  leads = λ more tail front are. are;
  numbers = λ tail. refl;
  may = λ may. may;
  within = λ number there. there;
}

numbers_first : (kind : Kind) (rest : List Kind) (renamed : ℕ) (tail : List ℕ) → word_numbers (kind ∷ rest) (renamed ∷ tail) ≡ word_numbers (kind ∷ []) (renamed ∷ []) ++ word_numbers rest tail
numbers_first Whole rest renamed tail = refl
numbers_first Decimal rest renamed tail = refl
numbers_first Word rest renamed tail = refl

may_rest : (old : List (List ℕ)) (kind : Kind) (kinds : List Kind) (word : ℕ) (words : List ℕ) → MayRenameWords old (kind ∷ kinds) (word ∷ words) → MayRenameWords old kinds words
may_rest old Whole kinds word words may = may
may_rest old Decimal kinds word words may = may
may_rest old Word kinds word words may = may.1

number_first : (kind : Kind) (rest : List Kind) (word : ℕ) (left : List ℕ) (number : ℕ) → Contains (word_numbers (kind ∷ []) (word ∷ [])) number → Contains (word_numbers (kind ∷ rest) (word ∷ left)) number
number_first kind rest word left number there = subst (λ l. Contains l number) (sym (numbers_first kind rest word left)) (Contains-append_left (word_numbers (kind ∷ []) (word ∷ [])) (word_numbers rest left) number there)

number_rest : (kind : Kind) (rest : List Kind) (word : ℕ) (left : List ℕ) (number : ℕ) → Contains (word_numbers rest left) number → Contains (word_numbers (kind ∷ rest) (word ∷ left)) number
number_rest kind rest word left number there = subst (λ l. Contains l number) (sym (numbers_first kind rest word left)) (Contains-append_right (word_numbers (kind ∷ []) (word ∷ [])) (word_numbers rest left) number there)

-- the text of a word in a slot for words
pub slot_text : (texts : List (List ℕ)) (kind : Kind) (word : ℕ) → kind ≡ Word → (text : List ℕ) → IsTextAt texts word text → IsTextAmong texts (word_numbers (kind ∷ []) (word ∷ [])) text
slot_text texts kind word is text at = subst (λ k. IsTextAmong texts (word_numbers (k ∷ []) (word ∷ [])) text) (sym is) (word, Contains-get_or (word ∷ []) 0 word (omega arith), at)

-- the next slot and its word
pub put_at : (old new : List (List ℕ)) (kinds rest rest_is : List Kind) (words left left_is out done : List ℕ) → rest ≡ rest_is → left ≡ left_is → HasPut old new kinds rest words left out done → HasPut old new kinds rest_is words left_is out done
put_at old new kinds rest rest_is words left left_is out done at first has = subst (λ l. HasPut old new kinds rest_is words l out done) first (subst (λ k. HasPut old new kinds k words left out done) at has)

-- a text of the next slot is one of all slots
pub text_within : (old new : List (List ℕ)) (kinds rest : List Kind) (kind : Kind) (words left : List ℕ) (word : ℕ) (out done : List ℕ) → HasPut old new kinds (kind ∷ rest) words (word ∷ left) out done
    → (text : List ℕ) → IsTextAmong old (word_numbers (kind ∷ []) (word ∷ [])) text → IsTextAmong old (word_numbers kinds words) text
text_within old new kinds rest kind words left word out done has text (number, there, at) = (number, has.within number (number_first kind rest word left number there), at)

behind : (out out_new : List ℕ) (renamed : ℕ) (tail : List ℕ) → out_new ≡ out ++ renamed ∷ [] → out ++ renamed ∷ tail ≡ out_new ++ tail
behind out out_new renamed tail added = sym (append_assoc out (renamed ∷ []) tail) ∙ ap (λ l. l ++ tail) (sym added)

-- a slot more
pub put_more : (old new more : List (List ℕ)) (kinds rest : List Kind) (kind : Kind) (words left : List ℕ) (word : ℕ) (out out_new done used used_new : List ℕ)
    → HasPut old new kinds (kind ∷ rest) words (word ∷ left) out done → IsPrefix new more
    → (put : PutsSlot old more kind word out out_new used used_new)
    → HasPut old more kinds rest words left out_new (done ++ word_numbers (kind ∷ []) (put.renamed ∷ []))
put_more old new more kinds rest kind words left word out out_new done used used_new has front put = record {
  leads = λ further tail onward are.
      subst (λ l. AreRenamed old further kinds words l) (behind out out_new put.renamed tail put.added)
      (has.leads further (put.renamed ∷ tail) (front_then new more further front onward) (slot_stays old more further kind word put.renamed onward put.is, are));
  numbers = λ tail.
      ap (λ l. word_numbers kinds l) (sym (behind out out_new put.renamed tail put.added)) ∙ has.numbers (put.renamed ∷ tail)
      ∙ ap (λ l. done ++ l) (numbers_first kind rest put.renamed tail) ∙ sym (append_assoc done (word_numbers (kind ∷ []) (put.renamed ∷ [])) (word_numbers rest tail));
  may = λ may. may_rest old kind rest word left (has.may may);
  within = λ number there. has.within number (number_rest kind rest word left number there);
}

-- all slots have their words
pub put_all : (old new : List (List ℕ)) (kinds rest : List Kind) (words left out done : List ℕ) → length rest ≡ 0 → length left ≡ 0 → HasPut old new kinds rest words left out done → AreRenamed old new kinds words out
put_all old new kinds [] words [] out done none none_left has = subst (λ l. AreRenamed old new kinds words l) (append-nil out) (has.leads new [] (front_self new) tt)
put_all old new kinds (k ∷ rest) words left out done none none_left has = absurd (omega (arith, none))
put_all old new kinds [] words (w ∷ left) out done none none_left has = absurd (omega (arith, none_left))

pub numbers_all : (old new : List (List ℕ)) (kinds rest : List Kind) (words left out done : List ℕ) → length rest ≡ 0 → HasPut old new kinds rest words left out done → word_numbers kinds out ≡ done
numbers_all old new kinds [] words left out done none has = ap (λ l. word_numbers kinds l) (sym (append-nil out)) ∙ has.numbers [] ∙ append-nil done
numbers_all old new kinds (k ∷ rest) words left out done none has = absurd (omega (arith, none))

-- ---- a row that may not be renamed

pub none_left : (old : List (List ℕ)) (rest : List Kind) (left : List ℕ) → 0 < length rest → length left ≡ 0 → ¬ MayRenameWords old rest left
none_left old [] left some none may = omega (arith, some)
none_left old (kind ∷ kinds) (w ∷ left) some none may = omega (arith, none)
none_left old (Whole ∷ kinds) [] some none may = may
none_left old (Word ∷ kinds) [] some none may = may
none_left old (Decimal ∷ kinds) [] some none may = may

pub unfair_word : (old : List (List ℕ)) (kind : Kind) (kinds : List Kind) (word : ℕ) (words : List ℕ) → kind ≡ Word → ¬ HasFairText IsFairWord old word → ¬ MayRenameWords old (kind ∷ kinds) (word ∷ words)
unfair_word old kind kinds word words is unfair may = unfair ((subst (λ k. MayRenameWords old (k ∷ kinds) (word ∷ words)) is may).0)

pub row_damaged : (types words new : List (List ℕ)) (row : Row) (l : LogType) (kinds : List Kind) → IsLogType types new row.log_type l → kinds ≡ l.kinds.items → ¬ MayRenameWords words kinds row.words → ¬ MayRename types words row
row_damaged types words new row l kinds is same damaged may =
    let text : may.log_type.text ≡ is.text = same_at types row.log_type may.log_type.text is.text may.log_type.at is.was in
    let all : kinds_from false may.log_type.text ≡ kinds = ap (λ (t : List ℕ). kinds_from false t) text ∙ sym is.kinds ∙ sym same in
    damaged (subst (λ (k : List Kind). MayRenameWords words k row.words) all may.words_may)

-- ---- a whole row

pub row_renamed : (types words new_words : List (List ℕ)) (known more : Known) (row renamed : Row) (l : LogType) (kinds : List Kind)
    → more ≡ known → (is : IsLogType types known.texts row.log_type l) → kinds ≡ l.kinds.items
    → renamed.pattern ≡ row.pattern → renamed.moment ≡ row.moment → renamed.log_type ≡ l.number
    → AreRenamed words new_words kinds row.words renamed.words → IsRenamed types words more.texts new_words row renamed
row_renamed types words new_words known more row renamed l kinds stays is same pattern moment number are = record {
  pattern = pattern;
  moment = moment;
  text = is.text;
  was = is.was;
  is = ap (λ (k : Known). slice_get k.texts renamed.log_type) stays ∙ ap (λ n. slice_get known.texts n) number ∙ is.is;
  words_are = subst (λ (k : List Kind). AreRenamed words new_words k row.words renamed.words) (same ∙ is.kinds) are;
}

-- the numbers of its words are those in slots of these kinds
pub numbers_are : (types new : List (List ℕ)) (number : ℕ) (l : LogType) (kinds : List Kind) (words : List ℕ) → (is : IsLogType types new number l) → kinds ≡ l.kinds.items
    → word_numbers kinds words ≡ word_numbers (kinds_from false (slice_index_or types number [])) words
numbers_are types new number l kinds words is same =
    let here : slice_index_or types number [] ≡ is.text = get_or_from_slice_get types number is.text [] is.was in
    ap (λ (k : List Kind). word_numbers k words) (same ∙ is.kinds ∙ ap (λ (t : List ℕ). kinds_from false t) (sym here))

pub row_numbers : (types : List (List ℕ)) (known more : Known) (number : ℕ) (l : LogType) (kinds : List Kind) (words : List ℕ)
    → more ≡ known → (is : IsLogType types known.texts number l) → kinds ≡ l.kinds.items
    → word_numbers kinds words ≡ word_numbers (kinds_from false (slice_index_or more.texts l.number [])) words
row_numbers types known more number l kinds words stays is same =
    let here : slice_index_or more.texts l.number [] ≡ is.text = ap (λ (k : Known). slice_index_or k.texts l.number []) stays ∙ get_or_from_slice_get known.texts l.number is.text [] is.is in
    ap (λ (k : List Kind). word_numbers k words) (same ∙ is.kinds ∙ ap (λ (t : List ℕ). kinds_from false t) (sym here))
