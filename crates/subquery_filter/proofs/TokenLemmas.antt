-- A token of the pattern stands in a row's stamp, among the constant bytes of its log type, or in the text of a
-- variable.
use Rattle.std.proofs.Common.{◌≡◌, ℕ, zero, suc, Bool, true, false, cond, List, [], ◌∷◌, ◌++◌, length, map, refl, sym, ◌∙◌, ap, subst, inl, inr}
use Rattle.std.specs.Prelude.{◌⊎◌, All, Option, Some, slice_get}
use Rattle.std.proofs.lemmas.List.Elements.{All-head, All-tail}
use Rattle.time_patterns.specs.Stamps.{HasStamp}
use Rattle.logtype_text.specs.declared.symbols.Kind.{Kind}
use Rattle.logtype_text.specs.declared.symbols.Kind.TheVariants.{Whole, Word, Decimal}
use Rattle.logtype_text.specs.declared.symbols.Symbol.TheVariants.{Byte, Slot}
use Rattle.logtype_text.specs.Parts.{Part, Constant, Variable, joined, symbol_of}
use Rattle.logtype_text.specs.TypeText.{is_escaped, text_of_symbol, type_text}
use Rattle.wild_match.specs.Matches.{Match}
use Rattle.row_codec.specs.Means.{EachWord, HasWord}
use Rattle.row_codec.proofs.EncoderLemmas.{slots}
use Rattle.query_plan.specs.Laws.{TokensStand}
use Rattle.query_plan.specs.Needs.{HeldIn, around, marked}
use Rattle.query_plan.specs.Pieces.{flat}
use Rattle.subquery_filter.specs.StepsLetters.{kind_at, kind_before, kinds_in, marked_from}
use Rattle.subquery_filter.specs.Tokens.{RowsBringTokens, StandsInSlot, StandsInType}
use Rattle.subquery_filter.proofs.BarrenLemmas.{body_behind}
use Rattle.subquery_filter.proofs.LetterLemmas.{no_escape, no_kind}
use Rattle.subquery_filter.proofs.VerdictLemmas.{marked_are}

-- ---- the kinds of the slots

kinds_by : (e : Bool) (b : ℕ) (after : List ℕ) → is_escaped b ≡ e → kinds_in false (cond e (0x5C ∷ b ∷ []) (b ∷ []) ++ after) ≡ kinds_in false after
kinds_by true b after is = ap (λ t. cond t (kinds_in false after) []) is
kinds_by false b after is =
    ap (λ t. cond t (kinds_in true after) (kind_before (kind_at b) (kinds_in false after))) (no_escape b is)
    ∙ ap (λ k. kind_before k (kinds_in false after)) (no_kind b is)

-- constants that stand in a text as they are
pub kinds_plain : (bytes rest : List ℕ) → All (λ b. is_escaped b ≡ false) bytes → kinds_in false (bytes ++ rest) ≡ kinds_in false rest
kinds_plain [] rest plain = refl
kinds_plain (b ∷ bytes) rest plain =
    kinds_by false b (bytes ++ rest) (All-head (λ b. is_escaped b ≡ false) b bytes plain)
    ∙ kinds_plain bytes rest (All-tail (λ b. is_escaped b ≡ false) b bytes plain)

pub kinds_byte : (b : ℕ) (after : List ℕ) → kinds_in false (text_of_symbol (Byte b) ++ after) ≡ kinds_in false after
kinds_byte b after = kinds_by (is_escaped b) b after refl

pub kinds_slot : (kind : Kind) (after : List ℕ) → kinds_in false (text_of_symbol (Slot kind) ++ after) ≡ kind ∷ kinds_in false after
kinds_slot Whole after = refl
kinds_slot Word after = refl
kinds_slot Decimal after = refl

pub kinds_are : (parts : List Part) → kinds_in false (type_text (map symbol_of parts)) ≡ slots parts
kinds_are [] = refl
kinds_are (Constant b ∷ parts) = kinds_byte b (type_text (map symbol_of parts)) ∙ kinds_are parts
kinds_are (Variable kind text ∷ parts) = kinds_slot kind (type_text (map symbol_of parts)) ∙ ap (λ l. kind ∷ l) (kinds_are parts)

-- ---- the variable that a text stands in

record InSlot (t : List ℕ) (words : List (List ℕ)) (kinds : List Kind) (row : List ℕ) : Type 0 where
  pub place : ℕ
  pub kind : Kind
  pub word : ℕ
  pub variable : List ℕ
  pub slot : slice_get kinds place ≡ Some kind
  pub at : slice_get row place ≡ Some word
  pub has : HasWord words kind variable word
  pub fits : Match (around t) variable

later : (t : List ℕ) (words : List (List ℕ)) (kinds : List Kind) (row : List ℕ) (kind : Kind) (w : ℕ) → InSlot t words kinds row → InSlot t words (kind ∷ kinds) (w ∷ row)
later t words kinds row kind w h = record { place = suc h.place; kind = h.kind; word = h.word; variable = h.variable; slot = h.slot; at = h.at; has = h.has; fits = h.fits }

held_slot : (words : List (List ℕ)) (t : List ℕ) (parts : List Part) (row : List ℕ) → EachWord (HasWord words) parts row → HeldIn t parts → InSlot t words (slots parts) row
held_slot words t [] row has held = absurd held
held_slot words t (Constant b ∷ parts) row has held = held_slot words t parts row has held
held_slot words t (Variable kind text ∷ parts) [] has held = absurd has
held_slot words t (Variable kind text ∷ parts) (w ∷ row) has (inl m) =
    record { place = zero; kind = kind; word = w; variable = text; slot = refl; at = refl; has = has.0; fits = m }
held_slot words t (Variable kind text ∷ parts) (w ∷ row) has (inr held) = later t words (slots parts) row kind w (held_slot words t parts row has.1 held)

-- what a body brings of a token
pub body_brings : (words : List (List ℕ)) (t text : List ℕ) (parts : List Part) (row : List ℕ) → type_text (map symbol_of parts) ≡ text → EachWord (HasWord words) parts row
    → Match (around t) (marked 10 parts) ⊎ HeldIn t parts → StandsInType (around t) text ⊎ StandsInSlot (around t) words text row
body_brings words t text parts row typed coded (inl among) =
    inl (subst (λ x. Match (around t) (marked_from false (10 ∷ []) x)) typed (subst (Match (around t)) (sym (marked_are 10 parts)) among))
body_brings words t text parts row typed coded (inr held) =
    let kinds : slots parts ≡ kinds_in false text = sym (kinds_are parts) ∙ ap (kinds_in false) typed in
    let v = held_slot words t parts row coded held in
    inr (record {
      place = v.place;
      kind = v.kind;
      word = v.word;
      variable = v.variable;
      slot = subst (λ l. slice_get l v.place ≡ Some v.kind) kinds v.slot;
      at = v.at;
      has = v.has;
      fits = v.fits;
    })

-- ---- the law

pub same_text : (o : Option (List ℕ)) (a b : List ℕ) → o ≡ Some a → o ≡ Some b → a ≡ b
same_text o a b one two = cc (one, two)

pub rows_bring_tokens : TokensStand → RowsBringTokens
rows_bring_tokens stand version ps row types words text message items cut is matches (t, has, items_are) here =
    let means = is.means in
    let body = joined means.parts in
    let behind = body_behind version row.pattern row.moment means.stamp body (subst (λ m. HasStamp version m row.pattern row.moment (length means.stamp)) means.is is.stamp) in
    let typed : type_text (map symbol_of means.parts) ≡ text = same_text (slice_get types row.log_type) (type_text (map symbol_of means.parts)) text means.typed here in
    let kinds : slots means.parts ≡ kinds_in false text = sym (kinds_are means.parts) ∙ ap (kinds_in false) typed in
    elim (stand ps means.stamp body means.parts t cut has behind is.body (subst (Match (flat ps)) means.is matches)) [
      | inl in_stamp ↦ inl (means.stamp, means.stamped, subst (λ x. Match x means.stamp) (sym items_are) in_stamp)
      | inr (inl among) ↦ inr (inl (subst (λ x. StandsInType x text) (sym items_are)
          (subst (λ x. Match (around t) (marked_from false (10 ∷ []) x)) typed (subst (Match (around t)) (sym (marked_are 10 means.parts)) among))))
      | inr (inr held) ↦
          let v = held_slot words t means.parts row.words means.coded held in
          inr (inr (record {
            place = v.place;
            kind = v.kind;
            word = v.word;
            variable = v.variable;
            slot = subst (λ l. slice_get l v.place ≡ Some v.kind) kinds v.slot;
            at = v.at;
            has = v.has;
            fits = subst (λ x. Match x v.variable) (sym items_are) v.fits;
          }))
    ]
