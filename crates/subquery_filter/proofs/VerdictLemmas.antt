-- The constant bytes of a log type.
use Rattle.std.proofs.Common.{◌≡◌, ◌≢◌, ℕ, Bool, true, false, cond, List, [], ◌∷◌, ◌++◌, length, map, refl, sym, ◌∙◌, ap, subst, inl, inr}
use Rattle.std.specs.Prelude.{◌↔◌, ◌==◌, None, Some, IsTrue, slice_get}
use Rattle.std.proofs.lemmas.Bool.{cases_Bool}
use Rattle.logtype_text.specs.declared.symbols.Kind.{Kind}
use Rattle.logtype_text.specs.declared.symbols.Kind.TheVariants.{Whole, Word, Decimal}
use Rattle.logtype_text.specs.declared.symbols.Symbol.{Symbol}
use Rattle.logtype_text.specs.declared.symbols.Symbol.TheVariants.{Byte, Slot}
use Rattle.logtype_text.specs.Parts.{Part, Constant, Variable, joined, symbol_of}
use Rattle.logtype_text.specs.TypeText.{is_escaped, text_of_symbol, type_text}
use Rattle.logtype_text.proofs.TextLemmas.{byte_symbol, one_text, plain_symbol}
use Rattle.time_patterns.specs.Laws.{ShortTexts}
use Rattle.time_patterns.specs.Stamps.{HasStamp}
use Rattle.wild_match.specs.Matches.{Match}
use Rattle.wild_match.specs.declared.pattern.Item.{Item}
use Rattle.wild_match.specs.declared.pattern.Item.TheVariants.{Byte as ByteItem, One, Many}
use Rattle.query_plan.specs.declared.pieces.Piece.{Piece}
use Rattle.query_plan.specs.declared.pieces.Piece.TheVariants.{Gap, Mark, Word as WordPiece}
use Rattle.query_plan.specs.Laws.{ConstantsSuffice, HasNot, NoOne, SkeletonIsNeeded}
use Rattle.query_plan.specs.Needs.{constants, marked, skeleton_of}
use Rattle.query_plan.specs.Pieces.{bytes, flat, wide, wide_pieces}
use Rattle.subquery_filter.specs.StepsLetters.{kind_at, mark_of, mark_text, marked_from}
use Rattle.subquery_filter.specs.Verdicts.{BeginsMany, CertainAlwaysMatches, IsCertain, RejectedNeverMatches}
use Rattle.subquery_filter.proofs.BarrenLemmas.{body_behind, stamp_bytes}
use Rattle.subquery_filter.proofs.RuleLemmas.{tells_not}
use Rattle.subquery_filter.proofs.LetterLemmas.{no_escape, no_kind, other_byte, same_byte}

byte_by : (e : Bool) (mark : List ℕ) (b : ℕ) (after : List ℕ) → is_escaped b ≡ e → marked_from false mark (cond e (0x5C ∷ b ∷ []) (b ∷ []) ++ after) ≡ b ∷ marked_from false mark after
byte_by true mark b after is = ap (λ t. cond t (b ∷ marked_from false mark after) []) is
byte_by false mark b after is =
    ap (λ t. cond t (marked_from true mark after) (mark_text mark (marked_from false mark after) (kind_at b) b)) (no_escape b is)
    ∙ ap (λ k. mark_text mark (marked_from false mark after) k b) (no_kind b is)

pub marked_byte : (mark : List ℕ) (b : ℕ) (after : List ℕ) → marked_from false mark (text_of_symbol (Byte b) ++ after) ≡ b ∷ marked_from false mark after
marked_byte mark b after = byte_by (is_escaped b) mark b after refl

pub marked_slot : (mark : List ℕ) (kind : Kind) (after : List ℕ) → marked_from false mark (text_of_symbol (Slot kind) ++ after) ≡ mark ++ marked_from false mark after
marked_slot mark Whole after = refl
marked_slot mark Word after = refl
marked_slot mark Decimal after = refl

stuck_escape : (mark text : List ℕ) → ((symbol : Symbol) (rest : List ℕ) → 0x5C ∷ text ≢ text_of_symbol symbol ++ rest) → marked_from true mark text ≡ []
stuck_escape mark [] none = refl
stuck_escape mark (b ∷ text) none = elim (cases_Bool (is_escaped b)) [
  | inl is ↦ absurd (none (Byte b) text (sym (ap (λ t. cond t (0x5C ∷ b ∷ []) (b ∷ []) ++ text) is)))
  | inr other ↦ ap (λ t. cond t (b ∷ marked_from false mark text) []) other
]

pub marked_stuck : (mark text : List ℕ) → ((symbol : Symbol) (rest : List ℕ) → text ≢ text_of_symbol symbol ++ rest) → marked_from false mark text ≡ []
marked_stuck mark [] none = refl
marked_stuck mark (b ∷ text) none = elim (cases_Bool (b == 0x5C)) [
  | inl is ↦
      ap (λ t. cond t (marked_from true mark text) (mark_text mark (marked_from false mark text) (kind_at b) b)) is
      ∙ stuck_escape mark text (λ symbol rest same. none symbol rest (ap (λ x. x ∷ text) (same_byte b is) ∙ same))
  | inr other ↦ absurd (none (plain_symbol b) text (sym (ap (λ l. l ++ text) (byte_symbol b (other_byte b other)))))
]

pub constants_are : (parts : List Part) → marked_from false (mark_of None) (type_text (map symbol_of parts)) ≡ constants parts
constants_are [] = refl
constants_are (Constant b ∷ parts) = marked_byte [] b (type_text (map symbol_of parts)) ∙ ap (λ l. b ∷ l) (constants_are parts)
constants_are (Variable kind text ∷ parts) = marked_slot [] kind (type_text (map symbol_of parts)) ∙ constants_are parts

pub marked_are : (m : ℕ) (parts : List Part) → marked_from false (mark_of (Some m)) (type_text (map symbol_of parts)) ≡ marked m parts
marked_are m [] = refl
marked_are m (Constant b ∷ parts) = marked_byte (m ∷ []) b (type_text (map symbol_of parts)) ∙ ap (λ l. b ∷ l) (marked_are m parts)
marked_are m (Variable kind text ∷ parts) = marked_slot (m ∷ []) kind (type_text (map symbol_of parts)) ∙ ap (λ l. m ∷ l) (marked_are m parts)

-- ---- the laws

-- the same text has the same symbols, and so the same constants
same_constants : (a b : List Part) → map symbol_of a ≡ map symbol_of b → constants a ≡ constants b
same_constants a b same = sym (constants_are a) ∙ ap (λ s. marked_from false [] (type_text s)) same ∙ constants_are b

same_marked : (m : ℕ) (a b : List Part) → map symbol_of a ≡ map symbol_of b → marked m a ≡ marked m b
same_marked m a b same = sym (marked_are m a) ∙ ap (λ s. marked_from false (m ∷ []) (type_text s)) same ∙ marked_are m b

same_symbols : (types : List (List ℕ)) (n : ℕ) (a b : List Part) → slice_get types n ≡ Some (type_text (map symbol_of a)) → slice_get types n ≡ Some (type_text (map symbol_of b)) → map symbol_of a ≡ map symbol_of b
same_symbols types n a b mine theirs =
    let found : Some (type_text (map symbol_of a)) ≡ Some (type_text (map symbol_of b)) = sym mine ∙ theirs in
    let texts : type_text (map symbol_of a) ≡ type_text (map symbol_of b) = cc in
    one_text (map symbol_of a) (map symbol_of b) texts

pub rejected_never : SkeletonIsNeeded → ShortTexts → RejectedNeverMatches
rejected_never needed short version p row types words parts message searched typed rejected is matches =
    let means = is.means in
    let body = joined means.parts in
    let stamp = stamp_bytes short row.pattern row.moment means.stamp means.stamped in
    let behind = body_behind version row.pattern row.moment means.stamp body (subst (λ m. HasStamp version m row.pattern row.moment (length means.stamp)) means.is is.stamp) in
    let mine = needed p means.stamp body means.parts searched stamp behind is.body (subst (Match (wide p)) means.is matches) in
    rejected (subst (Match (skeleton_of (wide_pieces p))) (same_constants means.parts parts (same_symbols types row.log_type means.parts parts means.typed typed)) mine)

bytes_none : (t : List ℕ) (items : List Item) → NoOne items → NoOne (bytes t items)
bytes_none [] items none = none
bytes_none (b ∷ t) items none = bytes_none t items none

flat_none : (ps : List Piece) → NoOne (flat ps)
flat_none [] = tt
flat_none (Gap ∷ ps) = flat_none ps
flat_none (Mark d ∷ ps) = flat_none ps
flat_none (WordPiece t ∷ ps) = bytes_none t (flat ps) (flat_none ps)

certain_by : ConstantsSuffice → (items : List Item) (s : List ℕ) (parts : List Part) → NoOne items → BeginsMany items → HasNot 10 items → Match items (marked 10 parts) → Match items (s ++ joined parts)
certain_by suffice [] s parts none begins without matches = absurd begins
certain_by suffice (Many ∷ items) s parts none begins without matches = suffice 10 items s parts none without matches
certain_by suffice (One ∷ items) s parts none begins without matches = absurd begins
certain_by suffice (ByteItem b ∷ items) s parts none begins without matches = absurd begins

pub certain_always : ConstantsSuffice → CertainAlwaysMatches
certain_always suffice ps row types words parts message typed (begins, without, matches) is =
    let mine = subst (Match (flat ps)) (same_marked 10 parts is.parts (same_symbols types row.log_type parts is.parts typed is.typed)) matches in
    subst (Match (flat ps)) (sym is.is) (certain_by suffice (flat ps) is.stamp is.parts (flat_none ps) begins without mine)

-- ---- what a call tells of parts with this text

pub constants_tell : {A : Type 0} (items : List Item) (text : List ℕ) (parts : List Part) → text ≡ type_text (map symbol_of parts) → (A ↔ Match items (marked_from false (mark_of None) text)) → A ↔ Match items (constants parts)
constants_tell {A} items text parts same tells = subst (λ l. A ↔ Match items l) (ap (marked_from false []) same ∙ constants_are parts) tells

pub certain_of : (ps : List Piece) (text : List ℕ) (parts : List Part) → text ≡ type_text (map symbol_of parts)
    → BeginsMany (flat ps) × HasNot 10 (flat ps) × Match (flat ps) (marked_from false (mark_of (Some 10)) text) → IsCertain ps parts
certain_of ps text parts same (begins, without, matches) =
    (begins, without, subst (Match (flat ps)) (ap (marked_from false (10 ∷ [])) same ∙ marked_are 10 parts) matches)

pub not_certain : (ps : List Piece) (text : List ℕ) (parts : List Part) → text ≡ type_text (map symbol_of parts) → (b : Bool)
    → (IsTrue b ↔ (BeginsMany (flat ps) × HasNot 10 (flat ps) × Match (flat ps) (marked_from false (mark_of (Some 10)) text))) → b ≡ false → ¬ IsCertain ps parts
not_certain ps text parts same b tells not_so (begins, without, matches) =
    tells_not b tells not_so (begins, without, subst (Match (flat ps)) (sym (ap (marked_from false (10 ∷ [])) same ∙ marked_are 10 parts)) matches)
