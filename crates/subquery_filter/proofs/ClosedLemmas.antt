-- A closed token that is a variable is the text of one, or stands in the stamp.
use Rattle.std.proofs.Common.{◌≡◌, ℕ, zero, suc, ◌+◌, ◌-◌, ◌<◌, ◌≤◌, List, [], ◌∷◌, ◌++◌, length, map, refl, sym, ◌∙◌, ap, subst, inl, inr, arith}
use Rattle.std.specs.Prelude.{◌⊎◌, Bool, true, false, IsTrue, All, Option, None, Some, bit_or, nat_le, slice_get, slice_index, slice_index_or, ◌&&◌, ◌||◌}
use Rattle.token_rules.specs.Tokens.{is_digit, is_equals_sign, is_hexadecimal, is_letter, is_token_byte, is_variable, IsDelimiter}
use Rattle.std.specs.List.{list_all, list_any}
use Rattle.std.proofs.lemmas.Option.{get_or_from_slice_get, slice_get_within}
use Rattle.var_codec.specs.Codes.{Codes}
use Rattle.var_codec.specs.Laws.{OneWord}
use Rattle.var_codec.specs.declared.Coded.{Coded}
use Rattle.time_patterns.specs.Stamps.{HasStamp}
use Rattle.column_store.specs.declared.row.Row.{Row}
use Rattle.row_codec.specs.Means.{EachWord, HasWord, IsCanonical}
use Rattle.row_codec.proofs.EncoderLemmas.{slots}
use Rattle.logtype_text.specs.declared.symbols.Kind.{Kind}
use Rattle.logtype_text.specs.TypeText.{type_text}
use Rattle.logtype_text.specs.Parts.{Part, Constant, Variable, AreParts, joined, symbol_of}
use Rattle.wild_match.specs.Matches.{Match}
use Rattle.wild_match.specs.declared.pattern.Item.{Item}
use Rattle.wild_match.specs.declared.pattern.Item.TheVariants.{Byte, Many}
use Rattle.query_plan.specs.declared.pieces.Piece.{Piece}
use Rattle.query_plan.specs.declared.pieces.Piece.TheVariants.{Gap, Mark, Word}
use Rattle.query_plan.specs.Laws.{Across, BeginsMark, ChunksAreBrought, IsSmooth, NotNil, ReadingsAreExact, chunk_text}
use Rattle.query_plan.specs.Needs.{Owns, around}
use Rattle.query_plan.specs.Pieces.{After, EndsWord, Free, IsCut, IsInner, IsSomeInner, bytes, flat}
use Rattle.query_plan.specs.Readings.{Rest, now, SomeReads, Term, Star, AtWord, Goes, shut, lead, Reads, star, mark, text as as_text, held, Accepts, letter, pass, eat, fill}
use Rattle.subquery_filter.specs.declared.token.Token.{Token}
use Rattle.subquery_filter.specs.declared.tokens.ClosedVariable.{ClosedVariable}
use Rattle.subquery_filter.specs.Filter.{AreCoded, Finds, Has, IsAsked, MarksOpen, MarksVariable}
use Rattle.subquery_filter.specs.StepsLetters.{kinds_in}
use Rattle.subquery_filter.specs.StepsFilter.{IsClosedBy}
use Rattle.subquery_filter.specs.Tokens.{IsClosedIn, IsInRun, LiesAcross, RowsBring, RowsBringClosed, RowsBringClosedRuns, StampBrings, StandsInType}
use Rattle.subquery_filter.proofs.AroundLemmas.{across_ends}
use Rattle.subquery_filter.proofs.BarrenLemmas.{body_behind}
use Rattle.subquery_filter.proofs.BitLemmas.{has_left, has_right, has_through}
use Rattle.subquery_filter.proofs.TokenLemmas.{kinds_are, same_text}

-- ---- a closed token in a body

clash : (c : ℕ) → IsTrue (is_token_byte c) → IsDelimiter c → ⊥
clash c is not = cc

bytes_is : (t w : List ℕ) → Match (bytes t []) w → w ≡ t
bytes_is [] [] m = refl
bytes_is [] (b ∷ w) m = absurd (cc (m))
bytes_is (b ∷ t) [] m = absurd m
bytes_is (b ∷ t) (c ∷ w) m = ap (λ x. c ∷ x) (bytes_is t w m.1) ∙ ap (λ x. x ∷ t) m.0

held_is : (a b : ℕ) (t : List ℕ) (ps qs : List Piece) (x : List Item) (w : List ℕ) → Goes AtWord (Mark b ∷ ps) x qs → Match (lead (After a) (bytes t x)) w → w ≡ t
held_is a b t ps qs x w shut m = bytes_is t w m

read_word : (a b : ℕ) (t : List ℕ) (ps : List Piece) (r : List Term) → is_variable (Some a) t ≡ true → Reads (After a) (Word t ∷ Mark b ∷ ps) r → (parts : List Part) → Accepts r parts → Owns t parts
read_word a b t ps r is (as_text may n) parts ac = absurd (let e : false ≡ true = sym may ∙ is in cc)
read_word a b t ps r is (held may g n) [] ac = elim ac [ ]
read_word a b t ps r is (held may g n) (Constant c ∷ parts) ac = elim ac [ ]
read_word a b t ps r is (held {qs = qs} {x = x} may g n) (Variable kind w ∷ parts) (fill m ac) = inl (held_is a b t ps qs x w g m)

after_star : (t : List ℕ) (r : List Term) → ((parts : List Part) → Accepts r parts → Owns t parts) → (parts : List Part) → Accepts (Star ∷ r) parts → Owns t parts
after_star t r f parts (pass ac) = f parts ac
after_star t r f (Constant b ∷ parts) (eat ac) = after_star t r f parts ac
after_star t r f (Variable kind w ∷ parts) (eat ac) = inr (after_star t r f parts ac)

-- pieces that spell a token and a delimiter behind it begin with that token
same_word : (ps : List Piece) (w t : List ℕ) (b : ℕ) → IsInner w → IsInner t → EndsWord ps → IsCut ps → IsDelimiter b → bytes w (flat ps) ≡ bytes (t ++ b ∷ []) (Many ∷ [])
    → (w ≡ t) × (flat ps ≡ Byte b ∷ Many ∷ [])
same_word ps [] [] b w_in t_in ends cut db is = (refl, is)
same_word [] [] (x ∷ t) b w_in t_in ends cut db is = absurd (cc (is))
same_word (Gap ∷ ps) [] (x ∷ t) b w_in t_in ends cut db is = absurd (cc (is))
same_word (Mark m ∷ ps) [] (x ∷ t) b w_in t_in ends cut db is =
    let same : m ≡ x = cc (is) in
    absurd (clash x t_in.0 (subst IsDelimiter same cut.0))
same_word (Word v ∷ ps) [] (x ∷ t) b w_in t_in ends cut db is = absurd ends
same_word ps (c ∷ w) [] b w_in t_in ends cut db is =
    let same : c ≡ b = cc (is) in
    absurd (clash c w_in.0 (subst IsDelimiter (sym same) db))
same_word ps (c ∷ w) (x ∷ t) b w_in t_in ends cut db is =
    let same : c ≡ x = cc (is) in
    let rest : bytes w (flat ps) ≡ bytes (t ++ b ∷ []) (Many ∷ []) = cc (is) in
    let more = same_word ps w t b w_in.1 t_in.1 ends cut db rest in
    (ap (λ (l : List ℕ). c ∷ l) more.0 ∙ ap (λ (y : ℕ). y ∷ t) same, more.1)

inner_of : (t : List ℕ) → IsSomeInner t → IsInner t
inner_of [] some = absurd some
inner_of (c ∷ t) some = some

word_read : (a b : ℕ) (w t : List ℕ) (ps : List Piece) (r : List Term) → w ≡ t → EndsWord ps → flat ps ≡ Byte b ∷ Many ∷ [] → is_variable (Some a) t ≡ true → Reads (After a) (Word w ∷ ps) r
    → (parts : List Part) → Accepts r parts → Owns t parts
word_read a b w t [] r same ends is var n parts ac = absurd (cc (is))
word_read a b w t (Gap ∷ ps) r same ends is var n parts ac = absurd (cc (is))
word_read a b w t (Word v ∷ ps) r same ends is var n parts ac = absurd ends
word_read a b w t (Mark m ∷ ps) r same ends is var n parts ac =
    subst (λ (x : List ℕ). Owns x parts) same (read_word a m w ps r (subst (λ (x : List ℕ). is_variable (Some a) x ≡ true) (sym same) var) n parts ac)

reads_word : (a b : ℕ) (t : List ℕ) (ps : List Piece) (r : List Term) → IsSomeInner t → IsDelimiter b → IsCut ps → flat ps ≡ bytes (t ++ b ∷ []) (Many ∷ []) → is_variable (Some a) t ≡ true
    → Reads (After a) ps r → (parts : List Part) → Accepts r parts → Owns t parts
reads_word a b [] ps r some db cut is var n parts ac = absurd some
reads_word a b (x ∷ t) [] r some db cut is var n parts ac = absurd (cc (is))
reads_word a b (x ∷ t) (Gap ∷ ps) r some db cut is var n parts ac = absurd (cc (is))
reads_word a b (x ∷ t) (Mark m ∷ ps) r some db cut is var n parts ac =
    let same : m ≡ x = cc (is) in
    absurd (clash x some.0 (subst IsDelimiter same cut.0))
reads_word a b (x ∷ t) (Word w ∷ ps) r some db cut is var n parts ac =
    let same = same_word ps w (x ∷ t) b (inner_of w cut.0) some cut.1 cut.2 db is in
    word_read a b w (x ∷ t) ps r same.0 cut.1 same.1 var n parts ac

reads_mark : (a b : ℕ) (t : List ℕ) (ps : List Piece) (r : List Term) → IsDelimiter a → IsSomeInner t → IsDelimiter b → IsCut ps → flat ps ≡ Byte a ∷ bytes (t ++ b ∷ []) (Many ∷ [])
    → is_variable (Some a) t ≡ true → Reads Free ps r → (parts : List Part) → Accepts r parts → Owns t parts
reads_mark a b t [] r da some db cut is var n parts ac = absurd (cc (is))
reads_mark a b t (Gap ∷ ps) r da some db cut is var n parts ac = absurd (cc (is))
reads_mark a b t (Word [] ∷ ps) r da some db cut is var n parts ac = absurd cut.0
reads_mark a b t (Word (c ∷ w) ∷ ps) r da some db cut is var n parts ac =
    let same : c ≡ a = cc (is) in
    absurd (clash c cut.0.0 (subst IsDelimiter (sym same) da))
reads_mark a b t (Mark d ∷ ps) r da some db cut is var (mark n) [] ac = elim ac [ ]
reads_mark a b t (Mark d ∷ ps) r da some db cut is var (mark n) (Variable kind w ∷ parts) ac = elim ac [ ]
reads_mark a b t (Mark d ∷ ps) r da some db cut is var (mark {r = more} n) (Constant c ∷ parts) (letter ac) =
    let same : d ≡ a = cc (is) in
    let rest : flat ps ≡ bytes (t ++ b ∷ []) (Many ∷ []) = cc (is) in
    reads_word d b t ps more some db cut.1 rest (subst (λ (x : ℕ). is_variable (Some x) t ≡ true) (sym same) var) n parts ac

reads_gap : (a b : ℕ) (t : List ℕ) (ps : List Piece) (r : List Term) → IsDelimiter a → IsSomeInner t → IsDelimiter b → IsCut ps → flat ps ≡ Many ∷ Byte a ∷ bytes (t ++ b ∷ []) (Many ∷ [])
    → is_variable (Some a) t ≡ true → Reads Free ps r → (parts : List Part) → Accepts r parts → Owns t parts
reads_gap a b t [] r da some db cut is var n parts ac = absurd (cc (is))
reads_gap a b t (Mark d ∷ ps) r da some db cut is var n parts ac = absurd (cc (is))
reads_gap a b t (Word [] ∷ ps) r da some db cut is var n parts ac = absurd cut.0
reads_gap a b t (Word (c ∷ w) ∷ ps) r da some db cut is var n parts ac = absurd (cc (is))
reads_gap a b t (Gap ∷ ps) r da some db cut is var (star {r = more} n) parts ac =
    let rest : flat ps ≡ Byte a ∷ bytes (t ++ b ∷ []) (Many ∷ []) = cc (is) in
    after_star t more (λ u k. reads_mark a b t ps more da some db cut rest var n u k) parts ac

-- ---- the pieces of one

abbrev pub closed : ℕ → List ℕ → ℕ → List Piece
closed a t b = Mark a ∷ Word t ∷ Mark b ∷ []

not_nil : (t : List ℕ) → NotNil (bytes t (Many ∷ []))
not_nil [] = tt
not_nil (c ∷ t) = tt

smooth : (t : List ℕ) → IsSmooth (bytes t (Many ∷ []))
smooth [] = tt
smooth (c ∷ t) = (not_nil t, smooth t)

rest_none : {p q : List Item} → Rest p [] q → q ≡ p
rest_none now = refl

-- where it stands in a body, a variable has its text
pub owned_in : ReadingsAreExact → (a b : ℕ) (t body : List ℕ) (parts : List Part) → IsDelimiter a → IsSomeInner t → IsDelimiter b → is_variable (Some a) t ≡ true → AreParts body parts
    → Match (around (chunk_text (closed a t b))) body → Owns t parts
owned_in exact a b t body parts da some db is are m =
    let p : List Item = around (chunk_text (closed a t b)) in
    let reads : SomeReads p [] parts = (exact p [] body parts (smooth (a ∷ (t ++ b ∷ []))) tt are).1 m in
    let (ps, spelled, cut, read) = reads.is_reading in
    reads_gap a b t ps reads.reading da some db cut (spelled ∙ rest_none reads.is_tail.0) is read parts reads.accepts

-- ---- in a stamp

pub many : (s : List ℕ) → Match (Many ∷ []) s
many [] = refl
many (c ∷ s) = inr (many s)

pub here_in : (t s : List ℕ) → Match (bytes t (Many ∷ [])) s → Match (around t) s
here_in t [] m = m
here_in t (c ∷ s) m = inl m

front_of : (t u s : List ℕ) → Match (bytes (t ++ u) (Many ∷ [])) s → Match (bytes t (Many ∷ [])) s
front_of [] u s m = many s
front_of (c ∷ t) u [] m = absurd m
front_of (c ∷ t) u (x ∷ s) m = (m.0, front_of t u s m.1)

pub stands_within : (a b : ℕ) (t s : List ℕ) → Match (around (chunk_text (closed a t b))) s → Match (around t) s
stands_within a b t [] m = absurd m
stands_within a b t (c ∷ s) (inl m) = inr (here_in t s (front_of t (b ∷ []) s m.1))
stands_within a b t (c ∷ s) (inr m) = inr (stands_within a b t s m)

-- what is left of a token and a delimiter behind it, where it begins with a delimiter, is that one
front_is : (t front back : List ℕ) (b : ℕ) → IsInner t → BeginsMark back → t ++ b ∷ [] ≡ front ++ back → front ≡ t
front_is [] [] back b inner marks is = refl
front_is [] (c ∷ front) [] b inner marks is = absurd marks
front_is [] (c ∷ []) (d ∷ back) b inner marks is = absurd (let e : [] ≡ d ∷ back = cc (is) in cc (e))
front_is [] (c ∷ x ∷ front) (d ∷ back) b inner marks is = absurd (let e : [] ≡ x ∷ front ++ d ∷ back = cc (is) in cc (e))
front_is (c ∷ t) [] [] b inner marks is = absurd marks
front_is (c ∷ t) [] (d ∷ back) b inner marks is =
    let same : c ≡ d = cc (is) in
    absurd (clash c inner.0 (subst IsDelimiter (sym same) marks))
front_is (c ∷ t) (d ∷ front) back b inner marks is =
    let same : c ≡ d = cc (is) in
    let rest : t ++ b ∷ [] ≡ front ++ back = cc (is) in
    ap (λ (l : List ℕ). d ∷ l) (front_is t front back b inner.1 marks rest) ∙ ap (λ (x : ℕ). x ∷ t) (sym same)

all_of : (t : List ℕ) → Match (bytes t (Many ∷ [])) t
all_of [] = refl
all_of (c ∷ t) = (refl, all_of t)

at_end : (before : List ℕ) (a : ℕ) (t : List ℕ) → Match (around t) (before ++ a ∷ t)
at_end [] a t = inr (here_in t t (all_of t))
at_end (c ∷ before) a t = inr (at_end before a t)

-- over the border of a stamp and a body it stands at the stamp's end
pub ends_within : (a b : ℕ) (t s body : List ℕ) → IsSomeInner t → Across (chunk_text (closed a t b)) s body → Match (around t) s
ends_within a b t s body some h = across h.front h.back h.before h.joins h.some h.marks h.ends
  where
    across : (front back before : List ℕ) → a ∷ (t ++ b ∷ []) ≡ front ++ back → 0 < length front → BeginsMark back → s ≡ before ++ front → Match (around t) s
    across [] back before joins long marks ends = absurd (omega (arith, long))
    across (c ∷ front) back before joins long marks ends =
        let first : c ≡ a = cc (joins) in
        let rest : t ++ b ∷ [] ≡ front ++ back = cc (joins) in
        let whole : s ≡ before ++ a ∷ t = ends ∙ ap (λ (l : List ℕ). before ++ c ∷ l) (front_is t front back b (inner_of t some) marks rest) ∙ ap (λ (x : ℕ). before ++ x ∷ t) first in
        subst (Match (around t)) (sym whole) (at_end before a t)

-- ---- a token with a digit

some_digit : (t : List ℕ) (i : ℕ) → i < length t → is_digit (slice_index t i) ≡ true → list_any is_digit t ≡ true
some_digit [] i lt is = absurd (omega (arith, lt))
some_digit (c ∷ t) zero lt is = ap (λ (x : Bool). x || list_any is_digit t) is
some_digit (c ∷ t) (suc i) lt is = or_right (is_digit c) (list_any is_digit t) (some_digit t i (omega (arith, lt)) is)
  where
    or_right : (x y : Bool) → y ≡ true → (x || y) ≡ true
    or_right true y is = refl
    or_right false y is = is

pub digit_tells : (t : List ℕ) (i : ℕ) (before : Option ℕ) → i < length t → is_digit (slice_index t i) ≡ true → is_variable before t ≡ true
unfolding is_variable
digit_tells t i before lt is = ap (λ (x : Bool). (x || (is_equals_sign before && list_any is_letter t)) || (nat_le 2 (length t) && list_all is_hexadecimal t)) (some_digit t i lt is)

-- ---- the pieces of a pattern

cut_from : (before rest : List Piece) → IsCut (before ++ rest) → IsCut rest
cut_from [] rest cut = cut
cut_from (Gap ∷ before) rest cut = cut_from before rest cut
cut_from (Mark d ∷ before) rest cut = cut_from before rest cut.1
cut_from (Word t ∷ before) rest cut = cut_from before rest cut.2

cut_facts : (a b : ℕ) (t : List ℕ) (behind : List Piece) → IsCut (Mark a ∷ Word t ∷ Mark b ∷ behind) → IsDelimiter a × IsSomeInner t × IsDelimiter b
cut_facts a b t behind (da, (some, ends, (db, rest))) = (da, some, db)

-- three pieces in a row
chunk_at : (ps : List Piece) (n : ℕ) (x y z : Piece) → slice_get ps n ≡ Some x → slice_get ps (suc n) ≡ Some y → slice_get ps (suc (suc n)) ≡ Some z
    → (before : List Piece) × (behind : List Piece) × (ps ≡ before ++ (x ∷ y ∷ z ∷ behind))
chunk_at [] n x y z one two three = absurd (cc (one))
chunk_at (p ∷ []) zero x y z one two three = absurd (cc (two))
chunk_at (p ∷ q ∷ []) zero x y z one two three = absurd (cc (three))
chunk_at (p ∷ q ∷ r ∷ ps) zero x y z one two three =
    let a : p ≡ x = cc (one) in
    let b : q ≡ y = cc (two) in
    let c : r ≡ z = cc (three) in
    ([], ps, ap (λ (m : Piece). m ∷ q ∷ r ∷ ps) a ∙ ap (λ (m : Piece). x ∷ m ∷ r ∷ ps) b ∙ ap (λ (m : Piece). x ∷ y ∷ m ∷ ps) c)
chunk_at (p ∷ ps) (suc n) x y z one two three =
    let rest = chunk_at ps n x y z one two three in
    (p ∷ rest.0, rest.1, ap (λ (l : List Piece). p ∷ l) rest.2)

pub closed_by : (ps : List Piece) (place a b : ℕ) (t : List ℕ) (code : Coded) → 1 ≤ place → slice_get ps (place - 1) ≡ Some (Mark a) → slice_get ps place ≡ Some (Word t) → slice_get ps (place + 1) ≡ Some (Mark b)
    → is_variable (Some a) t ≡ true → Codes t code → IsClosedBy ps t code a b
closed_by ps zero a b t code some left here right is coded = absurd (omega (arith, some))
closed_by ps (suc n) a b t code some left here right is coded =
    let one : suc n - 1 ≡ n = omega arith in
    let two : suc n + 1 ≡ suc (suc n) = omega arith in
    let at = chunk_at ps n (Mark a) (Word t) (Mark b) (ap (λ (i : ℕ). slice_get ps i) (sym one) ∙ left) here (ap (λ (i : ℕ). slice_get ps i) (sym two) ∙ right) in
    (record { before = a; behind = b; chunk = record { before = at.0; behind = at.1; stands = at.2; whole = tt }; variable = is; coded = coded }, refl, refl)

pub closed_variable_is : (ps : List Piece) (t : List ℕ) (n m : ClosedVariable) → m ≡ n → IsClosedBy ps t m.code m.before m.behind → IsClosedBy ps t n.code n.before n.behind
closed_variable_is ps t n m same closed = subst (λ (x : ClosedVariable). IsClosedBy ps t x.code x.before x.behind) same closed

-- ---- rows

record OwnsIn (t : List ℕ) (words : List (List ℕ)) (kinds : List Kind) (row : List ℕ) : Type 0 where
  pub place : ℕ
  pub kind : Kind
  pub word : ℕ
  pub slot : slice_get kinds place ≡ Some kind
  pub at : slice_get row place ≡ Some word
  pub has : HasWord words kind t word

later : (t : List ℕ) (words : List (List ℕ)) (kinds : List Kind) (row : List ℕ) (kind : Kind) (w : ℕ) → OwnsIn t words kinds row → OwnsIn t words (kind ∷ kinds) (w ∷ row)
later t words kinds row kind w h = record { place = suc h.place; kind = h.kind; word = h.word; slot = h.slot; at = h.at; has = h.has }

owned_slot : (words : List (List ℕ)) (t : List ℕ) (parts : List Part) (row : List ℕ) → EachWord (HasWord words) parts row → Owns t parts → OwnsIn t words (slots parts) row
owned_slot words t [] row has owns = absurd owns
owned_slot words t (Constant b ∷ parts) row has owns = owned_slot words t parts row has owns
owned_slot words t (Variable kind w ∷ parts) [] has owns = absurd has
owned_slot words t (Variable kind w ∷ parts) (n ∷ row) has (inl same) =
    record { place = zero; kind = kind; word = n; slot = refl; at = refl; has = subst (λ (x : List ℕ). HasWord words kind x n) same has.0 }
owned_slot words t (Variable kind w ∷ parts) (n ∷ row) has (inr owns) = later t words (slots parts) row kind n (owned_slot words t parts row has.1 owns)

pub rows_bring_closed_runs : ReadingsAreExact → ChunksAreBrought → RowsBringClosedRuns
rows_bring_closed_runs law chunks version ps row types words text message t w code cut is matches (h, w_is) here =
    let means = is.means in
    let body = joined means.parts in
    let behind = body_behind version row.pattern row.moment means.stamp body (subst (λ m. HasStamp version m row.pattern row.moment (length means.stamp)) means.is is.stamp) in
    let typed : type_text (map symbol_of means.parts) ≡ text = same_text (slice_get types row.log_type) (type_text (map symbol_of means.parts)) text means.typed here in
    let kinds : slots means.parts ≡ kinds_in false text = sym (kinds_are means.parts) ∙ ap (kinds_in false) typed in
    let parts = cut_facts h.before h.behind t h.chunk.behind (cut_from h.chunk.before (Mark h.before ∷ Word t ∷ Mark h.behind ∷ h.chunk.behind) (subst IsCut h.chunk.stands cut)) in
    elim (chunks ps (closed h.before t h.behind) means.stamp body means.parts cut h.chunk behind is.body (subst (Match (flat ps)) means.is matches)) [
      | inl within ↦ inl (means.stamp, means.stamped, inl (subst (λ x. Match (around x) means.stamp) (sym w_is) within))
      | inr (inl across) ↦
          inl (means.stamp, means.stamped, inr (subst (λ x. LiesAcross x means.stamp) (sym w_is) (across_ends (chunk_text (closed h.before t h.behind)) means.stamp body across), ends_within h.before h.behind t means.stamp body parts.1 across))
      | inr (inr there) ↦
          let v = owned_slot words t means.parts row.words means.coded (owned_in law h.before h.behind t body means.parts parts.0 parts.1 parts.2 h.variable is.body there.0) in
          inr (record { place = v.place; kind = v.kind; word = v.word; slot = subst (λ l. slice_get l v.place ≡ Some v.kind) kinds v.slot; at = v.at; has = v.has })
    ]

pub rows_bring_closed : ReadingsAreExact → ChunksAreBrought → RowsBringClosed
rows_bring_closed law chunks version ps row types words text message t code cut is matches h here =
    elim (rows_bring_closed_runs law chunks version ps row types words text message t (h.before ∷ (t ++ h.behind ∷ [])) code cut is matches (h, refl) here) [
      | inl (s, stamped, inl within) ↦ inl (s, stamped, stands_within h.before h.behind t s within)
      | inl (s, stamped, inr (ends, m)) ↦ inl (s, stamped, m)
      | inr owns ↦ inr owns
    ]

-- ---- the tokens of a filter

-- a variable of the row is one in which the token may be
pub record FindsInSlot (k : Token) (words : List (List ℕ)) (text row : List ℕ) : Type 0 where
  pub place : ℕ
  pub kind : Kind
  pub word : ℕ
  pub variable : List ℕ
  pub slot : slice_get (kinds_in false text) place ≡ Some kind
  pub at : slice_get row place ≡ Some word
  pub has : HasWord words kind variable word
  pub finds : Finds k variable

itself : (k : Token) → Match k.matcher.items k.text
itself k =
    subst (λ x. Match x k.text) (sym (k.same ∙ k.stands)) (here_in k.text k.text (all_of k.text))

pub token_found : RowsBring → (version : ℕ) (ps : List Piece) (row : Row) (types words : List (List ℕ)) (text message : List ℕ) (k : Token) → IsCut ps → IsCanonical version row types words message
    → Match (flat ps) message → IsAsked ps k → slice_get types row.log_type ≡ Some text → StampBrings k.chunk k.text row ⊎ (StandsInType k.matcher.items text ⊎ FindsInSlot k words text row.words)
token_found laws version ps row types words text message k cut is matches asked here = by_code k.closed refl
  where
    items : k.matcher.items ≡ around k.text
    items = k.same ∙ k.stands

    by_code : (o : Option Coded) → k.closed ≡ o → StampBrings k.chunk k.text row ⊎ (StandsInType k.matcher.items text ⊎ FindsInSlot k words text row.words)
    by_code None none = elim (laws.0 version ps row types words text message k.text k.chunk cut is matches (asked.runs none) here) [
      | inl stamp ↦ inl stamp
      | inr (inl among) ↦ inr (inl (subst (λ x. StandsInType x text) (sym items) among))
      | inr (inr v) ↦ inr (inr (record {
        place = v.place;
        kind = v.kind;
        word = v.word;
        variable = v.variable;
        slot = v.slot;
        at = v.at;
        has = v.has;
        finds = (subst (λ x. Match x v.variable) (sym items) v.fits, λ code some. absurd (let e : None ≡ Some code = sym none ∙ some in cc));
      }))
    ]
    by_code (Some code) some = elim (laws.1 version ps row types words text message k.text k.chunk code cut is matches (asked.closed code some) here) [
      | inl stamp ↦ inl stamp
      | inr v ↦ inr (inr (record {
        place = v.place;
        kind = v.kind;
        word = v.word;
        variable = k.text;
        slot = v.slot;
        at = v.at;
        has = v.has;
        finds = (itself k, λ other same. refl);
      }))
    ]

pub asked_at : (ps : List Piece) (place : ℕ) (t w : List ℕ) (k : Token) → slice_get ps place ≡ Some (Word t) → k.text ≡ t → k.chunk ≡ w → (k.closed ≡ None → IsInRun ps t w)
    → ((code : Coded) → k.closed ≡ Some code → IsClosedIn ps t w code) → IsAsked ps k
asked_at ps place t w k there is around_is runs closes = record {
  token = (t, (place, slice_get_within ps place (Word t) there, get_or_from_slice_get ps place (Word t) (Word t) there), k.same ∙ k.stands ∙ ap around is);
  runs = λ none. subst (λ (x : List ℕ). IsInRun ps x k.chunk) (sym is) (subst (IsInRun ps t) (sym around_is) (runs none));
  closed = λ code some. subst (λ (x : List ℕ). IsClosedIn ps x k.chunk code) (sym is) (subst (λ (x : List ℕ). IsClosedIn ps t x code) (sym around_is) (closes code some));
}

-- a number between delimiters with these
pub closed_in : (ps : List Piece) (t w : List ℕ) (number : Option ClosedVariable) (closed : Option Coded) → ((n : ClosedVariable) → number ≡ Some n → IsClosedBy ps t n.code n.before n.behind)
    → ((n : ClosedVariable) → number ≡ Some n → w ≡ n.before ∷ (t ++ n.behind ∷ [])) → ((code : Coded) → closed ≡ Some code → (n : ClosedVariable) × (number ≡ Some n) × (n.code ≡ code))
    → (code : Coded) → closed ≡ Some code → IsClosedIn ps t w code
closed_in ps t w number closed told text codes code some =
    let (n, is, same) = codes code some in
    let (h, before, behind) = told n is in
    subst (IsClosedIn ps t w) same (h, text n is ∙ sym (λ i. before i ∷ (t ++ behind i ∷ [])))

pub are_coded : (ps : List Piece) (tokens : List Token) → All (IsAsked ps) tokens → AreCoded tokens
are_coded ps tokens are j d lt code some = ((are j d lt).closed code some).0.coded

-- ---- bits of a variable

-- the bits of closed variables and those of the others are the bits of a variable
pub both_marks : OneWord → (tokens : List Token) (text : List ℕ) (code : Coded) (exact more : ℕ) → Codes text code → AreCoded tokens → All (λ k. k.closed ≡ Some code → Has exact k.bit) tokens
    → MarksOpen tokens text more → MarksVariable tokens text (bit_or exact more)
both_marks one tokens text code exact more coded are exactly openly j d lt finds =
    let k : Token = slice_index_or tokens j d in by_code k (exactly j d lt) (openly j d lt) (are j d lt) finds k.closed refl
  where
    by_code : (k : Token) → (k.closed ≡ Some code → Has exact k.bit) → (k.closed ≡ None → Match k.matcher.items text → Has more k.bit) → ((c : Coded) → k.closed ≡ Some c → Codes k.text c) → Finds k text
        → (o : Option Coded) → k.closed ≡ o → Has (bit_or exact more) k.bit
    by_code k ex op co finds None none = has_through (bit_or exact more) more k.bit (has_right exact more) (op none finds.0)
    by_code k ex op co finds (Some own) some =
        let same : own ≡ code = one text own code (subst (λ (x : List ℕ). Codes x own) (sym (finds.1 own some)) (co own some)) coded in
        has_left exact more k.bit (ex (some ∙ ap Some same))

pub exact_marks : OneWord → (tokens : List Token) (text : List ℕ) (code : Coded) (exact : ℕ) → Codes text code → AreCoded tokens → All (λ k. k.closed ≡ Some code → Has exact k.bit) tokens
    → MarksOpen tokens text exact → MarksVariable tokens text exact
exact_marks one tokens text code exact coded are exactly openly j d lt finds =
    let k : Token = slice_index_or tokens j d in by_code k (exactly j d lt) (openly j d lt) (are j d lt) finds k.closed refl
  where
    by_code : (k : Token) → (k.closed ≡ Some code → Has exact k.bit) → (k.closed ≡ None → Match k.matcher.items text → Has exact k.bit) → ((c : Coded) → k.closed ≡ Some c → Codes k.text c) → Finds k text
        → (o : Option Coded) → k.closed ≡ o → Has exact k.bit
    by_code k ex op co finds None none = op none finds.0
    by_code k ex op co finds (Some own) some =
        let same : own ≡ code = one text own code (subst (λ (x : List ℕ). Codes x own) (sym (finds.1 own some)) (co own some)) coded in
        ex (some ∙ ap Some same)
