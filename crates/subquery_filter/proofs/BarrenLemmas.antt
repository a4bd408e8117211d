-- Why a barren segment has no match.
use Rattle.std.proofs.Common.{◌≡◌, ◌≢◌, ℕ, zero, suc, Bool, true, false, cond, List, [], ◌∷◌, ◌++◌, length, map, refl, sym, ◌∙◌, ap, subst, arith, inl, inr, append_assoc}
use Rattle.std.specs.Prelude.{◌⊎◌, ◌↔◌, ℤ, ◌<ℤ◌, ◌≤ℤ◌, not, Option, None, Some, All, IfSome, IsTrue, nat_eq, filter, slice_get}
use Rattle.std.specs.List.{AllZip, Contains, flat_map, fold}
use Rattle.std.specs.Option.{IsSomeAnd, MatchOption}
use Rattle.std.specs.Ordering.{int_cmp, is_lt, ord_max, ord_min}
use Rattle.std.specs.declared.cmp.Ordering.{Ordering}
use Rattle.std.specs.declared.cmp.Ordering.TheVariants.{Less, Equal, Greater}
use Rattle.std.proofs.lemmas.Bool.Decides.{nat_tests}
use Rattle.std.proofs.lemmas.Cmp.{int_ranked}
use Rattle.std.proofs.lemmas.Int.{ints}
use Rattle.std.proofs.lemmas.Grind.{flat_map-append}
use Rattle.std.proofs.lemmas.List.{map-append}
use Rattle.std.proofs.lemmas.List.Elements.{All-nil, Contains-append_left, Contains-append_right}
use Rattle.std.proofs.lemmas.Option.{get_or_from_slice_get}
use Rattle.std.proofs.lemmas.Slice.Zip.{AllZip-left}
use Rattle.token_rules.specs.Tokens.{IsDelimiter}
use Rattle.var_codec.specs.Codes.{Codes}
use Rattle.var_codec.specs.declared.Coded.TheVariants.{Whole as WholeWord, Decimal as DecimalWord, Word as DictionaryWord}
use Rattle.time_patterns.specs.Laws.{ShortTexts, is_stamp_byte}
use Rattle.time_patterns.specs.Stamps.{EndsStamp, HasStamp}
use Rattle.logtype_text.specs.declared.symbols.Kind.TheVariants.{Whole, Word, Decimal}
use Rattle.logtype_text.specs.declared.symbols.Symbol.{Symbol}
use Rattle.logtype_text.specs.declared.symbols.Symbol.TheVariants.{Byte}
use Rattle.logtype_text.specs.Parts.{Part, Constant, Variable, joined, symbol_of}
use Rattle.logtype_text.specs.Cut.{plains}
use Rattle.logtype_text.specs.TypeText.{text_of_symbol, type_text}
use Rattle.logtype_text.proofs.TextLemmas.{first_same}
use Rattle.wild_match.specs.Matches.{Match}
use Rattle.wild_match.specs.declared.pattern.Item.{Item}
use Rattle.column_store.specs.Range.{Within}
use Rattle.column_store.specs.declared.range.Range.{Range}
use Rattle.column_store.specs.declared.row.Row.{Row}
use Rattle.row_codec.specs.Means.{EachWord, HasStampText, HasWord, IsCanonical}
use Rattle.row_codec.specs.Numbers.{kinds_from, numbers_of_row, word_numbers}
use Rattle.row_codec.proofs.EncoderLemmas.{kinds_are, slots}
use Rattle.segment_format.specs.Layout.{greatest_of, has_any, least_of, sorted_set, stamped_moments}
use Rattle.segment_format.proofs.SetLemmas.{has_sorted_set}
use Rattle.segment_format.proofs.UniqueLemmas.{same_parts}
use Rattle.query_plan.specs.Laws.{IsWidened, NeededWordsAreBrought, ReadingsAreExact}
use Rattle.query_plan.specs.Needs.{Brings, Owns, Shows, needed_variables_of}
use Rattle.query_plan.specs.Pieces.{Free, needed_of, wide, wide_pieces}
use Rattle.query_plan.specs.Readings.{Breaks, IsBodyBehind, SomeReads}
use Rattle.barren_segments.specs.Barren.{IsBounded, LacksTypes, LacksWord}
use Rattle.subquery_filter.specs.Laws.{BarrenHasNoMatch, words_of}
use Rattle.barren_segments.specs.Runs.{HoldsRun, IsRunEnd, ends_run, may_begin}

-- ---- elements

pub contains_cases : {X : Type 0} (x y : X) (xs : List X) → Contains (x ∷ xs) y → (x ≡ y) ⊎ Contains xs y
contains_cases x y xs (zero, lt, e) = inl e
contains_cases x y xs (suc k, lt, e) = inr (k, omega (arith, lt), e)

pub contains_none : {X : Type 0} (y : X) → Contains [] y → ⊥
contains_none y (k, lt, e) = omega (arith, lt)

pub contains_first : {X : Type 0} (x y : X) (xs : List X) → x ≡ y → Contains (x ∷ xs) y
contains_first x y xs e = (zero, omega arith, e)

pub contains_rest : {X : Type 0} (x y : X) (xs : List X) → Contains xs y → Contains (x ∷ xs) y
contains_rest x y xs (k, lt, e) = (suc k, omega (arith, lt), e)

contains_map : {X Y : Type 0} (f : X → Y) (xs : List X) (x : X) → Contains xs x → Contains (map f xs) (f x)
contains_map f [] x has = absurd (contains_none x has)
contains_map f (y ∷ xs) x has = elim (contains_cases y x xs has) [
  | inl e ↦ contains_first (f y) (f x) (map f xs) (ap f e)
  | inr rest ↦ contains_rest (f y) (f x) (map f xs) (contains_map f xs x rest)
]

contains_kept : {X : Type 0} (b : Bool) (x y : X) (xs : List X) → Contains xs y → Contains (cond b (x ∷ xs) xs) y
contains_kept true x y xs has = contains_rest x y xs has
contains_kept false x y xs has = has

contains_filter : {X : Type 0} (p : X → Bool) (xs : List X) (x : X) → p x ≡ true → Contains xs x → Contains (filter p xs) x
contains_filter p [] x passes has = absurd (contains_none x has)
contains_filter p (y ∷ xs) x passes has = elim (contains_cases y x xs has) [
  | inl e ↦ subst (λ b. Contains (cond b (y ∷ filter p xs) (filter p xs)) x) (sym (ap p e ∙ passes)) (contains_first y x (filter p xs) e)
  | inr rest ↦ contains_kept (p y) y x (filter p xs) (contains_filter p xs x passes rest)
]

pub contains_flat_map : {X Y : Type 0} (f : X → List Y) (xs : List X) (x : X) (y : Y) → Contains xs x → Contains (f x) y → Contains (flat_map f xs) y
contains_flat_map f [] x y has there = absurd (contains_none x has)
contains_flat_map f (z ∷ xs) x y has there = elim (contains_cases z x xs has) [
  | inl e ↦ Contains-append_left (f z) (flat_map f xs) y (subst (λ w. Contains (f w) y) (sym e) there)
  | inr rest ↦ Contains-append_right (f z) (flat_map f xs) y (contains_flat_map f xs x y rest there)
]

-- ---- moments

max_step : (r : Ordering) (a b : ℤ) → r ≡ int_cmp b a → (a ≤ℤ cond (is_lt r) a b) × (b ≤ℤ cond (is_lt r) a b)
max_step Less a b is = let ranked = int_ranked b a Less is in (omega (arith, ints), omega (arith, ints, ranked))
max_step Equal a b is = let ranked = int_ranked b a Equal is in (omega (arith, ints, ranked), omega (arith, ints))
max_step Greater a b is = let ranked = int_ranked b a Greater is in (omega (arith, ints, ranked), omega (arith, ints))

min_step : (r : Ordering) (a b : ℤ) → r ≡ int_cmp b a → (cond (is_lt r) b a ≤ℤ a) × (cond (is_lt r) b a ≤ℤ b)
min_step Less a b is = let ranked = int_ranked b a Less is in (omega (arith, ints, ranked), omega (arith, ints))
min_step Equal a b is = let ranked = int_ranked b a Equal is in (omega (arith, ints), omega (arith, ints, ranked))
min_step Greater a b is = let ranked = int_ranked b a Greater is in (omega (arith, ints), omega (arith, ints, ranked))

max_first : (ms : List ℤ) (a : ℤ) → a ≤ℤ fold (ord_max int_cmp) a ms
max_first [] a = omega (arith, ints)
max_first (m ∷ ms) a = let step = max_step (int_cmp m a) a m refl in let rest = max_first ms (ord_max int_cmp a m) in omega (arith, ints, step.0, rest)

max_each : (ms : List ℤ) (a x : ℤ) → Contains ms x → x ≤ℤ fold (ord_max int_cmp) a ms
max_each [] a x has = absurd (contains_none x has)
max_each (m ∷ ms) a x has = elim (contains_cases m x ms has) [
  | inl e ↦ let step = max_step (int_cmp m a) a m refl in let rest = max_first ms (ord_max int_cmp a m) in
      subst (λ y. y ≤ℤ fold (ord_max int_cmp) (ord_max int_cmp a m) ms) e (omega (arith, ints, step.1, rest))
  | inr there ↦ max_each ms (ord_max int_cmp a m) x there
]

min_first : (ms : List ℤ) (a : ℤ) → fold (ord_min int_cmp) a ms ≤ℤ a
min_first [] a = omega (arith, ints)
min_first (m ∷ ms) a = let step = min_step (int_cmp m a) a m refl in let rest = min_first ms (ord_min int_cmp a m) in omega (arith, ints, step.0, rest)

min_each : (ms : List ℤ) (a x : ℤ) → Contains ms x → fold (ord_min int_cmp) a ms ≤ℤ x
min_each [] a x has = absurd (contains_none x has)
min_each (m ∷ ms) a x has = elim (contains_cases m x ms has) [
  | inl e ↦ let step = min_step (int_cmp m a) a m refl in let rest = min_first ms (ord_min int_cmp a m) in
      subst (λ y. fold (ord_min int_cmp) (ord_min int_cmp a m) ms ≤ℤ y) e (omega (arith, ints, step.1, rest))
  | inr there ↦ min_each ms (ord_min int_cmp a m) x there
]

pub greatest_above : (ms : List ℤ) (x : ℤ) → Contains ms x → x ≤ℤ greatest_of ms
greatest_above [] x has = absurd (contains_none x has)
greatest_above (m ∷ ms) x has = elim (contains_cases m x ms has) [
  | inl e ↦ subst (λ y. y ≤ℤ fold (ord_max int_cmp) m ms) e (max_first ms m)
  | inr there ↦ max_each ms m x there
]

pub least_below : (ms : List ℤ) (x : ℤ) → Contains ms x → least_of ms ≤ℤ x
least_below [] x has = absurd (contains_none x has)
least_below (m ∷ ms) x has = elim (contains_cases m x ms has) [
  | inl e ↦ subst (λ y. fold (ord_min int_cmp) m ms ≤ℤ y) e (min_first ms m)
  | inr there ↦ min_each ms m x there
]

pub some_any : (ms : List ℤ) (x : ℤ) → Contains ms x → has_any ms ≡ true
some_any [] x has = absurd (contains_none x has)
some_any (m ∷ ms) x has = refl

stamped_test : (k : ℕ) → k ≢ 0 → not (nat_eq k 0) ≡ true
stamped_test k some = grind (arith, nat_tests)

pub moment_there : (rows : List Row) (row : Row) → Contains rows row → row.pattern ≢ 0 → Contains (stamped_moments rows) row.moment
moment_there rows row there stamped =
    contains_map (λ r. r.moment) (filter (λ r. not (nat_eq r.pattern 0)) rows) row (contains_filter (λ r. not (nat_eq r.pattern 0)) rows row (stamped_test row.pattern stamped) there)

within_bounds : (from to : Option ℤ) (pattern : ℕ) (moment : ℤ) → (((m : ℤ) × (from ≡ Some m)) ⊎ ((m : ℤ) × (to ≡ Some m))) → Within from to pattern moment
    → (pattern ≢ 0) × IfSome from (λ least. least ≤ℤ moment) × IfSome to (λ greatest. moment ≤ℤ greatest)
within_bounds None None pattern moment (inl (m, is)) within = absurd (cc is)
within_bounds None None pattern moment (inr (m, is)) within = absurd (cc is)
within_bounds (Some a) None pattern moment bounded within = within
within_bounds None (Some b) pattern moment bounded within = within
within_bounds (Some a) (Some b) pattern moment bounded within = within

-- ---- dictionary words

owned : (words : List (List ℕ)) (parts : List Part) (row : List ℕ) (t : List ℕ) → EachWord (HasWord words) parts row → Owns t parts → Codes t DictionaryWord
    → (n : ℕ) × (slice_get words n ≡ Some t) × Contains (word_numbers (slots parts) row) n
owned words [] row t has owns coded = absurd owns
owned words (Constant b ∷ parts) row t has owns coded = owned words parts row t has owns coded
owned words (Variable kind text ∷ parts) [] t has owns coded = absurd has
owned words (Variable Whole text ∷ parts) (w ∷ row) t has (inl same) coded =
    let (n, is, packs) = has.0 in absurd (coded.0 n (subst (λ s. Codes s (WholeWord n)) same is))
owned words (Variable Whole text ∷ parts) (w ∷ row) t has (inr owns) coded = owned words parts row t has.1 owns coded
owned words (Variable Decimal text ∷ parts) (w ∷ row) t has (inl same) coded =
    absurd (coded.1 w (subst (λ s. Codes s (DecimalWord w)) same has.0))
owned words (Variable Decimal text ∷ parts) (w ∷ row) t has (inr owns) coded = owned words parts row t has.1 owns coded
owned words (Variable Word text ∷ parts) (w ∷ row) t has (inl same) coded =
    (w, subst (λ s. slice_get words w ≡ Some s) same has.0.1, contains_first w w (word_numbers (slots parts) row) refl)
owned words (Variable Word text ∷ parts) (w ∷ row) t has (inr owns) coded =
    let more = owned words parts row t has.1 owns coded in (more.0, more.1, contains_rest w more.0 (word_numbers (slots parts) row) more.2)

-- ---- runs

may_begin_behind : (here : Bool) (front : List Symbol) (symbol : Symbol) → may_begin here (front ++ symbol ∷ []) ≡ ends_run symbol
may_begin_behind here [] symbol = refl
may_begin_behind here (s ∷ front) symbol = may_begin_behind (ends_run s) front symbol

symbols_of_plains : (t : List ℕ) (parts : List Part) → map symbol_of (plains t parts) ≡ map Byte t ++ map symbol_of parts
symbols_of_plains [] parts = refl
symbols_of_plains (b ∷ t) parts = ap (λ l. Byte b ∷ l) (symbols_of_plains t parts)

ends_at : (b : ℕ) → IsDelimiter b → ends_run (Byte b) ≡ true
ends_at b delimiter = ap not delimiter

run_end : (b : ℕ) (behind : List ℕ) → IsDelimiter b → IsRunEnd (text_of_symbol (Byte b) ++ behind)
run_end b behind delimiter c rest same =
    let both : Byte b ≡ Byte c = (first_same (Byte b) (Byte c) behind rest same).0 in
    let bytes : b ≡ c = cc in
    subst IsDelimiter bytes delimiter

-- a word between delimiters among the constants is a run of the log type
shows_run : (t : List ℕ) (parts : List Part) → Shows t parts → HoldsRun (type_text (map symbol_of parts)) t
shows_run t parts shows =
    let front = map symbol_of shows.front in
    let left = Byte shows.left in
    let behind = type_text (Byte shows.right ∷ map symbol_of shows.behind) in
    let symbols : map symbol_of parts ≡ (front ++ left ∷ []) ++ (map Byte t ++ Byte shows.right ∷ map symbol_of shows.behind) =
    ap (map symbol_of) shows.stands
    ∙ map-append symbol_of shows.front (Constant shows.left ∷ plains t (Constant shows.right ∷ shows.behind))
    ∙ ap (λ l. front ++ left ∷ l) (symbols_of_plains t (Constant shows.right ∷ shows.behind))
    ∙ sym (append_assoc front (left ∷ []) (map Byte t ++ Byte shows.right ∷ map symbol_of shows.behind)) in
    record {
      front = front ++ left ∷ [];
      run = type_text (map Byte t ++ Byte shows.right ∷ map symbol_of shows.behind);
      begins = may_begin_behind true front left ∙ ends_at shows.left shows.left_ends;
      stands = ap type_text symbols ∙ flat_map-append text_of_symbol (front ++ left ∷ []) (map Byte t ++ Byte shows.right ∷ map symbol_of shows.behind);
      is = (
        behind,
        flat_map-append text_of_symbol (map Byte t) (Byte shows.right ∷ map symbol_of shows.behind),
        run_end shows.right (type_text (map symbol_of shows.behind)) shows.right_ends,
      );
    }

-- ---- stamps

pub stamp_bytes : ShortTexts → (k : ℕ) (moment : ℤ) (text : List ℕ) → HasStampText k moment text → All (λ b. IsTrue (is_stamp_byte b)) text
stamp_bytes short zero moment text has = subst (All (λ b. IsTrue (is_stamp_byte b))) (sym has.1) (All-nil (λ b. IsTrue (is_stamp_byte b)))
stamp_bytes short (suc k) moment text has = (short (suc k) moment text has).2

breaks_of : (rest : List ℕ) → EndsStamp rest → Breaks rest
breaks_of [] ends = tt
breaks_of (b ∷ rest) ends = ends

pub body_behind : (version k : ℕ) (moment : ℤ) (stamp body : List ℕ) → HasStamp version (stamp ++ body) k moment (length stamp) → IsBodyBehind stamp body
body_behind version k moment [] body has = tt
body_behind version zero moment (b ∷ stamp) body has = absurd (omega (arith, has.2))
body_behind version (suc k) moment (b ∷ stamp) body has =
    let (text, prints, (rest, cut, ends, long)) = has.fits in
    let both = same_parts (b ∷ stamp) text body rest (sym long) cut in
    subst Breaks (sym both.1) (breaks_of rest ends)

-- ---- the rules

brings_at : (parts : List Part) (words : List (List ℕ)) (flags : List Bool) (k : ℕ) (t : List ℕ) (v : Bool) → AllZip (λ t v. Brings parts t v) words flags
    → slice_get words k ≡ Some t → slice_get flags k ≡ Some v → Brings parts t v
brings_at parts words flags k t v all at flag =
    let here = AllZip-left (λ t v. Brings parts t v) words flags all k in
    let found = subst (λ o. MatchOption o (Unit {0}) (λ x. IsSomeAnd (slice_get flags k) (λ y. Brings parts x y))) at here in
    subst (λ o. IsSomeAnd o (λ y. Brings parts t y)) flag found

pub row_numbers : (types : List (List ℕ)) (row : Row) (parts : List Part) → slice_get types row.log_type ≡ Some (type_text (map symbol_of parts)) → numbers_of_row types row ≡ word_numbers (slots parts) row.words
row_numbers types row parts typed =
    ap (λ text. word_numbers (kinds_from false text) row.words) (get_or_from_slice_get types row.log_type (type_text (map symbol_of parts)) [] typed)
    ∙ ap (λ kinds. word_numbers kinds row.words) (kinds_are parts)

no_rows : (rows : List Row) (row : Row) → Contains rows row → length rows ≢ 0
no_rows rows row (k, lt, e) none = omega (arith, lt, none)

all_outside : (range : Range) (rows : List Row) (row : Row) → Contains rows row → IsBounded range → Within range.from range.to row.pattern row.moment
    → ((has_any (stamped_moments rows) ≡ false)
    ⊎ (((m : ℤ) × (range.from ≡ Some m) × (greatest_of (stamped_moments rows) <ℤ m))
    ⊎ ((m : ℤ) × (range.to ≡ Some m) × (m <ℤ least_of (stamped_moments rows))))) → ⊥
all_outside range rows row there bounded within outside =
    let bounds = within_bounds range.from range.to row.pattern row.moment bounded within in
    let moment = moment_there rows row there bounds.0 in
    elim outside [
      | inl none ↦ let any : has_any (stamped_moments rows) ≡ true = some_any (stamped_moments rows) row.moment moment in let t : true ≡ false = sym any ∙ none in cc
      | inr (inl (m, from, below)) ↦
          let least = subst (λ o. IfSome o (λ least. least ≤ℤ row.moment)) from bounds.1 in
          let top = greatest_above (stamped_moments rows) row.moment moment in
          omega (arith, ints, below, least, top)
      | inr (inr (m, to, above)) ↦
          let greatest = subst (λ o. IfSome o (λ greatest. row.moment ≤ℤ greatest)) to bounds.2 in
          let low = least_below (stamped_moments rows) row.moment moment in
          omega (arith, ints, above, greatest, low)
    ]

word_lacks : (version : ℕ) (rows : List Row) (types words : List (List ℕ)) (p : List Item) (row : Row) (parts : List Part) → Contains rows row
    → slice_get types row.log_type ≡ Some (type_text (map symbol_of parts)) → EachWord (HasWord words) parts row.words
    → AllZip (λ t v. Brings parts t v) (needed_of Free (wide_pieces p)) (needed_variables_of Free (wide_pieces p))
    → LacksWord (wide_pieces p) words (words_of types rows) → ⊥
word_lacks version rows types words p row parts there typed coded brings (t, (k, at, flag), (is_word, missing)) =
    let owns = brings_at parts (needed_of Free (wide_pieces p)) (needed_variables_of Free (wide_pieces p)) k t true brings at flag in
    let found = owned words parts row.words t coded owns is_word in
    let number = subst (λ l. Contains l found.0) (sym (row_numbers types row parts typed)) found.2 in
    missing found.0 found.1
    (has_sorted_set (flat_map (numbers_of_row types) rows) found.0 (contains_flat_map (numbers_of_row types) rows row found.0 there number))

types_lack : (rows : List Row) (types : List (List ℕ)) (p : List Item) (row : Row) (parts : List Part) → Contains rows row
    → slice_get types row.log_type ≡ Some (type_text (map symbol_of parts))
    → AllZip (λ t v. Brings parts t v) (needed_of Free (wide_pieces p)) (needed_variables_of Free (wide_pieces p))
    → LacksTypes (wide_pieces p) types (sorted_set (map (λ r. r.log_type) rows)) → ⊥
types_lack rows types p row parts there typed brings lacks =
    lacks row.log_type (has_sorted_set (map (λ r. r.log_type) rows) row.log_type (contains_map (λ r. r.log_type) rows row there)) (
      type_text (map symbol_of parts),
      typed,
      λ word (k, at, flag). shows_run word parts (brings_at parts (needed_of Free (wide_pieces p)) (needed_variables_of Free (wide_pieces p)) k word false brings at flag),
    )

pub barren_has_no_match : NeededWordsAreBrought → ShortTexts → BarrenHasNoMatch
barren_has_no_match brought short version file first last ended rows types words p range searched barren row message there is holds matches =
    let means = is.means in
    let body = joined means.parts in
    let stamp = stamp_bytes short row.pattern row.moment means.stamp means.stamped in
    let behind = body_behind version row.pattern row.moment means.stamp body (subst (λ m. HasStamp version m row.pattern row.moment (length means.stamp)) means.is is.stamp) in
    let brings = brought p means.stamp body means.parts searched stamp behind is.body (subst (Match (wide p)) means.is matches) in
    elim barren [
      | inl none ↦ no_rows rows row there none
      | inr (inl (bounded, outside)) ↦ all_outside range rows row there bounded holds outside
      | inr (inr (inl lacks)) ↦ word_lacks version rows types words p row means.parts there means.typed means.coded brings lacks
      | inr (inr (inr lacks)) ↦ types_lack rows types p row means.parts there means.typed brings lacks
    ]

-- ---- readings

-- a row's message is matched exactly where some reading accepts its body
pub reads_by : {A : Type 0} → ReadingsAreExact → (version : ℕ) (row : Row) (types words : List (List ℕ)) (message : List ℕ) → (is : IsCanonical version row types words message)
    → (p : List Item) → IsWidened p → (A ↔ Match p message) → A ↔ SomeReads p is.means.stamp is.means.parts
reads_by exact version row types words message is p widened tells =
    let means = is.means in
    let body = joined means.parts in
    let behind = body_behind version row.pattern row.moment means.stamp body (subst (λ m. HasStamp version m row.pattern row.moment (length means.stamp)) means.is is.stamp) in
    let both = exact p means.stamp body means.parts widened behind is.body in
    (λ a. both.1 (subst (Match p) means.is (tells.0 a)), λ reads. tells.1 (subst (Match p) (sym means.is) (both.0 reads)))
