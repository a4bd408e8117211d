-- A token of the pattern stands in the stamp, among the constant bytes, or in a variable.
use Rattle.std.proofs.Common.{◌≡◌, ℕ, Bool, true, false, zero, suc, List, [], ◌∷◌, ◌++◌, refl, sym, ◌∙◌, ap, subst, arith, inl, inr, append_assoc, append-nil}
use Rattle.std.specs.Prelude.{◌⊎◌, ◌||◌, not, Option, All, IsTrue}
use Rattle.std.specs.List.{AllByRecursion, Contains}
use Rattle.std.proofs.lemmas.List.Elements.{recursion_from_All}
use Rattle.token_rules.specs.Tokens.{IsDelimiter}
use Rattle.time_patterns.specs.Laws.{is_stamp_byte}
use Rattle.logtype_text.specs.Parts.{AreParts, Part}
use Rattle.logtype_text.specs.Cut.{PartsAreCut, plains}
use Rattle.wild_match.specs.Matches.{Match}
use Rattle.wild_match.specs.declared.pattern.Item.{Item}
use Rattle.wild_match.specs.declared.pattern.Item.TheVariants.{Many}
use Rattle.query_plan.specs.declared.pieces.Piece.{Piece}
use Rattle.query_plan.specs.declared.pieces.Piece.TheVariants.{Gap, Mark, Word as WordPiece}
use Rattle.query_plan.specs.Laws.{ForeignStandsInNoStamp, TokensAreBrought, TokensStand}
use Rattle.query_plan.specs.Needs.{HeldIn, around, is_foreign, marked}
use Rattle.query_plan.specs.Pieces.{IsCut, IsInner, IsSomeInner, bytes, flat}
use Rattle.query_plan.specs.Readings.{Breaks, IsBodyBehind}
use Rattle.query_plan.proofs.MatchLemmas.{Steps, byte, drops, takes, steps, stepped, many_all, bytes_match}
use Rattle.query_plan.proofs.CompleteLemmas.{Symbols, none, delimiter, constant, variable, clash}
use Rattle.query_plan.proofs.PartsLemmas.{symbols_of}

contains_none : {X : Type 0} (y : X) → Contains [] y → ⊥
contains_none y (k, lt, e) = omega (arith, lt)

contains_cases : {X : Type 0} (x y : X) (xs : List X) → Contains (x ∷ xs) y → (x ≡ y) ⊎ Contains xs y
contains_cases x y xs (zero, lt, e) = inl e
contains_cases x y xs (suc k, lt, e) = inr (k, omega (arith, lt), e)

-- ---- a token of the pattern stands in what the pattern matches

pub bytes_any : (q : List Item) (t s : List ℕ) → Steps (bytes t q) s → Steps (bytes t (Many ∷ [])) s
bytes_any q [] s m = many_all s
bytes_any q (b ∷ t) [] m = elim m [ ]
bytes_any q (b ∷ t) (c ∷ s) (byte m) = byte (bytes_any q t s m)

pub bytes_in : (t : List ℕ) (q : List Item) → ((u : List ℕ) → Steps q u → Steps (around t) u) → (w s : List ℕ) → Steps (bytes w q) s → Steps (around t) s
bytes_in t q f [] s m = f s m
bytes_in t q f (b ∷ w) [] m = elim m [ ]
bytes_in t q f (b ∷ w) (c ∷ s) (byte m) = takes (bytes_in t q f w s m)

pub many_in : (t : List ℕ) (q : List Item) → ((u : List ℕ) → Steps q u → Steps (around t) u) → (s : List ℕ) → Steps (Many ∷ q) s → Steps (around t) s
many_in t q f s (drops m) = f s m
many_in t q f (b ∷ s) (takes m) = takes (many_in t q f s m)

same_word : (t w : List ℕ) → WordPiece w ≡ WordPiece t → w ≡ t
same_word t w e = cc (e)

pub has_word : (t : List ℕ) (ps : List Piece) → Contains ps (WordPiece t) → (s : List ℕ) → Steps (flat ps) s → Steps (around t) s
has_word t [] has s m = absurd (contains_none (WordPiece t) has)
has_word t (Gap ∷ ps) has s m = elim (contains_cases Gap (WordPiece t) ps has) [
  | inl e ↦ absurd (cc (e))
  | inr there ↦ many_in t (flat ps) (λ u n. has_word t ps there u n) s m
]
has_word t (Mark d ∷ ps) has [] m = elim m [ ]
has_word t (Mark d ∷ ps) has (c ∷ s) (byte m) = elim (contains_cases (Mark d) (WordPiece t) ps has) [
  | inl e ↦ absurd (cc (e))
  | inr there ↦ takes (has_word t ps there s m)
]
has_word t (WordPiece w ∷ ps) has s m = elim (contains_cases (WordPiece w) (WordPiece t) ps has) [
  | inl e ↦ drops (bytes_any (flat ps) t s (subst (λ x. Steps (bytes x (flat ps)) s) (same_word t w e) m))
  | inr there ↦ bytes_in t (flat ps) (λ u n. has_word t ps there u n) w s m
]

pub inner_of : (t : List ℕ) → IsSomeInner t → IsInner t
inner_of [] c = absurd c
inner_of (b ∷ t) c = c

pub word_inner : (t : List ℕ) (ps : List Piece) → IsCut ps → Contains ps (WordPiece t) → IsSomeInner t
word_inner t [] c has = absurd (contains_none (WordPiece t) has)
word_inner t (Gap ∷ ps) c has = elim (contains_cases Gap (WordPiece t) ps has) [
  | inl e ↦ absurd (cc (e))
  | inr there ↦ word_inner t ps c there
]
word_inner t (Mark d ∷ ps) c has = elim (contains_cases (Mark d) (WordPiece t) ps has) [
  | inl e ↦ absurd (cc (e))
  | inr there ↦ word_inner t ps c.1 there
]
word_inner t (WordPiece w ∷ ps) c has = elim (contains_cases (WordPiece w) (WordPiece t) ps has) [
  | inl e ↦ subst IsSomeInner (same_word t w e) c.0
  | inr there ↦ word_inner t ps c.2 there
]

-- ---- it stands in no stamp

abbrev AllStamp : List ℕ → Type 0
AllStamp [] = Unit {0}
AllStamp (b ∷ s) = (is_stamp_byte b ≡ true) × AllStamp s

foreign_of : (x : Bool) (y : Bool) → x ≡ true → y ≡ false → (not x || y) ≡ false
foreign_of true y one two = two
foreign_of false y one two = absurd (cc (one))

no_foreign : (q : List Item) (body : List ℕ) → Breaks body → (t s : List ℕ) → AllStamp s → IsInner t → Steps (bytes t q) (s ++ body) → is_foreign t ≡ false
no_foreign q body breaks [] s all i m = refl
no_foreign q [] breaks (b ∷ t) [] all i m = elim m [ ]
no_foreign q (d ∷ body) breaks (b ∷ t) [] all i (byte m) = absurd (clash b i.0 breaks)
no_foreign q body breaks (b ∷ t) (c ∷ s) all i (byte m) = foreign_of (is_stamp_byte c) (is_foreign t) all.0 (no_foreign q body breaks t s all.1 i.1 m)

true_not : (x : Bool) → x ≡ true → x ≡ false → ⊥
true_not x one two = cc (one, two)

past_stamp : (t body : List ℕ) → Breaks body → IsInner t → is_foreign t ≡ true → (s : List ℕ) → AllStamp s → Steps (around t) (s ++ body) → Steps (around t) body
past_stamp t body breaks i foreign [] all m = m
past_stamp t body breaks i foreign (c ∷ s) all (takes m) = past_stamp t body breaks i foreign s all.1 m
past_stamp t body breaks i foreign (c ∷ s) all (drops m) = absurd (true_not (is_foreign t) foreign (no_foreign (Many ∷ []) body breaks t (c ∷ s) all i m))

-- ---- it stands among the constants, or in a variable

pub record Run (t v : List ℕ) : Type 0 where
  pub rest : List ℕ
  pub joins : v ≡ t ++ rest

run : (q : List Item) (s : List ℕ) → Breaks s → (t : List ℕ) → IsInner t → (v : List ℕ) → Steps (bytes t q) (v ++ s) → Run t v
run q s breaks [] i v m = record { rest = v; joins = refl }
run q [] breaks (b ∷ t) i [] m = elim m [ ]
run q (d ∷ s) breaks (b ∷ t) i [] (byte m) = absurd (clash b i.0 breaks)
run q s breaks (b ∷ t) i (c ∷ v) (byte m) = let r = run q s breaks t i.1 v m in record { rest = r.rest; joins = ap (λ x. c ∷ x) r.joins }

around_run : (t v m : List ℕ) → Run t v → Steps (around t) (v ++ m)
around_run t v m r =
    subst (Steps (around t)) (sym (ap (λ x. x ++ m) r.joins ∙ append_assoc t r.rest m)) (drops (bytes_match t (many_all (r.rest ++ m))))

pub around_alone : (t v : List ℕ) → Run t v → Steps (around t) v
around_alone t v r = subst (Steps (around t)) (sym r.joins) (drops (bytes_match t (many_all r.rest)))

on_left : {A B C : Type 0} → (A → C) → A ⊎ B → C ⊎ B
on_left f (inl a) = inl (f a)
on_left f (inr b) = inr b

in_constant : (B : Type 0) (t s m : List ℕ) → IsInner t → Breaks s → (Steps (around t) s → Steps (around t) m ⊎ B) → (v : List ℕ) → Steps (around t) (v ++ s) → Steps (around t) (v ++ m) ⊎ B
in_constant B t s m i breaks f [] n = f n
in_constant B t s m i breaks f (c ∷ v) (takes n) = on_left takes (in_constant B t s m i breaks f v n)
in_constant B t s m i breaks f (c ∷ v) (drops n) = inl (around_run t (c ∷ v) m (run (Many ∷ []) s breaks t i (c ∷ v) n))

in_variable : (B : Type 0) (t s : List ℕ) → IsInner t → Breaks s → (Steps (around t) s → B) → (v : List ℕ) → Steps (around t) (v ++ s) → Steps (around t) v ⊎ B
in_variable B t s i breaks f [] n = inr (f n)
in_variable B t s i breaks f (c ∷ v) (takes n) = on_left takes (in_variable B t s i breaks f v n)
in_variable B t s i breaks f (c ∷ v) (drops n) = inl (around_alone t (c ∷ v) (run (Many ∷ []) s breaks t i (c ∷ v) n))

marked_plains : (w : List ℕ) (parts : List Part) → marked 10 (plains w parts) ≡ w ++ marked 10 parts
marked_plains [] parts = refl
marked_plains (b ∷ w) parts = ap (λ x. b ∷ x) (marked_plains w parts)

held_plains : (t w : List ℕ) (parts : List Part) → HeldIn t parts → HeldIn t (plains w parts)
held_plains t [] parts h = h
held_plains t (b ∷ w) parts h = held_plains t w parts h

not_nothing : (t : List ℕ) → IsSomeInner t → Steps (around t) [] → ⊥
not_nothing [] i m = i
not_nothing (b ∷ t) i (drops m) = elim m [ ]

not_at : (d : ℕ) (t s : List ℕ) → IsSomeInner t → IsDelimiter d → Steps (bytes t (Many ∷ [])) (d ∷ s) → ⊥
not_at d [] s i is m = i
not_at d (b ∷ t) s i is (byte m) = clash b i.0 is

in_parts : (t : List ℕ) → IsSomeInner t → {e : Option ℕ} {s : List ℕ} {parts : List Part} → Symbols e s parts → Steps (around t) s → Steps (around t) (marked 10 parts) ⊎ HeldIn t parts
in_parts t i none m = absurd (not_nothing t i m)
in_parts t i (delimiter {d = d} {s = s} is n) (takes m) = on_left takes (in_parts t i n m)
in_parts t i (delimiter {d = d} {s = s} is n) (drops m) = absurd (not_at d t s i is m)
in_parts t i (constant {s = s} {parts = parts} w k breaks is n) m =
    let found = in_constant (HeldIn t parts) t s (marked 10 parts) (inner_of t i) breaks (λ u. in_parts t i n u) w m in
    elim found [
      | inl here ↦ inl (subst (Steps (around t)) (sym (marked_plains w parts)) here)
      | inr held ↦ inr (held_plains t w parts held)
    ]
in_parts t i (variable {s = s} {parts = parts} w kind k breaks is n) m =
    elim (in_variable (Steps (around t) (marked 10 parts) ⊎ HeldIn t parts) t s (inner_of t i) breaks (λ u. in_parts t i n u) w m) [
      | inl here ↦ inr (inl (stepped here))
      | inr (inl there) ↦ inl (takes there)
      | inr (inr held) ↦ inr (inr held)
    ]

-- ---- the laws

all_stamp_in : (s : List ℕ) → AllByRecursion (λ b. IsTrue (is_stamp_byte b)) s → AllStamp s
all_stamp_in [] h = tt
all_stamp_in (b ∷ s) h = (h.0, all_stamp_in s h.1)

all_stamp : (s : List ℕ) → All (λ b. IsTrue (is_stamp_byte b)) s → AllStamp s
all_stamp s all = all_stamp_in s (recursion_from_All (λ b. IsTrue (is_stamp_byte b)) s all)

pub foreign_stands : ForeignStandsInNoStamp
foreign_stands ps t s cut has foreign all m =
    let i = word_inner t ps cut has in
    not_nothing t i
    (past_stamp t [] tt (inner_of t i) foreign s (all_stamp s all) (subst (Steps (around t)) (sym (append-nil s)) (steps (around t) s m)))

-- a body behind a stamp begins with a delimiter, so a token does not lie across
in_stamp : (t body s : List ℕ) → IsBodyBehind s body → IsInner t → Steps (around t) (s ++ body) → Steps (around t) s ⊎ Steps (around t) body
in_stamp t body [] behind i m = inr m
in_stamp t body (c ∷ s) behind i m = in_variable (Steps (around t) body) t body i behind (λ n. n) (c ∷ s) m

-- a token that stands in a body
pub in_body : PartsAreCut → (t body : List ℕ) (parts : List Part) → IsSomeInner t → AreParts body parts → Steps (around t) body
    → Match (around t) (marked 10 parts) ⊎ HeldIn t parts
in_body law t body parts i are m =
    elim (in_parts t i (symbols_of law body parts are) m) [
      | inl among ↦ inl (stepped among)
      | inr held ↦ inr held
    ]

pub tokens_stand : PartsAreCut → TokensStand
tokens_stand law ps s body parts t cut has behind are m =
    let i = word_inner t ps cut has in
    let whole : Steps (around t) (s ++ body) = has_word t ps has (s ++ body) (steps (flat ps) (s ++ body) m) in
    elim (in_stamp t body s behind (inner_of t i) whole) [
      | inl here ↦ inl (stepped here)
      | inr there ↦ inr (in_body law t body parts i are there)
    ]

pub tokens_brought : PartsAreCut → TokensAreBrought
tokens_brought law ps s body parts t cut has foreign all behind are m =
    elim (tokens_stand law ps s body parts t cut has behind are m) [
      | inl here ↦ absurd (foreign_stands ps t s cut has foreign all here)
      | inr there ↦ there
    ]
