-- Matching as steps, and what is left of a pattern.
use Rattle.std.proofs.Common.{ℕ, List, [], ◌∷◌, ◌++◌, refl, sym, subst, inl, inr, ⊎_elim}
use Rattle.wild_match.specs.Matches.{Match, OfSomeRest}
use Rattle.wild_match.specs.declared.pattern.Item.{Item}
use Rattle.wild_match.specs.declared.pattern.Item.TheVariants.{Byte, One, Many}
use Rattle.query_plan.specs.Pieces.{bytes}
use Rattle.query_plan.specs.Readings.{Rest, now, same, one, past, stay}

-- a match, step by step
pub data Steps : List Item → List ℕ → Type 0 where
  ended : Steps [] []
  byte : {b : ℕ} {p : List Item} {s : List ℕ} → Steps p s → Steps (Byte b ∷ p) (b ∷ s)
  any : {b : ℕ} {p : List Item} {s : List ℕ} → Steps p s → Steps (One ∷ p) (b ∷ s)
  drops : {p : List Item} {s : List ℕ} → Steps p s → Steps (Many ∷ p) s
  takes : {b : ℕ} {p : List Item} {s : List ℕ} → Steps (Many ∷ p) s → Steps (Many ∷ p) (b ∷ s)

some_steps : (p : List Item) → ((s : List ℕ) → Match p s → Steps p s) → (s : List ℕ) → OfSomeRest (λ rest. Match p rest) s → Steps (Many ∷ p) s
some_steps p f [] m = drops (f [] m)
some_steps p f (b ∷ s) m = ⊎_elim (λ here. drops (f (b ∷ s) here)) (λ later. takes (some_steps p f s later)) m

pub steps : (p : List Item) (s : List ℕ) → Match p s → Steps p s
steps [] s m = subst (λ t. Steps [] t) (sym m) ended
steps (Byte c ∷ p) [] m = absurd m
steps (Byte c ∷ p) (b ∷ s) m = subst (λ d. Steps (Byte d ∷ p) (b ∷ s)) m.0 (byte (steps p s m.1))
steps (One ∷ p) [] m = absurd m
steps (One ∷ p) (b ∷ s) m = any (steps p s m)
steps (Many ∷ p) s m = some_steps p (λ t n. steps p t n) s m

rest_here : (P : List ℕ → Type 0) (s : List ℕ) → P s → OfSomeRest P s
rest_here P [] h = h
rest_here P (b ∷ s) h = inl h

pub stepped : {p : List Item} {s : List ℕ} → Steps p s → Match p s
stepped ended = refl
stepped (byte m) = (refl, stepped m)
stepped (any m) = stepped m
stepped (drops {p = p} {s = s} m) = rest_here (λ rest. Match p rest) s (stepped m)
stepped (takes m) = inr (stepped m)

pub rest_match : {p q : List Item} {s : List ℕ} (z : List ℕ) → Rest p s q → Steps q z → Steps p (s ++ z)
rest_match z now m = m
rest_match z (same r) m = byte (rest_match z r m)
rest_match z (one r) m = any (rest_match z r m)
rest_match z (past r) m = drops (rest_match z r m)
rest_match z (stay r) m = takes (rest_match z r m)

-- what is left of the pattern for z, after it has matched s
pub record Left (p : List Item) (s z : List ℕ) : Type 0 where
  pub rest : List Item
  pub is_rest : Rest p s rest
  pub fits : Steps rest z

many_left : (p : List Item) (z : List ℕ) → ((s : List ℕ) → Steps p (s ++ z) → Left p s z) → (s : List ℕ) → Steps (Many ∷ p) (s ++ z) → Left (Many ∷ p) s z
many_left p z f [] m = record { rest = Many ∷ p; is_rest = now; fits = m }
many_left p z f (b ∷ s) (drops m) = let l = f (b ∷ s) m in record { rest = l.rest; is_rest = past l.is_rest; fits = l.fits }
many_left p z f (b ∷ s) (takes m) = let l = many_left p z f s m in record { rest = l.rest; is_rest = stay l.is_rest; fits = l.fits }

pub match_rest : (p : List Item) (z s : List ℕ) → Steps p (s ++ z) → Left p s z
match_rest p z [] m = record { rest = p; is_rest = now; fits = m }
match_rest [] z (c ∷ s) m = elim m [ ]
match_rest (Byte b ∷ p) z (c ∷ s) (byte m) = let l = match_rest p z s m in record { rest = l.rest; is_rest = same l.is_rest; fits = l.fits }
match_rest (One ∷ p) z (c ∷ s) (any m) = let l = match_rest p z s m in record { rest = l.rest; is_rest = one l.is_rest; fits = l.fits }
match_rest (Many ∷ p) z (c ∷ s) m = many_left p z (λ t n. match_rest p z t n) (c ∷ s) m

pub many_more : {p : List Item} {z : List ℕ} (v : List ℕ) → Steps (Many ∷ p) z → Steps (Many ∷ p) (v ++ z)
many_more [] m = m
many_more (b ∷ v) m = takes (many_more v m)

pub many_all : (v : List ℕ) → Steps (Many ∷ []) v
many_all [] = drops ended
many_all (b ∷ v) = takes (many_all v)

pub bytes_match : {q : List Item} {z : List ℕ} (t : List ℕ) → Steps q z → Steps (bytes t q) (t ++ z)
bytes_match [] m = m
bytes_match (b ∷ t) m = byte (bytes_match t m)

-- what matches behind a token matches behind it with more
pub bytes_swap : (x q : List Item) (z : List ℕ) → ((v : List ℕ) → Steps x v → Steps q (v ++ z)) → (t v : List ℕ) → Steps (bytes t x) v → Steps (bytes t q) (v ++ z)
bytes_swap x q z f [] v m = f v m
bytes_swap x q z f (b ∷ t) [] m = elim m [ ]
bytes_swap x q z f (b ∷ t) (c ∷ v) (byte m) = byte (bytes_swap x q z f t v m)

pub many_swap : (x q : List Item) (z : List ℕ) → ((v : List ℕ) → Steps x v → Steps q (v ++ z)) → (v : List ℕ) → Steps (Many ∷ x) v → Steps (Many ∷ q) (v ++ z)
many_swap x q z f v (drops m) = drops (f v m)
many_swap x q z f (b ∷ v) (takes m) = takes (many_swap x q z f v m)
