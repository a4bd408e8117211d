-- The pattern that a search is planned over matches no less, and no more where nothing was left out.
use Rattle.std.proofs.Common.{◌≡◌, ℕ, zero, suc, ◌+◌, List, [], ◌∷◌, ◌++◌, refl, sym, ap, subst, ◌∙◌, arith}
use Rattle.std.specs.Prelude.{Bool, true, false}
use Rattle.token_rules.specs.Tokens.{is_token_byte}
use Rattle.wild_match.specs.Matches.{Match}
use Rattle.wild_match.specs.Reading.{IsSearchPattern}
use Rattle.wild_match.specs.declared.pattern.Item.{Item}
use Rattle.wild_match.specs.declared.pattern.Item.TheVariants.{Byte, One, Many}
use Rattle.query_plan.specs.declared.pieces.Piece.{Piece}
use Rattle.query_plan.specs.declared.pieces.Piece.TheVariants.{Gap, Mark, Word}
use Rattle.query_plan.specs.Pieces.{Side, Free, After, Inside, bytes, flat, put, pieces, is_open, less, stays, thin, one_gap, merge, wide_pieces, wide, more, open_count, open_tokens}
use Rattle.query_plan.specs.Laws.{IsSmooth, IsWidened, NotNil, NoOne, EndsMany, IsSearched}
use Rattle.query_plan.proofs.MatchLemmas.{Steps, ended, byte, any, drops, takes, steps, stepped}
use Rattle.query_plan.proofs.CutLemmas.{flat_put, flat_pieces}

pieces_wider : {p : List Item} {s : List ℕ} → Steps p s → Steps (flat (pieces p)) s
pieces_wider ended = ended
pieces_wider (byte {b = b} {p = p} {s = s} m) = subst (λ q. Steps q (b ∷ s)) (sym (flat_put (is_token_byte b) b (pieces p))) (byte (pieces_wider m))
pieces_wider (any m) = takes (drops (pieces_wider m))
pieces_wider (drops m) = drops (pieces_wider m)
pieces_wider (takes m) = takes (pieces_wider m)

-- a function on matches of what follows
bytes_onto : (q r : List Item) → ((s : List ℕ) → Steps q s → Steps r s) → (t s : List ℕ) → Steps (bytes t q) s → Steps (bytes t r) s
bytes_onto q r f [] s m = f s m
bytes_onto q r f (b ∷ t) [] m = elim m [ ]
bytes_onto q r f (b ∷ t) (c ∷ s) (byte m) = byte (bytes_onto q r f t s m)

many_onto : (q r : List Item) → ((s : List ℕ) → Steps q s → Steps r s) → (s : List ℕ) → Steps (Many ∷ q) s → Steps (Many ∷ r) s
many_onto q r f s (drops m) = drops (f s m)
many_onto q r f (b ∷ s) (takes m) = takes (many_onto q r f s m)

bytes_gone : (q r : List Item) → ((s : List ℕ) → Steps q s → Steps r s) → (t s : List ℕ) → Steps (bytes t q) s → Steps (Many ∷ r) s
bytes_gone q r f [] s m = drops (f s m)
bytes_gone q r f (b ∷ t) [] m = elim m [ ]
bytes_gone q r f (b ∷ t) (c ∷ s) (byte m) = takes (bytes_gone q r f t s m)

stays_wider : (n : ℕ) (o : Bool) (t : List ℕ) (ps qs : List Piece) → ((s : List ℕ) → Steps (flat ps) s → Steps (flat qs) s)
    → (s : List ℕ) → Steps (bytes t (flat ps)) s → Steps (flat (stays n o t ∷ qs)) s
stays_wider zero true t ps qs f s m = bytes_gone (flat ps) (flat qs) f t s m
stays_wider zero false t ps qs f s m = bytes_onto (flat ps) (flat qs) f t s m
stays_wider (suc n) o t ps qs f s m = bytes_onto (flat ps) (flat qs) f t s m

thin_wider : (n : ℕ) (e : Side) (ps : List Piece) (s : List ℕ) → Steps (flat ps) s → Steps (flat (thin n e ps)) s
thin_wider n e [] s m = m
thin_wider n e (Gap ∷ ps) s m = many_onto (flat ps) (flat (thin n Free ps)) (λ u k. thin_wider n Free ps u k) s m
thin_wider n e (Mark d ∷ ps) [] m = elim m [ ]
thin_wider n e (Mark d ∷ ps) (c ∷ s) (byte m) = byte (thin_wider n (After d) ps s m)
thin_wider n e (Word t ∷ ps) s m =
    stays_wider n (is_open e ps) t ps (thin (less n (is_open e ps)) Inside ps) (λ u k. thin_wider (less n (is_open e ps)) Inside ps u k) s m

one_many : (q : List Item) (s : List ℕ) → Steps (Many ∷ Many ∷ q) s → Steps (Many ∷ q) s
one_many q s (drops m) = m
one_many q (b ∷ s) (takes m) = takes (one_many q s m)

gap_once : (ps : List Piece) (s : List ℕ) → Steps (Many ∷ flat ps) s → Steps (flat (one_gap ps)) s
gap_once [] s m = m
gap_once (Gap ∷ ps) s m = one_many (flat ps) s m
gap_once (Mark d ∷ ps) s m = m
gap_once (Word t ∷ ps) s m = m

gap_twice : (ps : List Piece) (s : List ℕ) → Steps (flat (one_gap ps)) s → Steps (Many ∷ flat ps) s
gap_twice [] s m = m
gap_twice (Gap ∷ ps) s m = drops m
gap_twice (Mark d ∷ ps) s m = m
gap_twice (Word t ∷ ps) s m = m

merge_wider : (ps : List Piece) (s : List ℕ) → Steps (flat ps) s → Steps (flat (merge ps)) s
merge_wider [] s m = m
merge_wider (Gap ∷ ps) s m = gap_once (merge ps) s (many_onto (flat ps) (flat (merge ps)) (λ u k. merge_wider ps u k) s m)
merge_wider (Mark d ∷ ps) [] m = elim m [ ]
merge_wider (Mark d ∷ ps) (c ∷ s) (byte m) = byte (merge_wider ps s m)
merge_wider (Word t ∷ ps) s m = bytes_onto (flat ps) (flat (merge ps)) (λ u k. merge_wider ps u k) t s m

merge_back : (ps : List Piece) (s : List ℕ) → Steps (flat (merge ps)) s → Steps (flat ps) s
merge_back [] s m = m
merge_back (Gap ∷ ps) s m = many_onto (flat (merge ps)) (flat ps) (λ u k. merge_back ps u k) s (gap_twice (merge ps) s m)
merge_back (Mark d ∷ ps) [] m = elim m [ ]
merge_back (Mark d ∷ ps) (c ∷ s) (byte m) = byte (merge_back ps s m)
merge_back (Word t ∷ ps) s m = bytes_onto (flat (merge ps)) (flat ps) (λ u k. merge_back ps u k) t s m

pub wide_is_wider : (p : List Item) (s : List ℕ) → Match p s → Match (wide p) s
wide_is_wider p s m = stepped (merge_wider (thin 4 Free (pieces p)) s (thin_wider 4 Free (pieces p) s (pieces_wider (steps p s m))))

-- where as many open tokens may stay as there are, all stay
stays_all : (n m c : ℕ) (o : Bool) (t : List ℕ) → more o c + m ≡ n → stays n o t ≡ Word t
stays_all zero m c true t e = absurd (omega arith)
stays_all zero m c false t e = refl
stays_all (suc n) m c o t e = refl

less_all : (n m c : ℕ) (o : Bool) → more o c + m ≡ n → c + m ≡ less n o
less_all n m c false e = e
less_all zero m c true e = absurd (omega arith)
less_all (suc n) m c true e = omega arith

thin_all : (n m : ℕ) (e : Side) (ps : List Piece) → open_count e ps + m ≡ n → thin n e ps ≡ ps
thin_all n m e [] h = refl
thin_all n m e (Gap ∷ ps) h = ap (λ x. Gap ∷ x) (thin_all n m Free ps h)
thin_all n m e (Mark d ∷ ps) h = ap (λ x. Mark d ∷ x) (thin_all n m (After d) ps h)
thin_all n m e (Word t ∷ ps) h =
    let o = is_open e ps in
    let c = open_count Inside ps in
    ap (λ x. x ∷ thin (less n o) Inside ps) (stays_all n m c o t h) ∙ ap (λ x. Word t ∷ x) (thin_all (less n o) m Inside ps (less_all n m c o h))

pub wide_is_exact : (p : List Item) (s : List ℕ) (m : ℕ) → NoOne p → open_tokens p + m ≡ 4 → Match (wide p) s → Match p s
wide_is_exact p s m no_one few k =
    let back = merge_back (thin 4 Free (pieces p)) s (steps (wide p) s k) in
    let all = subst (λ q. Steps (flat q) s) (thin_all 4 m Free (pieces p) few) back in
    stepped (subst (λ q. Steps q s) (flat_pieces p no_one) all)

-- the last piece is a gap
abbrev EndsGap : List Piece → Type 0
EndsGap [] = ⊥
EndsGap (Gap ∷ []) = Unit {0}
EndsGap (Mark d ∷ []) = ⊥
EndsGap (Word t ∷ []) = ⊥
EndsGap (x ∷ y ∷ ps) = EndsGap (y ∷ ps)

ends_behind : (x : Piece) (ps : List Piece) → EndsGap ps → EndsGap (x ∷ ps)
ends_behind x [] e = absurd e
ends_behind x (y ∷ ps) e = e

put_ends : (v : Bool) (b : ℕ) (ps : List Piece) → EndsGap ps → EndsGap (put v b ps)
put_ends true b [] e = absurd e
put_ends true b (Gap ∷ ps) e = e
put_ends true b (Mark d ∷ ps) e = e
put_ends true b (Word t ∷ []) e = absurd e
put_ends true b (Word t ∷ y ∷ ps) e = e
put_ends false b ps e = ends_behind (Mark b) ps e

pieces_end : (q : List Item) → EndsMany q → EndsGap (pieces q)
pieces_end [] e = absurd e
pieces_end (Many ∷ []) e = tt
pieces_end (Byte b ∷ []) e = absurd e
pieces_end (One ∷ []) e = absurd e
pieces_end (Many ∷ y ∷ q) e = ends_behind Gap (pieces (y ∷ q)) (pieces_end (y ∷ q) e)
pieces_end (One ∷ y ∷ q) e = ends_behind Gap (pieces (y ∷ q)) (pieces_end (y ∷ q) e)
pieces_end (Byte b ∷ y ∷ q) e = put_ends (is_token_byte b) b (pieces (y ∷ q)) (pieces_end (y ∷ q) e)

thin_ends : (n : ℕ) (e : Side) (ps : List Piece) → EndsGap ps → EndsGap (thin n e ps)
thin_ends n e [] h = absurd h
thin_ends n e (Gap ∷ []) h = tt
thin_ends n e (Mark d ∷ []) h = absurd h
thin_ends n e (Word t ∷ []) h = absurd h
thin_ends n e (Gap ∷ y ∷ ps) h = ends_behind Gap (thin n Free (y ∷ ps)) (thin_ends n Free (y ∷ ps) h)
thin_ends n e (Mark d ∷ y ∷ ps) h = ends_behind (Mark d) (thin n (After d) (y ∷ ps)) (thin_ends n (After d) (y ∷ ps) h)
thin_ends n e (Word t ∷ y ∷ ps) h =
    let o = is_open e (y ∷ ps) in
    ends_behind (stays n o t) (thin (less n o) Inside (y ∷ ps)) (thin_ends (less n o) Inside (y ∷ ps) h)

one_gap_ends : (ps : List Piece) → EndsGap ps → EndsGap (one_gap ps)
one_gap_ends [] e = absurd e
one_gap_ends (Gap ∷ ps) e = e
one_gap_ends (Mark d ∷ ps) e = e
one_gap_ends (Word t ∷ ps) e = e

merge_ends : (ps : List Piece) → EndsGap ps → EndsGap (merge ps)
merge_ends [] h = absurd h
merge_ends (Gap ∷ []) h = tt
merge_ends (Mark d ∷ []) h = absurd h
merge_ends (Word t ∷ []) h = absurd h
merge_ends (Gap ∷ y ∷ ps) h = one_gap_ends (merge (y ∷ ps)) (merge_ends (y ∷ ps) h)
merge_ends (Mark d ∷ y ∷ ps) h = ends_behind (Mark d) (merge (y ∷ ps)) (merge_ends (y ∷ ps) h)
merge_ends (Word t ∷ y ∷ ps) h = ends_behind (Word t) (merge (y ∷ ps)) (merge_ends (y ∷ ps) h)

bytes_smooth : (t : List ℕ) (q : List Item) → NotNil q → IsSmooth q → IsSmooth (bytes t q)
bytes_smooth [] q n s = s
bytes_smooth (b ∷ []) q n s = (n, s)
bytes_smooth (b ∷ c ∷ t) q n s = (tt, bytes_smooth (c ∷ t) q n s)

bytes_not_nil : (t : List ℕ) (q : List Item) → NotNil q → NotNil (bytes t q)
bytes_not_nil [] q n = n
bytes_not_nil (b ∷ t) q n = tt

ends_not_nil : (ps : List Piece) → EndsGap ps → NotNil (flat ps)
ends_not_nil [] e = absurd e
ends_not_nil (Gap ∷ ps) e = tt
ends_not_nil (Mark d ∷ ps) e = tt
ends_not_nil (Word t ∷ []) e = absurd e
ends_not_nil (Word t ∷ y ∷ ps) e = bytes_not_nil t (flat (y ∷ ps)) (ends_not_nil (y ∷ ps) e)

ends_smooth : (ps : List Piece) → EndsGap ps → IsSmooth (flat ps)
ends_smooth [] e = absurd e
ends_smooth (Gap ∷ []) e = tt
ends_smooth (Mark d ∷ []) e = absurd e
ends_smooth (Word t ∷ []) e = absurd e
ends_smooth (Gap ∷ y ∷ ps) e = ends_smooth (y ∷ ps) e
ends_smooth (Mark d ∷ y ∷ ps) e = (ends_not_nil (y ∷ ps) e, ends_smooth (y ∷ ps) e)
ends_smooth (Word t ∷ y ∷ ps) e = bytes_smooth t (flat (y ∷ ps)) (ends_not_nil (y ∷ ps) e) (ends_smooth (y ∷ ps) e)

gap_widened : (ps : List Piece) → IsSmooth (flat (one_gap ps)) → IsWidened (flat (one_gap ps))
gap_widened [] s = s
gap_widened (Gap ∷ ps) s = s
gap_widened (Mark d ∷ ps) s = s
gap_widened (Word t ∷ ps) s = s

wide_is_widened : (q : List Item) → EndsMany (Many ∷ q) → IsWidened (wide (Many ∷ q))
wide_is_widened q e =
    let all = merge_ends (thin 4 Free (pieces (Many ∷ q))) (thin_ends 4 Free (pieces (Many ∷ q)) (pieces_end (Many ∷ q) e)) in
    gap_widened (merge (thin 4 Free (pieces q))) (ends_smooth (wide_pieces (Many ∷ q)) all)

pub searched_is_widened : (q : List Item) → IsSearched q → IsWidened (wide q)
searched_is_widened [] s = absurd s
searched_is_widened (Byte b ∷ q) s = absurd s
searched_is_widened (One ∷ q) s = absurd s
searched_is_widened (Many ∷ q) s = wide_is_widened q s

ends_behind_items : (x : Item) (q : List Item) → EndsMany q → EndsMany (x ∷ q)
ends_behind_items x [] e = absurd e
ends_behind_items x (y ∷ q) e = e

ends_many : (q : List Item) → EndsMany (q ++ Many ∷ [])
ends_many [] = tt
ends_many (x ∷ q) = ends_behind_items x (q ++ Many ∷ []) (ends_many q)

pub is_searched : (text : List ℕ) (p : List Item) → IsSearchPattern text p → IsSearched p
is_searched text p h = subst IsSearched (sym h.2) (ends_many (Many ∷ h.0))
