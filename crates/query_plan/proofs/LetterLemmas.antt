-- Matching from the front of a text: the first place of a chunk is enough.
use Rattle.std.proofs.Common.{◌≡◌, ◌≢◌, ◌↔◌, ◌≤◌, ◌+◌, ℕ, List, [], ◌∷◌, length, refl, sym, ap, ◌∙◌, subst, inl, inr, ⊎_elim, arith, IsTrue, true}
use Rattle.wild_match.specs.Matches.{Match, OfSomeRest}
use Rattle.wild_match.specs.declared.pattern.Item.{Item}
use Rattle.wild_match.specs.declared.pattern.Item.TheVariants.{Byte, One, Many}
use Rattle.query_plan.specs.StepsOfMatching.{Front, here, byte, any, Stops, GoesOn}

pub match_front : {p q : List Item} {s u : List ℕ} → Front p s q u → Match p s → Match q u
match_front here m = m
match_front (byte f) m = match_front f m.1
match_front (any f) m = match_front f m

pub front_match : {p q : List Item} {s u : List ℕ} → Front p s q u → Match q u → Match p s
front_match here m = m
front_match (byte f) m = (refl, front_match f m)
front_match (any f) m = front_match f m

pub front_then : {p q r : List Item} {s u v : List ℕ} → Front p s q u → Front q u r v → Front p s r v
front_then here g = g
front_then (byte f) g = byte (front_then f g)
front_then (any f) g = any (front_then f g)

pub front_shorter : {p q : List Item} {s u : List ℕ} → Front p s q u → length q + length u ≤ length p + length s
front_shorter here = omega arith
front_shorter (byte f) = omega (arith, front_shorter f)
front_shorter (any f) = omega (arith, front_shorter f)

-- a text is an end of another
data Later : List ℕ → List ℕ → Type 0 where
  same : {s : List ℕ} → Later s s
  past : {b : ℕ} {t s : List ℕ} → Later t s → Later t (b ∷ s)

later_tail : {c : ℕ} {t s : List ℕ} → Later (c ∷ t) s → Later t s
later_tail same = past same
later_tail (past l) = past (later_tail l)

later_both : {b c : ℕ} {t s : List ℕ} → Later (c ∷ t) (b ∷ s) → Later t s
later_both same = same
later_both (past l) = later_tail l

many_later : (P : List ℕ → Type 0) {t s : List ℕ} → Later t s → OfSomeRest P t → OfSomeRest P s
many_later P same m = m
many_later P (past l) m = inr (many_later P l m)

-- a chunk that begins later ends later
same_chunk : {p q : List Item} {s u : List ℕ} → Front p s (Many ∷ q) u → (t : List ℕ) → Later t s → Match p t → OfSomeRest (λ r. Match q r) u
same_chunk {q = q} here t l m = many_later (λ r. Match q r) l m
same_chunk (byte f) [] l m = absurd m
same_chunk (byte f) (c ∷ t) l m = same_chunk f t (later_both l) m.1
same_chunk (any f) [] l m = absurd m
same_chunk (any f) (c ∷ t) l m = same_chunk f t (later_both l) m

greedy : {p q : List Item} {s u : List ℕ} → Front p s (Many ∷ q) u → (t : List ℕ) → Later t s → OfSomeRest (λ r. Match p r) t → OfSomeRest (λ r. Match q r) u
greedy f [] l m = same_chunk f [] l m
greedy f (b ∷ t) l m = ⊎_elim (λ h. same_chunk f (b ∷ t) l h) (λ r. greedy f t (later_tail l) r) m

pub rest_here : (P : List ℕ → Type 0) (s : List ℕ) → P s → OfSomeRest P s
rest_here P [] h = h
rest_here P (b ∷ s) h = inl h

rest_once : (P : List ℕ → Type 0) (s : List ℕ) → OfSomeRest (λ r. OfSomeRest P r) s → OfSomeRest P s
rest_once P [] m = m
rest_once P (b ∷ s) m = ⊎_elim (λ h. h) (λ r. inr (rest_once P s r)) m

pub goes_many : (q : List Item) (s : List ℕ) → GoesOn (Many ∷ q) s q s
goes_many q s = record {
  decides = (λ m. rest_once (λ r. Match q r) s m, λ m. rest_here (λ r. Match (Many ∷ q) r) s m);
  shorter = omega arith;
}

pub goes_past : (p : List Item) (b : ℕ) (s : List ℕ) → ¬ Match p (b ∷ s) → GoesOn p (b ∷ s) p s
goes_past p b s never = record {
  decides = (λ m. ⊎_elim (λ h. absurd (never h)) (λ r. r) m, λ r. inr r);
  shorter = omega arith;
}

pub goes_front : (p q : List Item) (s u : List ℕ) → Front p s (Many ∷ q) u → GoesOn p s q u
goes_front p q s u f = record {
  decides = (λ m. greedy f s same m, λ m. rest_here (λ r. Match p r) s (front_match f m));
  shorter = omega (arith, front_shorter f);
}

-- What follows speaks of what the calls left: an item at the front, and what is behind it.

front_at : (p : List Item) (s : List ℕ) (i : Item) (q rest : List Item) (t u : List ℕ) → Front p s rest t → rest ≡ i ∷ q → t ≡ u → Front p s (i ∷ q) u
front_at p s i q rest t u f rest_is t_is = subst (λ x. Front p s (i ∷ q) x) t_is (subst (λ x. Front p s x t) rest_is f)

no_letter_at : (i : Item) (q : List Item) → i ≢ Many → ¬ Match (i ∷ q) []
no_letter_at (Byte b) q never m = m
no_letter_at One q never m = m
no_letter_at Many q never m = never refl

-- no byte is left for an item that wants one
pub no_letter : (p : List Item) (s : List ℕ) (i : Item) (q rest : List Item) (t : List ℕ) → Front p s rest t → rest ≡ i ∷ q → t ≡ [] → i ≢ Many → ¬ Match p s
no_letter p s i q rest t f rest_is t_is never m = no_letter_at i q never (match_front (front_at p s i q rest t [] f rest_is t_is) m)

-- the next byte is another one
pub other_letter : (p : List Item) (s : List ℕ) (i : Item) (q rest : List Item) (t u : List ℕ) (c b : ℕ)
    → Front p s rest t → rest ≡ i ∷ q → t ≡ b ∷ u → i ≡ Byte c → c ≢ b → ¬ Match p s
other_letter p s i q rest t u c b f rest_is t_is i_is never m =
    never (sym (match_front (subst (λ x. Front p s (x ∷ q) (b ∷ u)) i_is (front_at p s i q rest t (b ∷ u) f rest_is t_is)) m).0)

pub byte_front : (i : Item) (q rest : List Item) (t u : List ℕ) (c b : ℕ) → rest ≡ i ∷ q → t ≡ b ∷ u → i ≡ Byte c → c ≡ b → Front rest t q u
byte_front i q rest t u c b rest_is t_is i_is same_is =
    subst (λ x. Front x t q u) (sym (rest_is ∙ ap (λ x. x ∷ q) (i_is ∙ ap (λ x. Byte x) same_is)))
    (subst (λ x. Front (Byte b ∷ q) x q u) (sym t_is) (byte here))

any_at : (i : Item) (q : List Item) (b : ℕ) (u : List ℕ) → i ≢ Many → ((c : ℕ) → i ≢ Byte c) → Front (i ∷ q) (b ∷ u) q u
any_at (Byte c) q b u never other = absurd (other c refl)
any_at One q b u never other = any here
any_at Many q b u never other = absurd (never refl)

pub any_front : (i : Item) (q rest : List Item) (t u : List ℕ) (b : ℕ) → rest ≡ i ∷ q → t ≡ b ∷ u → i ≢ Many → ((c : ℕ) → i ≢ Byte c) → Front rest t q u
any_front i q rest t u b rest_is t_is never other =
    subst (λ x. Front x t q u) (sym rest_is) (subst (λ x. Front (i ∷ q) x q u) (sym t_is) (any_at i q b u never other))

all_rest : (s : List ℕ) → OfSomeRest (λ r. Match [] r) s
all_rest [] = refl
all_rest (b ∷ s) = inr (all_rest s)

-- nothing stands behind the Many
pub all_over : (p : List Item) (s : List ℕ) → length p ≡ 0 → IsTrue true ↔ Match (Many ∷ p) s
all_over [] s none = (λ _. all_rest s, λ _. refl)
all_over (i ∷ p) s none = absurd (omega arith)

pub many_behind : (p : List Item) (s : List ℕ) (i : Item) (q : List Item) → p ≡ i ∷ q → i ≡ Many → GoesOn p s q s
many_behind p s i q p_is i_is = subst (λ x. GoesOn x s q s) (sym (p_is ∙ ap (λ x. x ∷ q) i_is)) (goes_many q s)

stops_many : (i : Item) (q : List Item) → Stops (i ∷ q) → i ≡ Many
stops_many (Byte b) q h = absurd h
stops_many One q h = absurd h
stops_many Many q h = refl

many_left : (p : List Item) (s : List ℕ) (l : List Item) (i : Item) (q : List Item) (u : List ℕ) → Front p s l u → l ≡ i ∷ q → Stops l → Front p s (Many ∷ q) u
many_left p s l i q u f l_is h =
    let at = subst (λ x. Front p s x u) l_is f in
    subst (λ x. Front p s (x ∷ q) u) (stops_many i q (subst Stops l_is h)) at

-- a chunk was found
pub chunk_found : (p : List Item) (s : List ℕ) (behind : List Item) (t : List ℕ) (l : List Item) (i : Item) (q : List Item) (u : List ℕ)
    → Front p s behind t → Front behind t l u → l ≡ i ∷ q → Stops l → GoesOn p s q u
chunk_found p s behind t l i q u f g l_is h = goes_front p q s u (many_left p s l i q u (front_then f g) l_is h)

-- the last chunk was found at the end
pub found_over : (p : List Item) (s : List ℕ) (behind : List Item) (t : List ℕ) (l : List Item) (u : List ℕ)
    → Front p s behind t → Front behind t l u → l ≡ [] → u ≡ [] → IsTrue true ↔ Match (Many ∷ p) s
found_over p s behind t l u f g l_is u_is =
    let m : Match l u = subst (λ x. Match x u) (sym l_is) u_is in
    (λ _. rest_here (λ r. Match p r) s (front_match (front_then f g) m), λ _. refl)

-- the last chunk was found, and not at the end
pub found_before : (p : List Item) (s : List ℕ) (behind : List Item) (t : List ℕ) (l : List Item) (u : List ℕ) (b : ℕ)
    → s ≡ b ∷ t → Front p s behind t → Front behind t l u → l ≡ [] → u ≢ [] → GoesOn p s p t
found_before p s behind t l u b s_is f g l_is u_not =
    let never : ¬ Match p s = λ m. u_not (subst (λ x. Match x u) l_is (match_front (front_then f g) m)) in
    subst (λ x. GoesOn p x p t) (sym s_is) (goes_past p b t (subst (λ x. ¬ Match p x) s_is never))

-- what is left decides
pub front_decides : (X : Type 0) (p : List Item) (s : List ℕ) (l : List Item) (u : List ℕ) → Front p s l u → (X ↔ Match l u) → X ↔ Match p s
front_decides X p s l u f h = (λ x. front_match f (h.0 x), λ m. h.1 (match_front f m))

pub many_decides : (X : Type 0) (p : List Item) (s : List ℕ) (l : List Item) (i : Item) (q : List Item) (u : List ℕ)
    → Front p s l u → l ≡ i ∷ q → Stops l → (X ↔ Match (Many ∷ q) u) → X ↔ Match p s
many_decides X p s l i q u f l_is h d = front_decides X p s (Many ∷ q) u (many_left p s l i q u f l_is h) d
