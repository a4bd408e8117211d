-- Chains of texts with one hash: each text is in the chain of its hash, and one text more.
use Rattle.std.proofs.Common.{◌≡◌, ⊎_elim, ℕ, zero, suc, ◌+◌, ◌<◌, ◌≤◌, ◌==◌, if◌then◌else◌, List, [], ◌∷◌, ◌++◌, length, take, drop, refl, sym, ap, subst, ◌∙◌, arith, rules, slice_index}
use Rattle.std.proofs.lemmas.Bool.{cases_eq, cond_both, cond-true, cond-false, eqb-true, eqb-false, eq-eqb, ne_eqb}
use Rattle.std.proofs.lemmas.List.{length_push, get_or_append_left, get_or_push, get_or-take, length-take-le, take-append-drop}
use Rattle.dict_core.specs.Chains.{latest, IsChained, InChain, here, there}

-- a place is at most the count of texts that were looked at
pub latest_low : (hashes : List ℕ) (h n : ℕ) → latest hashes h n ≤ n
latest_low hashes h zero = omega arith
latest_low hashes h (suc n) = cond_both (slice_index hashes n == h) (suc n) (latest hashes h n) (λ p. p ≤ suc n) (λ _. omega arith) (λ _. omega (arith, latest_low hashes h n))

-- texts behind the first n leave the place
pub latest_stays : (hashes more : List ℕ) (h n : ℕ) → n ≤ length hashes → latest (hashes ++ more) h n ≡ latest hashes h n
latest_stays hashes more h zero l = refl
latest_stays hashes more h (suc n) l =
    let here : slice_index (hashes ++ more) n ≡ slice_index hashes n = get_or_append_left hashes more 0 n (omega (arith, l)) in
    let rest = latest_stays hashes more h n (omega (arith, l)) in
    (λ i. if here i == h then suc n else rest i)

-- each text is in the chain of its hash
pub in_chain : (hashes : List ℕ) {befores : List ℕ} (h k n : ℕ) → ((j : ℕ) → j < length hashes → slice_index befores j ≡ latest hashes (slice_index hashes j) j) →
    n ≤ length hashes → k < n → slice_index hashes k ≡ h → InChain befores (latest hashes h n) (suc k)
in_chain hashes h k zero befores_are l below is = absurd (omega (arith, below))
in_chain hashes {befores} h k (suc n) befores_are l below is =
    cond_both (slice_index hashes n == h) (suc n) (latest hashes h n) (λ p. InChain befores p (suc k))
    (λ same. ⊎_elim
    (λ (e : k ≡ n). subst (λ m. InChain befores (suc n) (suc m)) (sym e) (here (suc n)))
    (λ apart.
    let before : slice_index befores n ≡ latest hashes h n = befores_are n (omega (arith, l)) ∙ ap (λ g. latest hashes g n) (eqb-true (slice_index hashes n) h same) in
    there n (suc k) (subst (λ p. InChain befores p (suc k)) (sym before) (in_chain hashes h k n befores_are (omega (arith, l)) (omega (arith, below, apart)) is)))
    (cases_eq k n))
    (λ differs. ⊎_elim
    (λ (e : k ≡ n). absurd (eqb-false (slice_index hashes n) h differs (subst (λ m. slice_index hashes m ≡ h) e is)))
    (λ apart. in_chain hashes h k n befores_are (omega (arith, l)) (omega (arith, below, apart)) is)
    (cases_eq k n))

-- no chain begins at no place
pub chain_starts : (befores : List ℕ) (from to : ℕ) → InChain befores from to → 0 < to → 0 < from
chain_starts befores from to (here place) some = some
chain_starts befores from to (there number place rest) some = omega arith

-- one text more, which is the newest with its hash
pub chained_more : {hashes befores : List ℕ} {newest newest' : ℕ → ℕ} (h : ℕ) → IsChained hashes befores newest →
    ((g : ℕ) → newest' g ≡ (if g == h then length befores + 1 else newest g)) → IsChained (hashes ++ h ∷ []) (befores ++ newest h ∷ []) newest'
chained_more {hashes} {befores} {newest} {newest'} h c updates = record { long = long; newest_are = newest_are; befores_are = befores_are }
  where
    long : length (befores ++ newest h ∷ []) ≡ length (hashes ++ h ∷ [])
    long = length_push befores (newest h) ∙ ap (λ n. n + 1) c.long ∙ sym (length_push hashes h)

    count : length (hashes ++ h ∷ []) ≡ suc (length hashes)
    count = omega (arith, length_push hashes h)

    last : slice_index (hashes ++ h ∷ []) (length hashes) ≡ h
    last = get_or_push hashes h 0 (length hashes) refl

    newest_are : (g : ℕ) → newest' g ≡ latest (hashes ++ h ∷ []) g (length (hashes ++ h ∷ []))
    newest_are g =
        let old : newest g ≡ latest (hashes ++ h ∷ []) g (length hashes) = c.newest_are g ∙ sym (latest_stays hashes (h ∷ []) g (length hashes) (omega arith)) in
        let turned : (g == h) ≡ (slice_index (hashes ++ h ∷ []) (length hashes) == g) = search (rules, last) in
        let place : length befores + 1 ≡ suc (length hashes) = omega (arith, c.long) in
        updates g ∙ (λ i. if turned i then place i else old i) ∙ ap (latest (hashes ++ h ∷ []) g) (sym count)

    befores_are : (j : ℕ) → j < length (hashes ++ h ∷ []) → slice_index (befores ++ newest h ∷ []) j ≡ latest (hashes ++ h ∷ []) (slice_index (hashes ++ h ∷ []) j) j
    befores_are j l = ⊎_elim
        (λ (e : j ≡ length hashes).
        let before : slice_index (befores ++ newest h ∷ []) (length hashes) ≡ newest h = get_or_push befores (newest h) 0 (length hashes) c.long in
        let old : newest h ≡ latest (hashes ++ h ∷ []) h (length hashes) = c.newest_are h ∙ sym (latest_stays hashes (h ∷ []) h (length hashes) (omega arith)) in
        subst (λ m. slice_index (befores ++ newest h ∷ []) m ≡ latest (hashes ++ h ∷ []) (slice_index (hashes ++ h ∷ []) m) m) (sym e)
        (before ∙ old ∙ ap (λ g. latest (hashes ++ h ∷ []) g (length hashes)) (sym last)))
        (λ apart.
        let low : j < length hashes = omega (arith, l, apart, count) in
        get_or_append_left befores (newest h ∷ []) 0 j (omega (arith, low, c.long)) ∙ c.befores_are j low
        ∙ sym (latest_stays hashes (h ∷ []) (slice_index hashes j) j (omega (arith, low)))
        ∙ ap (λ g. latest (hashes ++ h ∷ []) g j) (sym (get_or_append_left hashes (h ∷ []) 0 j low)))
        (cases_eq j (length hashes))

-- the place among the first n texts needs those alone
pub latest_take : (hashes : List ℕ) (h n m : ℕ) → m ≤ n → n ≤ length hashes → latest (take n hashes) h m ≡ latest hashes h m
latest_take hashes h n m low l =
    sym (latest_stays (take n hashes) (drop n hashes) h m (omega (arith, low, length-take-le n hashes l))) ∙ ap (λ hs. latest hs h m) (take-append-drop n hashes)

-- the last text is the newest with its hash
pub latest_last : (hashes : List ℕ) (n : ℕ) → latest hashes (slice_index hashes n) (suc n) ≡ suc n
latest_last hashes n = cond-true (slice_index hashes n == slice_index hashes n) (suc n) (latest hashes (slice_index hashes n) n) (eq-eqb (slice_index hashes n) (slice_index hashes n) refl)

-- one text less
pub chained_less : {hashes befores : List ℕ} {newest newest' : ℕ → ℕ} (n : ℕ) → IsChained hashes befores newest → length hashes ≡ suc n →
    ((g : ℕ) → newest' g ≡ (if g == slice_index hashes n then slice_index befores n else newest g)) → IsChained (take n hashes) (take n befores) newest'
chained_less {hashes} {befores} {newest} {newest'} n c count updates = record { long = long; newest_are = newest_are; befores_are = befores_are }
  where
    long : length (take n befores) ≡ length (take n hashes)
    long = length-take-le n befores (omega (arith, c.long, count)) ∙ sym (length-take-le n hashes (omega (arith, count)))

    newest_are : (g : ℕ) → newest' g ≡ latest (take n hashes) g (length (take n hashes))
    newest_are g =
        let old : latest hashes g n ≡ latest (take n hashes) g (length (take n hashes)) =
        sym (latest_take hashes g n n (omega arith) (omega (arith, count))) ∙ ap (latest (take n hashes) g) (sym (length-take-le n hashes (omega (arith, count)))) in
        updates g ∙ cond_both (g == slice_index hashes n) (slice_index befores n) (newest g) (λ place. place ≡ latest hashes g n)
        (λ same. c.befores_are n (omega (arith, count)) ∙ ap (λ h. latest hashes h n) (sym (eqb-true g (slice_index hashes n) same)))
        (λ differs. c.newest_are g ∙ ap (latest hashes g) count
        ∙ cond-false (slice_index hashes n == g) (suc n) (latest hashes g n) (ne_eqb (slice_index hashes n) g (λ e. eqb-false g (slice_index hashes n) differs (sym e)))) ∙ old

    befores_are : (j : ℕ) → j < length (take n hashes) → slice_index (take n befores) j ≡ latest (take n hashes) (slice_index (take n hashes) j) j
    befores_are j l =
        let low : j < n = omega (arith, l, length-take-le n hashes (omega (arith, count))) in
        get_or-take n befores j 0 low ∙ c.befores_are j (omega (arith, low, count)) ∙ ap (λ h. latest hashes h j) (sym (get_or-take n hashes j 0 low))
        ∙ sym (latest_take hashes (slice_index (take n hashes) j) n j (omega (arith, low)) (omega (arith, count)))
