-- Runs of literal bytes, by place and as lists.
use Rattle.std.proofs.Common.{◌≡◌, ℕ, zero, suc, ◌+◌, ◌-◌, ◌≤◌, ◌<◌, List, [], ◌∷◌, length, take, drop, map, get_or, refl, sym, ap, subst, ◌∙◌, arith, ⊎_elim, length-take, length-drop, get_or-take, get_or-drop}
use Rattle.std.proofs.lemmas.Bool.{cases_lt, cases_eq}
use Rattle.std.proofs.lemmas.List.{get_or_default, length-take-le, length-map, drop_more}
use Rattle.wild_match.specs.declared.pattern.Item.{Item}
use Rattle.wild_match.specs.declared.pattern.Item.TheVariants.{Byte, One, Many}
use Rattle.wild_match.specs.Runs.{RunAt, IsLiteral, AreLiteral, literal_bytes}

pub literal_is : (p : List Item) (i b : ℕ) (d : Item) → i < length p → get_or p i d ≡ Byte b → IsLiteral (get_or p i One)
literal_is p i b d here e = subst IsLiteral (sym (get_or_default p i One d here ∙ e)) tt

literal_byte : (x : Item) → IsLiteral x → (b : ℕ) × (x ≡ Byte b)
literal_byte (Byte b) h = (b, refl)
literal_byte One h = absurd h
literal_byte Many h = absurd h

pub not_literal : (p : List Item) (i : ℕ) (d : Item) → i < length p → ((b : ℕ) → get_or p i d ≡ Byte b → ⊥) → IsLiteral (get_or p i One) → ⊥
not_literal p i d here never h =
    let t = literal_byte (get_or p i One) h in
    never t.0 (get_or_default p i d One here ∙ t.1)

pub literal_more : (p : List Item) (a i : ℕ) → AreLiteral p a i → IsLiteral (get_or p i One) → AreLiteral p a (i + 1)
literal_more p a i before here k low high =
    ⊎_elim (λ (e : k ≡ i). subst (λ n. IsLiteral (get_or p n One)) (sym e) here) (λ ne. before k low (omega arith)) (cases_eq k i)

module _ (p : List Item) (start i len : ℕ)
    (earliest : (a : ℕ) → a ≤ i → AreLiteral p a i → start ≤ a)
    (longest : (a n : ℕ) → a + n ≤ i → AreLiteral p a (a + n) → n ≤ len) where
  -- a literal byte goes on with the run that ends before it
  pub byte_earliest : start ≤ i → (a : ℕ) → a ≤ i + 1 → AreLiteral p a (i + 1) → start ≤ a
  byte_earliest begun a le h =
      ⊎_elim (λ (lt : a < i + 1). earliest a (omega arith) (λ k low high. h k low (omega arith))) (λ (ge : i + 1 ≤ a). omega arith) (cases_lt a (i + 1))

  pub byte_longest : start ≤ i → (more : ℕ) → len ≤ more → i + 1 - start ≤ more → (a n : ℕ) → a + n ≤ i + 1 → AreLiteral p a (a + n) → n ≤ more
  byte_longest begun more le new a n within h =
      ⊎_elim (λ (lt : a + n < i + 1). let old = longest a n (omega arith) h in omega arith)
      (λ (ge : i + 1 ≤ a + n).
      let e : a + n ≡ i + 1 = omega arith in
      let first = byte_earliest begun a (omega arith) (subst (AreLiteral p a) e h) in
      omega arith)
      (cases_lt (a + n) (i + 1))

  module _ (ends : IsLiteral (get_or p i One) → ⊥) where
    -- another item ends it
    pub other_earliest : (a : ℕ) → a ≤ i + 1 → AreLiteral p a (i + 1) → i + 1 ≤ a
    other_earliest a le h =
        ⊎_elim (λ (lt : a < i + 1). absurd (ends (h i (omega arith) (omega arith)))) (λ (ge : i + 1 ≤ a). ge) (cases_lt a (i + 1))

    pub other_longest : (a n : ℕ) → a + n ≤ i + 1 → AreLiteral p a (a + n) → n ≤ len
    other_longest a n within h =
        ⊎_elim (λ (lt : a + n < i + 1). longest a n (omega arith) h)
        (λ (ge : i + 1 ≤ a + n).
        let e : a + n ≡ i + 1 = omega arith in
        let first = other_earliest a (omega arith) (subst (AreLiteral p a) e h) in
        omega arith)
        (cases_lt (a + n) (i + 1))

-- the run that ends before place i, and the longest so far
pub record Kept (p : List Item) (start best len i : ℕ) : Type 0 where
  pub begun : start ≤ i
  pub within : best + len ≤ i
  pub here : AreLiteral p start i
  pub best_is : AreLiteral p best (best + len)
  pub earliest : (a : ℕ) → a ≤ i → AreLiteral p a i → start ≤ a
  pub longest : (a n : ℕ) → a + n ≤ i → AreLiteral p a (a + n) → n ≤ len

module _ (p : List Item) (start best len i : ℕ) (kept : Kept p start best len i) where
  module _ (byte : IsLiteral (get_or p i One)) where
    -- the run that goes on is the longest
    pub Kept-longer : len < i + 1 - start → Kept p start start (i + 1 - start) (i + 1)
    Kept-longer lt =
        let ends : start + (i + 1 - start) ≡ i + 1 = omega (arith, kept.begun) in
        record {
          begun = omega (arith, kept.begun);
          within = omega (arith, kept.begun);
          here = literal_more p start i kept.here byte;
          best_is = subst (AreLiteral p start) (sym ends) (literal_more p start i kept.here byte);
          earliest = byte_earliest p start i len kept.earliest kept.longest kept.begun;
          longest = byte_longest p start i len kept.earliest kept.longest kept.begun (i + 1 - start) (omega arith) (omega arith);
        }

    pub Kept-byte : i + 1 - start ≤ len → Kept p start best len (i + 1)
    Kept-byte le = record {
      begun = omega (arith, kept.begun);
      within = omega (arith, kept.within);
      here = literal_more p start i kept.here byte;
      best_is = kept.best_is;
      earliest = byte_earliest p start i len kept.earliest kept.longest kept.begun;
      longest = byte_longest p start i len kept.earliest kept.longest kept.begun len (omega arith) le;
    }

  pub Kept-other : (IsLiteral (get_or p i One) → ⊥) → Kept p (i + 1) best len (i + 1)
  Kept-other ends = record {
    begun = omega arith;
    within = omega (arith, kept.within);
    here = λ k low high. absurd (omega arith);
    best_is = kept.best_is;
    earliest = other_earliest p start i len kept.earliest kept.longest ends;
    longest = other_longest p start i len kept.earliest kept.longest ends;
  }

-- where all items are literal bytes, they are their bytes
literal_all : (p : List Item) → AreLiteral p 0 (length p) → map (λ b. Byte b) (literal_bytes p) ≡ p
literal_all [] h = refl
literal_all (Byte b ∷ p) h = ap (λ q. Byte b ∷ q) (literal_all p (λ k low high. h (suc k) (omega arith) (omega arith)))
literal_all (One ∷ p) h = absurd (h 0 (omega arith) (omega arith))
literal_all (Many ∷ p) h = absurd (h 0 (omega arith) (omega arith))

module _ (p : List Item) (start len : ℕ) (within : start + len ≤ length p) (literal : AreLiteral p start (start + len)) where
  part_length : length (take len (drop start p)) ≡ len
  part_length = length-take-le len (drop start p) (rw (length-drop start p) (omega arith))

  part_is : map (λ b. Byte b) (literal_bytes (take len (drop start p))) ≡ take len (drop start p)
  part_is =
      literal_all (take len (drop start p)) (λ k low high.
      let lt : k < len = subst (λ n. k < n) part_length high in
      subst IsLiteral (sym (get_or-take len (drop start p) k One lt ∙ get_or-drop start p k One)) (literal (start + k) (omega arith) (omega arith)))

  pub bytes_length : length (literal_bytes (take len (drop start p))) ≡ len
  bytes_length = sym (length-map (literal_bytes (take len (drop start p))) (λ (b : ℕ). Byte b)) ∙ (ap length part_is ∙ part_length)

  pub bytes_run : RunAt p (literal_bytes (take len (drop start p))) start
  bytes_run = rw bytes_length (sym part_is)

literal_map : (run : List ℕ) (j : ℕ) → j < length run → IsLiteral (get_or (map (λ b. Byte b) run) j One)
literal_map [] j lt = absurd (omega arith)
literal_map (r ∷ run) zero lt = tt
literal_map (r ∷ run) (suc j) lt = literal_map run j (omega arith)

module _ (p : List Item) (run : List ℕ) (k : ℕ) (at : RunAt p run k) where
  run_within : length run ≤ length p - k
  run_within =
      omega (arith, length-take (length run) (drop k p), length-drop k p, ap length at, length-map run (λ (b : ℕ). Byte b))

  run_literal : AreLiteral p k (k + length run)
  run_literal j low high =
      let e : k + (j - k) ≡ j = omega arith in
      let same : get_or p j One ≡ get_or (map (λ b. Byte b) run) (j - k) One =
      sym (ap (λ n. get_or p n One) e) ∙ (sym (get_or-drop k p (j - k) One) ∙ (sym (get_or-take (length run) (drop k p) (j - k) One (omega arith)) ∙ ap (λ q. get_or q (j - k) One) at)) in
      subst IsLiteral (sym same) (literal_map run (j - k) (omega arith))

  -- no run is longer than the longest by place
  pub run_bounded : (len : ℕ) → ((a n : ℕ) → a + n ≤ length p → AreLiteral p a (a + n) → n ≤ len) → length run ≤ len
  run_bounded len longest =
      ⊎_elim (λ (none : length run ≡ 0). omega arith)
      (λ some. let le = run_within in longest k (length run) (omega arith) run_literal)
      (cases_eq (length run) 0)

-- one more item of which the bytes are taken
pub bytes_byte : (p : List Item) (i b : ℕ) (d : Item) → i < length p → get_or p i d ≡ Byte b → literal_bytes (drop i p) ≡ b ∷ literal_bytes (drop (i + 1) p)
bytes_byte p i b d here e = rw (drop_more p i d here, e) refl
