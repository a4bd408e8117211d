-- The slots of a batch, searched one after the other and in chunks.
use Rattle.std.proofs.Common.{◌≡◌, ◌≢◌, ℕ, ◌+◌, ◌<◌, ◌≤◌, List, length, get_or, set, refl, sym, ◌∙◌, ap, subst, arith, below_more, get_or-set_same, get_or-set_other, length-set}
use mathlib.Core.Logic.{dite}
use native.Mathlib.Decide.{ℕ_discrete}
use Rattle.std.proofs.lemmas.List.{get_or_default}
use Rattle.search_meaning.specs.Scan.{Asked}
use Rattle.word_places.specs.Held.{HeldNames}
use Rattle.search_engine.specs.Waiting.{Slotted}
use Rattle.search_engine.specs.Worked.{AreMatched, IsWorkedBy}

-- ---- one after the other

-- the first of the slots were searched
pub record MatchedTo (q : Asked) (held : HeldNames) (old now : List Slotted) (k : ℕ) : Type 0 where
  pub len : length now ≡ length old
  pub pages : (i : ℕ) (d : Slotted) → i < length old → (get_or now i d).page ≡ (get_or old i d).page
  pub worked : (i : ℕ) (d : Slotted) → i < k → IsWorkedBy q held (get_or now i d)

pub matched_first : (q : Asked) (held : HeldNames) (slots : List Slotted) → MatchedTo q held slots slots 0
matched_first q held slots = record { len = refl; pages = λ i d lt. refl; worked = λ i d lt. absurd (omega (arith, lt)) }

pub matched_next : (q : Asked) (held : HeldNames) (old now : List Slotted) (k : ℕ) (y e : Slotted) → k < length now → y.page ≡ (get_or now k e).page → IsWorkedBy q held y → MatchedTo q held old now k → MatchedTo q held old (set now k y) (k + 1)
matched_next q held old now k y e lt same worked before = record { len = length-set now k y ∙ before.len; pages = each; worked = λ i d below. first i below d }
  where
    each : (i : ℕ) (d : Slotted) → i < length old → (get_or (set now k y) i d).page ≡ (get_or old i d).page
    each i d below = dite (ℕ_discrete i k)
        (λ (is : i ≡ k). let here : get_or (set now k y) i d ≡ y = ap (λ (j : ℕ). get_or (set now k y) j d) is ∙ get_or-set_same now k y d lt in
        let was : get_or now k e ≡ get_or now i d = get_or_default now k e d lt ∙ ap (λ (j : ℕ). get_or now j d) (sym is) in
        ap (λ (s : Slotted). s.page) here ∙ (same ∙ (ap (λ (s : Slotted). s.page) was ∙ before.pages i d below)))
        (λ (not : i ≢ k). ap (λ (s : Slotted). s.page) (get_or-set_other now k i y d not) ∙ before.pages i d below)

    first : (i : ℕ) → i < k + 1 → (d : Slotted) → IsWorkedBy q held (get_or (set now k y) i d)
    first = below_more (λ i. (d : Slotted) → IsWorkedBy q held (get_or (set now k y) i d)) k
        (λ i below d. let not : i ≢ k = omega arith in subst (IsWorkedBy q held) (sym (get_or-set_other now k i y d not)) (before.worked i d below))
        (λ d. subst (IsWorkedBy q held) (sym (get_or-set_same now k y d lt)) worked)

pub matched_end : (q : Asked) (held : HeldNames) (old now : List Slotted) (k : ℕ) → length now ≤ k → MatchedTo q held old now k → AreMatched q held old now
matched_end q held old now k end all = record {
  len = all.len;
  pages = all.pages;
  worked = λ i d lt. all.worked i d (omega (arith, end, lt));
}

-- ---- in chunks

-- a slot whose chunk was searched
pub chunk_page : (q : Asked) (held : HeldNames) (x y d : Slotted) (old new : List Slotted) (k : ℕ) → AreMatched q held old new → k < length old → get_or old k d ≡ x → get_or new k d ≡ y → y.page ≡ x.page
chunk_page q held x y d old new k matched lt was is = sym (ap (λ (s : Slotted). s.page) is) ∙ matched.pages k d lt ∙ ap (λ (s : Slotted). s.page) was

pub chunk_worked : (q : Asked) (held : HeldNames) (y d : Slotted) (old new : List Slotted) (k : ℕ) → AreMatched q held old new → k < length old → get_or new k d ≡ y → IsWorkedBy q held y
chunk_worked q held y d old new k matched lt is = subst (IsWorkedBy q held) is (matched.worked k d (omega (arith, lt, matched.len)))
