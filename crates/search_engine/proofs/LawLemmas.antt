-- What is found and what is expanded.
use Rattle.std.proofs.Common.{◌≡◌, inl, inr, List, [], ◌∷◌, sym, ◌∙◌, ap}
use Rattle.query_plan.specs.Laws.{WideIsExact, WideIsWider}
use Rattle.printed_lines.specs.Lines.{Picks, Placed}
use Rattle.search_meaning.specs.Scan.{IsFound, IsTried}
use Rattle.search_engine.specs.Laws.{ExactExpandsPrinted, OneIsFound}
use Rattle.search_walk.proofs.PickLemmas.{picks_once}

picks_same : {A : Type 0} (P Q : A → Type 0) → ((x : A) → P x → Q x) → ((x : A) → Q x → P x) → (xs a b : List A) → Picks P xs a → Picks Q xs b → a ≡ b
picks_same P Q to from [] a b one two = one ∙ sym two
picks_same {A} P Q to from (x ∷ xs) a b (inl p) (inl q) = p.3 ∙ ap (λ (l : List A). x ∷ l) (picks_same P Q to from xs p.0 q.0 p.2 q.2) ∙ sym q.3
picks_same P Q to from (x ∷ xs) a b (inl p) (inr q) = absurd (q.0 (to x p.1))
picks_same P Q to from (x ∷ xs) a b (inr p) (inl q) = absurd (p.0 (from x q.1))
picks_same P Q to from (x ∷ xs) a b (inr p) (inr q) = picks_same P Q to from xs a b p.1 q.1

pub exact_expands : WideIsWider → WideIsExact → ExactExpandsPrinted
exact_expands wider exact version q all found tried no_one few are_found are_tried =
    picks_same (λ (p : Placed). IsTried version q p.message) (λ (p : Placed). IsFound version q p.message)
    (λ p is. record { matched = exact q.pattern p.message no_one few is.matched; inside = is.inside })
    (λ p is. record { matched = wider q.pattern p.message is.matched; inside = is.inside }) all tried found are_tried are_found

pub one_found : OneIsFound
one_found version q all found other one two = picks_once (λ (p : Placed). IsFound version q p.message) all found other one two
