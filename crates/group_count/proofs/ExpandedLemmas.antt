-- Which messages are expanded.
use Rattle.std.proofs.Common.{◌≡◌, inl, inr, ℕ, List, [], ◌∷◌}
use Rattle.query_plan.specs.Laws.{IsPlain}
use Rattle.printed_lines.specs.Lines.{Placed}
use Rattle.search_meaning.specs.Scan.{AreTried, Asked}
use Rattle.search_meaning.specs.Grouped.{AreExpanded}

pub none_plain : (version : ℕ) (q : Asked) (all expansions : List Placed) → IsPlain q.pattern → AreExpanded version q all expansions → expansions ≡ []
none_plain version q [] expansions plain are = are
none_plain version q (x ∷ all) expansions plain (inl p) = absurd (p.1.written plain)
none_plain version q (x ∷ all) expansions plain (inr p) = none_plain version q all expansions plain p.1

pub others_tried : (version : ℕ) (q : Asked) (all expansions : List Placed) → ¬ IsPlain q.pattern → AreExpanded version q all expansions → AreTried version q all expansions
others_tried version q [] expansions other are = are
others_tried version q (x ∷ all) expansions other (inl p) = inl (p.0, p.1.tried, others_tried version q all p.0 other p.2, p.3)
others_tried version q (x ∷ all) expansions other (inr p) = inr (λ tried. p.0 (record { written = other; tried = tried }), others_tried version q all expansions other p.1)
