-- Which messages a count expands, and the groups of those that it finds.
use Rattle.std.specs.Prelude.{◌≡◌, ℕ, ℤ, pos, List, [], map, count_by, is_none, Option, All}
use Rattle.std.specs.Ordering.{int_cmp}
use Rattle.query_plan.specs.Laws.{IsPlain}
use Rattle.printed_lines.specs.Lines.{Picks, Placed}
use Rattle.search_meaning.specs.Scan.{Asked, IsTried}
use Rattle.search_meaning.specs.declared.groups.Group.{Group}
use Rattle.search_meaning.specs.declared.groups.GroupBy.{GroupBy}
use Rattle.search_meaning.specs.declared.groups.GroupBy.TheVariants.{Minute, Shape}
use Rattle.search_meaning.specs.Groups.{AreGroups, HaveMinutes, HaveTypes, by_key, by_moment, byte_order, stamped}

-- the message is expanded: the pattern is not plain, and the wider one that the search is planned over matches the message
pub record IsExpanded (version : ℕ) (q : Asked) (message : List ℕ) : Type 0 where
  pub written : ¬ IsPlain q.pattern
  pub tried : IsTried version q message

-- of these messages those are expanded
abbrev pub AreExpanded : ℕ → Asked → List Placed → List Placed → Type 0
AreExpanded version q all expanded = Picks (λ p. IsExpanded version q p.message) all expanded

abbrev pub messages_of : List Placed → List (List ℕ)
messages_of placed = map (λ p. p.message) placed

-- the groups of messages by the texts of their log types
pub record AreByType (version : ℕ) (messages : List (List ℕ)) (groups : List Group) (without : ℕ) : Type 0 where
  pub texts : List (List ℕ)
  pub have : HaveTypes version messages texts
  pub are : AreGroups byte_order texts (by_key groups)
  pub moments : All (λ g. g.moment ≡ pos 0) groups
  pub none : without ≡ 0

-- the groups of messages by the minutes of their stamps, and how many have no stamp
pub record AreByMinute (version : ℕ) (messages : List (List ℕ)) (groups : List Group) (without : ℕ) : Type 0 where
  pub minutes : List (Option ℤ)
  pub have : HaveMinutes version messages minutes
  pub are : AreGroups int_cmp (stamped minutes) (by_moment groups)
  pub keys : All (λ g. g.key ≡ []) groups
  pub others : without ≡ count_by is_none minutes

abbrev pub IsGrouped : ℕ → GroupBy → List (List ℕ) → List Group → ℕ → Type 0
IsGrouped version Shape messages groups without = AreByType version messages groups without
IsGrouped version Minute messages groups without = AreByMinute version messages groups without
