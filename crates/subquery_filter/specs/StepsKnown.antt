-- Words of a dictionary that were looked up before they are asked for.
use Rattle.std.specs.Prelude.{◌≡◌, ℕ, List, All, Some, None, slice_get}
use Rattle.plain_list.specs.Texts.{IsNew}
use Rattle.subquery_filter.specs.declared.known.KnownWord.{KnownWord}

-- the number that is kept is one of the text, and where none is kept the text is no word
abbrev pub IsLookedUp : List (List ℕ) → KnownWord → Type 0
IsLookedUp words known = ((n : ℕ) → known.number ≡ Some n → slice_get words n ≡ Some known.text)
    × (known.number ≡ None → IsNew words known.text)

abbrev pub AreLookedUp : List (List ℕ) → List KnownWord → Type 0
AreLookedUp words known = All (IsLookedUp words) known
