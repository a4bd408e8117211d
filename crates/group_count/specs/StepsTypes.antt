-- How far the texts of log types are counted on the way through their numbers.
use Rattle.std.specs.Prelude.{ℕ, ◌&&◌, nat_lt, List, [], count_by, slice_index_or}
use Rattle.std.specs.Ordering.{is_eq}
use Rattle.search_meaning.specs.Groups.{byte_order}

-- how many of the numbers are below a place and have this text
abbrev pub often_below : List (List ℕ) → List ℕ → ℕ → List ℕ → ℕ
often_below types text place numbers =
    count_by (λ n. is_eq (byte_order (slice_index_or types n []) text) && nat_lt n place) numbers
