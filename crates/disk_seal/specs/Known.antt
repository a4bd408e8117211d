-- What a namer knows of a book that its pass is over.
use Rattle.std.specs.Prelude.{ℕ, map, Option, Some, None}
use Rattle.turn_lock.specs.declared.board.About.{About}
use Rattle.turn_lock.specs.Words.{seen, own_list, about}
use Rattle.dict_lock.specs.Shared.{BookPass}
use Rattle.row_codec.specs.Naming.{Known}

-- the book's limit, which is the fixed part of its lock
abbrev pub limit_in : Option (About ℕ) → ℕ
limit_in None = 0
limit_in (Some a) = a.fixed

-- the texts that the pass has seen, those that it added itself, and the book's limit
abbrev pub known_of : BookPass → Known
known_of p = record { texts = seen p; added = map (λ x. x.1) (own_list p); limit = limit_in (about p) }
