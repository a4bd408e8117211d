use Rattle.std.specs.Prelude.{◌≡◌, ℕ, ◌<◌}
use Rattle.std.specs.declared.sync.ledger.Blank.{Blank}

-- the blank is that of the ledger with this name and this many parts, of which there is one
abbrev pub OpensFor : Blank → ℕ → ℕ → Type 0
OpensFor blank name parts = (blank.name ≡ name) × (blank.parts ≡ parts) × (0 < parts)
