-- What a contract reads of a reader of tokens.
use Rattle.std.specs.Prelude.{ℕ, List}
use Rattle.token_rules.specs.declared.reader.TokenReader.{TokenReader}

-- the text whose tokens it reads
abbrev pub body_of : TokenReader → List ℕ
body_of reader = reader.body.now
