use Rattle.std.proofs.Common.{◌≡◌, ◌∷◌, [], ◌++◌, length, rules}
use Rattle.std.specs.Int.{w64, to_le_bytes}
use Rattle.disk_journal.proofs.SpellingLemmas.{framed}
use Rattle.disk_journal.proofs.record.frame.Goals as goal

pub returns-clause-framed : goal.returns-clause-framed
returns-clause-framed c =
    let text : c.new.result ≡ c.args.kind ∷ to_le_bytes w64 (length c.args.payload.now) ++ c.args.payload.now ++ 0 ∷ [] = search rules in
    framed c.args.kind c.args.payload.now c.new.result text
