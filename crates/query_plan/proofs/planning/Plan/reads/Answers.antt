use Rattle.std.proofs.Common.{rules, ◌↔◌, ◌++◌, IsTrue}
use Rattle.logtype_text.specs.Parts.{joined}
use Rattle.wild_match.specs.Matches.{Match}
use Rattle.query_plan.specs.Symbols.{parts}
use Rattle.query_plan.specs.Pieces.{flat}
use Rattle.query_plan.proofs.ReadsLemmas.{read_exactly}
use Rattle.query_plan.proofs.planning.Plan.reads.Goals as goal

pub returns-clause-read : goal.returns-clause-read
returns-clause-read c body widened behind are =
    let p = flat c.args.self.now in
    let s = c.args.stamp.now in
    let all = parts c.args.symbols.now in
    let matched : IsTrue c.matches_letters.result ↔ Match p (s ++ joined all) = search rules in
    read_exactly (IsTrue c.matches_letters.result) p s body all are.joins matched (c.readings_are_exact.ensures p s body all widened behind are)
