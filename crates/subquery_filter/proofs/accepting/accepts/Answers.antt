use Rattle.std.proofs.Common.{rules}
use Rattle.column_store.specs.Row.{row_of}
use Rattle.query_plan.specs.Pieces.{flat}
use Rattle.wild_match.specs.Matches.{Match}
use Rattle.row_codec.proofs.MeansLemmas.{meaning_is_spelling}
use Rattle.subquery_filter.proofs.BarrenLemmas.{reads_by}
use Rattle.subquery_filter.proofs.LetterLemmas.{accepts_by}
use Rattle.subquery_filter.proofs.accepting.accepts.Goals as goal

pub returns-clause-matched : goal.returns-clause-matched
returns-clause-matched g c = λ message is.
    accepts_by (λ t. Match (flat c.args.plan.now) t) (row_of c.args.row) (g.N.Names.types c.args.names.now) (g.N.Names.words c.args.names.now) _ message c.row_letters.ensures is
    (search rules)

pub returns-clause-read : goal.returns-clause-read
returns-clause-read g c = λ version message is widened.
    let types = g.N.Names.types c.args.names.now in
    let words = g.N.Names.words c.args.names.now in
    reads_by c.readings_are_exact.ensures version (row_of c.args.row) types words message is (flat c.args.plan.now) widened
    (accepts_by (λ t. Match (flat c.args.plan.now) t) (row_of c.args.row) types words _ message c.row_letters.ensures (meaning_is_spelling (row_of c.args.row) types words message is.means)
    (search rules))
