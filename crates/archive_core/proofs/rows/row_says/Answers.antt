use Rattle.std.proofs.Common.{rules, subst, sym}
use Rattle.column_store.specs.Row.{row_of}
use Rattle.row_codec.specs.Messages.{IsMessage}
use Rattle.row_codec.proofs.MeansLemmas.{one_meaning}
use Rattle.archive_core.proofs.rows.row_says.Goals as goal

pub returns-then-not-is_message-clause-none : goal.returns-then-not-is_message-clause-none
returns-then-not-is_message-clause-none g c = λ m is.
    let version = g.N.Names.version c.args.names.now in
    let types = g.N.Names.types c.args.names.now in
    let words = g.N.Names.words c.args.names.now in
    let found = c.in_ok-find_message.ensures.yes (search rules) in
    let same = one_meaning (row_of c.args.row) types words m c.find_message.new.message.items is.0.means found.means in
    cc (c.is_message.ensures.1 (search (rules, subst (λ v. IsMessage v c.find_message.new.message.items) (sym c.requires.version) (subst (IsMessage version) same is.1))), c.if-not-is_message.true)
