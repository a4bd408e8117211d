use Rattle.std.proofs.Common.{rules}
use Rattle.subquery_filter.proofs.AroundLemmas.{front_none, front_step}
use Rattle.subquery_filter.proofs.beside.pass_piece.Goals as goal

pub returns-then-not-branch : goal.returns-then-not-branch
returns-then-not-branch c = λ ps ends. front_none _ c.clear.new.self.items c.clear.ensures.items

pub returns-else-not-branch : goal.returns-else-not-branch
returns-else-not-branch c = λ ps ends.
    let put = c.in_ok-push_piece.ensures.put (search rules) in
    front_step ps c.args.piece.now c.args.front.now.items c.push_piece.new.text.items put.0 put.1 ends
