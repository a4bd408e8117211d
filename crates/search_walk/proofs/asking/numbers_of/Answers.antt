use Rattle.std.proofs.Common.{rules}
use Rattle.search_walk.proofs.AskLemmas.{read_all, read_first, read_next}
use Rattle.search_walk.proofs.asking.numbers_of.Goals as goal

pub loop-list-init : goal.loop-list-init
loop-list-init c = read_first c.args.lists.now _ (search rules)

pub loop-list-preserved : goal.loop-list-preserved
loop-list-preserved c =
    read_next c.args.lists.now c.loop-list.found.items c.push.new.self.items c.loop-list.list-index c.as_slice.result.now _ c.word_found.result c.as_slice.ensures c.list-item.is (search rules) (search rules) c.loop-list.invariant
    c.word_found.ensures

pub returns : goal.returns
returns c = read_all c.args.lists.now c.loop-list.found.items c.loop-list.list-index (search rules) (search rules) c.loop-list.invariant
