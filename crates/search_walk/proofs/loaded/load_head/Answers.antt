use Rattle.std.proofs.Common.{arith, refl, rules}
use Rattle.search_walk.proofs.LoadedLemmas.{reads_more, spared_loaded, whole_loaded}
use Rattle.search_walk.proofs.loaded.load_head.Goals as goal

pub returns-in_err-place-clause-reads : goal.returns-in_err-place-clause-reads
returns-in_err-place-clause-reads g c = reads_more c.args.front.now.payload _ _ (g.D.Disk.state c.args.disk.now) (g.D.Disk.state c.load_types.new.disk) (omega arith) c.load_types.ensures.reads

pub returns-then-spares_words-clause-reads : goal.returns-then-spares_words-clause-reads
returns-then-spares_words-clause-reads g c = reads_more c.args.front.now.payload _ _ (g.D.Disk.state c.args.disk.now) (g.D.Disk.state c.load_types.new.disk) (omega arith) c.load_types.ensures.reads

pub returns-then-spares_words-clause-loaded : goal.returns-then-spares_words-clause-loaded
returns-then-spares_words-clause-loaded g c =
    spared_loaded c.args.context.now.query _ c.args.front.now _ (c.spares_words.ensures (search rules)) refl c.in_ok-place.ensures.loaded

pub returns-clause-loaded : goal.returns-clause-loaded
returns-clause-loaded g c = whole_loaded c.args.context.now.query _ c.args.front.now _ refl c.in_ok-place-2.ensures.loaded
