use Rattle.std.proofs.Common.{refl, arith}
use Rattle.word_places.proofs.SharedLemmas.{taken_end, taken_next}
use Rattle.word_places.proofs.sharing.take_each.Goals as goal

pub loop-at-init : goal.loop-at-init
loop-at-init c = record { taken = refl; rest = refl; long = refl; beside = refl }

pub take_words-words-requires : goal.take_words-words-requires
take_words-words-requires c = omega (arith, c.requires, c.loop-at.invariant.beside)

pub put_missing-requires : goal.put_missing-requires
put_missing-requires c = omega (arith, c.loop-at.invariant.long)

pub loop-at-preserved : goal.loop-at-preserved
loop-at-preserved c =
    taken_next c.loop-at.at c.args.records.now.items c.args.others.items c.loop-at.records.items c.loop-at.others.items c.put_missing.new.records.items c.take_words-words.new.others.items
    c.take_words-words.result c.loop-at.invariant (omega arith) c.requires c.take_words-words.ensures.words c.take_words-words.ensures.left c.put_missing.ensures

pub returns : goal.returns
returns c = taken_end c.loop-at.at c.args.records.now.items c.args.others.items c.loop-at.records.items c.loop-at.others.items c.loop-at.invariant (omega arith)
