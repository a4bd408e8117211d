use Rattle.dict_lock.proofs.LookUpLemmas.{looked_up}
use Rattle.dict_lock.proofs.naming.look_up.Goals as goal

pub returns-clause-marked : goal.returns-clause-marked
returns-clause-marked g c = record {
  long = c.numbers_at.ensures.long;
  known = λ k n text at there real. (c.numbers_at.ensures.at k n text at there).known real;
}

pub returns-clause-all : goal.returns-clause-all
returns-clause-all g c =
    let marks = rw c.as_slice.ensures.value at c.has_no_mark-all.ensures in
    looked_up c.args.cache.now (g.T.TextSlice.texts c.args.texts.now) c.places_of.new.places.items c.numbers_at.new.numbers.items c.has_no_mark-all.result c.places_of.ensures c.numbers_at.ensures marks
