use Rattle.std.proofs.Common.{◌∙◌, arith, refl, rules}
use Rattle.std.proofs.lemmas.Result.{err_from_is_err_and}
use Rattle.log_seams.proofs.MomentLemmas.{rests_on}
use Rattle.word_places.proofs.HeldLemmas.{contained, none_at}
use Rattle.word_places.proofs.ReadLemmas.{other_disk, words_on, words_one}
use Rattle.word_places.proofs.TakenLemmas.{taken_all, taken_more, taken_none}
use Rattle.word_places.proofs.taking.take_texts.Goals as goal

pub loop-index-init : goal.loop-index-init
loop-index-init g c = record {
  rests = search rules;
  reads = search rules;
  taken = taken_none (g.V.TakesTexts.took c.args.taker.now) _ c.args.places.now c.args.taker.now (g.met.V.TakesTexts.none c.args.taker.now);
  steady = refl;
}

pub returns-in_err-take_record-clause-reads : goal.returns-in_err-take_record-clause-reads
returns-in_err-take_record-clause-reads g c =
    words_on c.args.places.now _ _ _ c.loop-index.invariant.reads
    (words_one c.args.places.now _ _ c.place_at-place.result (contained c.args.places.now c.loop-index.index c.place_at-place.result c.place_at-place.ensures) c.take_record.ensures.reads)

pub returns-in_err-take_record-clause-damaged : goal.returns-in_err-take_record-clause-damaged
returns-in_err-take_record-clause-damaged g c = λ is.
    let p = err_from_is_err_and c.from_residual.result c.from_residual.ensures.1 in
    none_at _ c.args.places.now c.loop-index.index c.place_at-place.result c.place_at-place.ensures
    (other_disk _ _ c.place_at-place.result (λ _. ⊥) c.loop-index.invariant.rests.seen (c.in_err-take_record.ensures.damaged (search (rules, is, p.1, p.2))))

pub loop-index-preserved : goal.loop-index-preserved
loop-index-preserved g c = record {
  rests = rests_on _ _ _ c.loop-index.invariant.rests c.take_record.ensures.rests;
  reads = words_on c.args.places.now _ _ _ c.loop-index.invariant.reads
      (words_one c.args.places.now _ _ c.place_at-place.result (contained c.args.places.now c.loop-index.index c.place_at-place.result c.place_at-place.ensures) c.take_record.ensures.reads);
  taken = taken_more g.V.TakesTexts.took c.args.taker.now c.loop-index.taker c.take_record.new.taker _ _ c.args.places.now c.loop-index.index c.place_at-place.result g.met.V.TakesTexts.both
      c.loop-index.invariant.rests.seen c.requires c.place_at-place.ensures c.loop-index.invariant.taken c.in_ok-take_record.ensures.taken;
  steady = c.in_ok-take_record.ensures.counts.steady ∙ c.loop-index.invariant.steady;
}

pub returns-clause-taken : goal.returns-clause-taken
returns-clause-taken g c = taken_all (g.V.TakesTexts.took c.args.taker.now) _ c.args.places.now c.loop-index.index c.loop-index.taker c.loop-index.invariant.taken (omega arith)
