use Rattle.std.proofs.Common.{◌∙◌, arith, rules}
use Rattle.std.proofs.lemmas.Result.{err_from_is_err_and}
use Rattle.log_seams.proofs.MomentLemmas.{rests_on}
use Rattle.word_places.proofs.FoundLemmas.{gone_on, gone_through}
use Rattle.word_places.proofs.HeldLemmas.{contained, none_at}
use Rattle.word_places.proofs.HolderLemmas.{order_at}
use Rattle.word_places.proofs.ReadLemmas.{other_disk, words_on, words_one}
use Rattle.word_places.proofs.finding.find_words.Goals as goal

pub add_record-requires-clause-few : goal.add_record-requires-clause-few
add_record-requires-clause-few g c = order_at 0 c.args.places.now c.loop-index.index c.place_at-place.result c.requires c.place_at-place.ensures

pub returns-in_err-add_record-clause-reads : goal.returns-in_err-add_record-clause-reads
returns-in_err-add_record-clause-reads g c =
    words_on c.args.places.now _ _ _ c.loop-index.invariant.reads
    (words_one c.args.places.now _ _ c.place_at-place.result (contained c.args.places.now c.loop-index.index c.place_at-place.result c.place_at-place.ensures) c.add_record.ensures.reads)

pub returns-in_err-add_record-clause-damaged : goal.returns-in_err-add_record-clause-damaged
returns-in_err-add_record-clause-damaged g c = λ is.
    let p = err_from_is_err_and c.from_residual-in_err-add_record.result c.from_residual-in_err-add_record.ensures.1 in
    none_at _ c.args.places.now c.loop-index.index c.place_at-place.result c.place_at-place.ensures
    (other_disk _ _ c.place_at-place.result (λ _. ⊥) c.loop-index.invariant.rests.seen (c.in_err-add_record.ensures.damaged (search (rules, is, p.1, p.2))))

pub loop-index-preserved : goal.loop-index-preserved
loop-index-preserved g c = record {
  rests = rests_on _ _ _ c.loop-index.invariant.rests c.add_record.ensures.rests;
  reads = words_on c.args.places.now _ _ _ c.loop-index.invariant.reads
      (words_one c.args.places.now _ _ c.place_at-place.result (contained c.args.places.now c.loop-index.index c.place_at-place.result c.place_at-place.ensures) c.add_record.ensures.reads);
  long = c.add_record.ensures.long ∙ c.loop-index.invariant.long;
  gone = gone_on _ c.args.places.now c.args.needles.now c.loop-index.lists.items c.add_record.new.lists.items c.loop-index.index c.place_at-place.result
      c.loop-index.invariant.gone c.place_at-place.ensures (other_disk _ _ c.place_at-place.result _ c.loop-index.invariant.rests.seen c.in_ok-add_record.ensures.added);
  steady = c.in_ok-add_record.ensures.counts.steady ∙ c.loop-index.invariant.steady;
}

pub returns-clause-found : goal.returns-clause-found
returns-clause-found g c = gone_through _ c.args.places.now c.args.needles.now c.loop-index.lists.items c.loop-index.index c.loop-index.invariant.gone (omega arith)
