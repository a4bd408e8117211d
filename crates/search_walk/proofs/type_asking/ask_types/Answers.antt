use Rattle.std.proofs.Common.{◌∙◌, ap}
use Rattle.word_places.specs.Kept.{KeptTypes}
use Rattle.search_walk.specs.declared.type_asking.TypePass.{TypePass}
use Rattle.search_walk.proofs.TypeLemmas.{all_passed}
use Rattle.search_walk.proofs.type_asking.ask_types.Goals as goal

pub returns-clause-places : goal.returns-clause-places
returns-clause-places g c = c.in_ok-take_texts.ensures.taken.2.places ∙ ap (λ (k : KeptTypes). k.places) c.in_ok-texts.ensures

pub returns-clause-passed : goal.returns-clause-passed
returns-clause-passed g c =
    let first : TypePass = record { asking = c.in_ok-asking.asking; texts = c.in_ok-texts.texts } in
    let taken = c.in_ok-take_texts.ensures.taken in (
      taken.0,
      taken.1,
      all_passed c.args.plan.now c.args.filter first c.take_texts.new.taker taken.0 c.args.places.now c.in_ok-asked.asked c.in_ok-texts.ensures c.in_ok-asking.ensures taken.2 c.in_ok-asked.ensures.asked c.in_ok-asked.ensures.verdicts,
    )
