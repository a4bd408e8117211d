use Rattle.std.proofs.Common.{rules, ◌+◌, subst, sym, List}
use Rattle.word_places.specs.declared.place.WordsPlace.{WordsPlace}
use Rattle.archive_places.specs.StepsPlaced.{Listing, RunOn, listing_of, place_by}
use Rattle.archive_places.proofs.TextLemmas.{run_more}
use Rattle.archive_places.proofs.opening.TextPlaces.add.Goals as goal

pub returns-clause-added : goal.returns-clause-added
returns-clause-added c = λ yes.
    let old : Listing = listing_of c.args.self.now in
    λ i. record old { places = c.in_ok-push.ensures.items i; count = old.count + c.args.count }

pub returns-clause-sound : goal.returns-clause-sound
returns-clause-sound c = λ yes run.
    let old : Listing = listing_of c.args.self.now in
    subst (λ (ps : List WordsPlace). RunOn 0 ps (old.count + c.args.count)) (sym c.in_ok-push.ensures.items)
    (run_more 0 old.places old.count (place_by c.args.place c.args.first c.args.count) run (search rules))
