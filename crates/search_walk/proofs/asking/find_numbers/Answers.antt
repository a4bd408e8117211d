use Rattle.std.proofs.Common.{◌∙◌, List, ap, arith, length, length-append, map, subst}
use Rattle.std.proofs.lemmas.List.{length-map}
use Rattle.word_places.specs.Holders.{FoundEach}
use Rattle.word_places.specs.declared.needle.Needle.{Needle}
use Rattle.search_walk.specs.Told.{AreFound, whole_needle, within_needle}
use Rattle.search_walk.proofs.AskLemmas.{of_words_map}
use Rattle.search_walk.proofs.asking.find_numbers.Goals as goal

pub returns-clause-found : goal.returns-clause-found
returns-clause-found g c =
    of_words_map _ c.args.places.now (λ words. FoundEach c.as_slice.result.now words c.in_ok-lists.lists.items) (λ words. AreFound c.args.within.now c.args.whole.now words c.in_ok-lists.lists.items)
    (λ words found. subst (λ (l : List Needle). FoundEach l words c.in_ok-lists.lists.items) (c.as_slice.ensures.value ∙ c.in_ok-needles.ensures) found) c.in_ok-lists.ensures.found

pub returns-clause-long : goal.returns-clause-long
returns-clause-long g c =
    c.in_ok-lists.ensures.each ∙ ap (λ (l : List Needle). length l) (c.as_slice.ensures.value ∙ c.in_ok-needles.ensures) ∙ length-append (map within_needle c.args.within.now) (map whole_needle c.args.whole.now)
    ∙ omega (arith, length-map c.args.within.now within_needle, length-map c.args.whole.now whole_needle)
