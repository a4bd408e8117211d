use Rattle.std.proofs.Common.{◌≡◌, ◌∙◌, List, ℕ, [], ap, ap₂, drop, length, rules, subst, sym, take}
use Rattle.query_plan.specs.declared.pieces.Piece.{Piece}
use Rattle.query_plan.specs.Needs.{needed_variables_of}
use Rattle.query_plan.specs.Pieces.{Free, needed_of, wide_pieces}
use Rattle.subquery_filter.specs.Filter.{AsksTypes, IsFilter}
use Rattle.subquery_filter.specs.Found.{AreNumbers, HaveAll}
use Rattle.search_walk.specs.Told.{AreFound}
use Rattle.search_walk.proofs.AskLemmas.{are_numbers, have_all, have_none, of_words_all, of_words_map}
use Rattle.search_walk.proofs.asking.ask_words.Goals as goal

pub returns-then-not-has_variable-clause-filter : goal.returns-then-not-has_variable-clause-filter
returns-then-not-has_variable-clause-filter g c =
    let ps : List Piece = wide_pieces c.args.query.now.pattern in
    let none : length c.needles-within.result.now ≡ 0 = search rules in
    of_words_all _ c.args.places.now (λ words. (types : List (List ℕ)) → AsksTypes ps types c.args.filter → IsFilter ps types words c.in_ok-filter.filter)
    (λ words types asks. c.in_ok-filter.ensures ps types words asks (have_none c.args.filter.needles.items words [] (ap (λ (l : List (List ℕ)). length l) (sym c.needles-within.ensures) ∙ none)))

pub returns-clause-filter : goal.returns-clause-filter
returns-clause-filter g c =
    let ps : List Piece = wide_pieces c.args.query.now.pattern in
    let within = c.needles-within.result.now in
    let needed = c.as_slice-needed.result.now in
    let lists = c.in_ok-lists.lists.items in
    let marks = c.split_at.result.0.now in
    of_words_map _ c.args.places.now (λ words. AreFound within needed words lists) (λ words. (types : List (List ℕ)) → AsksTypes ps types c.args.filter → IsFilter ps types words c.in_ok-filter-2.filter)
    (λ words found types asks.
    c.in_ok-filter-2.ensures ps types words asks
    (subst (λ (l : List (List ℕ)). HaveAll l words marks) c.needles-within.ensures
    (have_all within needed words lists marks c.holders_have.ensures found (c.split_at.ensures.front ∙ ap₂ (λ (n : ℕ) (l : List (List ℕ)). take n l) (search rules) c.as_slice.ensures.value))))
    c.in_ok-lists.ensures.found

pub returns-clause-found : goal.returns-clause-found
returns-clause-found g c =
    let ps : List Piece = wide_pieces c.args.query.now.pattern in
    let within = c.needles-within.result.now in
    let needed = c.as_slice-needed.result.now in
    let lists = c.in_ok-lists.lists.items in
    let rest = c.split_at.result.1.now in
    let found = c.in_ok-found-2.found.items in
    let flags = needed_variables_of Free ps in
    let is : needed ≡ needed_of Free ps = c.as_slice-needed.ensures ∙ c.needed.ensures ∙ ap (needed_of Free) c.plan.ensures in
    of_words_map _ c.args.places.now (λ words. AreFound within needed words lists) (λ words. AreNumbers words (needed_of Free ps) flags found)
    (λ words are.
    subst (λ (l : List (List ℕ)). AreNumbers words l flags found) is
    (are_numbers within needed words lists rest flags found are c.in_ok-lists.ensures.long (c.split_at.ensures.back ∙ ap₂ (λ (n : ℕ) (l : List (List ℕ)). drop n l) (search rules) c.as_slice.ensures.value) c.in_ok-found-2.ensures))
    c.in_ok-lists.ensures.found
