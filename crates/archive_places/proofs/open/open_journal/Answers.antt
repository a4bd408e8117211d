use Rattle.std.proofs.Common.{◌∙◌, List, refl, ap, sym, subst, rules}
use Rattle.std.specs.List.Sorted.{IsPermutation, IsNonDecreasingBy}
use Rattle.record_format.specs.declared.header.Header.{Header}
use Rattle.disk_journal.specs.Journal.{state_of}
use Rattle.archive_places.specs.declared.front.SegmentFront.{SegmentFront}
use Rattle.archive_places.specs.Fronts.{order_of_front}
use Rattle.archive_places.specs.StepsPlaced.{PlacesOf, listing_of, no_listing, placing_of}
use Rattle.archive_places.proofs.EndLemmas.{has_last_gate, in_order, none_in_run, none_placed, opens}
use Rattle.archive_places.proofs.open.open_journal.Goals as goal

pub keep_all-requires-clause-none : goal.keep_all-requires-clause-none
keep_all-requires-clause-none g c =
    none_placed _ c.args.journal.now.header (c.new.ensures ∙ ap (λ (h : Header). no_listing h.types_limit) c.header-header.ensures)
    (c.new-2.ensures ∙ ap (λ (h : Header). no_listing h.words_limit) c.header-header.ensures) (search rules) (search rules)

pub keep_all-requires-clause-sound : goal.keep_all-requires-clause-sound
keep_all-requires-clause-sound g c = (none_in_run _ _ c.new.ensures, none_in_run _ _ c.new-2.ensures)

pub returns-clause-opened : goal.returns-clause-opened
returns-clause-opened g c =
    let opening = c.keep_all.new.keeping in
    opens opening (state_of c.args.journal.now) (state_of c.keep_all.new.journal) _ c.keep_all.ensures.looks c.in_ok-keep_all.ensures.ended (record {
      header = c.header-header.ensures;
      types = c.new-5.ensures;
      types_count = refl;
      words = c.new-6.ensures;
      files = c.new-7.ensures;
      same = subst (λ (l : List SegmentFront). IsPermutation opening.segments.items l) (sym c.new-8.ensures) c.sort.ensures.same;
      sorted = subst (λ (l : List SegmentFront). IsNonDecreasingBy order_of_front l) (sym c.new-8.ensures) c.sort.ensures.sorted;
      entries = c.count.ensures;
      end = c.end.ensures;
    })

pub returns-clause-order : goal.returns-clause-order
returns-clause-order g c =
    let opening = c.keep_all.new.keeping in
    let run = c.in_ok-keep_all.ensures.sound in (
      in_order (listing_of opening.types) _ c.new-5.ensures run.0 opening.types.within opening.types.few,
      in_order (listing_of opening.words) _ c.new-6.ensures run.1 opening.words.within opening.words.few,
    )

pub returns-clause-last : goal.returns-clause-last
returns-clause-last g c =
    has_last_gate (PlacesOf (placing_of c.keep_all.new.keeping)) (state_of c.args.journal.now) (state_of c.keep_all.new.journal) _ c.keep_all.ensures.looks c.in_ok-keep_all.ensures.ended c.end.ensures
