-- The summary of an archive.
use Rattle.std.proofs.Common.{◌≡◌, inl, inr, refl, sym, ap, subst, ◌∙◌, ℕ, List, Bool, true, false, Option, None, Some}
use Rattle.std.proofs.lemmas.List.Sorted.{length_permutation}
use Rattle.sink_pieces.specs.Output.{Grew, GrewByFront}
use Rattle.wild_match.specs.Reading.{IsSearchPattern}
use Rattle.wild_match.specs.declared.pattern.Item.{Item}
use Rattle.archive_open.specs.Shown.{places_of}
use Rattle.search_meaning.specs.declared.report.Report.{Report}
use Rattle.search_engine.specs.Searched.{HasSearched}
use Rattle.search_meaning.specs.Journal.{OfJournal, asked}
use Rattle.command_answers.specs.Benched.{AreCounted, PrintsSummary, sought, summary}

-- ---- what a search has found

pub counted_done : (seen later : Option (List ℕ)) (items : List Item) (r : Report) (old mid : Option (List ℕ)) (o0 o1 e0 e1 : ℕ) → later ≡ seen → IsSearchPattern sought items
    → OfJournal later (λ h es held. HasSearched h es held (asked items (record { from = None; to = None })) r old mid o0 o1 e0 e1) → OfJournal seen (λ h es held. AreCounted h es held r.matched r.segments)
counted_done None later items r old mid o0 o1 e0 e1 same pattern searched = tt
counted_done (Some bytes) later items r old mid o0 o1 e0 e1 same pattern searched =
    let here = subst (λ x. OfJournal x (λ h es held. HasSearched h es held (asked items (record { from = None; to = None })) r old mid o0 o1 e0 e1)) same searched in
    λ h es stood.
    let s = here h es stood in
    record {
      items = items;
      pattern = pattern;
      found = s.found;
      are_found = s.are_found;
      matched_is = ap (λ (x : Report). x.matched) s.report;
      segments_is = ap (λ (x : Report). x.segments) s.report ∙ length_permutation (places_of es) s.all s.are_all.are;
    }

-- ---- what is printed

pub printed_all : (messages : ℕ) (seen old new : Option (List ℕ)) (line : List ℕ) (r : Report) → OfJournal seen (λ h es held. AreCounted h es held r.matched r.segments) → line ≡ summary messages r.matched r.segments
    → Grew old new line → PrintsSummary true messages seen old new
printed_all messages seen old new line r counted is grew = record { matched = r.matched; segments = r.segments; counted = counted; text = subst (λ t. Grew old new t) is grew }

pub printed_front : (done : Bool) (messages : ℕ) (seen old new : Option (List ℕ)) (line : List ℕ) (r : Report) → done ≡ false → OfJournal seen (λ h es held. AreCounted h es held r.matched r.segments) → line ≡ summary messages r.matched r.segments
    → GrewByFront old new line → PrintsSummary done messages seen old new
printed_front done messages seen old new line r not_done counted is grew =
    subst (λ b. PrintsSummary b messages seen old new) (sym not_done) (inr (record { matched = r.matched; segments = r.segments; counted = counted; text = subst (λ t. GrewByFront old new t) is grew }))

pub printed_none : (done : Bool) (messages : ℕ) (seen old : Option (List ℕ)) → done ≡ false → PrintsSummary done messages seen old old
printed_none done messages seen old not_done = subst (λ b. PrintsSummary b messages seen old old) (sym not_done) (inl refl)
