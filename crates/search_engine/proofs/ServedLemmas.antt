-- Pages that wait, and the words that are held for them.
use Rattle.std.proofs.Common.{◌≡◌, ◌<◌, ◌∙◌, ℕ, List, [], ◌∷◌, ◌++◌, length, get_or, Option, All, ap, sym, subst}
use Rattle.std.proofs.lemmas.List.Elements.{All-cons, All-head, All-nil, All-tail}
use Rattle.word_places.specs.Held.{AreNumbered, Grow, HeldNames, KeepsTypes, RightTold, places_of}
use Rattle.search_meaning.specs.Scan.{Asked}
use Rattle.search_walk.specs.Held.{Named}
use Rattle.search_engine.specs.Served.{AreReadyPages, IsServed}
use Rattle.search_walk.specs.Ready.{IsReadyPage, Serves}
use Rattle.search_engine.specs.Waiting.{IsWorked, Page, Slotted, pages_of}
use Rattle.search_engine.specs.Worked.{IsWorkedBy}
use Rattle.search_walk.proofs.ReadyLemmas.{kept_same, rows_grow}
use Rattle.search_engine.proofs.SlotLemmas.{pages_kept}

pages_grow : (n : Named) (q : Asked) (old new : HeldNames) (pages : List Page) → Serves n new → Grow old.records new.records → AreReadyPages n q old pages → AreReadyPages n q new pages
pages_grow n q old new [] serves grow ready = tt
pages_grow n q old new (p ∷ pages) serves grow ready = (
  record { serves = serves; each = rows_grow n q old.records new.records p.rows p.verdicts ready.0.serves.numbered serves.numbered grow ready.0.each },
  pages_grow n q old new pages serves grow ready.1,
)

pub served_grows : (n : Named) (q : Asked) (old new : HeldNames) (pages : List Page) → IsServed n q old pages → Serves n new → Grow old.records new.records → IsServed n q new pages
served_grows n q old new pages served serves grow = record { serves = serves; ready = pages_grow n q old new pages serves grow served.ready }

-- ---- pages that wait

ready_push : (n : Named) (q : Asked) (held : HeldNames) (pages : List Page) (p : Page) → AreReadyPages n q held pages → IsReadyPage n q held p.rows p.verdicts → AreReadyPages n q held (pages ++ p ∷ [])
ready_push n q held [] p ready one = (one, tt)
ready_push n q held (o ∷ pages) p ready one = (ready.0, ready_push n q held pages p ready.1 one)

pub served_push : (n : Named) (q : Asked) (held : HeldNames) (pages later : List Page) (p : Page) → later ≡ pages ++ p ∷ [] → IsServed n q held pages → IsReadyPage n q held p.rows p.verdicts
    → IsServed n q held later
served_push n q held pages later p is served one =
    subst (λ (l : List Page). IsServed n q held l) (sym is) (record { serves = served.serves; ready = ready_push n q held pages p served.ready one })

pub served_none : (n : Named) (q : Asked) (held : HeldNames) (pages : List Page) → Serves n held → pages ≡ [] → IsServed n q held pages
served_none n q held pages serves none = subst (λ (l : List Page). IsServed n q held l) (sym none) (record { serves = serves; ready = tt })

-- pages whose words are held were searched
pub all_worked : (n : Named) (q : Asked) (held : HeldNames) (slots : List Slotted) → All (IsWorkedBy q held) slots → AreReadyPages n q held (pages_of slots) → All (IsWorked n q) slots
all_worked n q held [] worked ready = All-nil (IsWorked n q)
all_worked n q held (s ∷ slots) worked ready =
    All-cons (IsWorked n q) s slots (All-head (IsWorkedBy q held) s slots worked n ready.0) (all_worked n q held slots (All-tail (IsWorkedBy q held) s slots worked) ready.1)

-- ---- a round that was searched

pub round_worked : (n : Named) (q asked : Asked) (held by : HeldNames) (old new sent items : List Slotted) (pages : List Page) → asked ≡ q → by ≡ held → length new ≡ length old
    → ((k : ℕ) (d : Slotted) → k < length old → (get_or new k d).page ≡ (get_or old k d).page) → All (IsWorkedBy asked by) new → sent ≡ new → old ≡ items → pages_of items ≡ pages → AreReadyPages n q held pages
    → All (IsWorked n q) sent × (pages_of sent ≡ pages_of items)
round_worked n q asked held by old new sent items pages same words long each worked is lent mine ready =
    let kept : pages_of new ≡ pages_of items = pages_kept old new long each ∙ ap pages_of lent in
    let own : AreReadyPages n q held (pages_of new) = subst (λ (l : List Page). AreReadyPages n q held l) (sym mine ∙ sym kept) ready in (
      subst (λ (l : List Slotted). All (IsWorked n q) l) (sym is) (all_worked n q held new (subst (λ (h : HeldNames). All (IsWorkedBy q h) new) words (subst (λ (x : Asked). All (IsWorkedBy x by) new) same worked)) own),
      ap pages_of is ∙ kept,
    )

-- ---- words of a share

pub serves_taken : (n : Named) (all own new : HeldNames) → Serves n all → Serves n own → KeepsTypes all new → places_of new.records ≡ places_of all.records → AreNumbered 0 new.records
    → ((told : Option (List ℕ)) → RightTold told all.records → RightTold told own.records → RightTold told new.records) → Serves n new
serves_taken n all own new whole part keeps places numbered right = record {
  kept = kept_same all new keeps ∙ whole.kept;
  places = places ∙ whole.places;
  numbered = numbered;
  right = right n.told whole.right part.right;
}
