use Rattle.std.proofs.Common.{◌≡◌, ◌∙◌, ap, subst, sym, refl, ℕ, List}
use Rattle.subquery_filter.specs.declared.verdicts.Verdict.{Verdict}
use Rattle.search_walk.specs.Held.{AreRowsOf}
use Rattle.search_walk.specs.Ready.{IsReadyPage}
use Rattle.search_engine.specs.Waiting.{Page, PrintsPage, Slotted, page}
use Rattle.search_walk.proofs.AnswerLemmas.{on_ok_to}
use Rattle.search_engine.proofs.SlotLemmas.{prints}
use Rattle.search_engine.proofs.page_slot.match_counted.Goals as goal

pub returns-clause-done : goal.returns-clause-done
returns-clause-done g c =
    let q = c.args.printer.now.query.now in
    let i = c.slot.inside in
    let same : page c.as_slice.result.now i.number i.columns.rows i.verdicts.items ≡ c.args.slot.now.page =
    ap (λ (l : List ℕ). page l i.number i.columns.rows i.verdicts.items) c.as_slice.ensures.value ∙ ap (λ (s : Slotted). s.page) c.slot.view_is in
    on_ok_to c.print_page.result _ _
    (λ passes n ready.
    let own : IsReadyPage n q c.args.printer.now.held.now i.columns.rows i.verdicts.items =
    subst (λ (p : Page). IsReadyPage n q c.args.printer.now.held.now p.rows p.verdicts) (sym same) ready in
    let lent : IsReadyPage n q c.args.printer.now.held.now i.columns.rows c.as_slice-2.result.now =
    subst (λ (l : List Verdict). IsReadyPage n q c.args.printer.now.held.now i.columns.rows l) (sym c.as_slice-2.ensures.value) own in
    subst (λ (p : Page). PrintsPage n q p c.print_page.new.gathered.items c.print_page.new.counts) same
    (prints n q c.as_slice.result.now i.number i.columns.rows i.verdicts.items _ c.print_page.new.gathered.items _ c.print_page.new.counts _ c.print_page.new.expanded c.clear.ensures.items refl c.slot.invariant.0 (passes n lent)))
    c.print_page.ensures.done

pub returns-clause-damaged : goal.returns-clause-damaged
returns-clause-damaged g c = λ is n ready.
    let q = c.args.printer.now.query.now in
    let i = c.slot.inside in
    let own : IsReadyPage n q c.args.printer.now.held.now i.columns.rows i.verdicts.items =
    subst (λ (s : Slotted). IsReadyPage n q c.args.printer.now.held.now s.page.rows s.page.verdicts) (sym c.slot.view_is) ready in
    let lent : IsReadyPage n q c.args.printer.now.held.now i.columns.rows c.as_slice-2.result.now =
    subst (λ (l : List Verdict). IsReadyPage n q c.args.printer.now.held.now i.columns.rows l) (sym c.as_slice-2.ensures.value) own in
    subst (λ (s : Slotted). (messages : List (List ℕ)) → ¬ AreRowsOf n s.page.rows messages) c.slot.view_is (c.print_page.ensures.damaged is n lent)
