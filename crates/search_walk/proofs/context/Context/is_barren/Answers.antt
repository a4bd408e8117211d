use Rattle.std.proofs.Common.{◌∙◌, List, ap, subst, sym, length}
use Rattle.std.specs.Prelude.{◌↔◌, IsTrue}
use Rattle.column_store.specs.declared.range.Range.{Range}
use Rattle.query_plan.specs.declared.pieces.Piece.{Piece}
use Rattle.query_plan.specs.Laws.{IsSearched}
use Rattle.query_plan.specs.Needs.{needed_variables_of}
use Rattle.query_plan.specs.Pieces.{Free, needed_of, wide_pieces}
use Rattle.barren_segments.specs.Barren.{IsBarren}
use Rattle.subquery_filter.specs.Asking.{AreConstants}
use Rattle.subquery_filter.specs.Found.{AreNumbers}
use Rattle.search_walk.specs.Held.{Named, named}
use Rattle.search_walk.specs.Loaded.{OfLoaded}
use Rattle.search_walk.specs.StepsScope.{Scope}
use Rattle.search_walk.proofs.LoadedLemmas.{loaded_tells}
use Rattle.search_walk.proofs.SegmentLemmas.{Tells}
use Rattle.search_walk.proofs.context.Context.is_barren.Goals as goal

pub barren_by-requires : goal.barren_by-requires
barren_by-requires g c = c.self.invariant.count ∙ ap (λ (l : List Piece). length (needed_of Free l)) (sym c.plan.ensures)

pub returns-clause-told : goal.returns-clause-told
returns-clause-told g c =
    let own = c.self.inside in
    let n : Named = named (g.D.Disk.state own.disk.value).seen own.held.value in
    let q = own.query.now in
    let segment = c.args.segment.now in
    let head = segment.place.head in
    subst (λ (s : Scope). OfLoaded s.query segment (λ p. Tells s.names s.query p c.barren_by.result)) c.self.view_is
    (loaded_tells n q segment c.barren_by.result (λ is_told is_head distinct.
    subst (λ (r : Range). IsTrue c.barren_by.result ↔ IsBarren (wide_pieces q.pattern) r n.types n.words head) c.range.ensures
    (subst (λ (l : List Piece). IsTrue c.barren_by.result ↔ IsBarren l c.range.result.now n.types n.words head) c.plan.ensures
    (c.barren_by.ensures n.types n.words is_head distinct (subst (λ (l : List Piece). AreNumbers n.words (needed_of Free l) (needed_variables_of Free l) own.found.now) (sym c.plan.ensures) (c.self.invariant.numbered is_told))
    (subst (λ (l : List Piece). AreConstants l n.types c.as_slice.result.now) (sym c.plan.ensures) (subst (AreConstants (wide_pieces q.pattern) n.types) (sym c.as_slice.ensures.value) (c.self.invariant.constants_are is_told)))))))

pub returns-clause-searched : goal.returns-clause-searched
returns-clause-searched g c = subst (λ (s : Scope). IsSearched s.query.pattern) c.self.view_is c.self.invariant.searched
