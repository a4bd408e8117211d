use Rattle.std.proofs.Common.{◌≡◌, ◌∙◌, ℕ, List, All, ap, sym, subst, refl, rules}
use Rattle.row_codec.specs.Laid.{AreCut}
use Rattle.word_places.specs.Held.{HeldNames}
use Rattle.word_places.specs.Kept.{KeptTypes}
use Rattle.search_walk.specs.Held.{Named}
use Rattle.search_meaning.specs.Scan.{Asked}
use Rattle.search_engine.specs.Waiting.{IsWorked, Pending, WaitFor, pages_of}
use Rattle.search_walk.proofs.AnswerLemmas.{on_err}
use Rattle.search_engine.proofs.ServedLemmas.{round_worked}
use Rattle.search_engine.specs.StepsWaiting.{round_blames, round_halts, round_reaches}
use Rattle.search_engine.proofs.page_batch.PageBatch.run.Goals as goal

pub match_chunk-requires : goal.match_chunk-requires
match_chunk-requires g c =
    record { types = subst (λ (ts : List (List ℕ)). AreCut c.of-printer.result.layouts.now ts) (sym (ap (λ (h : HeldNames). h.types) c.of-printer.ensures.held ∙ ap (λ (k : KeptTypes). k.texts) c.requires.served.serves.kept)) c.of-printer.ensures.types }

pub returns-in_err-gather_all-clause-stopped : goal.returns-in_err-gather_all-clause-stopped
returns-in_err-gather_all-clause-stopped g c =
    let n : Named = c.args.context.now.names in
    let q : Asked = c.args.context.now.query in
    let r : All (IsWorked n q) c.match_chunk.new.slots × (pages_of c.match_chunk.new.slots ≡ pages_of c.self.inside.waiting.items) =
    round_worked n q c.of-printer.result.query.now c.args.held.now c.of-printer.result.held.now c.as_mut_slice-slots.result.now c.match_chunk.new.slots c.match_chunk.new.slots c.self.inside.waiting.items c.args.self.now.pages c.of-printer.ensures.query c.of-printer.ensures.held c.match_chunk.ensures.len c.match_chunk.ensures.pages
    c.match_chunk.ensures.worked refl c.as_mut_slice-slots.ensures.value (ap (λ (e : Pending). e.pages) c.self.view_is) c.requires.served.ready in
    on_err c.from_residual.result _
    (round_halts n q _ _ c.args.self.now _ _ _ c.self.view_is (λ all waits. c.in_err-gather_all.ensures.stopped n q all r.0 (subst (λ l. WaitFor n l all) (sym r.1) waits)))

pub returns-in_err-gather_all-clause-damaged : goal.returns-in_err-gather_all-clause-damaged
returns-in_err-gather_all-clause-damaged g c = λ is.
    let n : Named = c.args.context.now.names in
    let q : Asked = c.args.context.now.query in
    let r : All (IsWorked n q) c.match_chunk.new.slots × (pages_of c.match_chunk.new.slots ≡ pages_of c.self.inside.waiting.items) =
    round_worked n q c.of-printer.result.query.now c.args.held.now c.of-printer.result.held.now c.as_mut_slice-slots.result.now c.match_chunk.new.slots c.match_chunk.new.slots c.self.inside.waiting.items c.args.self.now.pages c.of-printer.ensures.query c.of-printer.ensures.held c.match_chunk.ensures.len c.match_chunk.ensures.pages
    c.match_chunk.ensures.worked refl c.as_mut_slice-slots.ensures.value (ap (λ (e : Pending). e.pages) c.self.view_is) c.requires.served.ready in
    round_blames n c.args.self.now _ c.self.view_is (λ all waits. c.in_err-gather_all.ensures.damaged (search rules) n q all r.0 (subst (λ l. WaitFor n l all) (sym r.1) waits))

pub returns-clause-done : goal.returns-clause-done
returns-clause-done g c =
    let n : Named = c.args.context.now.names in
    let q : Asked = c.args.context.now.query in
    let r : All (IsWorked n q) c.match_chunk.new.slots × (pages_of c.match_chunk.new.slots ≡ pages_of c.self.inside.waiting.items) =
    round_worked n q c.of-printer.result.query.now c.args.held.now c.of-printer.result.held.now c.as_mut_slice-slots.result.now c.match_chunk.new.slots c.match_chunk.new.slots c.self.inside.waiting.items c.args.self.now.pages c.of-printer.ensures.query c.of-printer.ensures.held c.match_chunk.ensures.len c.match_chunk.ensures.pages
    c.match_chunk.ensures.worked refl c.as_mut_slice-slots.ensures.value (ap (λ (e : Pending). e.pages) c.self.view_is) c.requires.served.ready in
    round_reaches n q _ _ c.args.self.now _ _ _ _ c.self.view_is (ap pages_of c.clear.ensures.items) (λ all waits. c.in_ok-gather_all.ensures.done n q all r.0 (subst (λ l. WaitFor n l all) (sym r.1) waits))
