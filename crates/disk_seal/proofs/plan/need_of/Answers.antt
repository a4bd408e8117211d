use Rattle.std.proofs.Common.{ℕ, List, ◌≡◌, length, get_or, take, ap, ◌∙◌, arith}
use Rattle.std.proofs.lemmas.List.{take_all}
use Rattle.disk_seal.specs.declared.pieces.Piece.{Piece}
use Rattle.disk_seal.specs.Pieces.{size_of}
use Rattle.disk_seal.proofs.PlanLemmas.{size_more}
use Rattle.disk_seal.proofs.plan.need_of.Goals as goal

pub loop-piece-preserved : goal.loop-piece-preserved
loop-piece-preserved c =
    let text : length c.as_slice.result.now ≡ length (get_or c.args.pieces.now c.loop-piece.piece-index c.piece-item.result).text =
    ap (λ (l : List ℕ). length l) c.as_slice.ensures ∙ ap (λ (p : Piece). length p.text) c.piece-item.is in
    let more = size_more c.args.pieces.now c.loop-piece.piece-index c.piece-item.result c.loop-piece-test.true in
    omega (arith, more, text, c.loop-piece.invariant, c.saturating_add-need.ensures)

pub returns : goal.returns
returns c =
    let all = take_all c.loop-piece.piece-index c.args.pieces.now (omega arith) in
    let size : size_of (take c.loop-piece.piece-index c.args.pieces.now) ≡ size_of c.args.pieces.now = ap size_of all in
    omega (arith, size, c.loop-piece.invariant)
