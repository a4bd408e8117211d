use Rattle.std.proofs.Common.{ℕ, List, ◌++◌, sym, ◌∙◌, ap₂, subst, take-append-drop}
use Rattle.std.specs.Prelude.{All}
use Rattle.row_codec.proofs.BodyLemmas.{IsPlain}
use Rattle.row_codec.proofs.LayoutLemmas.{adds_plain}
use Rattle.row_codec.proofs.layouts.add_plain.Goals as goal

pub returns-clause-added : goal.returns-clause-added
returns-clause-added c =
    let text = c.args.text.now in
    let n = c.plain_front.result in
    let cut = sym (ap₂ (λ (x y : List ℕ). x ++ y) c.split_at.ensures.front c.split_at.ensures.back ∙ take-append-drop n text) in
    adds_plain text c.split_at.result.0.now c.split_at.result.1.now c.args.bytes.now.items c.extend_from_slice.new.self.items cut
    (subst (λ (l : List ℕ). All IsPlain l) (sym c.split_at.ensures.front) c.plain_front.ensures.plain) c.in_ok-extend_from_slice.ensures.items
