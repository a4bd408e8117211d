use Rattle.std.proofs.Common.{◌≡◌, [], ◌∷◌, ◌++◌, ◌∙◌, List, ℕ, map, ap, subst, sym, rules}
use Rattle.std.specs.Prelude.{All}
use Rattle.row_codec.specs.declared.layouts.Start.{Start}
use Rattle.row_codec.specs.StepsLayouts.{IsLaidOut, laid_text}
use Rattle.row_codec.proofs.LayoutLemmas.{all_push, all_stay, on_err, texts_push, texts_stay}
use Rattle.row_codec.proofs.layouts.Layouts.push.Goals as goal

pub invariant_of-self : goal.invariant_of-self
invariant_of-self c =
    let old = c.self.inside in
    let new = c.lay_out.new in
    all_stay old.bytes.items new.bytes.items old.pieces.items new.pieces.items old.starts.items c.lay_out.ensures.bytes c.lay_out.ensures.pieces c.self.invariant

pub returns-in_err-lay_out-clause-kept : goal.returns-in_err-lay_out-clause-kept
returns-in_err-lay_out-clause-kept c =
    let old = c.self.inside in
    let new = c.lay_out.new in
    on_err c.from_residual.result
    (texts_stay old.bytes.items new.bytes.items old.pieces.items new.pieces.items old.starts.items c.lay_out.ensures.bytes c.lay_out.ensures.pieces c.self.invariant ∙ c.self.view_is)

pub invariant_of-self-in_err-push : goal.invariant_of-self-in_err-push
invariant_of-self-in_err-push c =
    let old = c.self.inside in
    let new = c.lay_out.new in
    all_stay old.bytes.items new.bytes.items old.pieces.items new.pieces.items old.starts.items c.lay_out.ensures.bytes c.lay_out.ensures.pieces c.self.invariant

pub returns-in_err-push-clause-kept : goal.returns-in_err-push-clause-kept
returns-in_err-push-clause-kept c =
    let old = c.self.inside in
    let new = c.lay_out.new in
    on_err c.from_residual-in_err-push.result
    (texts_stay old.bytes.items new.bytes.items old.pieces.items new.pieces.items old.starts.items c.lay_out.ensures.bytes c.lay_out.ensures.pieces c.self.invariant ∙ c.self.view_is)

pub invariant_of-self-in_err-push-2 : goal.invariant_of-self-in_err-push-2
invariant_of-self-in_err-push-2 c =
    let old = c.self.inside in
    let new = c.lay_out.new in
    let same : c.push-2.new.self.items ≡ old.starts.items = search rules in
    subst (λ (s : List Start). All (IsLaidOut new.bytes.items new.pieces.items) s) (sym same)
    (all_stay old.bytes.items new.bytes.items old.pieces.items new.pieces.items old.starts.items c.lay_out.ensures.bytes c.lay_out.ensures.pieces c.self.invariant)

pub returns-in_err-push-2-clause-kept : goal.returns-in_err-push-2-clause-kept
returns-in_err-push-2-clause-kept c =
    let old = c.self.inside in
    let new = c.lay_out.new in
    let same : c.push-2.new.self.items ≡ old.starts.items = search rules in
    on_err c.from_residual-in_err-push-2.result
    (ap (λ (s : List Start). map (laid_text new.bytes.items new.pieces.items) s) same
    ∙ texts_stay old.bytes.items new.bytes.items old.pieces.items new.pieces.items old.starts.items c.lay_out.ensures.bytes c.lay_out.ensures.pieces c.self.invariant ∙ c.self.view_is)

pub invariant_of-self-2 : goal.invariant_of-self-2
invariant_of-self-2 c =
    let old = c.self.inside in
    let new = c.lay_out.new in
    subst (λ (s : List Start). All (IsLaidOut new.bytes.items new.pieces.items) s) (sym c.in_ok-push-2.ensures.items)
    (all_push c.args.text.now old.bytes.items new.bytes.items old.pieces.items new.pieces.items old.starts.items (record { byte = c.len.result; piece = c.len-2.result }) (search rules) (search rules) c.in_ok-lay_out.ensures.laid c.self.invariant)

pub returns-clause-added : goal.returns-clause-added
returns-clause-added c =
    let old = c.self.inside in
    let new = c.lay_out.new in
    ap (λ (s : List Start). map (laid_text new.bytes.items new.pieces.items) s) c.in_ok-push-2.ensures.items
    ∙ texts_push c.args.text.now old.bytes.items new.bytes.items old.pieces.items new.pieces.items old.starts.items (record { byte = c.len.result; piece = c.len-2.result }) (search rules) (search rules) c.in_ok-lay_out.ensures.laid c.self.invariant
    ∙ ap (λ (l : List (List ℕ)). l ++ c.args.text.now ∷ []) c.self.view_is
