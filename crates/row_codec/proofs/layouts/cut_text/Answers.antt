use Rattle.std.proofs.Common.{◌-◌, refl, rules, subst}
use Rattle.row_codec.specs.declared.layouts.Next.TheVariants.{End}
use Rattle.logtype_text.proofs.TextLemmas.{nothing_left}
use Rattle.row_codec.specs.StepsLayouts.{IsCutUpTo}
use Rattle.row_codec.proofs.LayoutLemmas.{cut_end, cut_none, cut_run}
use Rattle.row_codec.proofs.layouts.cut_text.Goals as goal

pub loop-symbol-init : goal.loop-symbol-init
loop-symbol-init c =
    let text = c.args.text.now in
    let old = c.args.bytes.now.items in
    let pieces = c.args.pieces.now.items in
    cut_run text text c.in_ok-rest.rest.now c.len-start.result old old c.add_plain.new.bytes.items pieces pieces
    (subst (λ n. IsCutUpTo text text n old old pieces pieces) (search rules) (cut_none text old pieces c.requires)) c.in_ok-rest.ensures.added

pub loop-symbol-preserved : goal.loop-symbol-preserved
loop-symbol-preserved c =
    let text = c.args.text.now in
    let after = c.in-Some.after.now in
    let old = c.args.bytes.now.items in
    let pieces = c.args.pieces.now.items in
    let done = c.in_ok-start.ensures.cut text c.loop-symbol.rest.now after old pieces c.in-Some.ensures.some c.loop-symbol.invariant in
    cut_run text after c.in_ok-rest-2.rest.now c.in_ok-start.start old c.add_symbol.new.bytes.items c.add_plain-in-Some.new.bytes.items pieces c.add_symbol.new.pieces.items done c.in_ok-rest-2.ensures.added

pub returns-clause-laid : goal.returns-clause-laid
returns-clause-laid c =
    let text = c.args.text.now in
    let now = c.loop-symbol in
    let old = c.args.bytes.now.items in
    let pieces = c.args.pieces.now.items in
    let none = nothing_left now.rest.now c.in_default.ensures.none now.invariant.good in
    cut_end text now.start old now.bytes.items pieces now.pieces.items c.push.new.self.items (record { len = c.len.result - now.start; next = End }) (search rules) refl c.in_ok-push.ensures.items
    (subst (λ r. IsCutUpTo text r now.start old now.bytes.items pieces now.pieces.items) none now.invariant)
