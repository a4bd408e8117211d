use Rattle.std.proofs.Common.{◌≡◌, [], ◌∷◌, take, refl, rules}
use Rattle.row_codec.specs.declared.layouts.Next.TheVariants.{Slot, End, Misfit}
use Rattle.row_codec.specs.StepsLayouts.{spelled}
use Rattle.row_codec.proofs.BodyLemmas.{none_left, puts_end}
use Rattle.row_codec.proofs.LayoutLemmas.{laid_none, left_none, put_last, put_none, put_on, put_stuck}
use Rattle.row_codec.proofs.writer.put_layout.Goals as goal

pub loop-piece-init : goal.loop-piece-init
loop-piece-init g c = laid_none (g.N.Names.words c.args.names.now) c.args.words.now c.args.layout.bytes.now c.args.layout.pieces.now c.args.out.now.items c.requires

pub returns-in_default-2-clause-misfit : goal.returns-in_default-2-clause-misfit
returns-in_default-2-clause-misfit g c = λ no has.
    let now = c.loop-piece in
    let piece = c.in-Some.piece.now in
    let first : now.others.now ≡ piece ∷ c.in-Some.behind.now = search rules in
    let slot : piece.next ≡ Slot c.in-Slot.kind = search rules in
    put_stuck (g.N.Names.words c.args.names.now) _ c.args.words.now now.rest.now now.others.now c.in-Some.behind.now piece c.in-Slot.kind now.left.now (take piece.len now.rest.now) c.args.out.now.items now.out.items c.put_front.new.out.items
    first slot refl c.in_ok-put_front.ensures.put (search rules) now.invariant has

pub returns-in-End-clause-written : goal.returns-in-End-clause-written
returns-in-End-clause-written g c = λ yes.
    let now = c.loop-piece in
    let piece = c.in-Some.piece.now in
    let words = g.N.Names.words c.args.names.now in
    let first : now.others.now ≡ piece ∷ c.in-Some.behind.now = search rules in
    let end : piece.next ≡ End = search rules in
    let puts = put_last words (spelled c.args.layout.bytes.now c.args.layout.pieces.now) c.args.words.now now.rest.now now.others.now c.in-Some.behind.now piece now.left.now (take piece.len now.rest.now) c.args.out.now.items now.out.items c.put_front.new.out.items
    first end refl c.in_ok-put_front.ensures.put now.invariant in
    puts_end words (spelled c.args.layout.bytes.now c.args.layout.pieces.now) c.args.words.now [] now.left.now c.args.out.now.items c.put_front.new.out.items (refl, none_left now.left.now (cc (c.is_empty.ensures, yes))) puts

pub returns-in-End-clause-misfit : goal.returns-in-End-clause-misfit
returns-in-End-clause-misfit g c = λ no has.
    let now = c.loop-piece in
    let piece = c.in-Some.piece.now in
    let words = g.N.Names.words c.args.names.now in
    let first : now.others.now ≡ piece ∷ c.in-Some.behind.now = search rules in
    let end : piece.next ≡ End = search rules in
    let puts = put_last words (spelled c.args.layout.bytes.now c.args.layout.pieces.now) c.args.words.now now.rest.now now.others.now c.in-Some.behind.now piece now.left.now (take piece.len now.rest.now) c.args.out.now.items now.out.items c.put_front.new.out.items
    first end refl c.in_ok-put_front.ensures.put now.invariant in
    let none : now.left.now ≡ [] = left_none words (spelled c.args.layout.bytes.now c.args.layout.pieces.now) c.args.words.now now.left.now c.args.out.now.items c.put_front.new.out.items puts has in
    absurd (search (rules, none, no))

pub returns-in-Misfit-clause-misfit : goal.returns-in-Misfit-clause-misfit
returns-in-Misfit-clause-misfit g c = λ no has.
    let now = c.loop-piece in
    let piece = c.in-Some.piece.now in
    let first : now.others.now ≡ piece ∷ c.in-Some.behind.now = search rules in
    let misfit : piece.next ≡ Misfit = search rules in
    put_none (g.N.Names.words c.args.names.now) _ c.args.words.now now.rest.now now.others.now c.in-Some.behind.now piece now.left.now c.args.out.now.items now.out.items first misfit now.invariant has

pub loop-piece-preserved : goal.loop-piece-preserved
loop-piece-preserved g c =
    let now = c.loop-piece in
    let piece = c.in-Some.piece.now in
    let first : now.others.now ≡ piece ∷ c.in-Some.behind.now = search rules in
    let slot : piece.next ≡ Slot c.in-Slot.kind = search rules in
    put_on (g.N.Names.words c.args.names.now) _ c.args.words.now now.rest.now now.others.now c.in-Some.behind.now piece c.in-Slot.kind now.left.now c.in-Some-2.more.now (take piece.len now.rest.now) c.split_at.result.1.now c.args.out.now.items now.out.items c.put_front.new.out.items c.put_symbol.new.out.items
    first slot refl c.split_at.ensures.back c.in_ok-put_front.ensures.put (search rules) now.invariant
