use Rattle.std.proofs.Common.{◌≡◌, [], ◌∷◌, take, refl, rules}
use Rattle.row_codec.specs.declared.layouts.Next.TheVariants.{Slot, End, Misfit}
use Rattle.row_codec.specs.StepsLayouts.{spelled}
use Rattle.row_codec.proofs.BodyLemmas.{at_none, at_some, none_left, puts_end, some_left}
use Rattle.row_codec.proofs.LayoutLemmas.{laid_none, left_none, put_last, put_none, put_on, put_stuck}
use Rattle.row_codec.proofs.laying.lay_layout.Goals as goal

pub loop-piece-init : goal.loop-piece-init
loop-piece-init g c = record {
  puts = laid_none (g.N.Names.words c.args.names.now) c.args.words.now c.args.layout.bytes.now c.args.layout.pieces.now (take c.args.at c.args.out.now) c.requires.closed;
  within = c.requires.at;
  long = c.told-out;
}

pub returns-in_default-2-clause-misfit : goal.returns-in_default-2-clause-misfit
returns-in_default-2-clause-misfit g c = λ has.
    let now = c.loop-piece in
    let piece = c.in-Some.piece.now in
    let first : now.others.now ≡ piece ∷ c.in-Some.behind.now = search rules in
    let slot : piece.next ≡ Slot c.in-Slot.kind = search rules in
    put_stuck (g.N.Names.words c.args.names.now) _ c.args.words.now now.rest.now now.others.now c.in-Some.behind.now piece c.in-Slot.kind now.left.now (take piece.len now.rest.now) (take c.args.at c.args.out.now) (take now.end now.out) (take c.in_ok-run_end.run_end c.lay_front.new.out)
    first slot refl c.in_ok-run_end.ensures.written (at_none c.in_ok-word_end-in-Slot.field-0 c.in_ok-word_end-in-Slot.ensures.none c.in_default-2.is) now.invariant.puts has

pub returns-then-is_empty-clause-written : goal.returns-then-is_empty-clause-written
returns-then-is_empty-clause-written g c =
    let now = c.loop-piece in
    let piece = c.in-Some.piece.now in
    let words = g.N.Names.words c.args.names.now in
    let text = spelled c.args.layout.bytes.now c.args.layout.pieces.now in
    let first : now.others.now ≡ piece ∷ c.in-Some.behind.now = search rules in
    let end : piece.next ≡ End = search rules in
    let puts = put_last words text c.args.words.now now.rest.now now.others.now c.in-Some.behind.now piece now.left.now (take piece.len now.rest.now) (take c.args.at c.args.out.now) (take now.end now.out) (take c.in_ok-run_end.run_end c.lay_front.new.out)
    first end refl c.in_ok-run_end.ensures.written now.invariant.puts in
    puts_end words text c.args.words.now [] now.left.now (take c.args.at c.args.out.now) (take c.in_ok-run_end.run_end c.lay_front.new.out) (refl, none_left now.left.now (cc (c.is_empty.ensures, c.if-is_empty.true))) puts

pub returns-in-End-clause-misfit : goal.returns-in-End-clause-misfit
returns-in-End-clause-misfit g c = λ has.
    let now = c.loop-piece in
    let piece = c.in-Some.piece.now in
    let words = g.N.Names.words c.args.names.now in
    let text = spelled c.args.layout.bytes.now c.args.layout.pieces.now in
    let first : now.others.now ≡ piece ∷ c.in-Some.behind.now = search rules in
    let end : piece.next ≡ End = search rules in
    let puts = put_last words text c.args.words.now now.rest.now now.others.now c.in-Some.behind.now piece now.left.now (take piece.len now.rest.now) (take c.args.at c.args.out.now) (take now.end now.out) (take c.in_ok-run_end.run_end c.lay_front.new.out)
    first end refl c.in_ok-run_end.ensures.written now.invariant.puts in
    let none : now.left.now ≡ [] = left_none words text c.args.words.now now.left.now (take c.args.at c.args.out.now) (take c.in_ok-run_end.run_end c.lay_front.new.out) puts has in
    some_left now.left.now (cc (c.is_empty.ensures, c.if-is_empty.false)) none

pub returns-in-Misfit-clause-misfit : goal.returns-in-Misfit-clause-misfit
returns-in-Misfit-clause-misfit g c = λ has.
    let now = c.loop-piece in
    let piece = c.in-Some.piece.now in
    let first : now.others.now ≡ piece ∷ c.in-Some.behind.now = search rules in
    let misfit : piece.next ≡ Misfit = search rules in
    put_none (g.N.Names.words c.args.names.now) _ c.args.words.now now.rest.now now.others.now c.in-Some.behind.now piece now.left.now (take c.args.at c.args.out.now) (take now.end now.out) first misfit now.invariant.puts has

pub loop-piece-preserved : goal.loop-piece-preserved
loop-piece-preserved g c =
    let now = c.loop-piece in
    let piece = c.in-Some.piece.now in
    let first : now.others.now ≡ piece ∷ c.in-Some.behind.now = search rules in
    let slot : piece.next ≡ Slot c.in-Slot.kind = search rules in
    record {
      puts =
          put_on (g.N.Names.words c.args.names.now) _ c.args.words.now now.rest.now now.others.now c.in-Some.behind.now piece c.in-Slot.kind now.left.now c.in-Some-2.more.now (take piece.len now.rest.now) c.split_at.result.1.now (take c.args.at c.args.out.now) (take now.end now.out) (take c.in_ok-run_end.run_end c.lay_front.new.out) (take c.in-Some-2.word_end c.lay_slot.new.out)
          first slot refl c.split_at.ensures.back c.in_ok-run_end.ensures.written (at_some c.in_ok-word_end-in-Slot.field-0 _ _ c.in_ok-word_end-in-Slot.ensures.put c.in-Some-2.is) now.invariant.puts;
      within = at_some c.in_ok-word_end-in-Slot.field-0 _ _ c.in_ok-word_end-in-Slot.ensures.within c.in-Some-2.is;
      long = c.lay_slot.array_long;
    }
