use Rattle.std.proofs.Common.{◌++◌, ◌-◌, ℕ, List, All, length, map, refl, sym, subst, arith, rules}
use Rattle.std.proofs.lemmas.List.{length-map}
use Rattle.record_format.specs.Lists.{four_bytes}
use Rattle.record_format.proofs.ListLemmas.{IsReadTo, left_over, no_text, too_many}
use Rattle.word_places.specs.Record.{AreBeside, IsTextAt, text_from}
use Rattle.word_places.proofs.RecordLemmas.{beside_more, front_more, starts_more, walk_more}
use Rattle.word_places.proofs.record.walked.Goals as goal

pub returns-then-texts-count-clause-none : goal.returns-then-texts-count-clause-none
returns-then-texts-count-clause-none c = too_many (four_bytes c.args.count ++ c.args.texts.now) c.args.count c.args.texts.now refl (omega arith) (omega arith)

pub returns-in_default-clause-none : goal.returns-in_default-clause-none
returns-in_default-clause-none c =
    no_text (four_bytes c.args.count ++ c.args.texts.now) c.args.count (map (text_from c.args.bytes.now) c.loop.starts.items) c.loop.rest.now c.loop.invariant.read (omega arith)
    (omega (arith, c.loop.invariant.many, length-map c.loop.starts.items (text_from c.args.bytes.now))) (c.in_default.ensures.none refl)

pub loop-preserved : goal.loop-preserved
loop-preserved c =
    let bytes : List ℕ = c.args.bytes.now in
    let inv = c.loop.invariant in
    let start : ℕ = length bytes - length c.loop.rest.now in
    let fits = c.in-Some.ensures.fits in
    let some = c.in-Some.ensures.some in
    record {
      read = subst (λ (ss : List ℕ). IsReadTo (four_bytes c.args.count ++ c.args.texts.now) c.args.count (map (text_from bytes) ss) c.in-Some.after.now) (sym c.push_reserved.ensures.items)
          (walk_more bytes c.args.texts.now inv.front.0 c.loop.rest.now c.in-Some._text.now c.in-Some.after.now c.loop.starts.items c.args.count start inv.read inv.front.1 refl fits some);
      stand = subst (λ (ss : List ℕ). All (IsTextAt bytes) ss) (sym c.push_reserved.ensures.items)
          (starts_more bytes inv.front.0 c.loop.rest.now c.in-Some._text.now c.in-Some.after.now c.loop.starts.items start inv.stand inv.front.1 refl fits some);
      beside = subst (λ (ss : List ℕ). AreBeside bytes (length bytes - length c.in-Some.after.now) ss) (sym c.push_reserved.ensures.items)
          (beside_more bytes inv.front.0 c.loop.rest.now c.in-Some._text.now c.in-Some.after.now c.loop.starts.items start inv.beside inv.front.1 refl fits some);
      front = front_more bytes inv.front.0 c.loop.rest.now c.in-Some._text.now c.in-Some.after.now inv.front.1 some;
      many = omega (arith, inv.many, c.push_reserved.ensures.len);
      room = omega (arith, inv.room, c.push_reserved.ensures.capacity);
    }

pub returns-then-not-is_empty-clause-none : goal.returns-then-not-is_empty-clause-none
returns-then-not-is_empty-clause-none c =
    left_over (four_bytes c.args.count ++ c.args.texts.now) c.args.count (map (text_from c.args.bytes.now) c.loop.starts.items) c.loop.rest.now c.loop.invariant.read (omega arith)
    (omega (arith, c.loop.invariant.many, length-map c.loop.starts.items (text_from c.args.bytes.now))) (search rules)
