use Rattle.std.proofs.Common.{rules, ◌≡◌, ◌++◌, ◌∷◌, [], List, ◌∙◌, ap, subst, set, get_or}
use Rattle.column_store.specs.declared.row.Row.{Row}
use Rattle.archive_machine.specs.declared.state.Hand.{Hand}
use Rattle.archive_machine.specs.StepsHands.{IsFirstHand, IsNoHand}
use Rattle.archive_machine.specs.Machine.{rows_of, with_rows}
use Rattle.archive_machine.proofs.CodeLemmas.{first_put, has_hand, with_twice}
use Rattle.archive_machine.proofs.hands.push_row.Goals as goal

pub returns-in-Some : goal.returns-in-Some
returns-in-Some c =
    let worker = c.args.worker in
    let old = c.args.hands.now.items in
    let hands = c.take_rows.new.hands.items in
    let place = c.in-Some.place in
    let hand : Hand = c.index_mut.result.now in
    let same : hand ≡ get_or hands place hand = search rules in
    let first : IsFirstHand worker hands place = subst (λ l. IsFirstHand worker l place) c.as_slice.ensures.value c.in-Some.ensures.some in
    let rows : List Row = c.new.result in
    let more : rows ≡ rows_of worker old ++ c.args.row ∷ [] = search rules in
    let emptied : hands ≡ with_rows worker [] old = search rules in
    ap (λ l. set hands place (record { worker = hand.worker; rows = l })) more
    ∙ first_put worker (rows_of worker old ++ c.args.row ∷ []) hands place hand first same
    ∙ ap (λ l. with_rows worker (rows_of worker old ++ c.args.row ∷ []) l) emptied
    ∙ with_twice worker (rows_of worker old ++ c.args.row ∷ []) [] old

pub returns-in_default : goal.returns-in_default
returns-in_default c =
    let worker = c.args.worker in
    let old = c.args.hands.now.items in
    let hands = c.take_rows.new.hands.items in
    let emptied : hands ≡ with_rows worker [] old = search rules in
    let none : IsNoHand worker hands = search rules in
    absurd (has_hand worker [] old (subst (λ l. IsNoHand worker l) emptied none))
