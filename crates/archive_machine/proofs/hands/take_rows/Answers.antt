use Rattle.std.proofs.Common.{rules, ◌≡◌, ◌++◌, ◌∷◌, [], List, sym, ◌∙◌, ap, subst, set, get_or}
use Rattle.column_store.specs.declared.row.Row.{Row}
use Rattle.archive_machine.specs.declared.state.Hand.{Hand}
use Rattle.archive_machine.specs.StepsHands.{IsFirstHand, IsNoHand}
use Rattle.archive_machine.proofs.CodeLemmas.{first_put, first_rows, no_rows, no_set}
use Rattle.archive_machine.proofs.hands.take_rows.Goals as goal

pub returns-in-Some-clause-rows : goal.returns-in-Some-clause-rows
returns-in-Some-clause-rows c =
    let hands = c.args.hands.now.items in
    let place = c.in-Some.place in
    let hand : Hand = c.index_mut.result.now in
    let same : hand ≡ get_or hands place hand = search rules in
    let first : IsFirstHand c.args.worker hands place = subst (λ l. IsFirstHand c.args.worker l place) c.as_slice.ensures.value c.in-Some.ensures.some in
    c.replace.ensures.value ∙ ap (λ (h : Hand). h.rows) same ∙ sym (first_rows c.args.worker hands place hand first)

pub returns-in-Some-clause-hands : goal.returns-in-Some-clause-hands
returns-in-Some-clause-hands c =
    let hands = c.args.hands.now.items in
    let place = c.in-Some.place in
    let hand : Hand = c.index_mut.result.now in
    let same : hand ≡ get_or hands place hand = search rules in
    let first : IsFirstHand c.args.worker hands place = subst (λ l. IsFirstHand c.args.worker l place) c.as_slice.ensures.value c.in-Some.ensures.some in
    let dest : List Row = c.replace.new.dest in
    let empty : dest ≡ [] = search rules in
    ap (λ l. set hands place (record { worker = hand.worker; rows = l })) empty ∙ first_put c.args.worker [] hands place hand first same

pub returns-in_ok-push-in-None-clause-rows : goal.returns-in_ok-push-in-None-clause-rows
returns-in_ok-push-in-None-clause-rows c =
    let hands = c.args.hands.now.items in
    let rows : List Row = c.new-in-None-2.result in
    let empty : rows ≡ [] = search rules in
    empty ∙ sym (no_rows c.args.worker hands (subst (λ l. IsNoHand c.args.worker l) c.as_slice.ensures.value c.in-None.ensures.none))

pub returns-in_ok-push-in-None-clause-hands : goal.returns-in_ok-push-in-None-clause-hands
returns-in_ok-push-in-None-clause-hands c =
    let hands = c.args.hands.now.items in
    let rows : List Row = c.new-empty.result in
    let empty : rows ≡ [] = search rules in
    let pushed : c.push.new.self.items ≡ hands ++ record { worker = c.args.worker; rows = rows } ∷ [] = search rules in
    pushed ∙ ap (λ (l : List Row). hands ++ record { worker = c.args.worker; rows = l } ∷ []) empty
    ∙ sym (no_set c.args.worker [] hands (subst (λ l. IsNoHand c.args.worker l) c.as_slice.ensures.value c.in-None.ensures.none))
