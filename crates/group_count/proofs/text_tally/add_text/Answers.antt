use Rattle.std.proofs.Common.{◌≡◌, ℕ, List, [], Some, slice_get, slice_index_or, rules}
use Rattle.std.proofs.lemmas.Option.{get_or_from_slice_get}
use Rattle.std.specs.Borrow.{Bor}
use Rattle.group_count.proofs.text_tally.add_text.Goals as goal

pub returns-clause-added : goal.returns-clause-added
returns-clause-added c = λ often room tally key.
    let types = c.args.types.now.texts in
    let found : slice_get types c.args.number ≡ Some c.in-Some.text.now = search rules in
    let is : slice_index_or types c.args.number [] ≡ c.in-Some.text.now = get_or_from_slice_get types c.args.number c.in-Some.text.now [] found in
    rw is (c.in_ok-add_to.ensures (λ (k : Bor (List ℕ)). often k.now) (λ q. rw is at (room q.now)) tally key)
