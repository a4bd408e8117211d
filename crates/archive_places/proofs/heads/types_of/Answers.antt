use Rattle.std.proofs.Common.{sym, ◌∙◌, ap, arith, rules, List, ℕ, length}
use Rattle.std.proofs.lemmas.List.{length-drop}
use Rattle.archive_places.proofs.TypeHeadLemmas.{no_types, typed_same}
use Rattle.archive_places.proofs.heads.types_of.Goals as goal

pub list_in-requires-clause-few : goal.list_in-requires-clause-few
list_in-requires-clause-few c = omega (arith, ap (λ (l : List ℕ). length l) c.split_at.ensures.back, length-drop 45 c.args.bytes.now, c.requires)

pub returns-in_err-types-clause-damaged : goal.returns-in_err-types-clause-damaged
returns-in_err-types-clause-damaged c = λ was q same fits these.
    c.in_err-types.ensures.malformed (search rules) q.head.types fits.types (no_types c.args.front.now c.args.bytes.now _ q c.split_at.ensures.back these)

pub returns-clause-types : goal.returns-clause-types
returns-clause-types c = λ q same fits these.
    typed_same c.args.front.now c.in_ok-types.types c.new-2.result q (search rules) same fits c.in_ok-types.ensures.is
    (sym c.in_ok-types.ensures.spelled ∙ no_types c.args.front.now c.args.bytes.now _ q c.split_at.ensures.back these)
