use Rattle.std.proofs.Common.{ℕ, List, [], arith, get_or, refl, rules}
use Rattle.std.specs.Borrow.{Bor}
use Rattle.std.proofs.lemmas.List.{get_or_default, length-map}
use Rattle.log_sources.specs.Sources.{str_bytes}
use Rattle.write_commands.proofs.NameLemmas.{all_short, first_too_long, short_more}
use Rattle.write_commands.proofs.names.refuse_names.Goals as goal

pub returns-then-name-gt-MAX_NAME_LEN : goal.returns-then-name-gt-MAX_NAME_LEN
returns-then-name-gt-MAX_NAME_LEN c =
    let none : Bor (List ℕ) = record { ref_ptr = (0, 0); now = [] } in
    let name = get_or c.args.names.now c.loop-index.index none in
    first_too_long str_bytes c.args.names.now c.loop-index.index name name.now c.loop-index-test.true (get_or_default c.args.names.now c.loop-index.index none name c.loop-index-test.true) refl (omega arith) c.loop-index.invariant

pub loop-index-preserved : goal.loop-index-preserved
loop-index-preserved c =
    let none : Bor (List ℕ) = record { ref_ptr = (0, 0); now = [] } in
    let name = get_or c.args.names.now c.loop-index.index none in
    short_more str_bytes c.args.names.now c.loop-index.index name name.now c.loop-index-test.true (get_or_default c.args.names.now c.loop-index.index none name c.loop-index-test.true) refl (omega arith) c.loop-index.invariant

pub returns-then-names-gt-MAX_NAMES : goal.returns-then-names-gt-MAX_NAMES
returns-then-names-gt-MAX_NAMES c =
    (record { short = all_short str_bytes c.args.names.now c.loop-index.index (omega arith) c.loop-index.invariant; count_is = omega (arith, length-map c.args.names.now str_bytes) }, search rules, omega arith)

pub returns : goal.returns
returns c = (all_short str_bytes c.args.names.now c.loop-index.index (omega arith) c.loop-index.invariant, omega (arith, length-map c.args.names.now str_bytes))
