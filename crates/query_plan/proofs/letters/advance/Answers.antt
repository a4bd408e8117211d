use Rattle.std.proofs.Common.{rules}
use Rattle.query_plan.specs.StepsOfMatching.{Front}
use Rattle.query_plan.proofs.LetterLemmas.{all_over, many_behind, byte_front, any_front, chunk_found, found_over, found_before}
use Rattle.query_plan.proofs.letters.advance.Goals as goal
use Rattle.query_plan.proofs.letters.advance.Goals.{in-Byte+else-byte-letter, in_default-first}

pub returns-in_default-clause-over : goal.returns-in_default-clause-over
returns-in_default-clause-over g c = all_over c.args.items.now (g.T.Letters.rest c.args.start) (search rules)

pub returns-then-eq-clause-goes : goal.returns-then-eq-clause-goes
returns-then-eq-clause-goes g c =
    many_behind c.args.items.now (g.T.Letters.rest c.args.start) c.in-Some.first.now c.in-Some.behind.now (search rules) (search rules)

pub returns-in-Some-split_first-clause-goes : goal.returns-in-Some-split_first-clause-goes
returns-in-Some-split_first-clause-goes g c =
    let items = c.args.items.now in
    let s = g.T.Letters.rest c.args.start in
    let first = c.in-Some.first.now in
    let behind = c.in-Some.behind.now in
    let t = g.T.Letters.rest c.letter.new.self in
    let b = c.in-Some-letter.letter in
    let left = c.in-Some-after_chunk.left in
    let front : Front items s behind t = elim c.match-first.branch [
      | in-Byte+else-byte-letter w ↦ byte_front first behind items s t w.in-Byte.byte b (search rules) (search rules) (search rules) (search rules)
      | in_default-first w ↦ any_front first behind items s t b (search rules) (search rules) (search rules) (search rules)
    ] in
    chunk_found items s behind t left.items.now c.in-Some-split_first.field-0-0.now c.in-Some-split_first.rest.now (g.T.Letters.rest left.text)
    front (search rules) (search rules) (search rules)

pub returns-then-is_over-clause-over : goal.returns-then-is_over-clause-over
returns-then-is_over-clause-over g c =
    let items = c.args.items.now in
    let s = g.T.Letters.rest c.args.start in
    let first = c.in-Some.first.now in
    let behind = c.in-Some.behind.now in
    let t = g.T.Letters.rest c.letter.new.self in
    let b = c.in-Some-letter.letter in
    let left = c.in-Some-after_chunk.left in
    let front : Front items s behind t = elim c.match-first.branch [
      | in-Byte+else-byte-letter w ↦ byte_front first behind items s t w.in-Byte.byte b (search rules) (search rules) (search rules) (search rules)
      | in_default-first w ↦ any_front first behind items s t b (search rules) (search rules) (search rules) (search rules)
    ] in
    found_over items s behind t left.items.now (g.T.Letters.rest left.text) front (search rules) (search rules) (search rules)

pub returns-else-is_over-clause-goes : goal.returns-else-is_over-clause-goes
returns-else-is_over-clause-goes g c =
    let items = c.args.items.now in
    let s = g.T.Letters.rest c.args.start in
    let first = c.in-Some.first.now in
    let behind = c.in-Some.behind.now in
    let t = g.T.Letters.rest c.letter.new.self in
    let b = c.in-Some-letter.letter in
    let left = c.in-Some-after_chunk.left in
    let front : Front items s behind t = elim c.match-first.branch [
      | in-Byte+else-byte-letter w ↦ byte_front first behind items s t w.in-Byte.byte b (search rules) (search rules) (search rules) (search rules)
      | in_default-first w ↦ any_front first behind items s t b (search rules) (search rules) (search rules) (search rules)
    ] in
    found_before items s behind t left.items.now (g.T.Letters.rest left.text) b (search rules) front (search rules) (search rules) (search rules)
