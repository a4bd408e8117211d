use Rattle.std.proofs.Common.{◌≡◌, ◌+◌, ◌-◌, length, arith, subst, sym, ap, ◌∙◌, take, drop}
use Rattle.wild_match.proofs.Literal.{bytes_length, bytes_run, run_bounded}
use Rattle.wild_match.specs.Runs.{RunAt, literal_bytes}
use Rattle.wild_match.proofs.runs.longest_literal.Goals as goal

-- the bytes are those of the run
same_bytes : (c : goal.In_ok-bytes) → c.in_ok-bytes.bytes.items ≡ literal_bytes (take c.longest_run-run.result.len (drop c.longest_run-run.result.start c.args.items.now))
same_bytes c =
    let run = c.longest_run-run.result in
    let e : run.start + run.len - run.start ≡ run.len = omega arith in
    c.in_ok-bytes.ensures ∙ ap (λ n. literal_bytes (take n (drop run.start c.args.items.now))) e

pub returns-clause-within : goal.returns-clause-within
returns-clause-within c =
    let run = c.longest_run-run in
    let same : length c.in_ok-bytes.bytes.items ≡ run.result.len =
    ap length (same_bytes c) ∙ bytes_length c.args.items.now run.result.start run.result.len run.ensures.within run.ensures.literal in
    omega (arith, run.ensures.within)

pub returns-clause-run : goal.returns-clause-run
returns-clause-run c =
    let run = c.longest_run-run in
    subst (λ bytes. RunAt c.args.items.now bytes run.result.start) (sym (same_bytes c))
    (bytes_run c.args.items.now run.result.start run.result.len run.ensures.within run.ensures.literal)

pub returns-clause-longest : goal.returns-clause-longest
returns-clause-longest c other stands =
    let run = c.longest_run-run in
    let same : length c.in_ok-bytes.bytes.items ≡ run.result.len =
    ap length (same_bytes c) ∙ bytes_length c.args.items.now run.result.start run.result.len run.ensures.within run.ensures.literal in
    let le = run_bounded c.args.items.now other stands.0 stands.1 run.result.len run.ensures.longest in
    omega arith
