use Rattle.std.proofs.Common.{arith}
use Rattle.segment_pages.proofs.ReadLemmas.{fixed_told, reads_on, reads_wider}
use Rattle.segment_pages.proofs.loading.fill_fixed.Goals as goal

pub returns-in_err-fill-2-clause-reads : goal.returns-in_err-fill-2-clause-reads
returns-in_err-fill-2-clause-reads g c = λ start size low high.
    let l1 = c.split_at_mut-patterns.ensures.front_len in
    let l2 = c.split_at_mut-moments.ensures.front_len in
    reads_on start size _ _ _
    (reads_wider _ _ _ _ c.fill.ensures.reads start size (omega (arith, low)) (omega (arith, high, l1, c.requires.first, c.requires.second, c.requires.third)))
    (reads_wider _ _ _ _ c.fill-2.ensures.reads start size (omega (arith, low, c.requires.first)) (omega (arith, high, l2, c.requires.second, c.requires.third)))

pub returns-in_err-fill-3-clause-reads : goal.returns-in_err-fill-3-clause-reads
returns-in_err-fill-3-clause-reads g c = λ start size low high.
    let l1 = c.split_at_mut-patterns.ensures.front_len in
    let l2 = c.split_at_mut-moments.ensures.front_len in
    let l3 = c.split_at_mut-types.ensures.front_len in
    reads_on start size _ _ _
    (reads_on start size _ _ _
    (reads_wider _ _ _ _ c.fill.ensures.reads start size (omega (arith, low)) (omega (arith, high, l1, c.requires.first, c.requires.second, c.requires.third)))
    (reads_wider _ _ _ _ c.fill-2.ensures.reads start size (omega (arith, low, c.requires.first)) (omega (arith, high, l2, c.requires.second, c.requires.third))))
    (reads_wider _ _ _ _ c.fill-3.ensures.reads start size (omega (arith, low, c.requires.first, c.requires.second)) (omega (arith, high, l3, c.requires.third)))

pub returns-clause-reads : goal.returns-clause-reads
returns-clause-reads g c = λ start size low high.
    let l1 = c.split_at_mut-patterns.ensures.front_len in
    let l2 = c.split_at_mut-moments.ensures.front_len in
    let l3 = c.split_at_mut-types.ensures.front_len in
    let b1 = c.split_at_mut-patterns.ensures.back_len in
    let b2 = c.split_at_mut-moments.ensures.back_len in
    let b3 = c.split_at_mut-types.ensures.back_len in
    reads_on start size _ _ _
    (reads_on start size _ _ _
    (reads_on start size _ _ _
    (reads_wider _ _ _ _ c.fill.ensures.reads start size (omega (arith, low)) (omega (arith, high, l1, c.requires.first, c.requires.second, c.requires.third)))
    (reads_wider _ _ _ _ c.fill-2.ensures.reads start size (omega (arith, low, c.requires.first)) (omega (arith, high, l2, c.requires.second, c.requires.third))))
    (reads_wider _ _ _ _ c.fill-3.ensures.reads start size (omega (arith, low, c.requires.first, c.requires.second)) (omega (arith, high, l3, c.requires.third))))
    (reads_wider _ _ _ _ c.fill-4.ensures.reads start size (omega (arith, low, c.requires.first, c.requires.second, c.requires.third)) (omega (arith, high, b1, b2, b3, c.requires.length)))

pub returns-clause-filled : goal.returns-clause-filled
returns-clause-filled g c =
    let b1 = c.split_at_mut-patterns.ensures.back_len in
    let b2 = c.split_at_mut-moments.ensures.back_len in
    let b3 = c.split_at_mut-types.ensures.back_len in
    fixed_told _ _ _ _ c.args.at c.args.ask.now _ _ _ _ _ _ _ _ c.fill-4.result c.fill.ensures.reads.rests.seen c.fill-2.ensures.reads.rests.seen c.fill-3.ensures.reads.rests.seen
    c.split_at_mut-patterns.ensures.front_len c.split_at_mut-moments.ensures.front_len c.split_at_mut-types.ensures.front_len (omega (arith, b1, b2, b3, c.requires.length))
    c.in_ok-fill.ensures.filled c.in_ok-fill-2.ensures.filled c.in_ok-fill-3.ensures.filled c.fill-4.ensures.filled
