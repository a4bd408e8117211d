use Rattle.std.proofs.Common.{◌≡◌, ◌-◌, ◌≤◌, drop, leb, length, ltb, rules, subst, sym, take, true, false}
use Rattle.std.specs.List.{filter}
use Rattle.std.specs.List.Sorted.{IsPartitionPoint}
use Rattle.std.proofs.lemmas.List.{take_rest}
use Rattle.std.proofs.lemmas.List.Sorted.{IsNonDecreasingBy-drop, IsNonDecreasingBy-take, IsPartitionPoint-from_clause, IsPartitionedBy-leb, IsPartitionedBy-ltb}
use Rattle.archive_open.specs.declared.segments.SegmentPlace.{SegmentPlace}
use Rattle.archive_open.specs.OfFile.{is_of}
use Rattle.archive_text.proofs.PlacesLemmas.{found_run}
use Rattle.archive_text.proofs.places.segments_of.Goals as goal

pub returns : goal.returns
returns c = λ sorted.
    let all = c.args.all.now in
    let number = c.args.number in
    let first = c.partition_point-first.result in
    let count = c.partition_point-count.result in
    let rest = drop first all in
    let part = take (length all - first) rest in
    let low = IsPartitionPoint-from_clause (λ (p : SegmentPlace). ltb p.head.file number) all first c.partition_point-first.ensures.partitioned
    (IsPartitionedBy-ltb (λ (p : SegmentPlace). p.head.file) all number sorted) (λ a r q k. search rules) in
    let high = IsPartitionPoint-from_clause (λ (p : SegmentPlace). leb p.head.file number) part count c.partition_point-count.ensures.partitioned
    (IsPartitionedBy-leb (λ (p : SegmentPlace). p.head.file) part number
    (IsNonDecreasingBy-take (λ (p : SegmentPlace). p.head.file) (length all - first) rest (IsNonDecreasingBy-drop (λ (p : SegmentPlace). p.head.file) first all sorted)))
    (λ a r q k. search rules) in
    let same : part ≡ rest = take_rest all first in
    subst (λ l. take count l ≡ filter (is_of number) all) (sym same)
    (found_run number first count all c.partition_point-first.ensures.bound (subst (λ l. count ≤ length l) same c.partition_point-count.ensures.bound) low
    (subst (λ l. IsPartitionPoint (λ (p : SegmentPlace). leb p.head.file number ≡ true) (λ (p : SegmentPlace). leb p.head.file number ≡ false) l count) same high))
