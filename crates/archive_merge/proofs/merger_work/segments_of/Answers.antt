use Rattle.std.proofs.Common.{◌≡◌, ◌-◌, ◌∙◌, ap, arith, drop, false, leb, length, ltb, rules, subst, sym, take, true}
use Rattle.std.specs.List.Sorted.{IsNonDecreasingBy, IsPartitionPoint}
use Rattle.std.proofs.lemmas.List.{length-drop, take_all}
use Rattle.std.proofs.lemmas.List.Sorted.{IsNonDecreasingBy-drop, IsPartitionPoint-from_clause, IsPartitionedBy-leb, IsPartitionedBy-ltb}
use Rattle.archive_merge.specs.Merger.{file_at}
use Rattle.archive_merge.proofs.PlaceLemmas.{contains_drop, contains_take, cut_filter}
use Rattle.archive_merge.proofs.merger_work.segments_of.Goals as goal

pub returns-clause-these : goal.returns-clause-these
returns-clause-these c = λ sorted.
    let places = c.args.places.now in
    let number = c.args.number in
    let from = c.partition_point-from.result in
    let count = c.partition_point-count.result in
    let rest = take (length places - from) (drop from places) in
    let same : rest ≡ drop from places = take_all (length places - from) (drop from places) (omega (arith, length-drop from places)) in
    let low = IsPartitionPoint-from_clause (λ p. ltb (file_at p) number) places from c.partition_point-from.ensures.partitioned (IsPartitionedBy-ltb file_at places number sorted) (λ a r q k. search rules) in
    let behind = subst (IsNonDecreasingBy file_at) (sym same) (IsNonDecreasingBy-drop file_at from places sorted) in
    let high = IsPartitionPoint-from_clause (λ p. leb (file_at p) number) rest count c.partition_point-count.ensures.partitioned (IsPartitionedBy-leb file_at rest number behind) (λ a r q k. search rules) in
    let up = subst (λ l. IsPartitionPoint (λ y. leb (file_at y) number ≡ true) (λ y. leb (file_at y) number ≡ false) l count) same high in
    ap (take count) same ∙ cut_filter number places from count low.0 low.1 up.0 up.1 c.partition_point-from.ensures.bound

pub returns-clause-among : goal.returns-clause-among
returns-clause-among c = λ place there.
    let places = c.args.places.now in
    let from = c.partition_point-from.result in
    contains_drop from places place (contains_take (length places - from) (drop from places) place (contains_take c.partition_point-count.result (take (length places - from) (drop from places)) place there))
