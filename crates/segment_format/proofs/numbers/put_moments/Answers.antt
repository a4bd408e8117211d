use Rattle.std.proofs.Common.{◌≡◌, ◌*◌, ◌+◌, ◌-◌, ◌++◌, ℕ, List, length, take, drop, ap, ◌∙◌, rules, arith}
use borrow.Rule.Slice.PartMut.{put_mid}
use Rattle.segment_format.specs.Layout.{moment_bytes}
use Rattle.segment_format.proofs.ColumnLemmas.{wrote_behind, room_made}
use Rattle.segment_format.proofs.numbers.put_moments.Goals as goal

pub returns : goal.returns
unfolding moment_bytes
returns c =
    let old : List ℕ = c.args.out.now.items in
    let d : List ℕ = c.deref_mut.result.now in
    let w : List ℕ = c.write_i64_into.new.dst in
    let s : ℕ = c.len-start.result in
    let n : ℕ = c.resize.new.self.len in
    let start : length old ≡ s = search rules in
    let room : n ≡ s + 8 * length c.args.moments.now = search rules in
    let made : take s d ≡ old = search (rules, room_made) in
    let long : length d ≡ n = search rules in
    let wrote : length w ≡ n - s = search rules in
    let behind : List ℕ = drop (length (put_mid s (length d - s) d w)) c.resize.new.self.items in
    wrote_behind old d w behind s n made long (omega (arith, room)) wrote ∙ ap (λ (l : List ℕ). old ++ l) c.write_i64_into.ensures
