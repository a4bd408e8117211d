use Rattle.std.proofs.Common.{◌≡◌, ◌*◌, List, ℤ, length, drop, ap, sym, ◌∙◌, rules, arith}
use Rattle.std.specs.List.{flat_map}
use Rattle.std.proofs.lemmas.List.{take_at}
use Rattle.segment_format.specs.Layout.{moment_bytes}
use Rattle.segment_format.proofs.ColumnLemmas.{moments_spelled}
use Rattle.segment_pages.proofs.columns.fill_moments.Goals as goal

pub returns-clause-spelled : goal.returns-clause-spelled
returns-clause-spelled c =
    let w : List ℤ = c.read_i64_into.new.dst in
    let behind : List ℤ = drop (length w) c.resize.new.self.items in
    let long : length w ≡ c.resize.new.self.len = search rules in
    let whole : length c.args.bytes.now ≡ 8 * length w = search rules in
    moments_spelled c.args.bytes.now w (λ i. omega (arith, c.type_inv.bytes i)) whole c.read_i64_into.ensures
    ∙ ap (flat_map moment_bytes) (sym (take_at w behind c.resize.new.self.len long))
