use Rattle.std.proofs.Common.{◌≡◌, ◌∙◌, ap, arith}
use Rattle.byteorder.specs.Endian.{little_number}
use Rattle.byteorder.specs.Numbers.{little_from-take}
use Rattle.record_format.proofs.ListLemmas.{four_bytes_in_front}
use Rattle.record_format.proofs.list.number_at.Goals as goal

pub returns-clause-some : goal.returns-clause-some
returns-clause-some c =
    let number : c.read_u32.result ≡ little_number 4 c.args.bytes.now =
    c.read_u32.ensures ∙ ap (little_number 4) c.split_at.ensures.front ∙ little_from-take 0 4 4 c.args.bytes.now (omega arith) in
    rw (number, c.split_at.ensures.back) (four_bytes_in_front c.args.bytes.now (λ i. omega (arith, c.type_inv.bytes i)) (omega arith))
