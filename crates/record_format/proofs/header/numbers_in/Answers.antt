use Rattle.std.proofs.Common.{◌≡◌, drop, ◌∙◌, rules, arith}
use Rattle.byteorder.specs.Endian.{little_number}
use Rattle.byteorder.specs.Numbers.{little_from-take}
use Rattle.record_format.proofs.HeaderLemmas.{same_header}
use Rattle.record_format.proofs.header.numbers_in.Goals as goal

pub returns : goal.returns
returns c =
    let version : c.read_u32.result ≡ little_number 4 (drop 8 c.args.bytes.now) = search rules in
    let types : c.read_u32-2.result ≡ little_number 4 (drop 12 c.args.bytes.now) = search rules in
    let words : c.read_u32-3.result ≡ little_number 4 (drop 16 c.args.bytes.now) = search rules in
    let length : c.read_u64.result ≡ little_number 8 (drop 24 c.args.bytes.now) = c.read_u64.ensures ∙ little_from-take 0 8 8 (drop 24 c.args.bytes.now) (omega arith) in
    same_header version types words length
