use Rattle.std.proofs.Common.{◌-◌, length, rules}
use Rattle.row_codec.proofs.RunLemmas.{first_end, put_both}
use Rattle.row_codec.proofs.runs.put_ends.Goals as goal

pub returns-clause-put : goal.returns-clause-put
returns-clause-put g c =
    let bytes = c.args.bytes.now in
    let first = first_end c.args.out.now.items bytes c.in-Some.first.now c.extend_from_slice.new.self.items c.truncate.new.self.items g.row.N _ c.requires.1 c.in-Some.ensures.cases.same (search rules) c.in_ok-extend_from_slice.ensures.items c.truncate.ensures.items in
    (put_both c.extend_from_slice-2.result c.args.out.now.items bytes c.truncate.new.self.items c.in-Some-last_chunk.last.now c.extend_from_slice-2.new.self.items (length bytes - g.row.N) first c.in-Some-last_chunk.ensures.cases.1.same c.extend_from_slice-2.ensures.items).0

pub returns-clause-front : goal.returns-clause-front
returns-clause-front g c =
    let bytes = c.args.bytes.now in
    let first = first_end c.args.out.now.items bytes c.in-Some.first.now c.extend_from_slice.new.self.items c.truncate.new.self.items g.row.N _ c.requires.1 c.in-Some.ensures.cases.same (search rules) c.in_ok-extend_from_slice.ensures.items c.truncate.ensures.items in
    (put_both c.extend_from_slice-2.result c.args.out.now.items bytes c.truncate.new.self.items c.in-Some-last_chunk.last.now c.extend_from_slice-2.new.self.items (length bytes - g.row.N) first c.in-Some-last_chunk.ensures.cases.1.same c.extend_from_slice-2.ensures.items).1
