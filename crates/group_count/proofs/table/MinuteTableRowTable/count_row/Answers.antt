use Rattle.std.proofs.Common.{rules}
use Rattle.std.specs.Int.{w64}
use Rattle.std.specs.Int.RustNames.{FitsSigned}
use Rattle.std.proofs.lemmas.Int.{to_z-of_z}
use Rattle.column_store.specs.Row.{row_of}
use Rattle.search_walk.proofs.AnswerLemmas.{on_ok_to}
use Rattle.group_count.proofs.TableLemmas.{minutes_more}
use Rattle.group_count.proofs.table.MinuteTableRowTable.count_row.Goals as goal

pub returns : goal.returns
returns c =
    let fits : FitsSigned w64 c.args.row.moment = search rules in
    let counted = rw (to_z-of_z w64 c.args.row.moment fits) at c.count.ensures.counted in
    on_ok_to c.count.result _ _ (λ more version before held. minutes_more c.args.self.now c.count.new.self version before (row_of c.args.row) c.count.ensures.micro more held) counted
