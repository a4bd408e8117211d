use Rattle.std.proofs.Common.{◌*◌, ◌∙◌, ap, refl, rules, take}
use Rattle.std.proofs.lemmas.Result.{err_from_is_err_and}
use Rattle.segment_pages.proofs.ColumnLemmas.{all_reading, all_reads, all_short, all_types_are}
use Rattle.segment_pages.proofs.pages.SegmentPages.read_all_types.Goals as goal

pub returns-in_err-read_part-clause-reads : goal.returns-in_err-read_part-clause-reads
returns-in_err-read_part-clause-reads g c =
    let r = all_reading c.self.inside.at c.self.inside.passed c.self.inside.pages c.in-Some.ask c.args.self.now c.rows_behind-rows.result c.self.view_is c.in-Some.ensures.stands c.in-Some.ensures.some c.in-Some.ensures.left c.rows_behind-rows.ensures in
    all_reads c.self.inside.at c.in-Some.ask c.args.self.now 0 c.rows_behind-rows.result r.0 (g.D.Disk.state c.args.disk.now) (g.D.Disk.state c.read_part.new.disk) refl c.read_part.ensures.reads

pub returns-in_err-fill_numbers-clause-reads : goal.returns-in_err-fill_numbers-clause-reads
returns-in_err-fill_numbers-clause-reads g c =
    let r = all_reading c.self.inside.at c.self.inside.passed c.self.inside.pages c.in-Some.ask c.args.self.now c.rows_behind-rows.result c.self.view_is c.in-Some.ensures.stands c.in-Some.ensures.some c.in-Some.ensures.left c.rows_behind-rows.ensures in
    all_reads c.self.inside.at c.in-Some.ask c.args.self.now 0 c.rows_behind-rows.result r.0 (g.D.Disk.state c.args.disk.now) (g.D.Disk.state c.read_part.new.disk) refl c.read_part.ensures.reads

pub returns-clause-reads : goal.returns-clause-reads
returns-clause-reads g c =
    let r = all_reading c.self.inside.at c.self.inside.passed c.self.inside.pages c.in-Some.ask c.args.self.now c.rows_behind-rows.result c.self.view_is c.in-Some.ensures.stands c.in-Some.ensures.some c.in-Some.ensures.left c.rows_behind-rows.ensures in
    all_reads c.self.inside.at c.in-Some.ask c.args.self.now 0 c.rows_behind-rows.result r.0 (g.D.Disk.state c.args.disk.now) (g.D.Disk.state c.read_part.new.disk) refl c.read_part.ensures.reads

pub returns-in_err-read_part-clause-damaged : goal.returns-in_err-read_part-clause-damaged
returns-in_err-read_part-clause-damaged g c = λ is.
    let r = all_reading c.self.inside.at c.self.inside.passed c.self.inside.pages c.in-Some.ask c.args.self.now c.rows_behind-rows.result c.self.view_is c.in-Some.ensures.stands c.in-Some.ensures.some c.in-Some.ensures.left c.rows_behind-rows.ensures in
    let q = err_from_is_err_and c.from_residual.result c.from_residual.ensures.1 in
    all_short c.self.inside.at c.in-Some.ask c.args.self.now 0 c.rows_behind-rows.result r.0 (g.D.Disk.state c.args.disk.now).seen refl (c.in_err-read_part.ensures.damaged (search (rules, is, q.1, q.2)))

pub returns-clause-types : goal.returns-clause-types
returns-clause-types g c =
    let r = all_reading c.self.inside.at c.self.inside.passed c.self.inside.pages c.in-Some.ask c.args.self.now c.rows_behind-rows.result c.self.view_is c.in-Some.ensures.stands c.in-Some.ensures.some c.in-Some.ensures.left c.rows_behind-rows.ensures in
    all_types_are c.self.inside.at c.in-Some.ask c.args.self.now 0 c.rows_behind-rows.result r.0 _ c.read_part.new.buffer.items _ _ refl r.1 c.in_ok-read_part.ensures.filled
    (c.split_at.ensures.front ∙ ap (take (4 * c.rows_behind-rows.result)) c.as_slice.ensures.value) c.in_ok-fill_numbers.ensures.spelled c.in_ok-fill_numbers.ensures.fit (search rules)

pub returns-clause-length : goal.returns-clause-length
returns-clause-length g c =
    let r = all_reading c.self.inside.at c.self.inside.passed c.self.inside.pages c.in-Some.ask c.args.self.now c.rows_behind-rows.result c.self.view_is c.in-Some.ensures.stands c.in-Some.ensures.some c.in-Some.ensures.left c.rows_behind-rows.ensures in
    search (rules, r.1)
