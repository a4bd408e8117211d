use Rattle.std.proofs.Common.{◌≡◌, ◌∙◌, rules, subst}
use Rattle.std.proofs.lemmas.List.{take_at}
use Rattle.log_seams.specs.Disk.{ReadsOnly}
use Rattle.archive_places.proofs.HeadLemmas.{all_read, none_read, text_read}
use Rattle.archive_places.proofs.heads.load_segment.Goals as goal

pub returns-clause-loaded : goal.returns-clause-loaded
returns-clause-loaded g c =
    let same : c.as_slice.result.now ≡ c.fill.new.buffer =
    c.as_slice.ensures.value ∙ take_at c.fill.new.buffer _ c.in_ok-bytes.bytes.len (search (rules)) in
    all_read _ c.args.front.now c.as_slice.result.now c.segment_of.result (text_read _ c.args.front.now c.head_len-size.result c.as_slice.result.now c.fill.new.buffer c.head_len-size.ensures same c.in_ok-fill.ensures.filled) c.segment_of.ensures.front c.segment_of.ensures.head

pub returns-clause-damaged : goal.returns-clause-damaged
returns-clause-damaged g c = λ is.
    let same : c.as_slice.result.now ≡ c.fill.new.buffer =
    c.as_slice.ensures.value ∙ take_at c.fill.new.buffer _ c.in_ok-bytes.bytes.len (search (rules)) in
    none_read _ c.args.front.now c.as_slice.result.now (text_read _ c.args.front.now c.head_len-size.result c.as_slice.result.now c.fill.new.buffer c.head_len-size.ensures same c.in_ok-fill.ensures.filled) (c.segment_of.ensures.damaged is)

pub returns-clause-reads : goal.returns-clause-reads
returns-clause-reads g c =
    subst (λ n. ReadsOnly c.args.front.now.payload n (g.D.Disk.state c.args.disk.now) (g.D.Disk.state c.fill.new.disk)) c.head_len-size.ensures c.fill.ensures.reads
