use Rattle.std.proofs.Common.{◌≡◌, ◌∙◌, rules, subst}
use Rattle.std.proofs.lemmas.List.{take_at}
use Rattle.log_seams.specs.Disk.{ReadsOnly}
use Rattle.archive_places.proofs.TypeHeadLemmas.{all_typed, none_typed, text_typed}
use Rattle.archive_places.proofs.heads.load_types.Goals as goal

pub returns-clause-loaded : goal.returns-clause-loaded
returns-clause-loaded g c =
    let same : c.as_slice.result.now ≡ c.fill.new.buffer =
    c.as_slice.ensures.value ∙ take_at c.fill.new.buffer _ c.in_ok-bytes.bytes.len (search (rules)) in
    all_typed _ c.args.front.now c.as_slice.result.now c.types_of.result (text_typed _ c.args.front.now c.types_end-size.result c.as_slice.result.now c.fill.new.buffer c.types_end-size.ensures same c.in_ok-fill.ensures.filled) c.types_of.ensures.types

pub returns-clause-damaged : goal.returns-clause-damaged
returns-clause-damaged g c = λ is.
    let same : c.as_slice.result.now ≡ c.fill.new.buffer =
    c.as_slice.ensures.value ∙ take_at c.fill.new.buffer _ c.in_ok-bytes.bytes.len (search (rules)) in
    none_typed _ c.args.front.now c.as_slice.result.now (text_typed _ c.args.front.now c.types_end-size.result c.as_slice.result.now c.fill.new.buffer c.types_end-size.ensures same c.in_ok-fill.ensures.filled) (c.types_of.ensures.damaged is)

pub returns-clause-reads : goal.returns-clause-reads
returns-clause-reads g c =
    subst (λ n. ReadsOnly c.args.front.now.payload n (g.D.Disk.state c.args.disk.now) (g.D.Disk.state c.fill.new.disk)) c.types_end-size.ensures c.fill.ensures.reads
