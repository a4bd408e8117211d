use Rattle.std.proofs.Common.{◌∙◌, arith}
use Rattle.archive_open.specs.declared.files.FileEntry.{FileEntry}
use Rattle.name_records.proofs.NamedLemmas.{texts_next}
use Rattle.name_records.proofs.registering.texts_of.Goals as goal

pub loop-file-preserved : goal.loop-file-preserved
loop-file-preserved c =
    let before = c.loop-file.invariant in
    record {
      room = c.push_reserved.ensures.capacity ∙ before.room;
      count = omega (arith, c.push_reserved.ensures.len, before.count);
      these = texts_next (λ (f : FileEntry). f.name) c.args.files.now c.loop-file.file-index c.file-item.result c.new.result c.loop-file.texts.items _ c.loop-file-test.true c.file-item.is
          (c.new.ensures ∙ c.in_ok-bytes.ensures.items ∙ c.as_slice.ensures) before.these c.push_reserved.ensures.items;
    }
