use Rattle.std.proofs.Common.{rules, ◌+◌, ◌∙◌, [], ◌∷◌, false, ap, arith, length, refl, subst, sym}
use Rattle.std.proofs.lemmas.List.{length-append}
use Rattle.archive_merge.specs.declared.file.Merged.{Merged}
use Rattle.archive_merge.specs.StepsMerging.{AreFresh}
use Rattle.archive_merge.proofs.MergingLemmas.{fresh_pushed, none_fresh}
use Rattle.archive_merge.proofs.merging.number_files.Goals as goal

pub loop-index-init : goal.loop-index-init
loop-index-init c = record {
  room = search rules;
  count = search rules;
  long = ap length c.requires.empty;
  fresh = subst (AreFresh c.args.first) (sym c.requires.empty) (none_fresh c.args.first);
}

pub loop-index-preserved : goal.loop-index-preserved
loop-index-preserved c =
    let before = c.loop-index.invariant in
    let file : Merged = record { file = c.args.first + c.loop-index.index; messages = 0; whole = false } in
    record {
      room = c.push_reserved.ensures.capacity ∙ before.room;
      count = omega (arith, c.push_reserved.ensures.len, before.count);
      long = omega (arith, ap length c.push_reserved.ensures.items, length-append c.loop-index.files.items (file ∷ []), before.long);
      fresh = subst (AreFresh c.args.first) (sym c.push_reserved.ensures.items)
          (fresh_pushed c.args.first c.loop-index.files.items file before.fresh (record { file_is = ap (λ n. c.args.first + n) (sym before.long); messages_none = refl; not_whole = refl }));
    }
