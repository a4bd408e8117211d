use Rattle.std.proofs.Common.{rules, ◌≡◌, ◌≤◌, length, All}
use Rattle.archive_meaning.specs.declared.TheConstants.{MAX_NAME_LEN}
use Rattle.archive_open.specs.declared.files.FileEntry.{FileEntry}
use Rattle.archive_merge.proofs.MergingLemmas.{long_name, no_files, no_names_left, short_files, short_names}
use Rattle.archive_merge.proofs.merging.merge.Goals as goal

pub returns-then-is_empty-clause-ends : goal.returns-then-is_empty-clause-ends
returns-then-is_empty-clause-ends g c =
    let none : length c.args.second.files.now ≡ 0 = search rules in
    no_files g.met.D.Disk.lawful _ c.args.first _ c.args.journal c.requires.begin.opens c.new.result.items (search rules) (no_names_left c.args.second.files.now none)

pub returns-then-not-are_short-clause-ends : goal.returns-then-not-are_short-clause-ends
returns-then-not-are_short-clause-ends g c =
    let long : ¬ All (λ (f : FileEntry). length f.name ≤ MAX_NAME_LEN) c.args.second.files.now = search rules in
    long_name g.met.D.Disk.lawful _ c.args.first _ c.args.journal c.requires.begin.opens c.new-then-not-are_short.result.items (search rules) (λ short. long (short_files c.args.second.files.now short))

pub name_and_move-requires-clause-short : goal.name_and_move-requires-clause-short
name_and_move-requires-clause-short g c =
    let short : All (λ (f : FileEntry). length f.name ≤ MAX_NAME_LEN) c.args.second.files.now = search rules in
    short_names c.args.second.files.now short
