use Rattle.std.proofs.Common.{rules, ◌≡◌, None, Some, arith, subst, sym}
use Rattle.std.proofs.lemmas.List.{length-map}
use Rattle.disk_journal.specs.Journal.{state_of}
use Rattle.archive_open.specs.declared.files.FileEntry.{FileEntry}
use Rattle.log_seams.proofs.ReadsLemmas.{rests_same}
use Rattle.archive_merge.specs.Merging.{view_of}
use Rattle.name_records.specs.Named.{AreNamed, names_of}
use Rattle.archive_merge.proofs.MergingLemmas.{books_held, ends_by, may_begin, names_only, no_room, not_read_for_memory, not_read_for_names}
use Rattle.archive_merge.proofs.merging.name_and_move.Goals as goal

pub returns-in_default-clause-ends : goal.returns-in_default-clause-ends
returns-in_default-clause-ends g c = no_room g.met.D.Disk.lawful _ c.args.first _ c.args.journal c.requires.begin.opens _ (search rules)

pub returns-in_default-clause-second : goal.returns-in_default-clause-second
returns-in_default-clause-second g c = not_read_for_memory g.E.Disk.state c.args.second.disk (rests_same _)

pub number_files-requires-clause-room : goal.number_files-requires-clause-room
number_files-requires-clause-room g c =
    omega (arith, c.in-Ok.ensures.files.1, c.register_names-count.ensures.within, length-map c.args.second.files.now (λ (f : FileEntry). f.name))

pub number_files-requires-clause-few : goal.number_files-requires-clause-few
number_files-requires-clause-few g c =
    omega (arith, c.requires.begin.few, c.register_names-count.ensures.within, length-map c.args.second.files.now (λ (f : FileEntry). f.name))

pub returns-in-Some-clause-ends : goal.returns-in-Some-clause-ends
returns-in-Some-clause-ends g c =
    let names = names_of c.args.second.files.now in
    let old = state_of c.args.journal in
    let new = state_of c.register_names-count.new.journal in
    let are = subst (λ r. AreNamed c.args.first names c.register_names-count.result.count r old new) c.in-Some.is c.register_names-count.ensures in
    names_only g.met.D.Disk.lawful _ c.args.first names c.args.journal c.requires.begin.opens c.requires.begin.holds c.in-Some.why c.register_names-count.new.journal c.number_files.new.files.items
    (subst (λ n. AreNamed c.args.first names n (Some c.in-Some.why) old new) (sym c.number_files.ensures.counted) are) c.number_files.ensures.fresh

pub returns-in-Some-clause-second : goal.returns-in-Some-clause-second
returns-in-Some-clause-second g c = not_read_for_names g.E.Disk.state c.in-Some.why c.args.second.disk (rests_same _)

pub move_named-requires-clause-begin : goal.move_named-requires-clause-begin
move_named-requires-clause-begin g c =
    let names = names_of c.args.second.files.now in
    let old = state_of c.args.journal in
    let new = state_of c.register_names-count.new.journal in
    let none : c.register_names-count.result.refusal ≡ None = search rules in
    let are = subst (λ r. AreNamed c.args.first names c.register_names-count.result.count r old new) none c.register_names-count.ensures in
    may_begin g.met.D.Disk.lawful (view_of g.M.Names.types g.M.Names.words g.M.Names.version g.E.Disk.state c.args.second) c.args.first names c.args.journal c.requires.begin.opens c.requires.begin.holds c.register_names-count.new.journal c.number_files.new.files.items
    (subst (λ n. AreNamed c.args.first names n None old new) (sym c.number_files.ensures.counted) are) c.number_files.ensures.fresh _ c.requires.begin.version_is
    (omega (arith, c.requires.begin.few, c.number_files.ensures.counted, c.register_names-count.ensures.within, length-map c.args.second.files.now (λ (f : FileEntry). f.name)))

pub move_named-requires-clause-books : goal.move_named-requires-clause-books
move_named-requires-clause-books g c =
    let names = names_of c.args.second.files.now in
    let old = state_of c.args.journal in
    let new = state_of c.register_names-count.new.journal in
    let none : c.register_names-count.result.refusal ≡ None = search rules in
    let are = subst (λ r. AreNamed c.args.first names c.register_names-count.result.count r old new) none c.register_names-count.ensures in
    books_held g.met.D.Disk.lawful (view_of g.M.Names.types g.M.Names.words g.M.Names.version g.E.Disk.state c.args.second) c.args.first names c.args.journal c.requires.begin.opens c.requires.begin.holds c.register_names-count.new.journal c.number_files.new.files.items
    (subst (λ n. AreNamed c.args.first names n None old new) (sym c.number_files.ensures.counted) are) c.number_files.ensures.fresh c.args.types c.args.words c.requires.books

pub returns-clause-ends : goal.returns-clause-ends
returns-clause-ends g c =
    let names = names_of c.args.second.files.now in
    let old = state_of c.args.journal in
    let new = state_of c.register_names-count.new.journal in
    let none : c.register_names-count.result.refusal ≡ None = search rules in
    let are = subst (λ r. AreNamed c.args.first names c.register_names-count.result.count r old new) none c.register_names-count.ensures in
    ends_by g.met.D.Disk.lawful (view_of g.M.Names.types g.M.Names.words g.M.Names.version g.E.Disk.state c.args.second) c.args.first names c.args.journal c.requires.begin.opens c.requires.begin.holds c.register_names-count.new.journal c.number_files.new.files.items
    (subst (λ n. AreNamed c.args.first names n None old new) (sym c.number_files.ensures.counted) are) c.number_files.ensures.fresh _ _ _ c.move_named.ensures.came
