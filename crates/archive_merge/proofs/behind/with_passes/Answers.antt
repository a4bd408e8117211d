use Rattle.std.proofs.Common.{◌≡◌, ◌∙◌, ap, length, subst, sym}
use Rattle.turn_lock.specs.Words.{IsFreshOf, lock_of}
use Rattle.dict_lock.specs.Cached.{pass_in}
use Rattle.ingest_workers.proofs.IngestLemmas.{knows}
use Rattle.archive_merge.specs.declared.merger.BookPasses.{BookPasses}
use Rattle.std.specs.List.{Contains}
use Rattle.row_codec.specs.declared.namer.Which.{Which}
use Rattle.ingest_workers.specs.Full.{IsMore, WasFull, book_of, books_by}
use Rattle.ingest_workers.specs.Ingested.{books_at}
use Rattle.ingest_workers.specs.NoRoom.{WereKnown}
use Rattle.archive_merge.specs.Behind.{HasStopped, HasStored, MayBegin, done_of, needed_of, old_texts, second_by}
use Rattle.archive_merge.specs.Merger.{PassesAdd}
use Rattle.archive_merge.specs.MergerLaws.{passes_in_is}
use Rattle.archive_merge.proofs.BehindLemmas.{adds_between, as_it_was, fault_by, may_move_by, named_by, only_read, stored_by, why_by}
use Rattle.archive_merge.proofs.EndedLemmas.{book_ends, both_more, may_name}
use Rattle.archive_merge.proofs.behind.with_passes.Goals as goal

pub new-merger-requires-clause-serves : goal.new-merger-requires-clause-serves
new-merger-requires-clause-serves g c = c.requires.serves _

pub open_store-store-requires-clause-books : goal.open_store-store-requires-clause-books
open_store-store-requires-clause-books g c = record {
  of_types = knows _ _ _ _ _ _ _ _ c.requires.types c.pass-types_reader.ensures.pass;
  of_words = knows _ _ _ _ _ _ _ _ c.requires.words c.pass-words_reader.ensures.pass;
}

pub move_files-requires-clause-may : goal.move_files-requires-clause-may
move_files-requires-clause-may g c =
    let b : BookPasses = record { types = c.new.result; words = c.new-2.result } in
    let types_fresh = subst (IsFreshOf c.pass-types_reader.new.self) (sym c.new.ensures.pass) c.pass-types_pass.ensures.pass in
    let words_fresh = subst (IsFreshOf c.pass-words_reader.new.self) (sym c.new-2.ensures.pass) c.pass-words_pass.ensures.pass in
    let name = may_name _ _ _ _ _ _ _ c.args.types.now c.pass-types_reader.new.self c.pass-types_pass.new.self c.args.words.now c.pass-words_reader.new.self c.pass-words_pass.new.self c.pass-types_reader.result c.pass-words_reader.result b
    c.requires.types c.requires.words c.pass-types_reader.ensures.pass c.pass-words_reader.ensures.pass c.pass-types_reader.ensures.still c.pass-types_reader.ensures.made c.pass-words_reader.ensures.still c.pass-words_reader.ensures.made
    c.pass-types_pass.ensures.still c.pass-types_pass.ensures.made c.pass-words_pass.ensures.still c.pass-words_pass.ensures.made types_fresh words_fresh in
    let same = passes_in_is c.new-merger.result.passes c.new-merger.result.full b c.new-merger.ensures.passes in
    may_move_by g.M.Names.types g.M.Names.words g.M.Names.version g.E.Disk.state c.args.journal c.pass-types_reader.result c.pass-words_reader.result c.args.order.types_saved c.args.order.words_saved _ _ c.args.order.first c.new-merger.result c.args.files.now
    c.open_store-store.ensures c.from.ensures c.new-merger.ensures.first (subst (λ s. MayBegin c.args.order.first (g.M.Names.version s.names.now) c.args.journal c.args.files.now) (sym c.new-merger.ensures.second) c.requires.begin)
    (subst (λ (x : BookPasses). (lock_of (pass_in x.types) ≡ lock_of c.pass-types_reader.result) × (lock_of (pass_in x.words) ≡ lock_of c.pass-words_reader.result)) (sym same) name.1)

pub returns-in-Ok-clause-moved : goal.returns-in-Ok-clause-moved
returns-in-Ok-clause-moved g c =
    let b : BookPasses = record { types = c.new.result; words = c.new-2.result } in
    let types_fresh = subst (IsFreshOf c.pass-types_reader.new.self) (sym c.new.ensures.pass) c.pass-types_pass.ensures.pass in
    let words_fresh = subst (IsFreshOf c.pass-words_reader.new.self) (sym c.new-2.ensures.pass) c.pass-words_pass.ensures.pass in
    let done = c.in-Ok.ensures.done in
    let ended = c.end-journal.ensures.ended in
    let kept = c.end-journal.ensures.kept in
    let begin = subst (λ s. MayBegin c.args.order.first (g.M.Names.version s.names.now) c.args.journal c.args.files.now) (sym c.new-merger.ensures.second) c.requires.begin in
    let named = named_by g.M.Names.types g.M.Names.words g.M.Names.version g.E.Disk.state c.args.journal c.end-journal.result c.pass-types_reader.result c.pass-words_reader.result c.args.order.types_saved c.args.order.words_saved c.in-Ok.store _ _ c.args.order.first c.new-merger.result c.move_files.new.merger c.args.files.now c.move_files.new.files
    c.open_store-store.ensures c.from.ensures c.new-merger.ensures.first c.new-merger.ensures.stop begin done in
    let adds_so = adds_between g.M.Names.types g.M.Names.words g.M.Names.version g.E.Disk.state c.new-merger.result c.move_files.new.merger c.args.order.second c.args.order.first (done_of c.args.order.first (length c.move_files.new.files) c.move_files.new.merger.stop) c.move_files.new.files b c.into_parts-second.result.1 c.new-merger.ensures.second c.new-merger.ensures.passes c.into_parts-second.ensures.passes named in
    let adds = subst (λ s. PassesAdd (needed_of (second_by g.M.Names.types g.M.Names.words g.M.Names.version g.E.Disk.state c.args.order.second) c.args.order.first (done_of c.args.order.first (length c.move_files.new.files) s) c.move_files.new.files) b c.into_parts-second.result.1) (sym c.into_parts-second.ensures.stop) adds_so in
    record {
      store = c.in-Ok.store;
      stored = subst (λ s. HasStored (second_by g.M.Names.types g.M.Names.words g.M.Names.version g.E.Disk.state c.args.order.second) c.args.order.first s c.args.files.now c.move_files.new.files c.args.journal c.end-journal.result c.in-Ok.store) (sym c.into_parts-second.ensures.stop)
          (subst (λ s. HasStored (second_by g.M.Names.types g.M.Names.words g.M.Names.version g.E.Disk.state s) c.args.order.first c.move_files.new.merger.stop c.args.files.now c.move_files.new.files c.args.journal c.end-journal.result c.in-Ok.store) c.new-merger.ensures.second
          (stored_by g.M.Names.types g.M.Names.words g.M.Names.version g.E.Disk.state c.args.journal c.end-journal.result c.pass-types_reader.result c.pass-words_reader.result c.args.order.types_saved c.args.order.words_saved c.in-Ok.store _ _ c.args.order.first c.new-merger.result c.move_files.new.merger c.args.files.now c.move_files.new.files
          c.open_store-store.ensures c.from.ensures c.new-merger.ensures.first c.new-merger.ensures.stop begin done c.end-journal.ensures.journal kept));
      of_types = book_ends _ _ _ _ _ _ _ _ _ _ _ _ (pass_in b.types) _ c.requires.types c.pass-types_reader.ensures.still c.pass-types_reader.ensures.made c.pass-types_pass.ensures.still c.pass-types_pass.ensures.made types_fresh adds.types
          ended.types_read kept.types.number kept.types.own ended.types_ended;
      of_words = book_ends _ _ _ _ _ _ _ _ _ _ _ _ (pass_in b.words) _ c.requires.words c.pass-words_reader.ensures.still c.pass-words_reader.ensures.made c.pass-words_pass.ensures.still c.pass-words_pass.ensures.made words_fresh adds.words
          ended.words_read kept.words.number kept.words.own ended.words_ended;
      why = λ why is. subst (λ s. HasStopped (λ book count. WasFull (Contains (old_texts (second_by g.M.Names.types g.M.Names.words g.M.Names.version g.E.Disk.state s) book)) count (book_of (books_at c.end-journal.new.types c.end-journal.new.words) book)) (WereKnown (books_at c.end-journal.new.types c.end-journal.new.words))
          (second_by g.M.Names.types g.M.Names.words g.M.Names.version g.E.Disk.state s) c.args.order.first c.move_files.new.files c.args.journal c.end-journal.result why) c.new-merger.ensures.second
          (why_by g.M.Names.types g.M.Names.words g.M.Names.version g.E.Disk.state c.args.journal c.end-journal.result c.pass-types_reader.result c.pass-words_reader.result c.args.order.types_saved c.args.order.words_saved c.in-Ok.store _ _ c.args.order.first c.new-merger.result c.move_files.new.merger c.args.files.now c.move_files.new.files
          (books_at c.end-journal.new.types c.end-journal.new.words) c.open_store-store.ensures c.from.ensures c.new-merger.ensures.first c.new-merger.ensures.stop begin
          done c.end-journal.ensures.journal kept
          (subst (λ (x : BookPasses). (book : Which) → IsMore (book_of (books_by (pass_in x.types) (pass_in x.words)) book) (book_of (books_at c.end-journal.new.types c.end-journal.new.words) book))
          (sym (passes_in_is c.move_files.new.merger.passes c.move_files.new.merger.full c.into_parts-second.result.1 c.into_parts-second.ensures.passes))
          (both_more _ _ _ _ _ _ _ _ _ b c.into_parts-second.result.1 c.pass-types_pass.ensures.still c.pass-words_pass.ensures.still types_fresh words_fresh adds ended))
          why (sym c.into_parts-second.ensures.stop ∙ is));
    }

pub returns-in-Ok-clause-second : goal.returns-in-Ok-clause-second
returns-in-Ok-clause-second g c =
    let done = c.in-Ok.ensures.done in
    only_read g.E.Disk.state _ _ _ _ _ c.new-merger.ensures.second c.into_parts-second.ensures.second done.moved.went.second_is done.moved.went.later
    (λ why is. fault_by g.M.Names.types g.M.Names.words g.M.Names.version g.E.Disk.state c.args.journal c.end-journal.result c.pass-types_reader.result c.pass-words_reader.result c.args.order.types_saved c.args.order.words_saved c.in-Ok.store _ _ c.args.order.first c.new-merger.result c.move_files.new.merger c.args.files.now c.move_files.new.files
    c.open_store-store.ensures c.from.ensures c.new-merger.ensures.stop (subst (λ s. MayBegin c.args.order.first (g.M.Names.version s.names.now) c.args.journal c.args.files.now) (sym c.new-merger.ensures.second) c.requires.begin) done why (sym c.into_parts-second.ensures.stop ∙ is))

pub returns-in-Err-clause-refused : goal.returns-in-Err-clause-refused
returns-in-Err-clause-refused g c = (
  as_it_was c.args.journal c.pass-types_reader.result c.pass-words_reader.result c.args.order.types_saved c.args.order.words_saved c.give_back-journal.result c.in-Err.store _
      c.open_store-store.ensures c.in-Err.ensures.refused c.give_back-journal.ensures.journal c.give_back-journal.ensures.kept,
  c.into_parts-second-in-Err.ensures.second ∙ (ap (λ m. m.second) c.in-Err.ensures.files.1 ∙ c.new-merger.ensures.second),
)
