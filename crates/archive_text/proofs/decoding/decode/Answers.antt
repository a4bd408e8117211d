use Rattle.std.proofs.Common.{ap, get_or, subst, sym, ◌∙◌}
use Rattle.std.specs.Prelude.{is_ok}
use Rattle.std.specs.List.{filter}
use Rattle.std.specs.List.Sorted.{IsNonDecreasingBy}
use Rattle.std.proofs.lemmas.Result.{err_from_is_err_and}
use Rattle.archive_open.specs.Archive.{shown}
use Rattle.archive_open.specs.Kept.{Kept}
use Rattle.archive_open.specs.OfFile.{is_of}
use Rattle.archive_open.specs.declared.segments.SegmentPlace.{SegmentPlace}
use Rattle.archive_text.specs.Decoded.{Decodes}
use Rattle.archive_text.specs.Told.{file_parts}
use Rattle.archive_text.proofs.SentLemmas.{nothing_decoded, sent_first}
use Rattle.archive_text.proofs.StartLemmas.{IsFile, IsStart, decodes, no_text}
use Rattle.archive_text.proofs.decoding.decode.Goals as goal

pub returns-in_err-layouts-clause-decoded : goal.returns-in_err-layouts-clause-decoded
returns-in_err-layouts-clause-decoded g c =
    let p = err_from_is_err_and c.from_residual.result c.from_residual.ensures.1 in
    subst (λ b. Decodes b c.args.number (g.D.Disk.state c.args.disk.now).seen (g.K.Sink.written c.args.out.now) (g.K.Sink.written c.args.out.now)) (sym (ap is_ok p.1))
    (nothing_decoded c.args.number (g.D.Disk.state c.args.disk.now).seen (g.K.Sink.written c.args.out.now))

pub returns-clause-decoded : goal.returns-clause-decoded
returns-clause-decoded g c =
    let a = shown g.N.KeepsTexts.kept c.args.archive.now in
    let walk = c.new-walk.result in
    let f = file_parts (g.N.Names.types c.names-names.result.now) (g.N.Names.words c.names-names.result.now) c.segments_of-places.result.now c.ends_open-open_end.result in
    let named = g.met.N.KeepsTexts.named c.names-names.result.now in
    let listed = c.as_slice.ensures ∙ c.segments.ensures in
    let file : IsFile a c.args.number f c.index-as_slice-number.result = record {
      types = named.0 ∙ ap (λ (k : Kept). k.types) c.names-names.ensures;
      words = named.1 ∙ ap (λ (k : Kept). k.words) c.names-names.ensures;
      places = λ sorted. c.segments_of-places.ensures (subst (IsNonDecreasingBy (λ (p : SegmentPlace). p.head.file)) (sym listed) sorted) ∙ ap (filter (is_of c.args.number)) listed;
      listed = c.index-as_slice-number.is ∙ ap (λ l. get_or l c.args.number c.index-as_slice-number.result) (c.as_slice-2.ensures ∙ c.files.ensures);
      open_end = c.ends_open-open_end.ensures;
    } in
    let start : IsStart f walk = record {
      rows = c.new-walk.ensures.rows;
      pages = c.new-walk.ensures.pages;
      places = c.new-walk.ensures.places;
      nothing = c.new-walk.ensures.nothing;
      sent = c.new-walk.ensures.sent;
      given = c.new-walk.ensures.given;
      begun = c.new-walk.ensures.begun;
      ended = c.new-walk.ensures.ended;
    } in
    decodes a c.args.number f c.index-as_slice-number.result file (is_ok c.send_all.result) (g.D.Disk.state c.args.disk.now).seen (g.K.Sink.written c.args.out.now) (g.K.Sink.written c.send_all.new.out) c.requires.opened
    (λ bytes text told is. c.send_all.ensures.took bytes text (g.K.Sink.written c.args.out.now) told (sent_first f walk (g.K.Sink.written c.args.out.now) bytes text start is))

pub returns-clause-damaged : goal.returns-clause-damaged
returns-clause-damaged g c = λ damaged.
    let a = shown g.N.KeepsTexts.kept c.args.archive.now in
    let walk = c.new-walk.result in
    let f = file_parts (g.N.Names.types c.names-names.result.now) (g.N.Names.words c.names-names.result.now) c.segments_of-places.result.now c.ends_open-open_end.result in
    let named = g.met.N.KeepsTexts.named c.names-names.result.now in
    let listed = c.as_slice.ensures ∙ c.segments.ensures in
    let file : IsFile a c.args.number f c.index-as_slice-number.result = record {
      types = named.0 ∙ ap (λ (k : Kept). k.types) c.names-names.ensures;
      words = named.1 ∙ ap (λ (k : Kept). k.words) c.names-names.ensures;
      places = λ sorted. c.segments_of-places.ensures (subst (IsNonDecreasingBy (λ (p : SegmentPlace). p.head.file)) (sym listed) sorted) ∙ ap (filter (is_of c.args.number)) listed;
      listed = c.index-as_slice-number.is ∙ ap (λ l. get_or l c.args.number c.index-as_slice-number.result) (c.as_slice-2.ensures ∙ c.files.ensures);
      open_end = c.ends_open-open_end.ensures;
    } in
    let start : IsStart f walk = record {
      rows = c.new-walk.ensures.rows;
      pages = c.new-walk.ensures.pages;
      places = c.new-walk.ensures.places;
      nothing = c.new-walk.ensures.nothing;
      sent = c.new-walk.ensures.sent;
      given = c.new-walk.ensures.given;
      begun = c.new-walk.ensures.begun;
      ended = c.new-walk.ensures.ended;
    } in
    no_text a c.args.number f c.index-as_slice-number.result file (g.D.Disk.state c.args.disk.now).seen c.requires.opened
    (λ bytes text told is. c.send_all.ensures.damaged damaged f.open_end bytes text (g.K.Sink.written c.args.out.now) told (sent_first f walk (g.K.Sink.written c.args.out.now) bytes text start is))
