use Rattle.std.proofs.Common.{◌≡◌, ap, get_or, refl, subst, sym, ◌∙◌}
use Rattle.std.specs.List.{filter}
use Rattle.std.specs.List.Sorted.{IsNonDecreasingBy}
use Rattle.archive_open.specs.Archive.{shown}
use Rattle.archive_open.specs.Kept.{Kept}
use Rattle.archive_open.specs.Shown.{Opens}
use Rattle.archive_open.specs.declared.segments.SegmentPlace.{SegmentPlace}
use Rattle.archive_open.specs.OfFile.{is_of}
use Rattle.archive_text.specs.Told.{TellsFile, file_parts}
use Rattle.archive_text.proofs.CauseLemmas.{kept_all}
use Rattle.archive_text.proofs.DecideText.{told_is}
use Rattle.archive_text.proofs.StartLemmas.{IsFile, tells_file, untold}
use Rattle.archive_text.proofs.stored_text.StoredText.new.Goals as goal

pub invariant_of-result : goal.invariant_of-result
invariant_of-result g c =
    let a = shown g.N.KeepsTexts.kept c.args.archive.now in
    let told = c.new-told.result in
    let f = file_parts (g.N.Names.types told.names.now) (g.N.Names.words told.names.now) told.places.now told.open_end in
    let named = g.met.N.KeepsTexts.named c.names.result.now in
    let listed = c.as_slice.ensures ∙ c.segments.ensures in
    let file : IsFile a c.args.number f c.index-as_slice-number.result = record {
      types = ap g.N.Names.types c.new-told.ensures.names ∙ (named.0 ∙ ap (λ (k : Kept). k.types) c.names.ensures);
      words = ap g.N.Names.words c.new-told.ensures.names ∙ (named.1 ∙ ap (λ (k : Kept). k.words) c.names.ensures);
      places = λ sorted. c.new-told.ensures.places
          ∙ (c.segments_of-places.ensures (subst (IsNonDecreasingBy (λ (p : SegmentPlace). p.head.file)) (sym listed) sorted) ∙ ap (filter (is_of c.args.number)) listed);
      listed = c.index-as_slice-number.is ∙ ap (λ l. get_or l c.args.number c.index-as_slice-number.result) (c.as_slice-2.ensures ∙ c.files.ensures);
      open_end = c.new-told.ensures.open_end ∙ c.ends_open-open_end.ensures;
    } in
    let same : told.disk.value ≡ c.args.disk.now = c.new-told.ensures.disk in
    let opened = subst (λ d. Opens (g.D.Disk.state d).seen a) (sym same) c.requires.opened in
    untold a c.args.number f c.index-as_slice-number.result file (g.D.Disk.state told.disk.value).seen told.has.0 opened (told_is f (g.D.Disk.state told.disk.value).seen told.has)

pub returns-clause-tells : goal.returns-clause-tells
returns-clause-tells g c =
    let a = shown g.N.KeepsTexts.kept c.args.archive.now in
    let told = c.new-told.result in
    let f = file_parts (g.N.Names.types told.names.now) (g.N.Names.words told.names.now) told.places.now told.open_end in
    let named = g.met.N.KeepsTexts.named c.names.result.now in
    let listed = c.as_slice.ensures ∙ c.segments.ensures in
    let file : IsFile a c.args.number f c.index-as_slice-number.result = record {
      types = ap g.N.Names.types c.new-told.ensures.names ∙ (named.0 ∙ ap (λ (k : Kept). k.types) c.names.ensures);
      words = ap g.N.Names.words c.new-told.ensures.names ∙ (named.1 ∙ ap (λ (k : Kept). k.words) c.names.ensures);
      places = λ sorted. c.new-told.ensures.places
          ∙ (c.segments_of-places.ensures (subst (IsNonDecreasingBy (λ (p : SegmentPlace). p.head.file)) (sym listed) sorted) ∙ ap (filter (is_of c.args.number)) listed);
      listed = c.index-as_slice-number.is ∙ ap (λ l. get_or l c.args.number c.index-as_slice-number.result) (c.as_slice-2.ensures ∙ c.files.ensures);
      open_end = c.new-told.ensures.open_end ∙ c.ends_open-open_end.ensures;
    } in
    let same : told.disk.value ≡ c.args.disk.now = c.new-told.ensures.disk in
    let opened = subst (λ d. Opens (g.D.Disk.state d).seen a) (sym same) c.requires.opened in
    let text = told_is f (g.D.Disk.state told.disk.value).seen told.has in
    subst (λ l. TellsFile c.args.number (g.D.Disk.state c.args.disk.now).seen l) (sym (kept_all 0 told.has.0 refl))
    (subst (λ d. TellsFile c.args.number (g.D.Disk.state d).seen told.has.0) same
    (tells_file a c.args.number f c.index-as_slice-number.result file (g.D.Disk.state told.disk.value).seen told.has.0 opened text))

pub returns-clause-types : goal.returns-clause-types
returns-clause-types g c =
    let named = g.met.N.KeepsTexts.named c.names.result.now in
    ap g.N.Names.types c.new-told.ensures.names ∙ (named.0 ∙ ap (λ (k : Kept). k.types) c.names.ensures)
