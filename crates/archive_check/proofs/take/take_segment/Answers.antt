use Rattle.std.proofs.Common.{rules, ◌≡◌, ◌∙◌, ap, arith, subst, sym}
use Rattle.std.specs.List.{flat_map}
use Rattle.std.specs.List.Sorted.{IsStrictlyIncreasing}
use Rattle.row_codec.specs.Numbers.{numbers_of_row}
use Rattle.segment_format.specs.Layout.{segment_bytes}
use Rattle.segment_format.proofs.SetLemmas.{rise_of, up_sorted_set}
use Rattle.archive_meaning.specs.Spelled.{words_named}
use Rattle.archive_core.proofs.RowsLemmas.{at_none, at_some}
use Rattle.archive_check.proofs.TakeLemmas.{no_segment, on_ok, only_segment, took_segment}
use Rattle.archive_check.proofs.take.take_segment.Goals as goal

pub returns-in-Err-clause-illegal : goal.returns-in-Err-clause-illegal
returns-in-Err-clause-illegal g c = λ is. no_segment c.args.judge.now c.args.payload.now (c.in-Err.ensures.malformed (search (rules, is, c.refused.ensures)))

pub returns-in_default-clause-illegal : goal.returns-in_default-clause-illegal
returns-in_default-clause-illegal g c = λ is.
    only_segment c.args.judge.now c.args.payload.now c.in-Ok.found.0 c.in-Ok.found.1.rows c.in-Ok.ensures.parts
    (λ more spelled low admits. at_none c.in_ok-words.field-0 _ c.in_ok-words.ensures.none c.in_default.is low)

pub write_segment-requires-clause-rise : goal.write_segment-requires-clause-rise
write_segment-requires-clause-rise g c =
    let types = c.args.judge.now.types in
    let rows = c.in-Ok.found.1.rows in
    let words : c.in-Some.words ≡ words_named types rows = at_some c.in_ok-words.field-0 _ c.in-Some.words c.in_ok-words.ensures.some c.in-Some.is in
    subst IsStrictlyIncreasing (sym words) (rise_of 0 (words_named types rows) (up_sorted_set (flat_map (numbers_of_row types) rows)))

pub write_segment-requires-clause-count : goal.write_segment-requires-clause-count
write_segment-requires-clause-count g c =
    let few = at_some c.in_ok-words.field-0 _ c.in-Some.words c.in_ok-words.ensures.few c.in-Some.is in
    omega (arith, few)

pub returns-then-not-are_same-clause-illegal : goal.returns-then-not-are_same-clause-illegal
returns-then-not-are_same-clause-illegal g c = λ is.
    let types = c.args.judge.now.types in
    let found = c.in-Ok.found in
    let words : c.in-Some.words ≡ words_named types found.1.rows = at_some c.in_ok-words.field-0 _ c.in-Some.words c.in_ok-words.ensures.some c.in-Some.is in
    only_segment c.args.judge.now c.args.payload.now found.0 found.1.rows c.in-Ok.ensures.parts
    (λ more spelled low admits.
    let same : c.as_slice.result.now ≡ c.args.payload.now =
    c.as_slice.ensures ∙ c.in_ok-written.ensures ∙ ap (λ w. segment_bytes found.0.file found.0.first found.0.last found.0.ended found.1.rows w) words ∙ sym spelled in
    cc (c.are_same.ensures.1 same, c.if-not-are_same.true))

pub returns-clause-taken : goal.returns-clause-taken
returns-clause-taken g c =
    let types = c.args.judge.now.types in
    let found = c.in-Ok.found in
    let words : c.in-Some.words ≡ words_named types found.1.rows = at_some c.in_ok-words.field-0 _ c.in-Some.words c.in_ok-words.ensures.some c.in-Some.is in
    let same : c.args.payload.now ≡ c.as_slice.result.now = sym (c.are_same.ensures.0 (search rules)) in
    let spelled = same ∙ c.as_slice.ensures ∙ c.in_ok-written.ensures ∙ ap (λ w. segment_bytes found.0.file found.0.first found.0.last found.0.ended found.1.rows w) words in
    on_ok c.admit_segment.result c.admit_segment.ensures.admitted
    (took_segment c.args.judge.now c.admit_segment.new.self (record { file = found.0.file; first = found.0.first; last = found.0.last; ended = found.0.ended; rows = found.1.rows }) c.args.payload.now spelled)

pub returns-clause-illegal : goal.returns-clause-illegal
returns-clause-illegal g c = λ is.
    only_segment c.args.judge.now c.args.payload.now c.in-Ok.found.0 c.in-Ok.found.1.rows c.in-Ok.ensures.parts (λ more spelled low admits. c.admit_segment.ensures.illegal is more admits)
