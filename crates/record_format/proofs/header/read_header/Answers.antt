use Rattle.std.proofs.Common.{◌≡◌, subst, sym, ap, ◌∙◌, rules}
use Rattle.record_format.specs.Header.{IsHeader, IsLaidOut, header_bytes, header_in}
use Rattle.record_format.proofs.HeaderLemmas.{laid_out, header_in-header_bytes, header_bytes-header_in}
use Rattle.record_format.proofs.header.read_header.Goals as goal

pub returns-then-not-is_laid_out-clause-none : goal.returns-then-not-is_laid_out-clause-none
returns-then-not-is_laid_out-clause-none c = λ _ h is e.
    let there : IsLaidOut c.args.bytes.now = subst IsLaidOut (sym e) (laid_out h) in
    let yes = c.if-not-is_laid_out.ensures.no there in
    absurd cc

pub returns-then-is_in_range-clause-spelled : goal.returns-then-is_in_range-clause-spelled
returns-then-is_in_range-clause-spelled c =
    let laid : IsLaidOut c.args.bytes.now = search rules in
    header_bytes-header_in c.args.bytes.now c.fits-bytes c.told-bytes laid ∙ ap header_bytes (sym c.numbers_in-header.ensures)

pub returns-else-is_in_range-clause-none : goal.returns-else-is_in_range-clause-none
returns-else-is_in_range-clause-none c = λ _ h is e.
    let same : c.numbers_in-header.result ≡ h = c.numbers_in-header.ensures ∙ ap header_in e ∙ header_in-header_bytes h is in
    let there : IsHeader c.numbers_in-header.result = subst IsHeader (sym same) is in
    let yes = c.if-is_in_range.ensures.no there in
    absurd cc
