use Rattle.std.proofs.Common.{refl}
use Rattle.std.proofs.lemmas.Result.{err_from_is_err_and}
use Rattle.record_format.proofs.ListLemmas.{no_first, not_behind_first}
use Rattle.record_format.proofs.texts.read_texts.Goals as goal

pub returns-in_default-clause-malformed : goal.returns-in_default-clause-malformed
returns-in_default-clause-malformed c = λ _ first texts lt are. no_first c.args.payload.now (c.in_default.ensures.none refl) first texts

pub returns-in_err-texts-clause-malformed : goal.returns-in_err-texts-clause-malformed
returns-in_err-texts-clause-malformed c =
    let p = err_from_is_err_and c.from_residual.result c.from_residual.ensures.1 in
    λ was. not_behind_first c.args.payload.now c.in-Some.first c.in-Some.rest.now c.in-Some.ensures.some c.in-Some.ensures.fits (c.list_of.ensures.malformed (cc (c.in_err-texts.was, p.1, p.2)))
