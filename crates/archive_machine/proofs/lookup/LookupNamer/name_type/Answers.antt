use Rattle.std.proofs.Common.{arith, length, refl, ◌∷◌, []}
use Rattle.row_codec.specs.declared.namer.Which.TheVariants.{Types}
use Rattle.archive_machine.proofs.CodeLemmas.{limit_met, refusal_of}
use Rattle.archive_machine.proofs.lookup.LookupNamer.name_type.Goals as goal

pub returns-in-None-clause-full : goal.returns-in-None-clause-full
returns-in-None-clause-full c = λ book count is.
    let types = c.args.self.now.types.now in
    let all = refusal_of Types book (length types) count is in
    (all.0, limit_met types [] (c.args.text.now ∷ []) 0 count (omega arith) tt c.in-None.ensures all.1, refl)
