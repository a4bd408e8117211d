use Rattle.std.proofs.Common.{◌++◌, ◌∙◌, sym, append_assoc, rules}
use Rattle.std.proofs.lemmas.Option.{IfSome_then}
use Rattle.std.proofs.lemmas.Result.{IfOk-weaker}
use Rattle.record_format.specs.Lists.{four_bytes}
use Rattle.word_places.proofs.RecordLemmas.{none_then, spells_parts, walked_spells}
use Rattle.word_places.proofs.record.starts_in.Goals as goal

pub returns-in_default-clause-none : goal.returns-in_default-clause-none
returns-in_default-clause-none c = c.in_default.ensures.none

pub walked-requires : goal.walked-requires
walked-requires c =
    let p = c.args.place in
    (four_bytes p.first ++ four_bytes p.count, c.in-Some.ensures.some ∙ sym (append_assoc (four_bytes p.first) (four_bytes p.count) c.in-Some.texts.now))

pub returns-clause-some : goal.returns-clause-some
returns-clause-some c =
    IfOk-weaker c.walked.result _ _ (λ read r. IfSome_then read r (λ starts w.
    walked_spells c.args.place c.args.bytes.now c.in-Some.texts.now starts.items c.requires (search rules) (search rules) c.in-Some.ensures.some w))
    c.walked.ensures.some

pub returns-clause-none : goal.returns-clause-none
returns-clause-none c =
    let p = c.args.place in
    IfOk-weaker c.walked.result _ _ (λ read r. none_then read r (λ none texts spells.
    none texts spells.are (spells_parts p c.args.bytes.now c.in-Some.texts.now texts p.first p.count spells (search rules) (search rules) c.in-Some.ensures.some).2))
    c.walked.ensures.none
