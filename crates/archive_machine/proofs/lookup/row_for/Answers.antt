use Rattle.std.proofs.Common.{rules, IsErrOf, ◌≡◌, sym, subst}
use Rattle.row_codec.specs.declared.namer.NameRefusal.TheVariants.{Full}
use Rattle.row_codec.specs.Means.{IsCanonical}
use Rattle.archive_machine.proofs.CodeLemmas.{no_row, same_texts}
use Rattle.archive_machine.proofs.lookup.row_for.Goals as goal

pub returns-in-Ok-clause-some : goal.returns-in-Ok-clause-some
returns-in-Ok-clause-some c =
    let types = c.args.types.now in
    let words = c.args.words.now in
    let new = c.encode_message.new.namer in
    let types_same : new.types.now ≡ types = same_texts types new.types.now c.encode_message.ensures.types.front c.encode_message.ensures.types.limit in
    let words_same : new.words.now ≡ words = same_texts words new.words.now c.encode_message.ensures.words.front c.encode_message.ensures.words.limit in
    subst (λ t. IsCanonical c.args.version c.in-Ok.encoded.row t words c.args.message.now) types_same
    (subst (λ t. IsCanonical c.args.version c.in-Ok.encoded.row new.types.now t c.args.message.now) words_same c.in-Ok.ensures.row)

pub returns-in-Err-Full-clause-none : goal.returns-in-Err-Full-clause-none
returns-in-Err-Full-clause-none c = λ row is.
    let types = c.args.types.now in
    let words = c.args.words.now in
    let new = c.encode_message.new.namer in
    let types_same : new.types.now ≡ types = same_texts types new.types.now c.encode_message.ensures.types.front c.encode_message.ensures.types.limit in
    let words_same : new.words.now ≡ words = same_texts words new.words.now c.encode_message.ensures.words.front c.encode_message.ensures.words.limit in
    let moved : IsCanonical c.args.version row new.types.now new.words.now c.args.message.now =
    subst (λ t. IsCanonical c.args.version row t new.words.now c.args.message.now) (sym types_same)
    (subst (λ t. IsCanonical c.args.version row types t c.args.message.now) (sym words_same) is) in
    let is_full : IsErrOf c.encode_message.result (Full c.in-Err-Full.field-0-0 c.in-Err-Full.field-0-1) = search rules in
    no_row c.one_list_of_parts.ensures.one c.args.version c.args.message.now _ _ _ _ _ row (c.encode_message.ensures.full c.in-Err-Full.field-0-0 c.in-Err-Full.field-0-1 is_full) moved
