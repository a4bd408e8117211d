use Rattle.std.proofs.Common.{rules, length, refl}
use Rattle.std.proofs.lemmas.Option.{slice_get_read}
use Rattle.column_store.specs.Row.{row_of}
use Rattle.archive_core.proofs.LogTypeLemmas.{encoding_cut, encoding_known, held_cut, unknown_row}
use Rattle.archive_core.proofs.rows.is_cut.Goals as goal

pub returns-in_default-clause-none : goal.returns-in_default-clause-none
returns-in_default-clause-none g c = λ is encoding.
    let version = g.N.Names.version c.args.names.now in
    let types = g.N.Names.types c.args.names.now in
    let words = g.N.Names.words c.args.names.now in
    unknown_row version (row_of c.args.row) types words c.args.known.now.items c.requires (search rules) encoding

pub returns-then-log_type-clause-yes : goal.returns-then-log_type-clause-yes
returns-then-log_type-clause-yes g c = λ yes.
    let version = g.N.Names.version c.args.names.now in
    let types = g.N.Names.types c.args.names.now in
    let words = g.N.Names.words c.args.names.now in
    let known = c.args.known.now.items in
    let log_type = c.in-Some.log_type.now in
    let at = slice_get_read known (length known) c.args.row.log_type log_type refl (search rules) (search rules) in
    (held_cut types words known (row_of c.args.row) log_type c.as_slice.result.now c.requires at c.if-log_type.true c.as_slice.ensures.value).0 (c.are_held.ensures.0 yes)

pub returns-then-log_type-clause-none : goal.returns-then-log_type-clause-none
returns-then-log_type-clause-none g c = λ not encoding.
    let version = g.N.Names.version c.args.names.now in
    let types = g.N.Names.types c.args.names.now in
    let words = g.N.Names.words c.args.names.now in
    let known = c.args.known.now.items in
    let log_type = c.in-Some.log_type.now in
    let at = slice_get_read known (length known) c.args.row.log_type log_type refl (search rules) (search rules) in
    let held = held_cut types words known (row_of c.args.row) log_type c.as_slice.result.now c.requires at c.if-log_type.true c.as_slice.ensures.value in
    cc (c.are_held.ensures.1 (held.1 (encoding_cut version (row_of c.args.row) types words encoding)), not)

pub returns-clause-known : goal.returns-clause-known
returns-clause-known g c =
    let version = g.N.Names.version c.args.names.now in
    let types = g.N.Names.types c.args.names.now in
    let words = g.N.Names.words c.args.names.now in
    let known = c.args.known.now.items in
    let log_type = c.index_mut.result.now in
    let at = slice_get_read known (length known) c.args.row.log_type log_type refl (search rules) (search rules) in
    encoding_known version (row_of c.args.row) types words known log_type c.requires at (c.row_ok.ensures.0 c.if-not-row_ok.false)

pub returns-clause-yes : goal.returns-clause-yes
returns-clause-yes g c = λ yes.
    let version = g.N.Names.version c.args.names.now in
    let types = g.N.Names.types c.args.names.now in
    let words = g.N.Names.words c.args.names.now in
    encoding_cut version (row_of c.args.row) types words (c.row_ok.ensures.0 c.if-not-row_ok.false)
