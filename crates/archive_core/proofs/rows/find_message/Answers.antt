use Rattle.std.proofs.Common.{rules, List, ℕ, ◌++◌, ◌∙◌, ap, subst, sym, w64, to_z, of_z, ◌≡◌}
use Rattle.column_store.specs.Row.{row_of}
use Rattle.time_patterns.specs.Stamps.{HasStamp}
use Rattle.row_codec.specs.Means.{IsCanonical}
use Rattle.archive_core.proofs.LogTypeLemmas.{cut_means, encoding_spelled, stamp_means}
use Rattle.archive_core.proofs.rows.find_message.Goals as goal

pub returns-then-not-branch-clause-none : goal.returns-then-not-branch-clause-none
returns-then-not-branch-clause-none g c = λ is m canonical.
    let version = g.N.Names.version c.args.names.now in
    let types = g.N.Names.types c.args.names.now in
    let words = g.N.Names.words c.args.names.now in
    c.in_ok-write_fitting.ensures.misfit (search rules) (encoding_spelled version (row_of c.args.row) types words m canonical)

pub returns-clause-yes : goal.returns-clause-yes
returns-clause-yes g c = λ yes.
    let version = g.N.Names.version c.args.names.now in
    let types = g.N.Names.types c.args.names.now in
    let words = g.N.Names.words c.args.names.now in
    let row = row_of c.args.row in
    let moment : to_z w64 (of_z w64 c.args.row.moment) ≡ c.args.row.moment = search rules in
    let tells = rw moment at (c.stamp_is.ensures version c.micro.ensures) in
    let written = c.in_ok-write_fitting.ensures.written (search rules) in
    let same = written.2 ∙ ap (λ (l : List ℕ). l ++ written.0) c.clear.ensures.items in
    let has = tells.0 yes in
    let stamp = subst (λ m. HasStamp version m row.pattern row.moment has.0) (c.as_slice.ensures.value ∙ same) has.1 in
    subst (λ m. IsCanonical version row types words m) (sym same)
    (cut_means version row types words written.0 has.0 (c.is_cut.ensures.yes (search rules)) written.1 stamp)

pub returns-clause-none : goal.returns-clause-none
returns-clause-none g c = λ not m canonical.
    let version = g.N.Names.version c.args.names.now in
    let types = g.N.Names.types c.args.names.now in
    let words = g.N.Names.words c.args.names.now in
    let row = row_of c.args.row in
    let moment : to_z w64 (of_z w64 c.args.row.moment) ≡ c.args.row.moment = search rules in
    let tells = rw moment at (c.stamp_is.ensures version c.micro.ensures) in
    let written = c.in_ok-write_fitting.ensures.written (search rules) in
    let same = written.2 ∙ ap (λ (l : List ℕ). l ++ written.0) c.clear.ensures.items in
    let has = stamp_means version row types words written.0 m written.1 canonical in
    let stamp = subst (λ l. HasStamp version l row.pattern row.moment has.0) (sym (c.as_slice.ensures.value ∙ same)) has.1 in
    cc (tells.1 (has.0, stamp), not)
