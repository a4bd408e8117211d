use Rattle.std.proofs.Common.{◌≡◌, w64, to_z, of_z, rules}
use Rattle.column_store.specs.Row.{row_of}
use Rattle.row_codec.proofs.BodyLemmas.{has_spelling, spelling_body, spelling_found, spelling_stamp}
use Rattle.row_codec.proofs.fitting.row_fits.Goals as goal

pub returns-then-not-stamp_fits : goal.returns-then-not-stamp_fits
returns-then-not-stamp_fits g c =
    let moment : to_z w64 (of_z w64 c.args.row.moment) ≡ c.args.row.moment = search rules in
    let tells = rw moment at c.stamp_fits.ensures in (
      λ yes. absurd (cc yes),
      λ has. absurd (cc (tells.1 (spelling_stamp (row_of c.args.row) (g.N.Names.types c.args.names.now) (g.N.Names.words c.args.names.now) has), c.if-not-stamp_fits.true)),
    )

pub returns-in-Some : goal.returns-in-Some
returns-in-Some g c =
    let types = g.N.Names.types c.args.names.now in
    let words = g.N.Names.words c.args.names.now in
    let text = c.in-Some.text.now in
    let moment : to_z w64 (of_z w64 c.args.row.moment) ≡ c.args.row.moment = search rules in
    let tells = rw moment at c.stamp_fits.ensures in (
      λ yes. has_spelling (row_of c.args.row) types words text c.in-Some.ensures (tells.0 c.if-not-stamp_fits.false) (c.words_fit.ensures.0 yes),
      λ has. c.words_fit.ensures.1 (spelling_body (row_of c.args.row) types words text c.in-Some.ensures has),
    )

pub returns-in-None : goal.returns-in-None
returns-in-None g c = (
  λ yes. absurd (cc yes),
  λ has. absurd (spelling_found (row_of c.args.row) (g.N.Names.types c.args.names.now) (g.N.Names.words c.args.names.now) c.in-None.ensures has),
)
