use Rattle.std.proofs.Common.{◌≡◌, ◌++◌, w64, to_z, of_z, rules, length, subst}
use Rattle.time_patterns.specs.Stamps.{HasStamp}
use Rattle.column_store.specs.Row.{row_of}
use Rattle.logtype_text.specs.Parts.{joined}
use Rattle.row_codec.proofs.CanonicalLemmas.{canonical_body, canonical_cut, canonical_stamp, canonical_type, cut_body, cut_canonical, cut_has_body}
use Rattle.row_codec.proofs.canonical.row_ok.Goals as goal

pub returns-in_default : goal.returns-in_default
returns-in_default g c = (
  λ yes. absurd (cc yes),
  λ (message, is). absurd (canonical_type (g.N.Names.version c.args.names.now) (row_of c.args.row) (g.N.Names.types c.args.names.now) (g.N.Names.words c.args.names.now) message is c.in_default.ensures),
)

pub returns-then-not-stamp_fits : goal.returns-then-not-stamp_fits
returns-then-not-stamp_fits g c =
    let moment : to_z w64 (of_z w64 c.args.row.moment) ≡ c.args.row.moment = search rules in
    let tells = rw moment at c.stamp_fits.ensures in (
      λ yes. absurd (cc yes),
      λ (message, is). absurd (cc (tells.1 (canonical_stamp (g.N.Names.version c.args.names.now) (row_of c.args.row) (g.N.Names.types c.args.names.now) (g.N.Names.words c.args.names.now) message is), c.if-not-stamp_fits.true)),
    )

pub returns-then-not-body_is_cut : goal.returns-then-not-body_is_cut
returns-then-not-body_is_cut g c = (
  λ yes. absurd (cc yes),
  λ (message, is). absurd (cc (c.body_is_cut.ensures.1 (canonical_cut (g.N.Names.version c.args.names.now) (row_of c.args.row) (g.N.Names.types c.args.names.now) (g.N.Names.words c.args.names.now) message c.in-Some.text.now c.in-Some.ensures is), c.if-not-body_is_cut.true)),
)

pub stamp_is-requires-clause-body : goal.stamp_is-requires-clause-body
stamp_is-requires-clause-body g c = cut_has_body (g.N.Names.words c.args.names.now) c.in-Some.text.now c.args.row.words.now (c.body_is_cut.ensures.0 c.if-not-body_is_cut.false)

pub returns : goal.returns
returns g c =
    let version = g.N.Names.version c.args.names.now in
    let row = row_of c.args.row in
    let types = g.N.Names.types c.args.names.now in
    let words = g.N.Names.words c.args.names.now in
    let text = c.in-Some.text.now in
    let cut = c.body_is_cut.ensures.0 c.if-not-body_is_cut.false in
    let moment : to_z w64 (of_z w64 c.args.row.moment) ≡ c.args.row.moment = search rules in
    let stamp = rw moment at (c.stamp_fits.ensures.0 c.if-not-stamp_fits.false) in
    let tells = rw moment at c.stamp_is.ensures in (
      λ yes. (stamp.0 ++ joined cut.parts, cut_canonical version row types words text stamp.0 c.in-Some.ensures stamp.1 cut ((tells stamp.0 (joined cut.parts) stamp.1 (cut_body words text c.args.row.words.now cut)).0 yes)),
      λ (message, is). (tells is.means.stamp (joined is.means.parts) is.means.stamped (canonical_body version row types words message text c.in-Some.ensures is)).1
          (subst (λ m. HasStamp version m row.pattern row.moment (length is.means.stamp)) is.means.is is.stamp),
    )
