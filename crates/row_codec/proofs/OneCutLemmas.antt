-- A message is cut into the parts of its row and into no others.
use Rattle.std.proofs.Common.{◌≡◌, ℕ, List, length, drop, refl, sym, ap, ◌∙◌, subst}
use Rattle.std.proofs.lemmas.List.{drop_at}
use Rattle.logtype_text.specs.Laws.{OneListOfParts}
use Rattle.logtype_text.specs.Parts.{Part, AreParts, joined}
use Rattle.time_patterns.proofs.VersionLemmas.{one_stamp_of}
use Rattle.column_store.specs.declared.row.Row.{Row}
use Rattle.row_codec.specs.Means.{IsCanonical}
use Rattle.row_codec.specs.Messages.{IsCutInto}

pub one_cut : OneListOfParts → (version : ℕ) (message : List ℕ) (row : Row) (types words : List (List ℕ)) (parts : List Part) → (is : IsCanonical version row types words message)
    → IsCutInto version message parts → is.means.parts ≡ parts
one_cut one version message row types words parts is cut =
    let stamps = one_stamp_of version message row.pattern cut.pattern row.moment cut.moment (length is.means.stamp) (length cut.stamp) is.stamp cut.stamped in
    let bodies : joined is.means.parts ≡ joined parts =
    sym (drop_at is.means.stamp (joined is.means.parts) (length cut.stamp) stamps.2)
    ∙ (ap (λ bytes. drop (length cut.stamp) bytes) (sym is.means.is ∙ cut.is) ∙ drop_at cut.stamp (joined parts) (length cut.stamp) refl) in
    one (joined parts) is.means.parts parts (subst (λ body. AreParts body is.means.parts) bodies is.body) cut.body
