-- Rows that are decided by their verdicts, and by the readings of a plan.
use Rattle.std.proofs.Common.{◌≡◌, ◌↔◌, ℕ, Bool, true, false, IsTrue, List, refl, subst, sym}
use Rattle.std.proofs.lemmas.Bool.{false≢true}
use Rattle.wild_match.specs.Matches.{Match}
use Rattle.column_store.specs.declared.row.Row.{Row}
use Rattle.row_codec.specs.Laws.{MeaningIsSpelling}
use Rattle.row_codec.specs.Means.{HasSpelling, IsCanonical, IsSpelling}
use Rattle.query_plan.specs.declared.pieces.Piece.{Piece}
use Rattle.query_plan.specs.Laws.{WideIsExact, WideIsWider}
use Rattle.query_plan.specs.Pieces.{flat}
use Rattle.subquery_filter.specs.declared.verdicts.Verdict.{Verdict}
use Rattle.subquery_filter.specs.declared.verdicts.Verdict.TheVariants.{Certain, Rejected, Tried}
use Rattle.group_count.specs.Judged.{Judges}

module _ (pieces : List Piece) (types words : List (List ℕ)) (row : Row) (wider : WideIsWider) where
  rejected_left : Judges pieces types words row Rejected false
  rejected_left pattern version message are no_one few told canonical =
      (λ e. absurd (false≢true e), λ matched. absurd (told version message canonical (subst (λ ps. Match (flat ps) message) (sym are) (wider pattern message matched))))

  pub left_rejected : (verdict : Verdict) → verdict ≡ Rejected → Judges pieces types words row verdict false
  left_rejected verdict is = subst (λ v. Judges pieces types words row v false) (sym is) rejected_left

  module _ (exact : WideIsExact) (spells : MeaningIsSpelling) where
    certain_found : Judges pieces types words row Certain true
    certain_found pattern version message are no_one few told canonical =
        (λ _. exact pattern message no_one few (subst (λ ps. Match (flat ps) message) are (told message (spells row types words message canonical.means))), λ _. refl)

    pub found_certain : (verdict : Verdict) → verdict ≡ Certain → Judges pieces types words row verdict true
    found_certain verdict is = subst (λ v. Judges pieces types words row v true) (sym is) certain_found

    pub as_tried : (verdict : Verdict) (found : Bool) → verdict ≡ Tried → Judges pieces types words row Tried found → Judges pieces types words row verdict found
    as_tried verdict found is = subst (λ v. Judges pieces types words row v found) (sym is)

    pub told_tried : (found : Bool) → ((message : List ℕ) → IsSpelling row types words message → IsTrue found ↔ Match (flat pieces) message)
        → Judges pieces types words row Tried found
    told_tried found accepts pattern version message are no_one few told canonical =
        let reads = accepts message (spells row types words message canonical.means) in (
          λ e. exact pattern message no_one few (subst (λ ps. Match (flat ps) message) are (reads.0 e)),
          λ matched. reads.1 (subst (λ ps. Match (flat ps) message) (sym are) (wider pattern message matched)),
        )

    pub none_fits : ¬ HasSpelling row types words → (version : ℕ) (message : List ℕ) → ¬ IsCanonical version row types words message
    none_fits never version message canonical = never (message, spells row types words message canonical.means)
