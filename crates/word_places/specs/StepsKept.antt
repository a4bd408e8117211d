-- Log types that are kept, taken one after the other.
use Rattle.std.proofs.Common.{◌∙◌, ap, append_assoc, refl, sym}
use Rattle.std.proofs.lemmas.List.{append-nil}
use Rattle.std.specs.Prelude.{ℕ, List, ◌++◌}
use Rattle.word_places.specs.Kept.{KeepsTexts}
use Rattle.word_places.specs.Taken.{TakesBoth, TakesNone}

pub keeps_none : TakesNone KeepsTexts
keeps_none kept = record { texts = sym (append-nil kept.texts); left_out = refl; places = refl }

pub keeps_both : TakesBoth KeepsTexts
keeps_both a b c xs ys one two = record {
  texts = two.texts ∙ ap (λ (l : List (List ℕ)). l ++ ys) one.texts ∙ append_assoc a.texts xs ys;
  left_out = two.left_out ∙ one.left_out;
  places = two.places ∙ one.places;
}
