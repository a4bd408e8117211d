-- The directory of an archive.
use Rattle.std.proofs.Common.{◌≡◌, sym, subst, ℕ, List, Option, Result, Ok, Err, Some, None}
use Rattle.archive_places.specs.declared.places.Places.{Places}
use Rattle.archive_places.specs.Opened.{OpensPlaces}
use Rattle.file_lines.specs.Directory.{directory}
use Rattle.command_answers.specs.Listing.{PrintsDirectory}
use Rattle.command_refusals.specs.declared.outcome.ReadRefusal.{ReadRefusal}
use Rattle.sink_pieces.specs.Output.{Grew, GrewByFront}

pub directory_done : (bytes old new : Option (List ℕ)) (a : Places) → OpensPlaces bytes a → Grew old new (directory a.files) → PrintsDirectory (Ok tt) bytes old new
directory_done None old new a opened grew = tt
directory_done (Some bytes) old new a opened grew = λ h es stood. subst (λ files. Grew old new (directory files)) (opened h es stood).files grew

pub directory_failed : (bytes old new : Option (List ℕ)) (a : Places) (r : Result Unit ReadRefusal) (refusal : ReadRefusal) → r ≡ Err refusal → OpensPlaces bytes a → GrewByFront old new (directory a.files) → PrintsDirectory r bytes old new
directory_failed None old new a r refusal e opened front = tt
directory_failed (Some bytes) old new a r refusal e opened front = subst (λ r. PrintsDirectory r (Some bytes) old new) (sym e) (λ h es stood. subst (λ files. GrewByFront old new (directory files)) (opened h es stood).files front)
