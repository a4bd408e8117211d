-- What was opened of a disk is what it has while its bytes stay.
use Rattle.std.proofs.Common.{◌≡◌, ℕ, List, Option, arith, inl, refl, sym, subst}
use Rattle.log_seams.specs.Disk.{DiskState, Rests}
use Rattle.archive_open.specs.Shown.{Opens, Shown}
use Rattle.archive_places.specs.Opened.{OpensPlaces}
use Rattle.archive_places.specs.declared.places.Places.{Places}

pub opens_after : (old new : Option (List ℕ)) (a : Shown) → new ≡ old → Opens old a → Opens new a
opens_after old new a same opened = subst (λ s. Opens s a) (sym same) opened

pub places_after : (old new : Option (List ℕ)) (p : Places) → new ≡ old → OpensPlaces old p → OpensPlaces new p
places_after old new p same opened = subst (λ s. OpensPlaces s p) (sym same) opened

-- a disk of which no call was made was only read
pub rests_none : (d : DiskState) → Rests d d
rests_none d = record { seen = refl; no_more = λ c left. left; no_fewer = λ c left. left; time = record { later = omega arith; nothing_else = λ t c le left. inl left; keeps = λ t c le left. left } }
