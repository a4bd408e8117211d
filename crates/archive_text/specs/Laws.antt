-- What follows of the texts that bytes have of a file.
use Rattle.std.specs.Prelude.{◌≡◌, ℕ, List, Option}
use Rattle.archive_text.specs.Told.{FileParts, HasText, IsText, Tells, disk_name}

-- the bytes have one text of a file
abbrev pub OneText : Type 0
OneText = (f : FileParts) (bytes text other : List ℕ) → IsText f bytes text → IsText f bytes other → text ≡ other

-- one thing is told of it
abbrev pub OneTold : Type 0
OneTold = (f : FileParts) (seen told other : Option (List ℕ)) → Tells f seen told → Tells f seen other → told ≡ other

-- so it is one value
abbrev pub OneValue : Type 0
OneValue = (f : FileParts) (seen : Option (List ℕ)) → IsProp (HasText f seen)

-- the name of a source tells the borrow of its disk, and the disk's bytes and count of faults
abbrev pub OneName : Type 0
OneName =
    (name other : ℕ) (seen told : Option (List ℕ)) (faults count : ℕ) → disk_name name seen faults ≡ disk_name other told count
    → (name ≡ other) × (seen ≡ told) × (faults ≡ count)
