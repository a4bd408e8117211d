-- What holds before each record of a store that runs, for proofs alone.
use Rattle.std.specs.Prelude.{◌≡◌, ◌+◌}
use Rattle.record_format.specs.Header.{IsHeader}
use Rattle.archive_meaning.specs.Spelled.{end_of}
use Rattle.archive_meaning.specs.Stands.{IsLegal}
use Rattle.disk_seal.specs.Told.{IfTold}
use Rattle.disk_seal.specs.View.{KnowsTypes, KnowsWords}
use Rattle.disk_seal.specs.Adding.{Front}

pub record IsGoodFront (f : Front) : Type 0 where
  pub is_header : IsHeader f.header
  pub legal : IfTold f.told (IsLegal f.header f.journal)
  pub gate : IfTold f.told (f.place + 1 ≡ end_of f.header f.journal)
  pub of_types : KnowsTypes f.told f.header f.types f.types_saved f.journal
  pub of_words : KnowsWords f.told f.header f.words f.words_saved f.journal
