-- The texts of an archive, however they are kept.
use Rattle.std.specs.Prelude.{◌≤◌, ℕ, List, [], ◌++◌, length}
use Rattle.record_format.specs.declared.header.Header.{Header}
use Rattle.row_codec.specs.declared.namer.Which.{Which}
use Rattle.row_codec.specs.declared.namer.Which.TheVariants.{Types, Words}
use Rattle.plain_list.specs.Texts.{AreDistinct}

-- those of log types and the words of variables, each at its number; how many each may be; and the archive's version
pub record Kept : Type 0 where
  pub types : List (List ℕ)
  pub words : List (List ℕ)
  pub types_limit : ℕ
  pub words_limit : ℕ
  pub version : ℕ

-- none yet
abbrev pub none_of : Header → Kept
none_of h = record { types = []; words = []; types_limit = h.types_limit; words_limit = h.words_limit; version = h.version }

abbrev pub texts_of : Which → Kept → List (List ℕ)
texts_of Types k = k.types
texts_of Words k = k.words

abbrev pub limit_of : Which → Kept → ℕ
limit_of Types k = k.types_limit
limit_of Words k = k.words_limit

-- with further ones behind those of a dictionary
abbrev pub with_texts : Which → List (List ℕ) → Kept → Kept
with_texts Types texts k = record k { types = k.types ++ texts }
with_texts Words texts k = record k { words = k.words ++ texts }

-- they may be a dictionary's: none stands twice, and they are not above the limit
pub record MayHold (limit : ℕ) (texts : List (List ℕ)) : Type 0 where
  pub distinct : AreDistinct texts
  pub most : length texts ≤ limit
