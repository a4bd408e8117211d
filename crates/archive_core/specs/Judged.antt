-- What a judge keeps of its dictionaries and files.
use Rattle.std.specs.Prelude.{◌≡◌, ℕ, ◌≤◌, List, All, length}
use mathlib.Core.List.{IsPrefix}
use Rattle.logtype_text.specs.Fair.{IsFairType, IsFairWord}
use Rattle.record_format.specs.declared.header.Header.{Header}
use Rattle.record_format.specs.Header.{IsHeader}
use Rattle.dict_core.specs.Books.{BookState}
use Rattle.archive_meaning.specs.declared.TheConstants.{MAX_FILES, MAX_MESSAGES}
use Rattle.archive_meaning.specs.declared.sums.FileSum.{FileSum}
use Rattle.archive_meaning.specs.Legal.{IsBook}
use Rattle.archive_core.specs.declared.log_types.LogType.{LogType}
use Rattle.archive_core.specs.LogTypes.{AreKnown}

pub record IsJudge (header : Header) (version : ℕ) (types words : BookState) (known : List LogType)
    (layouts : List (List ℕ)) (files : List FileSum) (end : ℕ) : Type 0 where
  pub good_header : IsHeader header
  pub same_version : version ≡ header.version
  pub types_limit : types.limit ≡ header.types_limit
  pub words_limit : words.limit ≡ header.words_limit
  pub types_book : IsBook IsFairType types.limit types.texts
  pub types_known : AreKnown types.texts known
  pub types_laid : IsPrefix layouts types.texts
  pub words_book : IsBook IsFairWord words.limit words.texts
  pub few_files : length files ≤ MAX_FILES
  pub few_messages : All (λ (f : FileSum). f.messages ≤ MAX_MESSAGES) files
  pub short : end ≤ header.length_limit
