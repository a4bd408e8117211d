-- What was taken in fits in the dictionaries of the new archive.
use Rattle.std.proofs.Common.{◌++◌, ℕ, List}
use Rattle.std.specs.Prelude.{All}
use Rattle.std.specs.List.{AllZip, Contains}
use Rattle.std.proofs.lemmas.List.Elements.{All-contains}
use Rattle.logtype_text.specs.Laws.{OneListOfParts}
use Rattle.record_format.specs.declared.header.Header.{Header}
use Rattle.row_codec.specs.declared.namer.Which.{Which}
use Rattle.archive_meaning.specs.declared.entry.JournalEntry.{JournalEntry}
use Rattle.archive_meaning.specs.Held.{File, files_from}
use Rattle.archive_meaning.specs.Stands.{IsLegal}
use Rattle.command_answers.specs.Ingested.{FileOutcome, FitIn, WasTakenIn}
use Rattle.file_outcomes.proofs.ContentLemmas.{IsFileFor}
use Rattle.file_outcomes.proofs.FittingLemmas.{IsEncodedBy, IsEncodedFile, encoded_from, fit_in, taken_encoded}

module _ (one : OneListOfParts) (h : Header) (named added : List JournalEntry) (legal : IsLegal h (named ++ added)) (names : List (List ℕ)) (came : List FileOutcome)
    (zip : AllZip (IsFileFor h.version) came (files_from 0 names legal.held.pieces)) where
  file_encoded : (f : File) → Contains (files_from 0 names legal.held.pieces) f → All (IsEncodedBy h.version legal.held) f.messages
  file_encoded f there = All-contains (IsEncodedFile h (named ++ added) legal) (files_from 0 names legal.held.pieces) f (encoded_from h (named ++ added) legal 0 names) there

  -- what was taken in is encoded by the texts that are held
  encoded : (m : List ℕ) → WasTakenIn h.version came m → IsEncodedBy h.version legal.held m
  encoded = taken_encoded (IsFileFor h.version) h.version legal.held came (files_from 0 names legal.held.pieces) zip (λ c f is. record { messages = is.messages; front = is.first }) file_encoded

  pub all_fit : (book : Which) → FitIn h named came book
  all_fit = fit_in one h named added legal came encoded
