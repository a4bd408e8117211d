-- The locks of both books around files that are moved.
use Rattle.std.specs.Prelude.{◌≡◌, ℕ, List, [], ◌∷◌, is_some, length, Option, Some}
use Rattle.std.specs.List.{Contains}
use Rattle.log_seams.specs.declared.disk.Disk.{Ghosts as DiskGhosts}
use Rattle.turn_lock.specs.declared.grows.Grows.{Ghosts}
use Rattle.turn_lock.specs.Words.{lock_by, lock_of}
use Rattle.row_codec.specs.declared.namer.Which.TheVariants.{Types as WhichTypes, Words as WhichWords}
use Rattle.dict_core.specs.declared.grows.TheConstants.{WORDS_FIRST}
use Rattle.dict_core.specs.Books.{BookState}
use Rattle.dict_lock.specs.Cached.{pass_in}
use Rattle.dict_lock.specs.Shared.{BookPass}
use Rattle.disk_journal.specs.declared.journal.Journal.{Journal}
use Rattle.disk_journal.specs.Journal.{state_of}
use Rattle.archive_meaning.specs.Spelled.{types_of}
use Rattle.ingest_meaning.specs.WordsIn.{words_of}
use Rattle.ingest_fork.specs.Passes.{Joined}
use Rattle.disk_seal.specs.View.{StoreView}
use Rattle.ingest_workers.specs.Full.{WasFull, book_of}
use Rattle.ingest_workers.specs.Ingested.{OpensBook, books_at, told_entries}
use Rattle.ingest_workers.specs.StartedWorkers.{BookMaker, EndsBook}
use Rattle.ingest_workers.specs.NoRoom.{WereKnown}
use Rattle.archive_merge.specs.declared.file.Merged.{Merged}
use Rattle.archive_merge.specs.declared.merger.BookPasses.{BookPasses}
use Rattle.archive_merge.specs.declared.merger.Stopped.{Stopped}
use Rattle.archive_merge.specs.Behind.{HasStopped, HasStored, SecondView, done_of, needed_of, old_texts}

module _ {G : Ghosts BookState (List ℕ) ℕ} where
  -- the passes are of the makers' locks
  pub record AreOf (types words : BookMaker G) (b : BookPasses) : Type 0 where
    pub of_types : lock_of (pass_in b.types) ≡ lock_by types
    pub of_words : lock_of (pass_in b.words) ≡ lock_by words

  -- the makers joined the passes of the store, and then these
  pub record HasEnded (types types' words words' : BookMaker G) (types_reader words_reader : BookPass) (b : BookPasses)
      : Type 0 where
    pub types_middle : BookMaker G
    pub words_middle : BookMaker G
    pub types_read : Joined types types_middle (types_reader ∷ []) 0
    pub words_read : Joined words words_middle (words_reader ∷ []) 0
    pub types_ended : Joined types_middle types' (pass_in b.types ∷ []) 0
    pub words_ended : Joined words_middle words' (pass_in b.words ∷ []) 0

module _ {D : Type 0} {d : DiskGhosts D} {G : Ghosts BookState (List ℕ) ℕ} where
  -- the maker is that of a lock just made of a book with the journal's log types, or its words, of which there are so many
  abbrev pub OpensTypes : ℕ → Journal D d → BookMaker G → Type 0
  OpensTypes saved before m = OpensBook 0 (is_some (state_of before).disk.seen) before.header.types_limit
      (types_of (told_entries (state_of before))) saved m

  abbrev pub OpensWords : ℕ → Journal D d → BookMaker G → Type 0
  OpensWords saved before m = OpensBook WORDS_FIRST (is_some (state_of before).disk.seen) before.header.words_limit
      (words_of (told_entries (state_of before))) saved m

  -- The files were moved, and the passes of both books ended. What stopped a file has its cause, by what the makers of the two
  -- books know at the end.
  pub record WereMovedOver (s : SecondView) (first : ℕ) (stop : Option Stopped) (files files' : List Merged)
      (before after : Journal D d) (types types' words words' : BookMaker G) : Type 0 where
    pub store : StoreView D
    pub stored : HasStored s first stop files files' before after store
    pub of_types : EndsBook (needed_of s first (done_of first (length files') stop) files' WhichTypes) types types' store.types
    pub of_words : EndsBook (needed_of s first (done_of first (length files') stop) files' WhichWords) words words' store.words
    pub why : (why : Stopped) → stop ≡ Some why
        → HasStopped (λ book count. WasFull (Contains (old_texts s book)) count (book_of (books_at types' words') book))
        (WereKnown (books_at types' words')) s first files' before after why
