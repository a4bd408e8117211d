-- When a dictionary is full.
use Rattle.std.proofs.Common.{◌≡◌, ℕ, zero, suc, List, [], ◌∷◌, sym, refl, ap, ◌∙◌, Some, slice_get}
use Rattle.std.specs.List.{Contains}
use Rattle.std.proofs.lemmas.Option.{slice_get_within, get_or_from_slice_get}
use Rattle.std.proofs.lemmas.List.Elements.{All-weaker}
use Rattle.turn_lock.proofs.FrontLemmas.{prefix_self, prefix_trans}
use Rattle.dict_lock.specs.Shared.{BookPass, GoesOn}
use Rattle.row_codec.specs.declared.namer.Which.{Which}
use Rattle.row_codec.specs.declared.namer.Which.TheVariants.{Types, Words}
use Rattle.row_codec.specs.Naming.{Known, MeetsLimit}
use Rattle.disk_seal.specs.Known.{known_of, limit_in}
use Rattle.ingest_workers.specs.Full.{Books, IsMore, WasFull, WasFullFor, book_of, books_by}
use Rattle.ingest_meaning.specs.Dictionaries.{IsFullBy, IsTextOf}

-- ---- it is met in naming a message

contained : (texts : List (List ℕ)) (i : ℕ) (t : List ℕ) → slice_get texts i ≡ Some t → Contains texts t
contained texts i t at = (i, slice_get_within texts i t at, get_or_from_slice_get texts i t t at)

alone : (x t : List ℕ) (i : ℕ) → slice_get (x ∷ []) i ≡ Some t → t ≡ x
alone x t zero at = cc (at)
alone x t (suc i) at = absurd (cc (at))

pub was_full : (version : ℕ) (message : List ℕ) (book : Which) (count : ℕ) (types before words : BookPass) → MeetsLimit version message book count (known_of types) (known_of before) (known_of words)
    → WasFullFor version (λ m. m ≡ message) (books_by types words) book count
was_full version message Types count types before words met = let limit = met.2 in record {
  limit = limit.most;
  front = (known_of types).texts;
  begins = prefix_self (known_of types).texts;
  all = limit.all;
  text = limit.text;
  is = (message, refl, (met.0, met.1, alone _ limit.text limit.at limit.here));
  new = limit.new;
}
was_full version message Words count types before words met = let limit = met.3 in record {
  limit = limit.most;
  front = (known_of words).texts;
  begins = prefix_self (known_of words).texts;
  all = limit.all;
  text = limit.text;
  is = (message, refl, (met.0, met.1, contained _ limit.at limit.text limit.here));
  new = limit.new;
}

-- ---- of more messages, and when more is known

text_wider : (version : ℕ) (P Q : List ℕ → Type 0) → ((m : List ℕ) → P m → Q m) → (book : Which) (t : List ℕ) → IsTextOf version P book t → IsTextOf version Q book t
text_wider version P Q f Types t is = (is.0, f is.0 is.1, is.2)
text_wider version P Q f Words t is = (is.0, f is.0 is.1, is.2)

full_on : (P Q : List ℕ → Type 0) → ((t : List ℕ) → P t → Q t) → (count : ℕ) (old new : Known) → IsMore old new → WasFull P count old → WasFull Q count new
full_on P Q f count old new more full = record {
  limit = full.limit ∙ sym more.limit;
  front = full.front;
  begins = prefix_trans full.front old.texts new.texts full.begins more.front;
  all = full.all;
  text = full.text;
  is = f full.text full.is;
  new = full.new;
}

pub full_wider : (version : ℕ) (P Q : List ℕ → Type 0) → ((m : List ℕ) → P m → Q m) → (old new : Books) → ((book : Which) → IsMore (book_of old book) (book_of new book))
    → (book : Which) (count : ℕ) → WasFullFor version P old book count → WasFullFor version Q new book count
full_wider version P Q f old new more book count full = full_on (IsTextOf version P book) (IsTextOf version Q book) (text_wider version P Q f book) count (book_of old book) (book_of new book) (more book) full

pub more_self : (known : Known) → IsMore known known
more_self known = record { front = prefix_self known.texts; limit = refl }

pub more_seen : (p q : BookPass) → GoesOn p q → IsMore (known_of p) (known_of q)
more_seen p q goes = record { front = goes.seen_on; limit = ap limit_in goes.still.about_is }

pub books_on : (t u w v : BookPass) → GoesOn t u → GoesOn w v → (book : Which) → IsMore (book_of (books_by t w) book) (book_of (books_by u v) book)
books_on t u w v types words Types = more_seen t u types
books_on t u w v types words Words = more_seen w v words

-- it is full by texts of a wider kind
pub full_by_wider : (P Q next next' : List ℕ → Type 0) → ((t : List ℕ) → P t → Q t) → ((t : List ℕ) → next t → next' t) → (count : ℕ) → IsFullBy P next count → IsFullBy Q next' count
full_by_wider P Q next next' f g count full = record {
  texts = full.texts;
  all = full.all;
  distinct = full.distinct;
  each = All-weaker P Q f full.texts full.each;
  text = full.text;
  is = g full.text full.is;
  new = full.new;
}
