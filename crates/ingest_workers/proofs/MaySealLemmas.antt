-- What is in the open segment may follow.
use Rattle.std.proofs.Common.{◌≡◌, ℕ, ◌<◌, ◌≤◌, ◌^◌, List, [], ◌++◌, false, length, refl, sym, ap, ◌∙◌, subst, append-nil, All}
use Rattle.std.specs.Prelude.{is_some, Result, Ok, Err, OnErr}
use Rattle.std.specs.List.Sorted.{IsStrictlyIncreasing}
use Rattle.disk_seal.specs.Planned.{HasNumbers}
use Rattle.segment_format.proofs.SetLemmas.{rise_of, up_sorted_set}
use Rattle.std.proofs.lemmas.List.Elements.{All-nil}
use Rattle.log_seams.specs.Disk.{DiskState}
use Rattle.turn_lock.specs.Words.{seen, own_list, number_of, IsReady}
use Rattle.turn_lock.proofs.FrontLemmas.{prefix_self}
use Rattle.dict_lock.specs.Shared.{BookPass, GoesOn}
use Rattle.column_store.specs.Row.{IsRow, variable_count}
use Rattle.segment_format.specs.Layout.{sorted_set}
use Rattle.row_codec.specs.Means.{AreCanonical}
use Rattle.row_codec.specs.Messages.{IsMessage}
use Rattle.archive_meaning.specs.Held.{last_is_open, messages_of, is_whole}
use Rattle.archive_meaning.specs.Legal.{AddsSegment}
use Rattle.disk_seal.specs.declared.draft.Draft.{Draft}
use Rattle.disk_seal.specs.declared.entry.StoreEntry.{StoreEntry}
use Rattle.disk_seal.specs.declared.namer.LockNamer.{LockNamer}
use Rattle.disk_seal.specs.Fixed.{KeeperPass}
use Rattle.disk_seal.specs.Draft.{MayFollow, journal_seen}
use Rattle.disk_seal.specs.Planned.{segment_of}
use Rattle.disk_seal.specs.Prepare.{MayBeNext}
use Rattle.ingest_workers.specs.declared.open_segment.OpenSegment.{OpenSegment}
use Rattle.ingest_workers.specs.Journal.{HasAdded, Holds}
use Rattle.ingest_workers.specs.MaySeal.{HasNoRoomFor, MaySeal}
use Rattle.ingest_workers.specs.Namer.{HasNoRoom, HasOnlySeen, types_pass, words_pass, types_seen, words_seen}
use Rattle.ingest_workers.specs.Sealed.{HasNotSealed}
use Rattle.ingest_workers.proofs.SealLemmas.{if_told, of_told}

module _ {D : Type 0} where
  pub nothing_added : (p : KeeperPass D) → IsReady p → HasAdded p p []
  nothing_added p ready = record {
    still = record { lock = refl; number = refl; about_is = refl };
    ready = ready;
    seen_on = prefix_self (seen p);
    own = sym (append-nil (own_list p));
    behind = All-nil (λ (x : ℕ × StoreEntry). length (seen p) ≤ x.0);
  }

  pub nothing_sealed : (state : D → DiskState) (p : KeeperPass D) → IsReady p → HasNotSealed state p p
  nothing_sealed state p ready = record {
    more = [];
    added = nothing_added p ready;
    segments = λ a is. if_told (is_some (state a.fixed.opened).seen) _ (λ told. refl);
  }

same_book : (p : BookPass) → IsReady p → GoesOn p p
same_book p ready = record { still = record { lock = refl; number = refl; about_is = refl }; ready = ready; seen_on = prefix_self (seen p) }

module _ {R A B C : Type 0} where
  pub seen_same : (n : LockNamer R A B C) → IsReady (types_pass n) → IsReady (words_pass n) → HasOnlySeen n n
  seen_same n types words = record { version = refl; types = same_book (types_pass n) types; words = same_book (words_pass n) words; own_types = refl; own_words = refl }

module _ {D R A B C : Type 0} (state : D → DiskState) where
  -- the draft of an open segment that may be sealed, with its words, may be the next segment
  pub next_of : (p : KeeperPass D) (n : LockNamer R A B C) (segment : OpenSegment) (d : Draft) → MaySeal state p n segment → segment_of d ≡ segment_of segment.draft → d.words ≡ sorted_set segment.used.items
      → All IsRow segment.draft.columns.rows → variable_count segment.draft.columns.rows < 2 ^ 32 → MayBeNext state d p (types_seen n) (words_seen n)
  next_of p n segment d may same words fit variables a is =
      if_told (is_some (state a.fixed.opened).seen) _ (λ told.
      let holds : Holds a.fixed.header (journal_seen (seen p)) (number_of p) may.covered false false = of_told (is_some (state a.fixed.opened).seen) _ told (may.so_far a is) in
      let messages_are = ap (λ f. messages_of f holds.held.pieces) may.file ∙ holds.messages_are in
      let adds : AddsSegment a.fixed.header.version (record holds.held { types = types_seen n; words = words_seen n }) (segment_of segment.draft) may.messages = record {
        first = may.first ∙ sym (ap length messages_are);
        goes_on = ap (λ f. is_whole f holds.held.pieces) may.file ∙ holds.whole_is;
        most = may.most;
        rows = may.few;
        variables = variables;
        fit = fit;
        some = may.some;
        ended = may.ended;
        end = λ last open_end. ap (λ l. last_is_open (l ++ may.messages)) messages_are ∙ may.end last open_end;
        canonical = subst (λ v. AreCanonical v segment.draft.columns.rows (types_seen n) (words_seen n) may.messages) (may.worker.namer.version a is) may.has.canonical;
        each = subst (λ v. All (IsMessage v) may.messages) (may.worker.namer.version a is) may.each;
      } in
      let may_follow : MayFollow a.fixed.header (journal_seen (seen p)) (types_seen n) (words_seen n) (segment_of segment.draft) d.words = record {
        held = holds.held;
        run = holds.run;
        named = subst (λ f. f < length holds.held.names) (sym may.file) holds.named;
        messages = may.messages;
        adds = adds;
        are = words ∙ ap sorted_set may.has.used;
      } in
      subst (λ s. MayFollow a.fixed.header (journal_seen (seen p)) (types_seen n) (words_seen n) s d.words) (sym same) may_follow)

  pub room_for : (segment : OpenSegment) (d : Draft) (end need : ℕ) (p q : KeeperPass D) (m n : LockNamer R A B C) → segment_of d ≡ segment_of segment.draft → d.words ≡ sorted_set segment.used.items → HasNoRoom state d end need p q m n → HasNoRoomFor state segment end need p q m n
  room_for segment d end need p q m n is words room = record { draft = d; is = is; words = words; no_room = room }

pub on_err : {T E : Type 0} (r : Result T E) (P : Type 0) → P → OnErr r P
on_err (Ok x) P y = tt
on_err (Err e) P y = y

pub numbers_of : (d : Draft) (used : List ℕ) → d.words ≡ sorted_set used → length d.words < 2 ^ 32 → HasNumbers d
numbers_of d used is few = record { rise = subst IsStrictlyIncreasing (sym is) (rise_of 0 (sorted_set used) (up_sorted_set used)); count = few }
