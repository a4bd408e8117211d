-- What becomes of a pass that seals a draft.
use Rattle.std.specs.Prelude.{◌≡◌, ℕ, ◌&&◌, List, [], ◌∷◌, ◌++◌, length}
use Rattle.log_seams.specs.Disk.{DiskState}
use Rattle.turn_lock.specs.Words.{seen}
use Rattle.row_codec.specs.Means.{AreCanonical}
use Rattle.disk_seal.specs.declared.draft.Draft.{Draft}
use Rattle.disk_seal.specs.declared.entry.StoreEntry.{StoreEntry}
use Rattle.disk_seal.specs.Draft.{journal_seen}
use Rattle.disk_seal.specs.Fixed.{KeeperPass}
use Rattle.disk_seal.specs.Planned.{segment_of}
use Rattle.ingest_workers.specs.Journal.{HasAdded, HasSoFar, Holds, WhereTold, sealed_by}

module _ {D : Type 0} where
  -- it has added the draft as a segment, and no other
  pub record HasSealed (state : D → DiskState) (d : Draft) (p q : KeeperPass D) : Type 0 where
    pub more : List (ℕ × StoreEntry)
    pub added : HasAdded p q more
    pub segments : WhereTold state p (λ h. sealed_by more ≡ segment_of d ∷ [])

  -- it has added no segment
  pub record HasNotSealed (state : D → DiskState) (p q : KeeperPass D) : Type 0 where
    pub more : List (ℕ × StoreEntry)
    pub added : HasAdded p q more
    pub segments : WhereTold state p (λ h. sealed_by more ≡ [])

  -- Where the file had the messages before those of the draft, and the draft's rows are the encodings of these by the texts, it
  -- has both now, and is whole and ended as the draft is marked.
  abbrev pub NowHas : (D → DiskState) → Draft → ℕ → List (List ℕ) → List (List ℕ) → KeeperPass D → KeeperPass D → Type 0
  NowHas state d version types words p q =
      (covered messages : List (List ℕ)) → d.first ≡ length covered → HasSoFar state p covered
      → WhereTold state p (λ h. (version ≡ h.version) × AreCanonical version d.columns.rows types words messages)
      → WhereTold state p (λ h. Holds h (journal_seen (seen q)) d.file (covered ++ messages) d.last (d.last && d.ended))
