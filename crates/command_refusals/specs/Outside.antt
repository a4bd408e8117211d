-- What the outside tells around a call.
use Rattle.std.specs.Prelude.{ℕ, List, Option}

-- the bytes of each log, and those of it that were not read; what the two outputs took before the call and have taken
-- after it; and the counts of faults before and after it
pub record Outside : Type 0 where
  pub content : List ℕ → Option (List ℕ)
  pub unread : List ℕ → Option (List ℕ)
  pub opens : List ℕ → ℕ × ℕ
  pub reads : List ℕ → ℕ × ℕ
  pub out : Option (List ℕ) × Option (List ℕ)
  pub out_faults : ℕ × ℕ
  pub err : Option (List ℕ) × Option (List ℕ)
  pub err_faults : ℕ × ℕ

-- what a shelf and two sinks tell around a call
abbrev pub around : {H K : Type 0}
    → (H → List ℕ → Option (List ℕ)) → (H → List ℕ → Option (List ℕ))
    → (H → List ℕ → ℕ) → (H → List ℕ → ℕ)
    → (K → Option (List ℕ)) → (K → ℕ)
    → H → H → K → K → K → K → Outside
around content unread open_faults read_faults written faults shelf shelf_after out out_after err err_after = record {
  content = content shelf;
  unread = unread shelf_after;
  opens = λ name. (open_faults shelf name, open_faults shelf_after name);
  reads = λ name. (read_faults shelf name, read_faults shelf_after name);
  out = (written out, written out_after);
  out_faults = (faults out, faults out_after);
  err = (written err, written err_after);
  err_faults = (faults err, faults err_after);
}

-- what two sinks tell around a call that touches no log, whatever the logs tell
abbrev pub AroundSinks : {K : Type 0} → (K → Option (List ℕ)) → (K → ℕ) → K → K → K → K → (Outside → Type 0) → Type 0
AroundSinks written faults out out_after err err_after P =
    (content unread : List ℕ → Option (List ℕ)) (opens reads : List ℕ → ℕ)
    → P (record {
      content = content;
      unread = unread;
      opens = λ name. (opens name, opens name);
      reads = λ name. (reads name, reads name);
      out = (written out, written out_after);
      out_faults = (faults out, faults out_after);
      err = (written err, written err_after);
      err_faults = (faults err, faults err_after);
    })
