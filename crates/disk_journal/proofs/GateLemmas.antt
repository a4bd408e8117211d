-- What stands at the gates of a journal at its end.
use Rattle.std.proofs.Common.{◌≡◌, ◌≢◌, inl, inr, ℕ, zero, suc, ◌+◌, ◌-◌, ◌^◌, ◌<◌, ◌≤◌, List, [], ◌∷◌, ◌++◌, length, take, drop, get_or, Option, Some, None, refl, sym, ◌∙◌, ap, subst, arith, length-append, length-drop, take-append-drop}
use Rattle.std.specs.Prelude.{Result, Ok, Err, IfOk, IfSome, IfNone, IsNone}
use Rattle.std.proofs.lemmas.List.{append-nil, append_assoc, drop_at, drop-drop, get_or-drop, length-take-le}
use Rattle.std.proofs.Math.Seq.{take-add}
use Rattle.disk_journal.specs.Record.{Saved, body, spelled, payload_len, first_of, records, Fits, AllFit}
use Rattle.disk_journal.specs.Place.{IsSettled, AtEnd, IsDamaged, HasClosedGate, ClosedAt, HasRecord, OpenAt}
use Rattle.disk_journal.specs.Gates.{HasGate, GateIn, RecordIn, HasFound, AllBefore, IsLast, IsGate, HasNoGate}
use Rattle.disk_journal.specs.State.{JournalState, IsAtEnd}
use Rattle.disk_journal.specs.declared.walk.RecordPlace.{RecordPlace}
use Rattle.record_format.specs.Header.{header_bytes}
use Rattle.record_format.specs.declared.header.Header.{Header}
use Rattle.disk_journal.specs.Calls.{OnlyReads, StaysAt}
use Rattle.disk_journal.proofs.SpellingLemmas.{length-body, spelled-push, first_of-body, payload_len-body}

spelled-append : (rs ss : List Saved) → spelled (rs ++ ss) ≡ spelled rs ++ spelled ss
spelled-append [] ss = refl
spelled-append (r ∷ rs) ss =
    ap (λ (l : List ℕ). 1 ∷ body r ++ l) (spelled-append rs ss) ∙ sym (append_assoc (1 ∷ body r) (spelled rs) (spelled ss))

fit_drop : (k : ℕ) (rs : List Saved) → AllFit rs → AllFit (drop k rs)
fit_drop zero rs fit = fit
fit_drop (suc k) [] fit = tt
fit_drop (suc k) (r ∷ rs) fit = fit_drop k rs fit.1

-- records and a closed gate begin with an open gate only where there is a record
shut_last : (rs : List Saved) (gate : ℕ) (rest : List ℕ) → get_or (spelled rs ++ gate ∷ rest) 0 0 ≢ 1 → rs ≡ []
shut_last [] gate rest shut = refl
shut_last (r ∷ rs) gate rest shut = absurd (shut refl)

open_next : (rs : List Saved) (gate : ℕ) (rest tail : List ℕ) (r : Saved) → AllFit rs → Fits r → gate ≢ 1 → spelled rs ++ gate ∷ rest ≡ 1 ∷ body r ++ tail → (ss : List Saved) × (rs ≡ r ∷ ss)
open_next [] gate rest tail r fit one shut is = let opened : gate ≡ 1 = cc in absurd (shut opened)
open_next (q ∷ ss) gate rest tail r fit one shut is =
    let both : 1 ∷ body q ++ (spelled ss ++ gate ∷ rest) ≡ 1 ∷ body r ++ tail = sym (append_assoc (1 ∷ body q) (spelled ss) (gate ∷ rest)) ∙ is in
    let first : q ≡ r = sym (first_of-body q _ fit.0) ∙ ap first_of both ∙ first_of-body r _ one in
    (ss, ap (λ (s : Saved). s ∷ ss) first)

whole_first : (rs : List Saved) (gate : ℕ) (rest : List ℕ) → AllFit rs → gate ≢ 1 → get_or (spelled rs ++ gate ∷ rest) 0 0 ≡ 1 → 10 + payload_len (spelled rs ++ gate ∷ rest) ≤ length (spelled rs ++ gate ∷ rest)
whole_first [] gate rest fit shut opened = absurd (shut opened)
whole_first (r ∷ rs) gate rest fit shut opened =
    let apart : spelled (r ∷ rs) ++ gate ∷ rest ≡ 1 ∷ body r ++ (spelled rs ++ gate ∷ rest) = append_assoc (1 ∷ body r) (spelled rs) (gate ∷ rest) in
    let long : payload_len (spelled (r ∷ rs) ++ gate ∷ rest) ≡ length r.payload = ap payload_len apart ∙ payload_len-body r _ fit.0 in
    omega (arith, long, ap (λ (l : List ℕ). length l) apart, length-append (1 ∷ body r) (spelled rs ++ gate ∷ rest), length-body r)

-- at the gate behind the first k records of a journal at its end
module _ (head : List ℕ) (place count : ℕ) (images : List ℕ → Type 0) (bytes : List ℕ) (s : IsSettled head place count images bytes) (k at : ℕ) (g : HasGate head count k at bytes) where
  abbrev all : List Saved
  all = records count (drop 32 bytes)

  -- the other records stand there, and then the closed gate
  there : drop at bytes ≡ spelled (drop k all) ++ s.stands.gate ∷ s.stands.rest
  there =
      let front = spelled (take k all) in
      let behind = spelled (drop k all) in
      let tail : List ℕ = s.stands.gate ∷ s.stands.rest in
      let whole : bytes ≡ (head ++ front) ++ (behind ++ tail) =
      s.stands.spells
      ∙ ap (λ (l : List Saved). head ++ spelled l ++ tail) (sym (take-append-drop k all))
      ∙ ap (λ (l : List ℕ). head ++ l ++ tail) (spelled-append (take k all) (drop k all))
      ∙ ap (λ (l : List ℕ). l ++ tail) (sym (append_assoc head front behind))
      ∙ append_assoc (head ++ front) behind tail in
      ap (λ (l : List ℕ). drop at l) whole ∙ drop_at (head ++ front) (behind ++ tail) at (sym g.place)

  gate_there : get_or bytes at 0 ≡ get_or (spelled (drop k all) ++ s.stands.gate ∷ s.stands.rest) 0 0
  gate_there =
      let same : at ≡ at + 0 = omega arith in
      ap (λ (n : ℕ). get_or bytes n 0) same ∙ sym (get_or-drop at bytes 0 0) ∙ ap (λ (l : List ℕ). get_or l 0 0) there

  none_behind : HasClosedGate at bytes → k ≡ count
  none_behind closed =
      let none : drop k all ≡ [] = shut_last (drop k all) s.stands.gate s.stands.rest (λ opened. closed.shut (gate_there ∙ opened)) in
      omega (arith, g.within, s.counted, length-drop k all, ap (λ (l : List Saved). length l) none)

  record_behind : (kind len payload : ℕ) → payload ≡ at + 10 → HasRecord at kind len bytes
      → (k < count) × (drop k all ≡ (record { kind = kind; payload = take len (drop payload bytes) }) ∷ drop (k + 1) all) × HasGate head count (k + 1) (payload + len) bytes
  record_behind kind len payload is has =
      let new : Saved = record { kind = kind; payload = take len (drop payload bytes) } in
      let tail = drop (at + 10 + len) bytes in
      let within = has.within in
      let long : length new.payload ≡ len = length-take-le len (drop payload bytes) (omega (arith, is, length-drop payload bytes)) in
      let spells : drop at bytes ≡ 1 ∷ body new ++ tail = has.spells ∙ ap (λ (n : ℕ). 1 ∷ body (record { kind = kind; payload = take len (drop n bytes) }) ++ tail) (sym is) in
      let fits : Fits new = subst (λ (n : ℕ). n < 2 ^ 64) (sym long) has.fits in
      let next = open_next (drop k all) s.stands.gate s.stands.rest tail new (fit_drop k all s.fit) fits s.stands.closed (sym there ∙ spells) in
      let rest : drop (k + 1) all ≡ next.0 = sym (drop-drop 1 k all) ∙ ap (λ (l : List Saved). drop 1 l) next.1 in
      let first : take (k + 1) all ≡ take k all ++ new ∷ [] = take-add k 1 all ∙ ap (λ (l : List Saved). take k all ++ take 1 l) next.1 in
      let below : k < count = omega (arith, s.counted, length-drop k all, ap (λ (l : List Saved). length l) next.1) in
      let base : head ++ spelled (take (k + 1) all) ≡ head ++ spelled (take k all) ++ 1 ∷ body new =
      ap (λ (l : List Saved). head ++ spelled l) first ∙ ap (λ (l : List ℕ). head ++ l) (spelled-push (take k all) new) ∙ sym (append_assoc head (spelled (take k all)) (1 ∷ body new)) in
      let size : payload + len ≡ length (head ++ spelled (take (k + 1) all)) =
      omega (arith, is, g.place, long, ap (λ (l : List ℕ). length l) base, length-append (head ++ spelled (take k all)) (1 ∷ body new), length-body new) in
      (below, next.1 ∙ ap (λ (l : List Saved). new ∷ l) (sym rest), record { within = omega (arith, below); place = size })

  whole_there : IsDamaged at (Some bytes) → ⊥
  whole_there damaged =
      let long : length bytes - at ≡ length (spelled (drop k all) ++ s.stands.gate ∷ s.stands.rest) = sym (length-drop at bytes) ∙ ap (λ (l : List ℕ). length l) there in
      let some : 0 < length (spelled (drop k all) ++ s.stands.gate ∷ s.stands.rest) = omega (arith, length-append (spelled (drop k all)) (s.stands.gate ∷ s.stands.rest)) in
      elim damaged as (λ x. ⊥) [
        | inl missing ↦ omega (arith, missing, long, some)
        | inr cut ↦
            let whole = whole_first (drop k all) s.stands.gate s.stands.rest (fit_drop k all s.fit) s.stands.closed (sym gate_there ∙ cut.0) in
            let same : payload_len (drop at bytes) ≡ payload_len (spelled (drop k all) ++ s.stands.gate ∷ s.stands.rest) = ap payload_len there in
            omega (arith, cut.1, whole, same, long)
      ]

-- the same, told of a disk that may not tell its bytes
module _ (head : List ℕ) (place count at : ℕ) (images : List ℕ → Type 0) where
  last_told : (told : Option (List ℕ)) → AtEnd head place count told images → ClosedAt at told → AllBefore head count at told
  last_told None end closed = tt
  last_told (Some bytes) end closed = λ k g. none_behind head place count images bytes end k at g closed

  found_told : (told : Option (List ℕ)) (p : RecordPlace) → AtEnd head place count told images → p.payload ≡ at + 10 → OpenAt at p.kind p.length told → RecordIn head count at p told
  found_told None p end payload found = tt
  found_told (Some bytes) p end payload found = λ k g.
      let has = record_behind head place count images bytes end k at g p.kind p.length p.payload payload found in
      record { below = has.0; these = has.1; next = has.2 }

  pub untold : (told : Option (List ℕ)) (k : ℕ) → AtEnd head place count told images → GateIn head count k at told → IsDamaged at told → IsNone told
  untold None k end g damaged = refl
  untold (Some bytes) k end g damaged = absurd (whole_there head place count images bytes end k at g damaged)

module _ {E : Type 0} (j : JournalState) (end : IsAtEnd j) (at : ℕ) where
  pub last_there : (r : Result (Option RecordPlace) E) → IfOk r (λ next. IfNone next (ClosedAt at j.disk.seen)) → IfOk r (λ next. IfNone next (IsLast at j))
  last_there (Ok None) closed = record { gate = closed; all = last_told (header_bytes j.header) j.place j.count at j.disk.images j.disk.seen end.ends closed }
  last_there (Ok (Some p)) closed = tt
  last_there (Err e) closed = tt

  pub found_there : (r : Result (Option RecordPlace) E) → IfOk r (λ next. IfSome next (λ p. OpenAt at p.kind p.length j.disk.seen))
      → IfOk r (λ next. IfSome next (λ p. (p.at ≡ at) × (p.payload ≡ at + 10) × (p.payload + p.length < 2 ^ 64))) → IfOk r (λ next. IfSome next (λ p. HasFound at p j))
  found_there (Ok None) found places = tt
  found_there (Ok (Some p)) found places = record {
    here = places.0;
    payload = places.1 ∙ ap (λ (n : ℕ). n + 10) (sym places.0);
    fits = places.2;
    found = found;
    record_is = found_told (header_bytes j.header) j.place j.count at j.disk.images j.disk.seen p end.ends places.1 found;
  }
  found_there (Err e) found places = tt

pub no_gate : (j : JournalState) (at k place : ℕ) → IsAtEnd j → IsGate k at j → (place ≡ at) × IsDamaged at j.disk.seen → HasNoGate place at j
no_gate j at k place end g damaged = record {
  here = damaged.0;
  untold = untold (header_bytes j.header) j.place j.count at j.disk.images j.disk.seen k end.ends g damaged.1;
}

-- ---- from gate to gate

pub first_gate : (j : JournalState) → IsAtEnd j → IsGate 0 32 j
first_gate j end = first_in (header_bytes j.header) j.place j.count j.disk.images j.disk.seen end.ends
  where
    first_in : (head : List ℕ) (place count : ℕ) (images : List ℕ → Type 0) (told : Option (List ℕ)) → AtEnd head place count told images → GateIn head count 0 32 told
    first_in head place count images None end = tt
    first_in head place count images (Some bytes) end = record { within = omega arith; place = sym end.header ∙ ap (λ (l : List ℕ). length l) (sym (append-nil head)) }

-- behind a record that was found stands the next gate
pub next_gate : (k at : ℕ) (p : RecordPlace) (j : JournalState) → HasFound at p j → IsGate k at j → IsGate (k + 1) (p.payload + p.length) j
next_gate k at p j found g = next_in (header_bytes j.header) j.count j.disk.seen found.record_is g
  where
    next_in : (head : List ℕ) (count : ℕ) (told : Option (List ℕ)) → RecordIn head count at p told → GateIn head count k at told → GateIn head count (k + 1) (p.payload + p.length) told
    next_in head count None is g = tt
    next_in head count (Some bytes) is g = (is k g).next

-- a gate of a journal that was only read is still one
pub gate_rests : (k gate at n : ℕ) (old new : JournalState) → OnlyReads at n old new → StaysAt old new → IsGate k gate old → IsGate k gate new
gate_rests k gate at n old new reads stays g =
    subst (λ (h : Header). GateIn (header_bytes h) new.count k gate new.disk.seen) (sym reads.header)
    (subst (λ (m : ℕ). GateIn (header_bytes old.header) m k gate new.disk.seen) (sym stays.count)
    (subst (λ (t : Option (List ℕ)). GateIn (header_bytes old.header) old.count k gate t) (sym reads.rests.seen) g))
