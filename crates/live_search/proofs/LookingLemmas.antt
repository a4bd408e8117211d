-- What a look tells that has the count of entries before its gate.
use Rattle.std.proofs.Common.{◌≡◌, ◌≢◌, ℕ, ◌+◌, ◌≤◌, List, [], ◌∷◌, ◌++◌, length, sym, ◌∙◌, ap, subst, arith, length-append, append_assoc}
use Rattle.std.specs.Prelude.{is_some, Result, Err, IsErrOf}
use Rattle.log_seams.specs.Disk.{DiskState}
use Rattle.turn_lock.specs.Words.{seen}
use Rattle.archive_meaning.specs.declared.entry.JournalEntry.{JournalEntry}
use Rattle.disk_seal.specs.declared.found.Found.{Found}
use Rattle.disk_seal.specs.declared.found.FoundRefusal.{FoundRefusal}
use Rattle.disk_seal.specs.declared.found.FoundRefusal.TheVariants.{DiskFault as disk_failed, Damaged as none_found, OutOfMemory as no_memory}
use Rattle.disk_seal.specs.Told.{IfTold}
use Rattle.disk_seal.specs.Fixed.{KeeperPass}
use Rattle.disk_seal.specs.Draft.{journal_seen}
use Rattle.disk_seal.specs.Found.{IsEndIn, IsNextIn}
use Rattle.disk_seal.specs.Looked.{HasHalted, HasTurned, IsMarked, MayLook, TellsNothing, WhereTold}
use Rattle.disk_seal.proofs.PrepareLemmas.{seen_joined}
use Rattle.disk_seal.proofs.ToldLemmas.{told_both, told_map}
use Rattle.live_search.specs.declared.refusal.LiveRefusal.{LiveRefusal}
use Rattle.live_search.specs.declared.refusal.LiveRefusal.TheVariants.{DiskFault, SinkFault, Damaged}
use Rattle.live_search.specs.Looking.{IsGateOfCount, NothingTold}
use Rattle.live_search.specs.Refused.{from_found}

-- ---- the refusals of a look

pub marked_of : {A D : Type 0} (state : D → DiskState) (q : KeeperPass D) (res : Result A FoundRefusal) (r : FoundRefusal) (e : LiveRefusal) → res ≡ Err r → e ≡ from_found r → e ≡ DiskFault
    → ((opened now : ℕ) → IsErrOf res (disk_failed opened now) → HasHalted state (record { opened = opened; now = now }) q) → IsMarked (seen q)
marked_of state q res (disk_failed opened now) e is from fault halts = (now, (halts opened now is).marked)
marked_of state q res (none_found at) e is from fault halts = absurd (cc (from, fault))
marked_of state q res no_memory e is from fault halts = absurd (cc (from, fault))

pub nothing_of : {A D : Type 0} (state : D → DiskState) (q : KeeperPass D) (at : ℕ) (res : Result A FoundRefusal) (r : FoundRefusal) (e : LiveRefusal) (place : ℕ) → res ≡ Err r → e ≡ from_found r → e ≡ Damaged place
    → ((place : ℕ) → IsErrOf res (none_found place) → TellsNothing state place at q) → NothingTold state q
nothing_of state q at res (disk_failed opened now) e place is from damage tells = absurd (cc (from, damage))
nothing_of state q at res (none_found found) e place is from damage tells = λ a known.
    subst (λ b. IfTold b ⊥) (sym ((tells found is).untold a known)) tt
nothing_of state q at res no_memory e place is from damage tells = absurd (cc (from, damage))

pub no_sink : (r : FoundRefusal) (e : LiveRefusal) → e ≡ from_found r → e ≢ SinkFault
no_sink (disk_failed opened now) e from sink = cc (from, sink)
no_sink (none_found at) e from sink = cc (from, sink)
no_sink no_memory e from sink = cc (from, sink)

-- ---- the gate

pub may_look : {D : Type 0} (state : D → DiskState) (p : KeeperPass D) (at count : ℕ) → WhereTold state p (IsGateOfCount at count) → MayLook state at p
may_look state p at count gate a is =
    told_map (is_some (state a.fixed.opened).seen) (λ (x : IsGateOfCount at count a.fixed.header (journal_seen (seen p))). (x.0, x.1)) (gate a is)

module _ {D : Type 0} (state : D → DiskState) (p q : KeeperPass D) (turned : HasTurned p q) (at count : ℕ) (gate : WhereTold state p (IsGateOfCount at count)) where
  gate_on : WhereTold state q (IsGateOfCount at count)
  gate_on a is =
      let more = journal_seen turned.seen_on.0 in
      let longer : journal_seen (seen q) ≡ journal_seen (seen p) ++ more = ap journal_seen (sym turned.seen_on.1) ∙ seen_joined (seen p) turned.seen_on.0 in
      told_map (is_some (state a.fixed.opened).seen) (λ (x : IsGateOfCount at count a.fixed.header (journal_seen (seen p))). (
        x.0,
        record {
          front = (x.1.front.0 ++ more, sym (append_assoc x.0 x.1.front.0 more) ∙ ap (λ (l : List JournalEntry). l ++ more) x.1.front.1 ∙ sym longer);
          place = x.1.place;
        },
        x.2,
      )) (gate a (sym turned.still.about_is ∙ is))

  module _ (records : ℕ) (counted : WhereTold state q (λ _ es. records ≡ length es)) where
    -- at the last gate as many entries stand before it as there are
    pub count_differs : count ≢ records → WhereTold state q (λ h es. IsEndIn h es at) → NothingTold state q
    count_differs other end a is =
        let b = is_some (state a.fixed.opened).seen in
        let es = journal_seen (seen q) in
        told_both b (λ (x : IsGateOfCount at count a.fixed.header es) (y : (records ≡ length es) × IsEndIn a.fixed.header es at).
        other (sym x.2 ∙ ap (λ (l : List JournalEntry). length l) (y.1 x.0 x.1) ∙ sym y.0)) (gate_on a is)
        (told_both b (λ (y : records ≡ length es) (z : IsEndIn a.fixed.header es at). (y, z)) (counted a is) (end a is))

    -- before another gate there are fewer
    pub too_many : (f : Found) → records ≤ count → WhereTold state q (λ h es. IsNextIn h es at f) → NothingTold state q
    too_many f most next a is =
        let b = is_some (state a.fixed.opened).seen in
        let es = journal_seen (seen q) in
        told_both b (λ (x : IsGateOfCount at count a.fixed.header es) (y : (records ≡ length es) × IsNextIn a.fixed.header es at f).
        let r = y.1 x.0 x.1 in
        let size : length x.0 + 1 + length r.front.0 ≡ length es =
        omega (arith, ap (λ (l : List JournalEntry). length l) r.front.1, length-append (x.0 ++ r.entry ∷ []) r.front.0, length-append x.0 (r.entry ∷ [])) in
        omega (arith, size, x.2, y.0, most)) (gate_on a is)
        (told_both b (λ (y : records ≡ length es) (z : IsNextIn a.fixed.header es at f). (y, z)) (counted a is) (next a is))
