-- A disk that is lent to one source after the other: what is known of it goes together.
use Rattle.std.proofs.Common.{◌≡◌, refl, sym, ap, subst, ◌∙◌, ℕ, zero, suc, List, [], ◌∷◌, Option, None, Some, arith}
use Rattle.std.specs.Prelude.{◌≢◌, IfSome}
use Rattle.log_seams.specs.Disk.{DiskState, Rests}
use Rattle.log_seams.proofs.MomentLemmas.{rests_on}
use Rattle.archive_open.specs.Shown.{StandsForNone}
use Rattle.archive_text.specs.declared.cause.TextCause.{TextCause}
use Rattle.archive_text.specs.Caused.{CountsBy}
use Rattle.archive_text.specs.State.{TextState}
use Rattle.archive_jobs.specs.Lent.{IsOpen, IsRead, LentDisk, cause_name, first_of}

-- ---- causes

pub first_stays : (first cause : Option TextCause) → first ≢ None → first_of first cause ≡ first
first_stays None cause some = absurd (some refl)
first_stays (Some f) cause some = refl

pub none_of_both : (first cause : Option TextCause) → first_of first cause ≡ None → cause ≡ None
none_of_both first None none = refl
none_of_both None (Some TextCause.DiskFault) none = absurd (cc (none))
none_of_both None (Some TextCause.Damaged) none = absurd (cc (none))
none_of_both None (Some TextCause.OutOfMemory) none = absurd (cc (none))
none_of_both None (Some TextCause.Refused) none = absurd (cc (none))
none_of_both (Some f) (Some c) none = absurd (cc (none))

abbrev cause_at : ℕ → Option TextCause
cause_at zero = None
cause_at (suc zero) = Some TextCause.DiskFault
cause_at (suc (suc zero)) = Some TextCause.Damaged
cause_at (suc (suc (suc zero))) = Some TextCause.OutOfMemory
cause_at (suc (suc (suc (suc n)))) = Some TextCause.Refused

abbrev cause_in : List ℕ → Option TextCause
cause_in [] = None
cause_in (n ∷ rest) = cause_at n

told_by : (a : Option TextCause) → cause_in (cause_name a) ≡ a
told_by None = refl
told_by (Some TextCause.DiskFault) = refl
told_by (Some TextCause.Damaged) = refl
told_by (Some TextCause.OutOfMemory) = refl
told_by (Some TextCause.Refused) = refl

-- a name tells one cause
pub one_cause : (a b : Option TextCause) → Some (cause_name a) ≡ Some (cause_name b) → a ≡ b
one_cause a b same = let names : cause_name a ≡ cause_name b = cc (same) in
    sym (told_by a) ∙ (ap cause_in names ∙ told_by b)

-- ---- the count of faults

pub counts_on : (before mid now : ℕ) (first cause : Option TextCause) → CountsBy before mid first → CountsBy mid now cause
    → (first ≢ None → cause ≡ Some TextCause.Refused) → CountsBy before now (first_of first cause)
counts_on before mid now (Some f) cause one two refused =
    let unread = refused (λ none. absurd (cc (none))) in
    let same : now ≡ mid = two.spared (λ e. absurd (cc (e, unread))) in
    subst (λ n. CountsBy before n (Some f)) (sym same) one
counts_on before mid now None None one two refused =
    subst (λ n. CountsBy n now None) (one.spared (λ e. absurd (cc (e)))) two
counts_on before mid now None (Some TextCause.DiskFault) one two refused =
    subst (λ n. CountsBy n now (Some TextCause.DiskFault)) (one.spared (λ e. absurd (cc (e)))) two
counts_on before mid now None (Some TextCause.Damaged) one two refused =
    subst (λ n. CountsBy n now (Some TextCause.Damaged)) (one.spared (λ e. absurd (cc (e)))) two
counts_on before mid now None (Some TextCause.OutOfMemory) one two refused =
    subst (λ n. CountsBy n now (Some TextCause.OutOfMemory)) (one.spared (λ e. absurd (cc (e)))) two
counts_on before mid now None (Some TextCause.Refused) one two refused =
    let mid_is : mid ≡ before = one.spared (λ e. absurd (cc (e))) in
    let same : now ≡ mid = two.spared (λ e. absurd (cc (e))) in
    record { later = omega (arith, mid_is, same); failed = λ e. absurd (cc (e)); spared = λ other. same ∙ mid_is }

-- ---- the disk

module _ {D : Type 0} (state : D → DiskState) (lent : LentDisk) where
  -- the damage of a text is that of the bytes that were lent
  damaged_on : (first cause : Option TextCause) (t : TextState D) → IsOpen state lent first t
      → (cause ≡ Some TextCause.Damaged → IfSome (state t.opened).seen StandsForNone)
      → first_of first cause ≡ Some TextCause.Damaged → IfSome lent.disk.seen StandsForNone
  damaged_on (Some f) cause t is damaged e = is.read.damaged e
  damaged_on None (Some TextCause.Damaged) t is damaged e =
      subst (λ s. IfSome s StandsForNone) is.read.rests.seen (damaged refl)
  damaged_on None None t is damaged e = absurd (cc (e))
  damaged_on None (Some TextCause.DiskFault) t is damaged e = absurd (cc (e))
  damaged_on None (Some TextCause.OutOfMemory) t is damaged e = absurd (cc (e))
  damaged_on None (Some TextCause.Refused) t is damaged e = absurd (cc (e))

  own_on : (first cause : Option TextCause) (t : TextState D) → IsOpen state lent first t
      → first_of first cause ≢ Some TextCause.Refused
  own_on (Some f) cause t is = is.read.own
  own_on None None t is = λ e. absurd (cc (e))
  own_on None (Some TextCause.DiskFault) t is = λ e. absurd (cc (e))
  own_on None (Some TextCause.Damaged) t is = λ e. absurd (cc (e))
  own_on None (Some TextCause.OutOfMemory) t is = λ e. absurd (cc (e))
  own_on None (Some TextCause.Refused) t is = λ e. absurd (cc (e))

  -- a source over it ended
  pub read_on : (first cause : Option TextCause) (t : TextState D) (name : ℕ) (now : D) → IsOpen state lent first t
      → name ≡ t.name → cause ≡ t.cause → Rests (state t.opened) (state now)
      → CountsBy (state t.opened).faults (state now).faults cause
      → (cause ≡ Some TextCause.Damaged → IfSome (state t.opened).seen StandsForNone)
      → IsRead state lent (first_of first cause) name now
  read_on first cause t name now is named caused rests counts damaged = record {
    name_is = named ∙ is.read.name_is;
    rests = rests_on _ _ _ is.read.rests rests;
    counts = counts_on lent.disk.faults (state t.opened).faults (state now).faults first cause is.read.counts counts
        (λ some. caused ∙ is.refused some);
    damaged = damaged_on first cause t is damaged;
    own = own_on first cause t is;
  }
