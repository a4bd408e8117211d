-- What is counted of the logs that were closed, the last one first.
use Rattle.std.proofs.Common.{◌≡◌, ◌≢◌, ◌≤◌, refl, sym, ap, ◌∙◌, subst, ℕ, List, [], ◌∷◌, ◌++◌, Option, None, Some, append-nil, append_assoc, arith}
use Rattle.std.specs.Prelude.{All, IfSome}
use Rattle.std.proofs.lemmas.List.Elements.{All-cons, All-nil, All-weaker}
use Rattle.log_sources.specs.declared.source.LogSource.{LogSource}
use Rattle.log_sources.specs.declared.source.LogSource.TheVariants.{Opened, Unopened}
use Rattle.log_sources.specs.Sources.{IsCounted, IsUnread}
use Rattle.log_sources.proofs.OpenLemmas.{Rose-wider}

-- what a shelf tells of logs: the faults in reading each name, and what was left unread of it
pub record Told : Type 0 where
  pub reads : List ℕ → ℕ
  pub unread : List ℕ → Option (List ℕ)

-- one log more was closed
unread_more : {S : Type 0} (left name : S → Option (List ℕ)) (n : List ℕ) (old mid new : Option (List ℕ)) (s : LogSource S) (logs : List (LogSource S)) → IsUnread left name n mid new (s ∷ []) → IsUnread left name n old mid logs → IsUnread left name n old new (s ∷ logs)
unread_more {S} left name n old mid new (Opened s) logs one before = (one.0, λ other. subst (λ t. IsUnread left name n old t logs) (sym (one.1 other)) before)
unread_more {S} left name n old mid new (Unopened cause faults) logs one before = subst (λ t. IsUnread left name n old t logs) (sym one) before

-- what is told of a name by a log that is closed
pub unread_one : {S : Type 0} (left name : S → Option (List ℕ)) (n : List ℕ) (old new : Option (List ℕ)) (s : S) → (IfSome (name s) (λ m. m ≡ n) → new ≡ left s) → ((m : List ℕ) → name s ≡ Some m → m ≢ n → new ≡ old) → IsUnread left name n old new (Opened s ∷ [])
unread_one {S} left name n old new s same others = (same, by_name (name s) refl)
  where
    by_name : (told : Option (List ℕ)) → name s ≡ told → (IfSome told (λ m. m ≡ n) → ⊥) → new ≡ old
    by_name None is other = absurd (other tt)
    by_name (Some m) is other = others m is other

module _ {S : Type 0} (left name : S → Option (List ℕ)) (faults : S → ℕ) where
  -- behind those that are open stand those that were closed
  pub record Closed (old new : Told) (all open_ones : List (LogSource S)) : Type 0 where
    pub closed : List (LogSource S)
    pub splits : all ≡ open_ones ++ closed
    pub reads : (n : List ℕ) → old.reads n ≤ new.reads n
    pub counted : All (IsCounted name faults old.reads new.reads) closed
    pub unread : (n : List ℕ) → IsUnread left name n (old.unread n) (new.unread n) closed

  pub none_closed : (old : Told) (all : List (LogSource S)) → Closed old old all all
  none_closed old all = record { closed = []; splits = sym (append-nil all); reads = λ n. omega arith; counted = All-nil (IsCounted name faults old.reads old.reads); unread = λ n. refl }

  counted_on : (old mid new later : List ℕ → ℕ) → ((n : List ℕ) → old n ≤ mid n) → ((n : List ℕ) → new n ≤ later n) → (s : LogSource S) → IsCounted name faults mid new s → IsCounted name faults old later s
  counted_on old mid new later low high (Opened s) is = λ n named rose. Rose-wider (old n) (mid n) (new n) (later n) (low n) (high n) (is n named rose)
  counted_on old mid new later low high (Unopened cause n) is = tt

  pub one_closed : (old mid new : Told) (all some rest : List (LogSource S)) (s : LogSource S) → Closed old mid all some → some ≡ rest ++ s ∷ [] → ((n : List ℕ) → mid.reads n ≤ new.reads n) → IsCounted name faults mid.reads new.reads s
      → ((n : List ℕ) → IsUnread left name n (mid.unread n) (new.unread n) (s ∷ [])) → Closed old new all rest
  one_closed old mid new all some rest s before splits later is one = record {
    closed = s ∷ before.closed;
    splits = before.splits ∙ ap (λ ss. ss ++ before.closed) splits ∙ append_assoc rest (s ∷ []) before.closed;
    reads = λ n. omega (arith, before.reads n, later n);
    counted = All-cons (IsCounted name faults old.reads new.reads) s before.closed (counted_on old.reads mid.reads new.reads new.reads before.reads (λ n. omega arith) s is)
        (All-weaker (IsCounted name faults old.reads mid.reads) (IsCounted name faults old.reads new.reads) (counted_on old.reads old.reads mid.reads new.reads (λ n. omega arith) later) before.closed before.counted);
    unread = λ n. unread_more left name n (old.unread n) (mid.unread n) (new.unread n) s before.closed (one n) (before.unread n);
  }

  pub all_closed : (old new : Told) (all : List (LogSource S)) → Closed old new all [] → All (IsCounted name faults old.reads new.reads) all
  all_closed old new all before = subst (λ ss. All (IsCounted name faults old.reads new.reads) ss) (sym before.splits) before.counted

  pub all_unread : (old new : Told) (all : List (LogSource S)) → Closed old new all [] → (n : List ℕ) → IsUnread left name n (old.unread n) (new.unread n) all
  all_unread old new all before n = subst (λ ss. IsUnread left name n (old.unread n) (new.unread n) ss) (sym before.splits) (before.unread n)
