-- The logs of a list of names, as sources, some of which could not be opened.
use Rattle.std.specs.Prelude.{◌≡◌, ℕ, List, [], ◌∷◌, Bool, true, false, Option, Some, None, IfSome}
use Rattle.std.specs.Borrow.{Bor}
use Rattle.std.specs.Str.{is_utf8}
use Rattle.log_seams.specs.Outside.{Rose}
use Rattle.log_seams.specs.declared.refusals.OpenRefused.{OpenRefused}
use Rattle.log_seams.specs.declared.refusals.OpenRefused.TheVariants.{Failed, OutOfMemory}
use Rattle.log_sources.specs.declared.source.LogSource.{LogSource}
use Rattle.log_sources.specs.declared.source.LogSource.TheVariants.{Opened, Unopened}

-- the bytes of a borrowed text
abbrev pub str_bytes : Bor (List ℕ) → List ℕ
str_bytes text = text.now

-- why it was not opened
abbrev pub refusal_of : {S : Type 0} → LogSource S → Option OpenRefused
refusal_of (Opened s) = None
refusal_of (Unopened cause faults) = Some cause

abbrev pub is_opened : {S : Type 0} → LogSource S → Bool
is_opened (Opened s) = true
is_opened (Unopened cause faults) = false

-- no log has this name: a name is text, which has no byte 255
abbrev pub no_name : List ℕ
no_name = 255 ∷ []

-- A log that was not opened has no bytes, and each read of it fails. By
-- its name it is told from those that were opened, also after reads.
abbrev pub left_in : {S : Type 0} → (S → Option (List ℕ)) → LogSource S → Option (List ℕ)
left_in left (Opened s) = left s
left_in left (Unopened cause faults) = Some []

abbrev pub name_in : {S : Type 0} → (S → Option (List ℕ)) → LogSource S → Option (List ℕ)
name_in name (Opened s) = name s
name_in name (Unopened cause faults) = Some no_name

abbrev pub faults_in : {S : Type 0} → (S → ℕ) → LogSource S → ℕ
faults_in faults (Opened s) = faults s
faults_in faults (Unopened cause n) = n

-- an opened log: its name is text, the bytes of its name are left, where they are told, and no read of it has failed
pub record IsOpened {S : Type 0} (left name : S → Option (List ℕ)) (faults : S → ℕ)
    (content : Option (List ℕ)) (asked : List ℕ) (s : S) : Type 0 where
  pub text : is_utf8 asked ≡ true
  pub left_is : left s ≡ content
  pub named : IfSome (name s) (λ n. n ≡ asked)
  pub fresh : faults s ≡ 0

-- What came of the opening of a name. That it failed comes only where the count of faults in opening this name rose.
abbrev pub CameOf : {S : Type 0}
    → (S → Option (List ℕ)) → (S → Option (List ℕ)) → (S → ℕ)
    → (List ℕ → Option (List ℕ)) → (List ℕ → ℕ) → (List ℕ → ℕ)
    → List ℕ → LogSource S → Type 0
CameOf left name faults content old new asked (Opened s) = IsOpened left name faults (content asked) asked s
CameOf left name faults content old new asked (Unopened Failed n) = (n ≡ 0) × Rose (old asked) (new asked)
CameOf left name faults content old new asked (Unopened OutOfMemory n) = n ≡ 0

-- Where a read of the log has failed since it was opened, the count of faults in reading its name rose.
abbrev pub IsCounted : {S : Type 0} → (S → Option (List ℕ)) → (S → ℕ) → (List ℕ → ℕ) → (List ℕ → ℕ) → LogSource S → Type 0
IsCounted name faults old new (Opened s) = (n : List ℕ) → IfSome (name s) (λ m. m ≡ n) → Rose 0 (faults s) → Rose (old n) (new n)
IsCounted name faults old new (Unopened cause n) = Unit {0}

-- What is told of this name as unread, where these logs were closed, the last one first: what is left of the first log that has
-- the name, or tells none. Where there is none, it is what was told before.
abbrev pub IsUnread : {S : Type 0} → (S → Option (List ℕ)) → (S → Option (List ℕ)) → List ℕ → Option (List ℕ) → Option (List ℕ)
    → List (LogSource S) → Type 0
IsUnread left name n old new [] = new ≡ old
IsUnread left name n old new (Opened s ∷ logs) = (IfSome (name s) (λ m. m ≡ n) → new ≡ left s)
    × ((IfSome (name s) (λ m. m ≡ n) → ⊥) → IsUnread left name n old new logs)
IsUnread left name n old new (Unopened cause faults ∷ logs) = IsUnread left name n old new logs
