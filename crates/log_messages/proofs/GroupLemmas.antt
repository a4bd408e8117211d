-- Groups of lines: their text, and that lines are cut into them in one way.
use Rattle.std.proofs.Common.{◌≡◌, ◌⊎◌, inl, inr, refl, sym, ◌∙◌, ap, subst, arith, ℕ, Bool, true, false, IsTrue, List, [], ◌∷◌, ◌++◌, length, map, length-append}
use Rattle.std.specs.List.{flat_map}
use Rattle.std.proofs.lemmas.Bool.{cases_lt}
use Rattle.std.proofs.lemmas.List.{append-nil, append_assoc}
use Rattle.log_messages.specs.Messages.{joined}
use Rattle.log_messages.specs.Groups.{Group, lines_of, text_of, BeginsBehind, GoesOn, IsGroup, AreApart}
use Rattle.log_messages.specs.GroupLaws.{Passes}
use Rattle.log_messages.proofs.StepLemmas.{joined-append}

-- the lines of a group joined, and then other bytes
pub text-joined : (first : List ℕ) (later : List (List ℕ)) (rest : List ℕ) → (first ++ flat_map (λ line. 10 ∷ line) later) ++ 10 ∷ rest ≡ joined (first ∷ later) ++ rest
text-joined first [] rest = ap (λ f. f ++ 10 ∷ rest) (append-nil first) ∙ sym (append_assoc first (10 ∷ []) rest)
text-joined first (line ∷ lines) rest =
    append_assoc first (10 ∷ (line ++ flat_map (λ l. 10 ∷ l) lines)) (10 ∷ rest)
    ∙ (ap (λ t. first ++ 10 ∷ t) (text-joined line lines rest) ∙ sym (append_assoc first (10 ∷ joined (line ∷ lines)) rest))

-- the messages joined are the lines joined
pub texts-joined : (groups : List Group) → joined (map text_of groups) ≡ joined (flat_map lines_of groups)
texts-joined [] = refl
texts-joined (g ∷ gs) =
    ap (λ r. text_of g ++ 10 ∷ r) (texts-joined gs)
    ∙ (text-joined g.first g.later (joined (flat_map lines_of gs)) ∙ sym (joined-append (lines_of g) (flat_map lines_of gs)))

-- a line more behind a group
pub text-more : (first : List ℕ) (later : List (List ℕ)) (line : List ℕ) → text_of (record { first = first; later = later ++ line ∷ [] }) ≡ text_of (record { first = first; later = later }) ++ 10 ∷ line
text-more first [] line = ap (λ l. first ++ 10 ∷ l) (append-nil line) ∙ ap (λ f. f ++ 10 ∷ line) (sym (append-nil first))
text-more first (x ∷ later) line =
    ap (λ t. first ++ 10 ∷ t) (text-more x later line) ∙ sym (append_assoc first (10 ∷ (x ++ flat_map (λ l. 10 ∷ l) later)) (10 ∷ line))

-- a first line alone is a group
pub IsGroup-alone : (stamped : List ℕ → Type 0) (limit : ℕ) (first : List ℕ) → IsGroup stamped limit (record { first = first; later = [] })
IsGroup-alone stamped limit first [] line behind e = absurd cc
IsGroup-alone stamped limit first (x ∷ before) line behind e = absurd cc

-- where a line more stands among lines
record StandsIn (before : List (List ℕ)) (line : List ℕ) (behind lines : List (List ℕ)) (last : List ℕ) : Type 0 where
  within : List (List ℕ)
  splits : lines ≡ before ++ line ∷ within

stands : (lines : List (List ℕ)) (last : List ℕ) (before : List (List ℕ)) (line : List ℕ) (behind : List (List ℕ)) → lines ++ last ∷ [] ≡ before ++ line ∷ behind → ((before ≡ lines) × (line ≡ last)) ⊎ StandsIn before line behind lines last
stands [] last [] line behind e = inl (refl, cc)
stands [] last (b ∷ before) line behind e = absurd (omega (arith, ap length e, length-append before (line ∷ behind)))
stands (l ∷ lines) last [] line behind e = let h : l ≡ line = cc in inr (record { within = lines; splits = ap (λ x. x ∷ lines) h })
stands (l ∷ lines) last (b ∷ before) line behind e =
    let head : l ≡ b = cc in let tail : lines ++ last ∷ [] ≡ before ++ line ∷ behind = cc in
    elim (stands lines last before line behind tail) [
      | inl h ↦ inl (cc (head, h.0), h.1)
      | inr s ↦ inr (record { within = s.within; splits = cc (head, s.splits) })
    ]

-- a line that goes on in a group makes it longer
pub IsGroup-more : (stamped : List ℕ → Type 0) (limit : ℕ) (first : List ℕ) (later : List (List ℕ)) (line : List ℕ) → IsGroup stamped limit (record { first = first; later = later }) → GoesOn stamped limit (record { first = first; later = later }) line → IsGroup stamped limit (record { first = first; later = later ++ line ∷ [] })
IsGroup-more stamped limit first later line is goes before x behind e =
    elim (stands later line before x behind e) [
      | inl h ↦ subst (λ (y : List ℕ). GoesOn stamped limit (record { first = first; later = before }) y) (sym h.1) (subst (λ (ls : List (List ℕ)). GoesOn stamped limit (record { first = first; later = ls }) line) (sym h.0) goes)
      | inr s ↦ is before x s.within s.splits
    ]

-- each line is stamped or not
abbrev pub IsTest : (List ℕ → Type 0) → Type 0
IsTest stamped = (line : List ℕ) → stamped line ⊎ (¬ stamped line)

-- a line begins a message or goes on
pub begins_or_goes_on : (stamped : List ℕ → Type 0) (limit : ℕ) → IsTest stamped → (group : Group) (line : List ℕ) → BeginsBehind stamped limit group line ⊎ GoesOn stamped limit group line
begins_or_goes_on stamped limit test group line =
    elim (test line) [
      | inl s ↦ inl (inl s)
      | inr n ↦
          elim (test group.first) [
            | inl s ↦
                elim (cases_lt limit (length (text_of group ++ 10 ∷ line))) [
                  | inl more ↦ inl (inr (inr more))
                  | inr fits ↦ inr (n, s, fits)
                ]
            | inr m ↦ inl (inr (inl m))
          ]
    ]

pub never_both : (stamped : List ℕ → Type 0) (limit : ℕ) (group : Group) (line : List ℕ) → BeginsBehind stamped limit group line → GoesOn stamped limit group line → ⊥
never_both stamped limit group line (inl s) goes = goes.0 s
never_both stamped limit group line (inr (inl n)) goes = n goes.1
never_both stamped limit group line (inr (inr more)) goes = omega arith

-- groups apart
pub AreApart-one : (stamped : List ℕ → Type 0) (limit : ℕ) (group : Group) → AreApart stamped limit (group ∷ [])
AreApart-one stamped limit group [] g next behind e = absurd cc
AreApart-one stamped limit group (x ∷ []) g next behind e = absurd cc
AreApart-one stamped limit group (x ∷ y ∷ before) g next behind e = absurd cc

pub AreApart-cons : (stamped : List ℕ → Type 0) (limit : ℕ) (g h : Group) (gs : List Group) → BeginsBehind stamped limit g h.first → AreApart stamped limit (h ∷ gs) → AreApart stamped limit (g ∷ h ∷ gs)
AreApart-cons stamped limit g h gs begins apart [] x next behind e =
    let first : g ≡ x = cc in let second : h ≡ next = cc in
    subst (λ (a : Group). BeginsBehind stamped limit a next.first) first (subst (λ (b : Group). BeginsBehind stamped limit g b.first) second begins)
AreApart-cons stamped limit g h gs begins apart (b ∷ before) x next behind e = let tail : h ∷ gs ≡ before ++ x ∷ next ∷ behind = cc in apart before x next behind tail

pub AreApart-tail : (stamped : List ℕ → Type 0) (limit : ℕ) (g : Group) (gs : List Group) → AreApart stamped limit (g ∷ gs) → AreApart stamped limit gs
AreApart-tail stamped limit g gs apart before x next behind e = apart (g ∷ before) x next behind (ap (λ r. g ∷ r) e)

-- each test tells
pub passes : (test : List ℕ → Bool) → IsTest (Passes test)
passes test line = either (test line)
  where
    either : (b : Bool) → IsTrue b ⊎ (¬ IsTrue b)
    either true = inl refl
    either false = inr (λ e. cc)
