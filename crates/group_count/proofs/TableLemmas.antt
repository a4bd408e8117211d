-- A row more in a table.
use Rattle.std.proofs.Common.{◌≡◌, ◌↔◌, ◌≤◌, ◌∷◌, ◌++◌, ℕ, ℤ, Bool, true, false, IsTrue, List, [], Option, Some, None, ap, refl, sym, subst, ◌∙◌}
use Rattle.std.proofs.lemmas.List.{map-append}
use Rattle.column_store.specs.declared.row.Row.{Row}
use Rattle.segment_pages.specs.Paged.{OfRows, Paged, types_in}
use Rattle.group_count.specs.Laws.{minutes_of, numbers_of}
use Rattle.group_count.specs.Tables.{AreMinutes, AreTypes, HoldTypes, MinuteState, TypeState, minute_at}

pub types_more : (a b : TypeState) (types : ℕ) (before : List Row) (row : Row) → b.limit ≡ a.limit
    → ((numbers : List ℕ) → HoldTypes a numbers → HoldTypes b (numbers ++ row.log_type ∷ []))
    → AreTypes types a (numbers_of before) → AreTypes types b (numbers_of (before ++ row ∷ []))
types_more a b types before row same more held =
    (same ∙ held.0, subst (HoldTypes b) (sym (map-append (λ (r : Row). r.log_type) before (row ∷ []))) (more (numbers_of before) held.1))

pub minutes_more : (a b : MinuteState) (version : ℕ) (before : List Row) (row : Row) → b.micro ≡ a.micro
    → ((keys : List (Option ℤ)) → AreMinutes a keys → AreMinutes b (keys ++ minute_at a.micro row.pattern row.moment ∷ []))
    → (IsTrue a.micro ↔ (3 ≤ version)) × AreMinutes a (minutes_of a.micro before)
    → (IsTrue b.micro ↔ (3 ≤ version)) × AreMinutes b (minutes_of b.micro (before ++ row ∷ []))
minutes_more a b version before row same more held =
    let parts : minutes_of b.micro (before ++ row ∷ []) ≡ minutes_of a.micro before ++ minute_at a.micro row.pattern row.moment ∷ [] =
    ap (λ (m : Bool). minutes_of m (before ++ row ∷ [])) same ∙ map-append (λ (r : Row). minute_at a.micro r.pattern r.moment) before (row ∷ []) in (
      subst (λ (m : Bool). IsTrue m ↔ (3 ≤ version)) (sym same) held.0,
      subst (AreMinutes b) (sym parts) (more (minutes_of a.micro before) held.1),
    )

-- ---- the rows that are left

pub types_left : (seen : Option (List ℕ)) (p : Paged) (a b : TypeState) → b.limit ≡ a.limit
    → OfRows seen p (λ rows. (numbers : List ℕ) → HoldTypes a numbers → HoldTypes b (numbers ++ types_in rows))
    → OfRows seen p (λ rows. (types : ℕ) (before : List Row) → AreTypes types a (numbers_of before) → AreTypes types b (numbers_of (before ++ rows)))
types_left None p a b same more = tt
types_left (Some bytes) p a b same more = λ rows holds types before has.
    (same ∙ has.0, subst (HoldTypes b) (sym (map-append (λ (r : Row). r.log_type) before rows)) (more rows holds (numbers_of before) has.1))

pub minutes_left : (seen : Option (List ℕ)) (p : Paged) (a b : MinuteState) → b.micro ≡ a.micro
    → OfRows seen p (λ rows. (keys : List (Option ℤ)) → AreMinutes a keys → AreMinutes b (keys ++ minutes_of a.micro rows))
    → OfRows seen p (λ rows. (version : ℕ) (before : List Row) → (IsTrue a.micro ↔ (3 ≤ version)) × AreMinutes a (minutes_of a.micro before)
    → (IsTrue b.micro ↔ (3 ≤ version)) × AreMinutes b (minutes_of b.micro (before ++ rows)))
minutes_left None p a b same more = tt
minutes_left (Some bytes) p a b same more = λ rows holds version before held.
    let parts : minutes_of b.micro (before ++ rows) ≡ minutes_of a.micro before ++ minutes_of a.micro rows =
    ap (λ (m : Bool). minutes_of m (before ++ rows)) same ∙ map-append (λ (r : Row). minute_at a.micro r.pattern r.moment) before rows in (
      subst (λ (m : Bool). IsTrue m ↔ (3 ≤ version)) (sym same) held.0,
      subst (AreMinutes b) (sym parts) (more rows holds (minutes_of a.micro before) held.1),
    )

-- ---- two tables of one kind

pub types_like : (a b : TypeState) (limit : ℕ) → limit ≡ a.limit → AreTypes limit b [] → (types : ℕ) (before : List Row)
    → AreTypes types a (numbers_of before) → AreTypes types b (numbers_of [])
types_like a b limit is none = λ types before has. subst (λ (l : ℕ). AreTypes l b []) (is ∙ has.0) none

pub types_both : (a b c : TypeState) (types : ℕ) (before rows : List Row) → c.limit ≡ a.limit
    → ((xs ys : List ℕ) → b.limit ≡ a.limit → HoldTypes a xs → HoldTypes b ys → HoldTypes c (xs ++ ys))
    → AreTypes types a (numbers_of before) → AreTypes types b (numbers_of rows) → AreTypes types c (numbers_of (before ++ rows))
types_both a b c types before rows limit joined one two =
    (limit ∙ one.0, subst (HoldTypes c) (sym (map-append (λ (r : Row). r.log_type) before rows)) (joined (numbers_of before) (numbers_of rows) (two.0 ∙ sym one.0) one.1 two.1))

pub minutes_like : (a b : MinuteState) (micro : Bool) → micro ≡ a.micro → b.micro ≡ micro → AreMinutes b [] → (version : ℕ) (before : List Row)
    → (IsTrue a.micro ↔ (3 ≤ version)) × AreMinutes a (minutes_of a.micro before) → (IsTrue b.micro ↔ (3 ≤ version)) × AreMinutes b (minutes_of b.micro [])
minutes_like a b micro is same none = λ version before has. (subst (λ (m : Bool). IsTrue m ↔ (3 ≤ version)) (sym (same ∙ is)) has.0, none)

-- what holds of both just where the same does is the same
same_test : (a b : Bool) (P : Type 0) → IsTrue a ↔ P → IsTrue b ↔ P → b ≡ a
same_test true true P one two = refl
same_test true false P one two = absurd (cc (two.1 (one.0 refl)))
same_test false true P one two = absurd (cc (one.1 (two.0 refl)))
same_test false false P one two = refl

pub minutes_both : (a b c : MinuteState) (version : ℕ) (before rows : List Row) → c.micro ≡ a.micro
    → ((xs ys : List (Option ℤ)) → AreMinutes a xs → AreMinutes b ys → AreMinutes c (xs ++ ys))
    → (IsTrue a.micro ↔ (3 ≤ version)) × AreMinutes a (minutes_of a.micro before) → (IsTrue b.micro ↔ (3 ≤ version)) × AreMinutes b (minutes_of b.micro rows)
    → (IsTrue c.micro ↔ (3 ≤ version)) × AreMinutes c (minutes_of c.micro (before ++ rows))
minutes_both a b c version before rows same joined one two =
    let alike : b.micro ≡ a.micro = same_test a.micro b.micro (3 ≤ version) one.0 two.0 in
    let parts : minutes_of c.micro (before ++ rows) ≡ minutes_of a.micro before ++ minutes_of b.micro rows =
    ap (λ (m : Bool). minutes_of m (before ++ rows)) same ∙ map-append (λ (r : Row). minute_at a.micro r.pattern r.moment) before rows
    ∙ ap (λ (m : Bool). minutes_of a.micro before ++ minutes_of m rows) (sym alike) in (
      subst (λ (m : Bool). IsTrue m ↔ (3 ≤ version)) (sym same) one.0,
      subst (AreMinutes c) (sym parts) (joined (minutes_of a.micro before) (minutes_of b.micro rows) one.1 two.1),
    )
