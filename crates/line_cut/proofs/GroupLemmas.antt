-- What follows a group, and where a line ends in some bytes.
use Rattle.std.proofs.Common.{◌≡◌, ◌≢◌, ◌<◌, ◌≤◌, ◌+◌, ◌⊎◌, inl, inr, refl, sym, ◌∙◌, ap, subst, arith, ℕ, suc, Bool, true, false, List, [], ◌∷◌, ◌++◌, Option, None, Some, length, take, drop, get_or}
use Rattle.std.specs.Prelude.{IfSome, slice_get}
use Rattle.std.proofs.Math.Seq.{take-length, take-append-add}
use Rattle.std.proofs.lemmas.Bool.{cases_lt}
use Rattle.std.proofs.lemmas.List.{append_assoc, append-nil, get_or-take, get_or-drop, get_or_at, length-append, length-take, length-drop, take-take}
use Rattle.std.proofs.lemmas.List.Elements.{All-head, All-tail}
use Rattle.std.proofs.lemmas.Option.{slice_get_within, get_or_from_slice_get, slice_get_read}
use Rattle.log_messages.specs.Messages.{IsLine}
use Rattle.log_messages.specs.Groups.{Group, text_of, BeginsBehind, IsFollowed, FirstLine, GroupMessages}
use Rattle.log_messages.proofs.GroupLawLemmas.{group_messages_empty, group_messages_first}
use Rattle.line_cut.specs.Joining.{IsTornGroup}
use Rattle.line_cut.specs.Length.{BeginsTooLong}
use Rattle.line_cut.specs.Standing.{Stands}
use Rattle.line_cut.specs.StepsJoining.{BeginsWhole, IsApart}
use Rattle.line_cut.specs.declared.next_line.NextLine.{NextLine}
use Rattle.line_cut.specs.declared.next_line.NextLine.TheVariants.{Whole, Nothing, TooLong}
use Rattle.line_cut.proofs.ExclusionLemmas.{long_not_given, stays_long}
use Rattle.line_cut.proofs.GivingLemmas.{around}

-- an element of the rest of a list
pub slice_get-drop : (xs : List ℕ) (n k x : ℕ) → slice_get (drop n xs) k ≡ Some x → slice_get xs (n + k) ≡ Some x
slice_get-drop xs n k x e =
    let within = slice_get_within (drop n xs) k x e in
    slice_get_read xs (length xs) (n + k) x refl (omega (arith, within, length-drop n xs))
    (sym (get_or_from_slice_get (drop n xs) k x x e) ∙ get_or-drop n xs k x)

-- a longer list with the same front has the same elements there
pub slice_get-front : (old new : List ℕ) (k x : ℕ) → length old ≤ length new → take (length old) new ≡ old → slice_get old k ≡ Some x → slice_get new k ≡ Some x
slice_get-front old new k x more front e =
    let within = slice_get_within old k x e in
    slice_get_read new (length new) k x refl (omega (arith, within, more))
    (sym (get_or_from_slice_get old k x x e) ∙ (ap (λ l. get_or l k x) (sym front) ∙ get_or-take (length old) new k x within))

-- and the same shorter fronts
pub take-front : (old new : List ℕ) (n : ℕ) → n ≤ length old → take (length old) new ≡ old → take n new ≡ take n old
take-front old new n le front = sym (take-take n (length old) new le) ∙ ap (λ l. take n l) front

-- the front with a line more
pub front_line : (held : List ℕ) (len more : ℕ) → slice_get held len ≡ Some 10 → take (len + (1 + more)) held ≡ take len held ++ 10 ∷ take more (drop (len + 1) held)
front_line held len more newline =
    let within = slice_get_within held len 10 newline in
    let size : length (take len held) ≡ len = omega (arith, length-take len held, within) in
    let n : len + (1 + more) ≡ length (take len held) + suc more = omega (arith, size) in
    ap (λ k. take k held) n
    ∙ (ap (λ h. take (length (take len held) + suc more) h) (around held len 10 newline)
    ∙ take-append-add (take len held) (10 ∷ drop (len + 1) held) (suc more))

-- a newline among the bytes of a line
newline_in : (l r : List ℕ) → IsLine (l ++ 10 ∷ r) → ⊥
newline_in l r h = h (length l) 0 (omega (arith, length-append l (10 ∷ r))) (get_or_at l 10 r 0 (length l) refl)

-- two lines before a newline at the front of the same bytes
same_line : (a b x y : List ℕ) → IsLine a → IsLine b → a ++ 10 ∷ x ≡ b ++ 10 ∷ y → a ≡ b
same_line [] [] x y p q e = refl
same_line [] (c ∷ b) x y p q e = let is : c ≡ 10 = cc in absurd (All-head (λ b. b ≢ 10) c b q is)
same_line (c ∷ a) [] x y p q e = let is : c ≡ 10 = cc in absurd (All-head (λ b. b ≢ 10) c a p is)
same_line (c ∷ a) (d ∷ b) x y p q e =
    let h : c ≡ d = cc in let t : a ++ 10 ∷ x ≡ b ++ 10 ∷ y = cc in
    let s = same_line a b x y (All-tail (λ b. b ≢ 10) c a p) (All-tail (λ b. b ≢ 10) d b q) t in
    cc (h, s)

-- the first line is the one before the newline
pub first_before : (bytes line found rest : List ℕ) → bytes ≡ line ++ 10 ∷ rest → IsLine line → FirstLine bytes found → found ≡ line
first_before bytes line found rest e is (p, inl whole) =
    absurd (newline_in line rest (subst IsLine (sym whole.0 ∙ e) p))
first_before bytes line found rest e is (p, inr (more, f)) = same_line found line more rest p is (sym f ∙ e)

-- or all the bytes
pub first_all : (bytes found : List ℕ) → IsLine bytes → FirstLine bytes found → found ≡ bytes
first_all bytes found is (p, inl whole) = sym whole.0
first_all bytes found is (p, inr (more, f)) = absurd (newline_in found more (subst IsLine f is))

-- nothing has no first line
pub first_none : (bytes found : List ℕ) → bytes ≡ [] → FirstLine bytes found → ⊥
first_none bytes found e (p, inl whole) = whole.1 (sym whole.0 ∙ e)
first_none bytes found e (p, inr (more, f)) = absurd (omega (arith, ap length e, ap length f, length-append found (10 ∷ more)))

-- bytes that begin too long have a first line above the limit
pub first_long : (max : ℕ) (bytes found : List ℕ) → BeginsTooLong max bytes → FirstLine bytes found → max < length found
first_long max bytes found long (p, inl whole) = omega (arith, ap length whole.0, long.0)
first_long max bytes found long (p, inr (more, f)) =
    elim (cases_lt max (length found)) [
      | inl above ↦ above
      | inr fits ↦ absurd (long_not_given true found bytes (Some more) max fits (ap (λ b. Some b) f) long)
    ]

-- where a whole line stands at the front
whole_ended : (max : ℕ) (ahead rest : List ℕ) (len : ℕ) → Stands max ahead (Some rest) (Whole len true) → ahead ++ rest ≡ take len ahead ++ 10 ∷ (drop (len + 1) ahead ++ rest)
whole_ended max ahead rest len s = ap (λ a. a ++ rest) (around ahead len 10 s.2) ∙ append_assoc (take len ahead) (10 ∷ drop (len + 1) ahead) rest

whole_last : (max : ℕ) (ahead rest : List ℕ) (len : ℕ) → Stands max ahead (Some rest) (Whole len false) → ahead ++ rest ≡ take len ahead
whole_last max ahead rest len s =
    ap (λ r. ahead ++ r) s.2.2 ∙ (append-nil ahead ∙ sym (ap (λ n. take n ahead) s.2.0 ∙ take-length ahead))

-- what begins a message behind a group that ends before the line
begins : (stamped : List ℕ → Type 0) (limit : ℕ) (group : Group) (held : List ℕ) (len more : ℕ) (line : List ℕ) → text_of group ≡ take len held → len < length held → more ≤ length (drop (len + 1) held) → line ≡ take more (drop (len + 1) held) → (limit < len + 1 + more) ⊎ stamped (take more (drop (len + 1) held)) → BeginsBehind stamped limit group line
begins stamped limit group held len more line text within inside is (inl above) =
    inr (inr (omega (arith, above, length-append (text_of group) (10 ∷ line), ap length text, length-take len held, within, ap length is, length-take more (drop (len + 1) held), inside)))
begins stamped limit group held len more line text within inside is (inr stamp) = inl (subst stamped (sym is) stamp)

-- so what follows a group begins another message
pub followed : (stamped : List ℕ → Type 0) (limit : ℕ) (group : Group) (held : List ℕ) (len : ℕ) (left : Option (List ℕ)) (next : NextLine) → text_of group ≡ take len held → len < length held → Stands limit (drop (len + 1) held) left next → IsApart stamped limit held (len + 1) next → IfSome left (λ rest. IsFollowed stamped limit group (drop (len + 1) held ++ rest))
followed stamped limit group held len None next text within s apart = tt
followed stamped limit group held len (Some rest) (Whole more true) text within s apart =
    let ahead = drop (len + 1) held in
    λ line f. begins stamped limit group held len more line text within (omega (arith, slice_get_within ahead more 10 s.2))
    (first_before (ahead ++ rest) (take more ahead) line (drop (more + 1) ahead ++ rest) (whole_ended limit ahead rest more s) s.1 f) apart
followed stamped limit group held len (Some rest) (Whole more false) text within s apart =
    let ahead = drop (len + 1) held in
    let e = whole_last limit ahead rest more s in
    λ line f. begins stamped limit group held len more line text within (omega (arith, s.2.0))
    (first_all (ahead ++ rest) line (subst IsLine (sym e) s.1) f ∙ e) apart
followed stamped limit group held len (Some rest) Nothing text within s apart =
    λ line f. absurd (first_none (drop (len + 1) held ++ rest) line (ap (λ a. a ++ rest) s.0 ∙ s.1) f)
followed stamped limit group held len (Some rest) TooLong text within s apart =
    λ line f. let above = first_long limit (drop (len + 1) held ++ rest) line (stays_long limit (drop (len + 1) held) rest s) f in
    inr (inr (omega (arith, above, length-append (text_of group) (10 ∷ line))))

-- a whole line that stands at the front is the first line
pub begins_whole : (limit : ℕ) (held : List ℕ) (left : Option (List ℕ)) (len : ℕ) (ended : Bool) → Stands limit held left (Whole len ended) → BeginsWhole limit held left
begins_whole limit held left len true s = record {
  line = take len held;
  fits = omega (arith, length-take len held, s.0);
  begins = (s.1, inr (drop (len + 1) held, around held len 10 s.2));
  of_all = more left s;
}
  where
    more : (left : Option (List ℕ)) → Stands limit held left (Whole len true) → IfSome left (λ rest. FirstLine (held ++ rest) (take len held))
    more None s = tt
    more (Some rest) s = (s.1, inr (drop (len + 1) held ++ rest, whole_ended limit held rest len s))
begins_whole limit held left len false s =
    let all : held ≡ take len held = sym (ap (λ n. take n held) s.2.0 ∙ take-length held) in
    let some : take len held ≢ [] = λ e. absurd (omega (arith, ap length e, ap length all, s.2.0, s.2.1)) in record {
      line = take len held;
      fits = omega (arith, length-take len held, s.0);
      begins = (s.1, inl (all, some));
      of_all = more left some s;
    }
  where
    more : (left : Option (List ℕ)) → take len held ≢ [] → Stands limit held left (Whole len false) → IfSome left (λ rest. FirstLine (held ++ rest) (take len held))
    more None some s = tt
    more (Some rest) some s = (s.1, inl (whole_last limit held rest len s, some))

-- a torn group is one message before the front of a line
pub torn_message : (stamped : List ℕ → Type 0) (limit : ℕ) (bytes : List ℕ) (torn : IsTornGroup stamped limit bytes) → (bytes ≡ (text_of torn.group ++ 10 ∷ []) ++ torn.part) × GroupMessages stamped limit (text_of torn.group ++ 10 ∷ []) (text_of torn.group ∷ []) true × stamped torn.group.first
torn_message stamped limit bytes t = (
  t.splits ∙ sym (append_assoc (text_of t.group) (10 ∷ []) t.part),
  group_messages_first stamped limit t.group [] [] true t.are_lines t.is_group (λ line f. absurd (first_none [] line refl f)) (group_messages_empty stamped limit),
  t.has_stamp,
)

-- a whole first line within the limit is not too long
pub whole_not_long : (max : ℕ) (bytes line : List ℕ) → FirstLine bytes line → length line ≤ max → BeginsTooLong max bytes → ⊥
whole_not_long max bytes line f fits long = absurd (omega (arith, fits, first_long max bytes line long f))
