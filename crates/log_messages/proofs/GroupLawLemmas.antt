-- Exactly one answer of messages that are groups of lines fits the bytes.
use Rattle.std.proofs.Common.{◌≡◌, ◌≢◌, ◌<◌, ◌⊎◌, inl, inr, refl, sym, ◌∙◌, ap, subst, arith, ℕ, List, [], ◌∷◌, ◌++◌, length, take, ◌-◌, map, Bool, true, false, All, get_or, length-append}
use Rattle.std.specs.List.{flat_map}
use Rattle.std.proofs.lemmas.List.{append-nil, append_assoc, get_or_at}
use Rattle.std.proofs.lemmas.List.Elements.{All-nil, All-cons, All-head, All-tail}
use Rattle.log_messages.specs.Messages.{IsLine, Messages, joined}
use Rattle.log_messages.specs.Laws.{file_text}
use Rattle.log_messages.specs.Groups.{Group, lines_of, text_of, last_line, BeginsBehind, IsGroup, AreApart, AreGroups, GroupMessages, FirstLine, IsFollowed}
use Rattle.log_messages.proofs.StepLemmas.{Messages-after}
use Rattle.log_messages.proofs.ExistenceLemmas.{messages_exist}
use Rattle.log_messages.proofs.LawLemmas.{messages_agree, messages_empty, messages_join}
use Rattle.log_messages.proofs.GroupLemmas.{IsTest, text-joined, texts-joined, IsGroup-alone, IsGroup-more, begins_or_goes_on, never_both, AreApart-one, AreApart-cons, AreApart-tail}

-- lines behind a group, cut into groups
record Cuts (stamped : List ℕ → Type 0) (limit : ℕ) (group : Group) (lines : List (List ℕ)) : Type 0 where
  next : Group
  more : List Group
  first : next.first ≡ group.first
  cut : lines_of group ++ lines ≡ flat_map lines_of (next ∷ more)
  within : All (IsGroup stamped limit) (next ∷ more)
  apart : AreApart stamped limit (next ∷ more)

cuts : (stamped : List ℕ → Type 0) (limit : ℕ) → IsTest stamped → (lines : List (List ℕ)) (group : Group) → IsGroup stamped limit group → Cuts stamped limit group lines
cuts stamped limit test [] group is = record {
  next = group;
  more = [];
  first = refl;
  cut = refl;
  within = All-cons (IsGroup stamped limit) group [] is (All-nil (IsGroup stamped limit));
  apart = AreApart-one stamped limit group;
}
cuts stamped limit test (line ∷ lines) group is =
    elim (begins_or_goes_on stamped limit test group line) [
      | inl begins ↦
          let rest = cuts stamped limit test lines (record { first = line; later = [] }) (IsGroup-alone stamped limit line) in record {
            next = group;
            more = rest.next ∷ rest.more;
            first = refl;
            cut = ap (λ ls. lines_of group ++ ls) rest.cut;
            within = All-cons (IsGroup stamped limit) group (rest.next ∷ rest.more) is rest.within;
            apart = AreApart-cons stamped limit group rest.next rest.more (subst (BeginsBehind stamped limit group) (sym rest.first) begins) rest.apart;
          }
      | inr goes ↦
          let longer : Group = record { first = group.first; later = group.later ++ line ∷ [] } in
          let rest = cuts stamped limit test lines longer (IsGroup-more stamped limit group.first group.later line is goes) in record {
            next = rest.next;
            more = rest.more;
            first = rest.first;
            cut = ap (λ ls. group.first ∷ ls) (sym (append_assoc group.later (line ∷ []) lines)) ∙ rest.cut;
            within = rest.within;
            apart = rest.apart;
          }
    ]

-- each list of lines is cut into groups
pub groups_exist : (stamped : List ℕ → Type 0) (limit : ℕ) → IsTest stamped → (lines : List (List ℕ)) → (groups : List Group) × AreGroups stamped limit lines groups
groups_exist stamped limit test [] = ([], record { cut = refl; within = All-nil (IsGroup stamped limit); apart = λ before group next behind e. absurd (omega (arith, ap length e, length-append before (group ∷ next ∷ behind))) })
groups_exist stamped limit test (line ∷ lines) =
    let c = cuts stamped limit test lines (record { first = line; later = [] }) (IsGroup-alone stamped limit line) in
    (c.next ∷ c.more, record { cut = c.cut; within = c.within; apart = c.apart })

-- two ways to cut one list
record Longer {X : Type 0} (a u b v : List X) : Type 0 where
  here : X
  more : List X
  first : b ≡ a ++ here ∷ more
  rest : u ≡ here ∷ (more ++ v)

both_ways : {X : Type 0} (a u b v : List X) → a ++ u ≡ b ++ v → ((a ≡ b) × (u ≡ v)) ⊎ (Longer a u b v ⊎ Longer b v a u)
both_ways [] u [] v e = inl (refl, e)
both_ways [] u (x ∷ b) v e = inr (inl (record { here = x; more = b; first = refl; rest = e }))
both_ways (x ∷ a) u [] v e = inr (inr (record { here = x; more = a; first = refl; rest = sym e }))
both_ways (x ∷ a) u (y ∷ b) v e =
    let head : x ≡ y = cc in let tail : a ++ u ≡ b ++ v = cc in
    elim (both_ways a u b v tail) [
      | inl h ↦ inl (cc (head, h.0), h.1)
      | inr (inl l) ↦ inr (inl (record { here = l.here; more = l.more; first = cc (head, l.first); rest = l.rest }))
      | inr (inr l) ↦ inr (inr (record { here = l.here; more = l.more; first = cc (head, l.first); rest = l.rest }))
    ]

-- a group does not end before a line that goes on in it
no_longer : (stamped : List ℕ → Type 0) (limit : ℕ) (g h : Group) (gs hs : List Group) → IsGroup stamped limit h → AreApart stamped limit (g ∷ gs) → g.first ≡ h.first → Longer g.later (flat_map lines_of gs) h.later (flat_map lines_of hs) → ⊥
no_longer stamped limit g h [] hs is apart first l = let e = l.rest in absurd cc
no_longer stamped limit g h (x ∷ gs) hs is apart first l =
    let e = l.rest in let same : x.first ≡ l.here = cc in
    let goes = is g.later l.here l.more l.first in
    let begins = apart [] g x gs refl in
    never_both stamped limit (record { first = h.first; later = g.later }) l.here
    (subst (λ (f : List ℕ). BeginsBehind stamped limit (record { first = f; later = g.later }) l.here) first (subst (λ (line : List ℕ). BeginsBehind stamped limit g line) same begins))
    goes

groups_agree : (stamped : List ℕ → Type 0) (limit : ℕ) (gs hs : List Group) → All (IsGroup stamped limit) gs → All (IsGroup stamped limit) hs → AreApart stamped limit gs → AreApart stamped limit hs → flat_map lines_of gs ≡ flat_map lines_of hs → gs ≡ hs
groups_agree stamped limit [] [] p q a b e = refl
groups_agree stamped limit [] (h ∷ hs) p q a b e = absurd cc
groups_agree stamped limit (g ∷ gs) [] p q a b e = absurd cc
groups_agree stamped limit (g ∷ gs) (h ∷ hs) p q a b e =
    let first : g.first ≡ h.first = cc in
    let tail : g.later ++ flat_map lines_of gs ≡ h.later ++ flat_map lines_of hs = cc in
    elim (both_ways g.later (flat_map lines_of gs) h.later (flat_map lines_of hs) tail) [
      | inl s ↦
          let more = groups_agree stamped limit gs hs (All-tail (IsGroup stamped limit) g gs p) (All-tail (IsGroup stamped limit) h hs q) (AreApart-tail stamped limit g gs a) (AreApart-tail stamped limit h hs b) s.1 in
          let same : g ≡ h = λ i. record { first = first i; later = s.0 i } in cc (same, more)
      | inr (inl l) ↦ absurd (no_longer stamped limit g h gs hs (All-head (IsGroup stamped limit) h hs q) a first l)
      | inr (inr l) ↦ absurd (no_longer stamped limit h g hs gs (All-head (IsGroup stamped limit) g gs p) b (sym first) l)
    ]

-- every list of bytes has messages
pub group_messages_exist : (stamped : List ℕ → Type 0) (limit : ℕ) → IsTest stamped → (bytes : List ℕ) → (messages : List (List ℕ)) × (ended : Bool) × GroupMessages stamped limit bytes messages ended
group_messages_exist stamped limit test bytes =
    let m = messages_exist bytes in let g = groups_exist stamped limit test m.messages in
    (map text_of g.0, m.ended, record { lines = m.messages; are_lines = m.are; groups = g.0; are_groups = g.1; are = refl })

-- only one answer fits
pub group_messages_agree : (stamped : List ℕ → Type 0) (limit : ℕ) (bytes : List ℕ) (ms ns : List (List ℕ)) (e f : Bool) → GroupMessages stamped limit bytes ms e → GroupMessages stamped limit bytes ns f → (ms ≡ ns) × (e ≡ f)
group_messages_agree stamped limit bytes ms ns e f m n =
    let lines = messages_agree bytes m.lines n.lines e f m.are_lines n.are_lines in
    let same = groups_agree stamped limit m.groups n.groups m.are_groups.within n.are_groups.within m.are_groups.apart n.are_groups.apart (sym m.are_groups.cut ∙ (lines.0 ∙ n.are_groups.cut)) in
    (m.are ∙ (ap (map text_of) same ∙ sym n.are), lines.1)

-- joining them back gives the bytes
file_text-joined : (xs ys : List (List ℕ)) (e : Bool) → joined xs ≡ joined ys → file_text xs e ≡ file_text ys e
file_text-joined xs ys true h = h
file_text-joined xs ys false h = ap (λ text. take (length text - 1) text) h

pub group_messages_join : (stamped : List ℕ → Type 0) (limit : ℕ) (bytes : List ℕ) (ms : List (List ℕ)) (e : Bool) → GroupMessages stamped limit bytes ms e → file_text ms e ≡ bytes
group_messages_join stamped limit bytes ms e m =
    file_text-joined ms m.lines e (ap joined m.are ∙ (texts-joined m.groups ∙ ap joined (sym m.are_groups.cut)))
    ∙ messages_join bytes m.lines e m.are_lines

-- no bytes have no messages
pub group_messages_empty : (stamped : List ℕ → Type 0) (limit : ℕ) → GroupMessages stamped limit [] [] true
group_messages_empty stamped limit = record {
  lines = [];
  are_lines = messages_empty;
  groups = [];
  are_groups = record { cut = refl; within = All-nil (IsGroup stamped limit); apart = λ before group next behind e. absurd (omega (arith, ap length e, length-append before (group ∷ next ∷ behind))) };
  are = refl;
}

-- the first of the lines is the first line
open_first : (bytes line : List ℕ) (lines front : List (List ℕ)) (last : List ℕ) → line ∷ lines ≡ front ++ last ∷ [] → last ≢ [] → bytes ≡ joined front ++ last → ((bytes ≡ line) × (line ≢ [])) ⊎ ((rest : List ℕ) × (bytes ≡ line ++ 10 ∷ rest))
open_first bytes line lines [] last e some is = let same : line ≡ last = cc in inl (is ∙ sym same, λ n. some (sym same ∙ n))
open_first bytes line lines (f ∷ front) last e some is =
    let same : f ≡ line = cc in
    inr (joined front ++ last, is ∙ (append_assoc f (10 ∷ joined front) last ∙ ap (λ g. g ++ 10 ∷ (joined front ++ last)) same))

pub first_line : (bytes line : List ℕ) (lines : List (List ℕ)) (e : Bool) → Messages bytes (line ∷ lines) e → FirstLine bytes line
first_line bytes line lines true m = (All-head IsLine line lines m.0, inr (joined lines, m.1))
first_line bytes line lines false m = (All-head IsLine line lines m.0, open_first bytes line lines m.1.front m.1.last m.1.splits m.1.some m.1.is)

-- a group and then others
apart_from : (stamped : List ℕ → Type 0) (limit : ℕ) (group : Group) (rest : List ℕ) (lines : List (List ℕ)) (e : Bool) (groups : List Group) → IsFollowed stamped limit group rest → Messages rest lines e → AreGroups stamped limit lines groups → AreApart stamped limit (group ∷ groups)
apart_from stamped limit group rest lines e [] followed m g = AreApart-one stamped limit group
apart_from stamped limit group rest lines e (next ∷ groups) followed m g =
    AreApart-cons stamped limit group next groups (followed next.first (first_line rest next.first (next.later ++ flat_map lines_of groups) e (subst (λ (ls : List (List ℕ)). Messages rest ls e) g.cut m))) g.apart

pub group_messages_first : (stamped : List ℕ → Type 0) (limit : ℕ) (group : Group) (rest : List ℕ) (ms : List (List ℕ)) (e : Bool) → All IsLine (lines_of group) → IsGroup stamped limit group → IsFollowed stamped limit group rest → GroupMessages stamped limit rest ms e → GroupMessages stamped limit (text_of group ++ 10 ∷ rest) (text_of group ∷ ms) e
group_messages_first stamped limit group rest ms e lines is followed m = record {
  lines = lines_of group ++ m.lines;
  are_lines = Messages-after (text_of group ++ 10 ∷ rest) (lines_of group) rest m.lines e (record { lines_are = lines; splits = text-joined group.first group.later rest }) m.are_lines;
  groups = group ∷ m.groups;
  are_groups = record {
    cut = ap (λ ls. lines_of group ++ ls) m.are_groups.cut;
    within = All-cons (IsGroup stamped limit) group m.groups is m.are_groups.within;
    apart = apart_from stamped limit group rest m.lines e m.groups followed m.are_lines m.are_groups;
  };
  are = ap (λ r. text_of group ∷ r) m.are;
}

-- the lines of a group whose last has no newline
record OpenLines (first : List ℕ) (later : List (List ℕ)) : Type 0 where
  front : List (List ℕ)
  splits : first ∷ later ≡ front ++ last_line first later ∷ []
  is : first ++ flat_map (λ l. 10 ∷ l) later ≡ joined front ++ last_line first later

open_lines : (first : List ℕ) (later : List (List ℕ)) → OpenLines first later
open_lines first [] = record { front = []; splits = refl; is = append-nil first }
open_lines first (line ∷ lines) =
    let o = open_lines line lines in record {
      front = first ∷ o.front;
      splits = ap (λ ls. first ∷ ls) o.splits;
      is = ap (λ t. first ++ 10 ∷ t) o.is ∙ sym (append_assoc first (10 ∷ joined o.front) (last_line line lines));
    }

pub group_messages_open : (stamped : List ℕ → Type 0) (limit : ℕ) (group : Group) → All IsLine (lines_of group) → IsGroup stamped limit group → last_line group.first group.later ≢ [] → GroupMessages stamped limit (text_of group) (text_of group ∷ []) false
group_messages_open stamped limit group lines is some =
    let o = open_lines group.first group.later in record {
      lines = lines_of group;
      are_lines = (lines, record { front = o.front; last = last_line group.first group.later; splits = o.splits; some = some; is = o.is });
      groups = group ∷ [];
      are_groups = record {
        cut = sym (append-nil (lines_of group));
        within = All-cons (IsGroup stamped limit) group [] is (All-nil (IsGroup stamped limit));
        apart = AreApart-one stamped limit group;
      };
      are = refl;
    }

-- the first line of some whole lines is the first line of all
pub first_of_lines : (lines rest line : List ℕ) → FirstLine (lines ++ 10 ∷ []) line → FirstLine (lines ++ 10 ∷ rest) line
first_of_lines lines rest line (is, inl whole) =
    let within : length lines < length line = omega (arith, ap length whole.0, length-append lines (10 ∷ [])) in
    absurd (is (length lines) 0 within (ap (λ l. get_or l (length lines) 0) (sym whole.0) ∙ get_or_at lines 10 [] 0 (length lines) refl))
first_of_lines lines rest line (is, inr (more, e)) =
    (is, inr (more ++ rest, sym (append_assoc lines (10 ∷ []) rest) ∙ (ap (λ l. l ++ rest) e ∙ append_assoc line (10 ∷ more) rest)))

pub followed_by_lines : (stamped : List ℕ → Type 0) (limit : ℕ) (group : Group) (lines rest : List ℕ) → IsFollowed stamped limit group (lines ++ 10 ∷ rest) → IsFollowed stamped limit group (lines ++ 10 ∷ [])
followed_by_lines stamped limit group lines rest followed line f = followed line (first_of_lines lines rest line f)
