-- A message that was looked for and then given.
use Rattle.std.proofs.Common.{◌≡◌, ◌≢◌, ◌<◌, ◌+◌, refl, sym, ◌∙◌, ap, subst, arith, ℕ, Bool, true, false, List, [], ◌∷◌, ◌++◌, All, Option, None, Some, length, take, drop}
use Rattle.std.specs.Prelude.{IfSome}
use Rattle.std.proofs.Math.Seq.{take-length}
use Rattle.std.proofs.lemmas.List.{length-take, length-drop, nil_from_length}
use Rattle.log_messages.specs.Messages.{IsLine}
use Rattle.log_messages.specs.Groups.{Group, lines_of, text_of, last_line, IsGroup, IsFollowed, GroupMessages}
use Rattle.log_messages.proofs.GroupLawLemmas.{group_messages_first, group_messages_open}
use Rattle.line_cut.specs.Length.{bytes_left}
use Rattle.line_cut.specs.Cutting.{Parts, left_of}
use Rattle.line_cut.specs.Joining.{GaveMessage, IsFirstOfGroups, JoinerState, stamped_by}
use Rattle.line_cut.specs.StepsJoining.{IsInFront, at_message}
use Rattle.line_cut.specs.StepsLooking.{newline_len}
use Rattle.line_cut.specs.declared.cut.Cut.{Cut}
use Rattle.line_cut.specs.declared.cut.Progress.{Progress}
use Rattle.line_cut.specs.declared.cut.Progress.TheVariants.{Open, Ended, Refused}
use Rattle.line_cut.specs.declared.message.Seen.{Seen}
use Rattle.line_cut.specs.declared.message.Seen.TheVariants.{End, Refused as SeenRefused}
use Rattle.line_cut.specs.declared.join.Joined.{Joined}
use Rattle.line_cut.proofs.GivingLemmas.{parts_last, parts_line}

-- a joiner that looked was open
pub was_joining : (p : Progress) (r : Seen) → (p ≡ Ended → r ≡ End) → ((e : Cut) → p ≡ Refused e → r ≡ SeenRefused e) → r ≢ End → ((e : Cut) → r ≢ SeenRefused e) → p ≡ Open
was_joining Open r f h n m = refl
was_joining Ended r f h n m = absurd (n (f refl))
was_joining (Refused e) r f h n m = absurd (m e (h e refl))

-- so the text is the first message of what was left
first_more : (stamped : List ℕ → Type 0) (limit : ℕ) (group : Group) (text np : List ℕ) (nl before : Option (List ℕ)) → text_of group ≡ text → All IsLine (lines_of group) → IsGroup stamped limit group → IfSome nl (λ rest. IsFollowed stamped limit group (np ++ rest)) → Parts true text before (bytes_left np nl) → IfSome before (λ b. IfSome (bytes_left np nl) (IsFirstOfGroups stamped limit true text b))
first_more stamped limit group text np None None is lines g f parts = tt
first_more stamped limit group text np None (Some b) is lines g f parts = tt
first_more stamped limit group text np (Some rest) None is lines g f parts = tt
first_more stamped limit group text np (Some rest) (Some b) is lines g f parts =
    let whole : b ≡ text ++ 10 ∷ (np ++ rest) = cc in
    λ ms e m. subst (λ t. GroupMessages stamped limit t (text ∷ ms) e) (sym whole)
    (subst (λ t. GroupMessages stamped limit (t ++ 10 ∷ (np ++ rest)) (t ∷ ms) e) is (group_messages_first stamped limit group (np ++ rest) ms e lines g f m))

first_open : (stamped : List ℕ → Type 0) (limit : ℕ) (group : Group) (text : List ℕ) (before after : Option (List ℕ)) → text_of group ≡ text → All IsLine (lines_of group) → IsGroup stamped limit group → last_line group.first group.later ≢ [] → Parts false text before after → IfSome before (λ b. IfSome after (IsFirstOfGroups stamped limit false text b))
first_open stamped limit group text None after is lines g some parts = tt
first_open stamped limit group text (Some b) None is lines g some parts = tt
first_open stamped limit group text (Some b) (Some a) is lines g some parts =
    let whole : b ≡ text = cc (parts.0) in
    subst (λ t. GroupMessages stamped limit t (text ∷ []) false) (sym whole)
    (subst (λ t. GroupMessages stamped limit t (t ∷ []) false) is (group_messages_open stamped limit group lines g some))

-- what a look and the step behind it leave
pub record StepsTo {S T : Type 0} (left : S → Option (List ℕ)) (text : List ℕ) (j : Joined) (old mid new : JoinerState S T) : Type 0 where
  pub was_open : old.cutter.progress ≡ Open
  pub left_same : left_of left mid.cutter ≡ left_of left old.cutter
  pub given_same : mid.cutter.given ≡ old.cutter.given
  pub lines_same : mid.lines ≡ old.lines
  pub is : text ≡ take j.len mid.cutter.pending
  pub at : new ≡ at_message j mid

-- the parts of what was left
parts_of : {S T : Type 0} (left : S → Option (List ℕ)) (stamped : List ℕ → Type 0) (limit : ℕ) (text : List ℕ) (j : Joined) (old mid new : JoinerState S T) → IsInFront stamped limit mid.cutter.pending (left mid.cutter.source) j → StepsTo left text j old mid new → (ended : Bool) → j.ended ≡ ended → Parts ended text (left_of left old.cutter) (left_of left new.cutter)
parts_of left stamped limit text j old mid new m steps true is =
    let pending : new.cutter.pending ≡ drop (j.len + 1) mid.cutter.pending = ap (λ s. s.cutter.pending) steps.at ∙ ap (λ e. drop (j.len + newline_len e) mid.cutter.pending) is in
    let source = ap (λ s. s.cutter.source) steps.at in
    sym steps.left_same ∙ parts_line mid.cutter.pending new.cutter.pending text j.len (left mid.cutter.source) (left new.cutter.source) steps.is pending (rw is at m.ends) (ap left source)
parts_of left stamped limit text j old mid new m steps false is =
    let pending : new.cutter.pending ≡ drop (j.len + 0) mid.cutter.pending = ap (λ s. s.cutter.pending) steps.at ∙ ap (λ e. drop (j.len + newline_len e) mid.cutter.pending) is in
    let source = ap (λ s. s.cutter.source) steps.at in
    let ends = rw is at m.ends in
    let whole : text ≡ mid.cutter.pending = steps.is ∙ (ap (λ n. take n mid.cutter.pending) ends.0 ∙ take-length mid.cutter.pending) in
    let none : new.cutter.pending ≡ [] = nil_from_length new.cutter.pending (omega (arith, ap length pending, length-drop (j.len + 0) mid.cutter.pending, ends.0)) in
    subst (λ o. Parts false text o (left_of left new.cutter)) steps.left_same
    (parts_last mid.cutter.pending new.cutter.pending text (left mid.cutter.source) (left new.cutter.source) whole none ends.2 (ap left source))

message_of : {S T : Type 0} (left : S → Option (List ℕ)) (stamped : List ℕ → Type 0) (limit : ℕ) (text : List ℕ) (j : Joined) (old mid new : JoinerState S T) → IsInFront stamped limit mid.cutter.pending (left mid.cutter.source) j → StepsTo left text j old mid new → (ended : Bool) → j.ended ≡ ended → IfSome (left_of left old.cutter) (λ before. IfSome (left_of left new.cutter) (IsFirstOfGroups stamped limit ended text before))
message_of left stamped limit text j old mid new m steps true is =
    let pending : new.cutter.pending ≡ drop (j.len + 1) mid.cutter.pending = ap (λ s. s.cutter.pending) steps.at ∙ ap (λ e. drop (j.len + newline_len e) mid.cutter.pending) is in
    let source = ap (λ s. s.cutter.source) steps.at in
    let f : IfSome (left new.cutter.source) (λ rest. IsFollowed stamped limit m.group (new.cutter.pending ++ rest)) =
    subst (λ np. IfSome (left new.cutter.source) (λ rest. IsFollowed stamped limit m.group (np ++ rest))) (sym pending)
    (subst (λ o. IfSome o (λ rest. IsFollowed stamped limit m.group (drop (j.len + 1) mid.cutter.pending ++ rest))) (sym (ap left source)) (m.followed is)) in
    first_more stamped limit m.group text new.cutter.pending (left new.cutter.source) (left_of left old.cutter) (m.text ∙ sym steps.is) m.are_lines m.is_group f
    (parts_of left stamped limit text j old mid new m steps true is)
message_of left stamped limit text j old mid new m steps false is =
    first_open stamped limit m.group text (left_of left old.cutter) (left_of left new.cutter) (m.text ∙ sym steps.is) m.are_lines m.is_group (m.last is)
    (parts_of left stamped limit text j old mid new m steps false is)

-- and what is left begins another message behind its group
left_more : (F : List ℕ → Type 0) (np : List ℕ) (nl : Option (List ℕ)) → IfSome nl (λ rest. F (np ++ rest)) → IfSome (bytes_left np nl) F
left_more F np None f = tt
left_more F np (Some rest) f = f

follows : {S T : Type 0} (left : S → Option (List ℕ)) (stamped : List ℕ → Type 0) (limit : ℕ) (text : List ℕ) (j : Joined) (old mid new : JoinerState S T) → (m : IsInFront stamped limit mid.cutter.pending (left mid.cutter.source) j) → StepsTo left text j old mid new → j.ended ≡ true → IfSome (left_of left new.cutter) (IsFollowed stamped limit m.group)
follows left stamped limit text j old mid new m steps is =
    let pending : new.cutter.pending ≡ drop (j.len + 1) mid.cutter.pending = ap (λ s. s.cutter.pending) steps.at ∙ ap (λ e. drop (j.len + newline_len e) mid.cutter.pending) is in
    let source = ap (λ s. s.cutter.source) steps.at in
    left_more (IsFollowed stamped limit m.group) new.cutter.pending (left new.cutter.source)
    (subst (λ np. IfSome (left new.cutter.source) (λ rest. IsFollowed stamped limit m.group (np ++ rest))) (sym pending)
    (subst (λ o. IfSome o (λ rest. IsFollowed stamped limit m.group (drop (j.len + 1) mid.cutter.pending ++ rest))) (sym (ap left source)) (m.followed is)))

pub gave_message : {S T : Type 0} (left : S → Option (List ℕ)) (starts : T → List ℕ → Type 0) (text : List ℕ) (j : Joined) (old mid new : JoinerState S T) → old.cutter.given < old.cutter.max_lines → IsInFront (stamped_by starts old) old.cutter.max_line mid.cutter.pending (left mid.cutter.source) j → StepsTo left text j old mid new → GaveMessage left starts j.ended text old new
gave_message left starts text j old mid new room m steps = record {
  was_open = steps.was_open;
  progress = ap (λ s. s.cutter.progress) steps.at;
  within = room;
  given = ap (λ s. s.cutter.given) steps.at ∙ ap (λ n. n + 1) steps.given_same;
  count = j.lines;
  lines = ap (λ s. s.lines) steps.at ∙ ap (λ n. n + j.lines) steps.lines_same;
  is_group = record {
    group = m.group;
    is = m.text ∙ sym steps.is;
    are_lines = m.are_lines;
    is_group = m.is_group;
    count = m.count;
    fits = omega (arith, ap length steps.is, length-take j.len mid.cutter.pending, m.fits);
    last = m.last;
  };
  followed = follows left (stamped_by starts old) old.cutter.max_line text j old mid new m steps;
  alone = λ none ended.
      subst (λ t. IsLine t × (¬ stamped_by starts old t)) (sym steps.is) (m.alone (sym (ap (λ s. s.behind) steps.at) ∙ none) ended);
  parts = parts_of left (stamped_by starts old) old.cutter.max_line text j old mid new m steps j.ended refl;
  message = message_of left (stamped_by starts old) old.cutter.max_line text j old mid new m steps j.ended refl;
}
