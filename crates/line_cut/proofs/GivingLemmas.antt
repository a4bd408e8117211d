-- A line that was looked at and then given.
use Rattle.std.proofs.Common.{◌≡◌, ◌≢◌, ◌+◌, refl, sym, ◌∙◌, ap, subst, arith, ℕ, zero, suc, Bool, true, false, List, [], ◌∷◌, ◌++◌, Option, None, Some, Result, Ok, Err, OnOk, length, take, drop}
use Rattle.std.specs.Prelude.{IfSome, option_map, slice_get}
use Rattle.std.proofs.Math.Seq.{take-length}
use Rattle.std.proofs.lemmas.List.{append_assoc, append-nil, length-take, length-drop, nil_from_length}
use Rattle.log_seams.specs.Outside.{CountsOf}
use Rattle.log_messages.specs.Messages.{IsLine, Messages}
use Rattle.log_messages.proofs.LawLemmas.{messages_line, messages_open}
use Rattle.line_cut.specs.Cutting.{CutterState, Gave, Parts, IsFirstMessage, Repeats, left_of}
use Rattle.line_cut.specs.StepsLooking.{Sees, at_line}
use Rattle.line_cut.specs.Length.{bytes_left}
use Rattle.line_cut.specs.declared.cut.Cut.{Cut}
use Rattle.line_cut.specs.declared.cut.Cut.TheVariants.{ReadFault}
use Rattle.line_cut.specs.declared.cut.Progress.{Progress}
use Rattle.line_cut.specs.declared.cut.Progress.TheVariants.{Open, Ended, Refused}
use Rattle.line_cut.specs.declared.look.Looked.{Looked}
use Rattle.line_cut.specs.declared.look.Looked.TheVariants.{Line, End, Refused as LookRefused}

-- a cutter that looked was open
pub was_open : (p : Progress) (r : Looked) → (p ≡ Ended → r ≡ End) → ((e : Cut) → p ≡ Refused e → r ≡ LookRefused e) → r ≢ End → ((e : Cut) → r ≢ LookRefused e) → p ≡ Open
was_open Open r f h n m = refl
was_open Ended r f h n m = absurd (n (f refl))
was_open (Refused e) r f h n m = absurd (m e (h e refl))

-- an error does not come behind the end
pub not_ended : {S A : Type 0} (p : Progress) (old new : CutterState S) (r : Result (Option A) Cut) (e : Cut) → Repeats p old new r → r ≡ Err e → p ≢ Ended
not_ended Open old new r e h is ended = cc
not_ended Ended old new r e h is ended = cc (h.0, is)
not_ended (Refused f) old new r e h is ended = cc

-- where a cutter answers Ok the count of faults stands, whether it was open or not
on_ok : {A E : Type 0} {X : Type 0} (r : Result A E) → X → OnOk r X
on_ok (Ok a) x = x
on_ok (Err e) x = tt

pub steady_of : {S A : Type 0} (faults : S → ℕ) (p : Progress) (old new : CutterState S) (r : Result (Option A) Cut) → Repeats p old new r → (p ≡ Open → CountsOf ReadFault (faults old.source) (faults new.source) r) → OnOk r (faults new.source ≡ faults old.source)
steady_of faults Open old new r again counts = (counts refl).steady
steady_of faults Ended old new r again counts = on_ok r (ap (λ c. faults c.source) again.1)
steady_of faults (Refused e) old new r again counts = on_ok r (ap (λ c. faults c.source) again.1)

-- a list around an element
pub around : (p : List ℕ) (len b : ℕ) → slice_get p len ≡ Some b → p ≡ take len p ++ b ∷ drop (len + 1) p
around [] len b e = cc
around (x ∷ p) zero b e = let h : x ≡ b = cc in ap (λ y. y ∷ p) h
around (x ∷ p) (suc len) b e =
    let n : suc len + 1 ≡ suc (len + 1) = omega arith in
    ap (λ q. x ∷ q) (around p len b e) ∙ ap (λ k. x ∷ (take len p ++ b ∷ drop k (x ∷ p))) (sym n)

pub parts_line : (p np line : List ℕ) (len : ℕ) (l nl : Option (List ℕ)) → line ≡ take len p → np ≡ drop (len + 1) p → slice_get p len ≡ Some 10 → nl ≡ l → bytes_left p l ≡ option_map (λ rest. line ++ 10 ∷ rest) (bytes_left np nl)
parts_line p np line len None nl is after at same = sym (ap (λ o. option_map (λ rest. line ++ 10 ∷ rest) (bytes_left np o)) same)
parts_line p np line len (Some rest) nl is after at same =
    let whole : p ≡ line ++ 10 ∷ np = around p len 10 at ∙ (ap (λ a. a ++ 10 ∷ drop (len + 1) p) (sym is) ∙ ap (λ b. line ++ 10 ∷ b) (sym after)) in
    let all : p ++ rest ≡ line ++ 10 ∷ (np ++ rest) = ap (λ a. a ++ rest) whole ∙ append_assoc line (10 ∷ np) rest in
    ap (λ a. Some a) all ∙ sym (ap (λ o. option_map (λ rest. line ++ 10 ∷ rest) (bytes_left np o)) same)

pub parts_last : (p np line : List ℕ) (l nl : Option (List ℕ)) → line ≡ p → np ≡ [] → IfSome l (λ rest. rest ≡ []) → nl ≡ l → Parts false line (bytes_left p l) (bytes_left np nl)
parts_last p np line None nl is after ends same =
    subst (λ o. Parts false line None (bytes_left np o)) (sym same) (refl, tt)
parts_last p np line (Some rest) nl is after ends same =
    let all : p ++ rest ≡ line = ap (λ r. p ++ r) ends ∙ (append-nil p ∙ sym is) in
    let none : np ++ rest ≡ [] = ap (λ n. n ++ rest) after ∙ ends in
    subst (λ o. Parts false line (Some (p ++ rest)) (bytes_left np o)) (sym same) (ap (λ a. Some a) all, none)

-- so the line is the first message
pub message_line : (line : List ℕ) (lo ln : Option (List ℕ)) → IsLine line → Parts true line lo ln → IfSome lo (λ before. IfSome ln (IsFirstMessage true line before))
message_line line None ln is e = tt
message_line line (Some before) None is e = tt
message_line line (Some before) (Some after) is e =
    let whole : before ≡ line ++ 10 ∷ after = cc in
    λ lines ended m. subst (λ b. Messages b (line ∷ lines) ended) (sym whole) (messages_line line after lines ended is m)

pub message_last : (line : List ℕ) (lo ln : Option (List ℕ)) → IsLine line → line ≢ [] → Parts false line lo ln → IfSome lo (λ before. IfSome ln (IsFirstMessage false line before))
message_last line None ln is some e = tt
message_last line (Some before) None is some e = tt
message_last line (Some before) (Some after) is some e =
    let whole : before ≡ line = cc in subst (λ b. Messages b (line ∷ []) false) (sym whole) (messages_open line is some)

-- what a look and the step behind it leave
pub record Steps {S : Type 0} (left : S → Option (List ℕ)) (line : List ℕ) (len : ℕ) (ended : Bool) (old mid new : CutterState S) : Type 0 where
  pub was_open : old.progress ≡ Open
  pub left_same : left_of left mid ≡ left_of left old
  pub given_same : mid.given ≡ old.given
  pub is : line ≡ take len mid.pending
  pub at : new ≡ at_line len ended mid

pub gave : {S : Type 0} (left : S → Option (List ℕ)) (rose : Type 0) (line : List ℕ) (len : ℕ) (ended : Bool) (old mid new : CutterState S)
    → Sees (record { given = old.given; max_line = old.max_line; max_lines = old.max_lines }) mid.pending (left mid.source) rose (Line len ended)
    → Steps left line len ended old mid new → Gave left ended line old new
gave left rose line len true old mid new sees steps =
    let pending = ap (λ c. c.pending) steps.at in let source = ap (λ c. c.source) steps.at in
    let parts : Parts true line (left_of left old) (left_of left new) =
    sym steps.left_same ∙ parts_line mid.pending new.pending line len (left mid.source) (left new.source) steps.is pending sees.3 (ap left source) in
    let is_line : IsLine line = subst IsLine (sym steps.is) sees.2 in
    record {
      was_open = steps.was_open;
      progress = ap (λ c. c.progress) steps.at;
      within = sees.0;
      given = ap (λ c. c.given) steps.at ∙ ap (λ n. n + 1) steps.given_same;
      is_line = is_line;
      not_empty = λ e. cc;
      fits = omega (arith, ap length steps.is, length-take len mid.pending, sees.1);
      parts = parts;
      message = message_line line (left_of left old) (left_of left new) is_line parts;
    }
gave left rose line len false old mid new sees steps =
    let pending = ap (λ c. c.pending) steps.at in let source = ap (λ c. c.source) steps.at in
    let whole : line ≡ mid.pending = steps.is ∙ (ap (λ n. take n mid.pending) sees.3.0 ∙ take-length mid.pending) in
    let none : new.pending ≡ [] = nil_from_length new.pending (omega (arith, ap length pending, length-drop (len + 0) mid.pending, sees.3.0)) in
    let parts : Parts false line (left_of left old) (left_of left new) =
    subst (λ o. Parts false line o (left_of left new)) steps.left_same
    (parts_last mid.pending new.pending line (left mid.source) (left new.source) whole none sees.3.2 (ap left source)) in
    let is_line : IsLine line = subst IsLine (sym steps.is) sees.2 in
    let some : line ≢ [] = λ e. absurd (omega (arith, ap length e, ap length whole, sees.3.0, sees.3.1)) in
    record {
      was_open = steps.was_open;
      progress = ap (λ c. c.progress) steps.at;
      within = sees.0;
      given = ap (λ c. c.given) steps.at ∙ ap (λ n. n + 1) steps.given_same;
      is_line = is_line;
      not_empty = λ _. some;
      fits = omega (arith, ap length steps.is, length-take len mid.pending, sees.1);
      parts = parts;
      message = message_last line (left_of left old) (left_of left new) is_line some parts;
    }
