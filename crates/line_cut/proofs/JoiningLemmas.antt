-- A group at the front of the bytes held that grows by a line.
use Rattle.std.proofs.Common.{◌≡◌, ◌≢◌, ◌≤◌, ◌+◌, inl, inr, refl, sym, ◌∙◌, ap, subst, arith, ℕ, Bool, true, false, List, [], ◌∷◌, ◌++◌, All, Option, None, Some, length, take, drop}
use Rattle.std.specs.Prelude.{◌↔◌, IfSome, IsTrue, slice_get}
use Rattle.std.proofs.lemmas.List.{append-nil, length-append, length-take, length-drop}
use Rattle.std.proofs.lemmas.List.Elements.{All-nil, All-cons, All-push}
use Rattle.std.proofs.lemmas.Option.{slice_get_within}
use Rattle.log_messages.specs.Messages.{IsLine}
use Rattle.log_messages.specs.Groups.{Group, lines_of, text_of, last_line, IsGroup, IsFollowed}
use Rattle.log_messages.proofs.GroupLemmas.{text-more, IsGroup-alone, IsGroup-more}
use Rattle.line_cut.specs.Joining.{IsTornGroup}
use Rattle.line_cut.specs.Standing.{EndsAt, Stands}
use Rattle.line_cut.specs.StepsJoining.{Growing, IsApart, IsFurther, IsInFront, Reaches}
use Rattle.line_cut.specs.declared.join.Further.{Further}
use Rattle.line_cut.specs.declared.next_line.NextLine.{NextLine}
use Rattle.line_cut.specs.declared.next_line.NextLine.TheVariants.{Whole, Nothing, TooLong}
use Rattle.line_cut.proofs.GivingLemmas.{around}
use Rattle.line_cut.proofs.GroupLemmas.{followed, front_line, slice_get-drop, slice_get-front, take-front}

-- the line that stands in front is within the bytes held
pub reaches : (max : ℕ) (held : List ℕ) (left : Option (List ℕ)) (next : NextLine) → Stands max held left next → Reaches (length held) next
reaches max held left (Whole len true) s = omega (arith, slice_get_within held len 10 s.2)
reaches max held left (Whole len false) s = omega (arith, s.2.0)
reaches max held left Nothing s = tt
reaches max held left TooLong s = tt

-- what was said of a line: `hay` is how the code has the bytes held
pub judged : (stamped : List ℕ → Type 0) (held hay : List ℕ) (len : ℕ) (said : Bool) → hay ≡ held → IsTrue said ↔ stamped (take len hay) → said ≡ true → stamped (take len held)
judged stamped held hay len said same tells is = subst (λ h. stamped (take len h)) same (tells.0 is)

pub judged_none : (stamped : List ℕ → Type 0) (held hay : List ℕ) (len : ℕ) (said : Bool) → hay ≡ held → IsTrue said ↔ stamped (take len hay) → said ≡ false → ¬ stamped (take len held)
judged_none stamped held hay len said same tells is_not is = absurd (cc (is_not, tells.1 (subst (λ h. stamped (take len h)) (sym same) is)))

-- a newline behind so many bytes
pub behind_newline : (stamped : List ℕ → Type 0) (limit : ℕ) (held : List ℕ) (len lines : ℕ) → Growing stamped limit held len lines → len + 1 ≤ length held
behind_newline stamped limit held len lines g = omega (arith, slice_get_within held len 10 g.newline)

-- a first line with a stamp is a group
pub growing_first : (stamped : List ℕ → Type 0) (limit : ℕ) (held : List ℕ) (len : ℕ) → IsLine (take len held) → stamped (take len held) → slice_get held len ≡ Some 10 → len ≤ limit → Growing stamped limit held len 1
growing_first stamped limit held len is stamp newline fits = record {
  group = record { first = take len held; later = [] };
  text = append-nil (take len held);
  are_lines = All-cons IsLine (take len held) [] is (All-nil IsLine);
  is_group = IsGroup-alone stamped limit (take len held);
  has_stamp = stamp;
  count = refl;
  newline = newline;
  fits = fits;
  few = omega arith;
}

-- it stays one where more is held
pub growing_front : (stamped : List ℕ → Type 0) (limit : ℕ) (old new : List ℕ) (len lines : ℕ) → length old ≤ length new → take (length old) new ≡ old → Growing stamped limit old len lines → Growing stamped limit new len lines
growing_front stamped limit old new len lines more front g =
    let within = slice_get_within old len 10 g.newline in record {
      group = g.group;
      text = g.text ∙ sym (take-front old new len (omega (arith, within)) front);
      are_lines = g.are_lines;
      is_group = g.is_group;
      has_stamp = g.has_stamp;
      count = g.count;
      newline = slice_get-front old new len 10 more front g.newline;
      fits = g.fits;
      few = g.few;
    }

-- where no line is whole behind it, the group is torn
pub torn : (stamped : List ℕ → Type 0) (limit : ℕ) (held : List ℕ) (len lines : ℕ) → Growing stamped limit held len lines → IsLine (drop (len + 1) held) → length (drop (len + 1) held) ≤ limit → IsTornGroup stamped limit held
torn stamped limit held len lines g is short = record {
  group = g.group;
  part = drop (len + 1) held;
  splits = around held len 10 g.newline ∙ ap (λ t. t ++ 10 ∷ drop (len + 1) held) (sym g.text);
  are_lines = g.are_lines;
  is_group = g.is_group;
  has_stamp = g.has_stamp;
  fits = omega (arith, ap length g.text, length-take len held, g.fits);
  no_newline = is;
  short = short;
}

-- the last line of a group with a line more
last_line-push : (first : List ℕ) (later : List (List ℕ)) (line : List ℕ) → last_line first (later ++ line ∷ []) ≡ line
last_line-push first [] line = refl
last_line-push first (x ∷ later) line = last_line-push x later line

-- the group with a line more
record Grown (stamped : List ℕ → Type 0) (limit : ℕ) (held : List ℕ) (len lines : ℕ) (last : List ℕ) : Type 0 where
  group : Group
  text : text_of group ≡ take len held
  are_lines : All IsLine (lines_of group)
  is_group : IsGroup stamped limit group
  has_stamp : stamped group.first
  count : length (lines_of group) ≡ lines
  few : lines ≤ len + 1
  fits : len ≤ limit
  last_is : last_line group.first group.later ≡ last

grown : (stamped : List ℕ → Type 0) (limit : ℕ) (held : List ℕ) (len lines more : ℕ) (line : List ℕ) → Growing stamped limit held len lines → line ≡ take more (drop (len + 1) held) → IsLine line → len + 1 + more ≤ limit → (¬ stamped line) → Grown stamped limit held (len + (1 + more)) (lines + 1) line
grown stamped limit held len lines more line g is is_line fits no_stamp =
    let size : length (text_of g.group ++ 10 ∷ line) ≤ limit =
    omega (arith, length-append (text_of g.group) (10 ∷ line), ap length g.text, length-take len held, ap length is, length-take more (drop (len + 1) held), fits) in
    record {
      group = record { first = g.group.first; later = g.group.later ++ line ∷ [] };
      text = text-more g.group.first g.group.later line ∙ (ap (λ t. t ++ 10 ∷ line) g.text ∙ (ap (λ l. take len held ++ 10 ∷ l) is ∙ sym (front_line held len more g.newline)));
      are_lines = All-push IsLine (lines_of g.group) line g.are_lines is_line;
      is_group = IsGroup-more stamped limit g.group.first g.group.later line g.is_group (no_stamp, g.has_stamp, size);
      has_stamp = g.has_stamp;
      count = omega (arith, g.count, length-append g.group.later (line ∷ []));
      few = omega (arith, g.few);
      fits = omega (arith, fits);
      last_is = last_line-push g.group.first g.group.later line;
    }

further : (stamped : List ℕ → Type 0) (limit : ℕ) (held : List ℕ) (left : Option (List ℕ)) (len : ℕ) (next : NextLine) (more : Further) → Stands limit (drop (len + 1) held) left next → IsFurther stamped limit held (len + 1) next more → Stands limit (drop (len + 1) held) left (Whole more.len more.ended)
further stamped limit held left len next more s f = subst (Stands limit (drop (len + 1) held) left) f.is s

-- a line more with its newline: the group can grow on
pub growing_more : (stamped : List ℕ → Type 0) (limit : ℕ) (held : List ℕ) (left : Option (List ℕ)) (len lines : ℕ) (next : NextLine) (more : Further) → Growing stamped limit held len lines → Stands limit (drop (len + 1) held) left next → IsFurther stamped limit held (len + 1) next more → more.ended ≡ true → Growing stamped limit held (len + (1 + more.len)) (lines + 1)
growing_more stamped limit held left len lines next more g s f ended =
    let w = subst (λ e. Stands limit (drop (len + 1) held) left (Whole more.len e)) ended (further stamped limit held left len next more s f) in
    let n = grown stamped limit held len lines more.len (take more.len (drop (len + 1) held)) g refl w.1 f.fits f.no_stamp in
    let place : len + 1 + more.len ≡ len + (1 + more.len) = omega arith in record {
      group = n.group;
      text = n.text;
      are_lines = n.are_lines;
      is_group = n.is_group;
      has_stamp = n.has_stamp;
      count = n.count;
      newline = subst (λ k. slice_get held k ≡ Some 10) place (slice_get-drop held (len + 1) more.len 10 w.2);
      fits = n.fits;
      few = n.few;
    }

-- a last line more, without a newline: that is the message
pub in_front_last : (stamped : List ℕ → Type 0) (limit : ℕ) (held : List ℕ) (left : Option (List ℕ)) (len lines : ℕ) (next : NextLine) (more : Further) → Growing stamped limit held len lines → Stands limit (drop (len + 1) held) left next → IsFurther stamped limit held (len + 1) next more → more.ended ≡ false → IsInFront stamped limit held left (record { len = len + (1 + more.len); ended = false; lines = lines + 1; behind = None })
in_front_last stamped limit held left len lines next more g s f ended =
    let w = subst (λ e. Stands limit (drop (len + 1) held) left (Whole more.len e)) ended (further stamped limit held left len next more s f) in
    let line = take more.len (drop (len + 1) held) in
    let n = grown stamped limit held len lines more.len line g refl w.1 f.fits f.no_stamp in
    let within = slice_get_within held len 10 g.newline in
    let some : line ≢ [] = λ e. absurd (omega (arith, ap length e, length-take more.len (drop (len + 1) held), w.2.0, w.2.1)) in record {
      group = n.group;
      text = n.text;
      are_lines = n.are_lines;
      is_group = n.is_group;
      count = n.count;
      few = n.few;
      fits = n.fits;
      ends = (omega (arith, w.2.0, length-drop (len + 1) held, within), omega arith, w.2.2);
      last = λ _ e. some (sym n.last_is ∙ e);
      followed = λ e. absurd cc;
      behind = tt;
      alone = λ _ e. absurd cc;
    }

-- another message follows: the group is the message
pub in_front_apart : (stamped : List ℕ → Type 0) (limit : ℕ) (held : List ℕ) (left : Option (List ℕ)) (len lines : ℕ) (next : NextLine) → Growing stamped limit held len lines → Stands limit (drop (len + 1) held) left next → IsApart stamped limit held (len + 1) next → IsInFront stamped limit held left (record { len = len; ended = true; lines = lines; behind = Some next })
in_front_apart stamped limit held left len lines next g s apart =
    let within = slice_get_within held len 10 g.newline in record {
      group = g.group;
      text = g.text;
      are_lines = g.are_lines;
      is_group = g.is_group;
      count = g.count;
      few = g.few;
      fits = g.fits;
      ends = g.newline;
      last = λ e. absurd cc;
      followed = λ _. followed stamped limit g.group held len left next g.text within s apart;
      behind = s;
      alone = λ e. absurd cc;
    }

-- a line without a stamp is a message by itself, and so is a last line
pub in_front_alone : (stamped : List ℕ → Type 0) (limit : ℕ) (held : List ℕ) (left : Option (List ℕ)) (len : ℕ) (ended : Bool) → IsLine (take len held) → len ≤ limit → EndsAt ended len held left → (ended ≡ true → ¬ stamped (take len held)) → IsInFront stamped limit held left (record { len = len; ended = ended; lines = 1; behind = None })
in_front_alone stamped limit held left len ended is fits ends no_stamp = record {
  group = record { first = take len held; later = [] };
  text = append-nil (take len held);
  are_lines = All-cons IsLine (take len held) [] is (All-nil IsLine);
  is_group = IsGroup-alone stamped limit (take len held);
  count = refl;
  few = omega arith;
  fits = fits;
  ends = ends;
  last = λ e. some (subst (λ b. EndsAt b len held left) e ends);
  followed = λ e. all left (no_stamp e);
  behind = tt;
  alone = λ _ e. (is, no_stamp e);
}
  where
    some : EndsAt false len held left → take len held ≢ []
    some f e = absurd (omega (arith, ap length e, length-take len held, f.0, f.1))

    all : (left : Option (List ℕ)) → (¬ stamped (take len held)) → IfSome left (λ rest. IsFollowed stamped limit (record { first = take len held; later = [] }) (drop (len + 1) held ++ rest))
    all None never = tt
    all (Some rest) never = λ line f. inr (inl never)
