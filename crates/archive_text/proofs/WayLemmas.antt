-- How much of a text was given, a step more at a time.
use Rattle.std.proofs.Common.{◌≡◌, refl, sym, ap, ap₂, subst, ◌∙◌, ◌+◌, ◌-◌, ◌<◌, ◌≤◌, ◌⊎◌, ⊎_elim, ℕ, Bool, true, false, List, [], ◌∷◌, ◌++◌, Option, None, Some, min, length, take, drop, length-append, length-drop, arith}
use Rattle.std.specs.Prelude.{option_map}
use Rattle.std.proofs.lemmas.List.{drop-append-le, drop-drop, drop_all, take-append-le}
use Rattle.log_seams.specs.Outside.{Takes}
use Rattle.archive_text.specs.Newlines.{ending}
use Rattle.archive_text.specs.declared.lines.Lines.{Lines}
use Rattle.archive_text.specs.declared.walk.Walk.{Walk}
use Rattle.archive_text.specs.Ahead.{Goes, IsAhead, IsPast, ahead, text_behind}
use Rattle.archive_text.specs.Way.{Gives, IsOnWay, yet}
use Rattle.archive_text.proofs.WritingLemmas.{nothing_ahead}

-- the lines begin anew, once all was given
pub record IsRestart (old new : Lines) : Type 0 where
  pub spent : length old.gathered.items ≤ old.sent
  pub nothing : new.gathered.items ≡ []
  pub sent : new.sent ≡ 0
  pub given : new.given ≡ old.given
  pub begun : new.begun ≡ old.begun

-- so many bytes were given
pub record IsGiven (n : ℕ) (old new : Lines) : Type 0 where
  pub gathered : new.gathered ≡ old.gathered
  pub sent : new.sent ≡ old.sent + n
  pub given : new.given ≡ old.given + n
  pub begun : new.begun ≡ old.begun

module _ (types words : List (List ℕ)) (open_end : Bool) (bytes : List ℕ) where
  -- more was written out behind a restart
  pub way_gathered : (old new : Walk) (start : Lines) (text : List ℕ) → old.ended ≡ false → new.ended ≡ false → IsRestart old.lines start → new.lines.sent ≡ start.sent → new.lines.given ≡ start.given
      → Goes types words bytes (ahead old) (ahead new) start new.lines → IsOnWay types words open_end bytes old text → IsOnWay types words open_end bytes new text
  way_gathered old new start text running still restart sent given goes is =
      let went = goes is.messages is.ahead in
      let left : List (List ℕ) = went.0 in
      let empty : drop old.lines.sent old.lines.gathered.items ≡ [] = drop_all old.lines.sent old.lines.gathered.items restart.spent in
      let before : yet old.ended open_end old.lines.begun is.messages ≡ text_behind open_end start.begun is.messages = ap₂ (λ (e b : Bool). yet e open_end b is.messages) running (sym restart.begun) in
      let from_start : text_behind open_end start.begun is.messages ≡ start.gathered.items ++ text_behind open_end start.begun is.messages
      = ap (λ (g : List ℕ). g ++ text_behind open_end start.begun is.messages) (sym restart.nothing) in
      let after : yet new.ended open_end new.lines.begun left ≡ text_behind open_end new.lines.begun left = ap (λ e. yet e open_end new.lines.begun left) still in
      let whole : drop new.lines.sent new.lines.gathered.items ≡ new.lines.gathered.items = ap (λ n. drop n new.lines.gathered.items) (sent ∙ restart.sent) in
      record {
        messages = left;
        ahead = went.1;
        is =
            ap (λ n. drop n text) (given ∙ restart.given)
            ∙ (is.is
            ∙ (ap₂ (λ (l r : List ℕ). l ++ r) empty before
            ∙ (from_start
            ∙ (went.2 open_end
            ∙ sym (ap₂ (λ (l r : List ℕ). l ++ r) whole after)))));
      }

  -- the end was written out behind all messages
  pub way_ended : (old new : Walk) (text : List ℕ) → old.ended ≡ false → new.ended ≡ true → IsPast (ahead old) → ahead new ≡ ahead old → old.lines.sent ≡ 0 → new.lines.sent ≡ old.lines.sent → new.lines.given ≡ old.lines.given
      → new.lines.gathered.items ≡ old.lines.gathered.items ++ ending open_end old.lines.begun → IsOnWay types words open_end bytes old text → IsOnWay types words open_end bytes new text
  way_ended old new text running ended past same zero sent given end is =
      let none = nothing_ahead types words bytes (ahead old) is.messages past is.ahead in
      let before : yet old.ended open_end old.lines.begun is.messages ≡ ending open_end old.lines.begun = ap₂ (λ (e : Bool) (ms : List (List ℕ)). yet e open_end old.lines.begun ms) running none in
      let whole : drop old.lines.sent old.lines.gathered.items ≡ old.lines.gathered.items = ap (λ n. drop n old.lines.gathered.items) zero in
      let all : drop new.lines.sent new.lines.gathered.items ≡ new.lines.gathered.items = ap (λ n. drop n new.lines.gathered.items) (sent ∙ zero) in
      let after : new.lines.gathered.items ≡ new.lines.gathered.items ++ yet new.ended open_end new.lines.begun is.messages
      = sym (ap (λ e. new.lines.gathered.items ++ yet e open_end new.lines.begun is.messages) ended ∙ append_none new.lines.gathered.items) in
      record {
        messages = is.messages;
        ahead = subst (λ a. IsAhead types words a bytes is.messages) (sym same) is.ahead;
        is =
            ap (λ n. drop n text) given
            ∙ (is.is
            ∙ (ap₂ (λ (l r : List ℕ). l ++ r) whole before
            ∙ (sym end
            ∙ (after
            ∙ ap (λ (l : List ℕ). l ++ yet new.ended open_end new.lines.begun is.messages) (sym all)))));
      }
    where
      append_none : (xs : List ℕ) → xs ++ [] ≡ xs
      append_none [] = refl
      append_none (x ∷ xs) = ap (λ l. x ∷ l) (append_none xs)

  -- the next bytes were given
  pub way_given : (n : ℕ) (old new : Walk) (text : List ℕ) → n ≤ length old.lines.gathered.items - old.lines.sent → IsGiven n old.lines new.lines → new.ended ≡ old.ended → ahead new ≡ ahead old
      → IsOnWay types words open_end bytes old text → IsOnWay types words open_end bytes new text
  way_given n old new text most gave ended same is =
      let left = drop old.lines.sent old.lines.gathered.items in
      let rest = yet old.ended open_end old.lines.begun is.messages in
      let within : n ≤ length left = omega (arith, most, length-drop old.lines.sent old.lines.gathered.items) in
      let text_is : drop new.lines.given text ≡ drop n (left ++ rest) = ap (λ k. drop k text) gave.given ∙ (sym (drop-drop n old.lines.given text) ∙ ap (λ l. drop n l) is.is) in
      let items : new.lines.gathered.items ≡ old.lines.gathered.items = ap (λ g. g.items) gave.gathered in
      let lines_are : drop new.lines.sent new.lines.gathered.items ≡ drop n left = ap₂ (λ (k : ℕ) (g : List ℕ). drop k g) gave.sent items ∙ sym (drop-drop n old.lines.sent old.lines.gathered.items) in
      let after : yet new.ended open_end new.lines.begun is.messages ≡ rest = ap₂ (λ (e b : Bool). yet e open_end b is.messages) ended gave.begun in
      record {
        messages = is.messages;
        ahead = subst (λ a. IsAhead types words a bytes is.messages) (sym same) is.ahead;
        is = text_is ∙ (drop-append-le n left rest within ∙ sym (ap₂ (λ (l r : List ℕ). l ++ r) lines_are after));
      }

  pub way_gives : (n room : ℕ) (old : Walk) (text buf : List ℕ) → n ≡ min (length old.lines.gathered.items - old.lines.sent) room → 0 < room
      → (old.lines.sent < length old.lines.gathered.items) ⊎ (old.ended ≡ true) → take n buf ≡ take n (drop old.lines.sent old.lines.gathered.items)
      → IsOnWay types words open_end bytes old text → Gives n buf (drop old.lines.given text)
  way_gives n room old text buf most some ready these is =
      let left = drop old.lines.sent old.lines.gathered.items in
      let rest = yet old.ended open_end old.lines.begun is.messages in
      let long = length-drop old.lines.sent old.lines.gathered.items in
      let within : n ≤ length left = omega (arith, most, long) in
      record {
        enough = subst (λ l. n ≤ length l) (sym is.is) (omega (arith, within, length-append left rest));
        begins = these ∙ (sym (take-append-le n left rest within) ∙ ap (λ l. take n l) (sym is.is));
        at_end = λ none. is.is ∙ ⊎_elim (λ more. absurd (omega (arith, none, most, some, more)))
            (λ end.
            let empty : left ≡ [] = no_length left (omega (arith, long, none, most, some)) in
            ap₂ (λ (l : List ℕ) (e : Bool). l ++ yet e open_end old.lines.begun is.messages) empty end) ready;
      }
    where
      no_length : (xs : List ℕ) → length xs ≡ 0 → xs ≡ []
      no_length [] none = refl
      no_length (x ∷ xs) none = absurd (omega arith)

-- what a read takes of a text that may be told
pub takes_text : (n given next : ℕ) (buf : List ℕ) (told : Option (List ℕ)) → next ≡ given + n → ((text : List ℕ) → told ≡ Some text → Gives n buf (drop given text))
    → Takes n buf (option_map (drop given) told) (option_map (drop next) told)
takes_text n given next buf None is gives = refl
takes_text n given next buf (Some text) is gives =
    let gave = gives text refl in
    record { enough = gave.enough; begins = gave.begins; at_end = gave.at_end; gone = ap (λ l. Some l) (ap (λ k. drop k text) is ∙ sym (drop-drop n given text)) }
