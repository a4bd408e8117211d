-- What a sink took of the text of a file, a step more at a time.
use Rattle.std.proofs.Common.{◌≡◌, refl, sym, ap, ap₂, subst, ◌∙◌, ℕ, List, [], ◌++◌, Bool, false, Option, None, Some, Result, Ok, Err, append_assoc}
use Rattle.std.specs.Prelude.{OnErr}
use Rattle.sink_pieces.specs.Output.{Gathers, GrewByFront, Moves}
use Rattle.sink_pieces.proofs.OutputLemmas.{Gathers-front, Gathers-kept, Gathers-moves, Grew-nothing}
use Rattle.archive_meaning.specs.Held.{file_text}
use Rattle.segment_pages.specs.declared.refusal.PageRefusal.{PageRefusal}
use Rattle.archive_text.specs.declared.refusal.DecodeRefusal.{DecodeRefusal}
use Rattle.archive_text.specs.declared.walk.Walk.{Walk}
use Rattle.archive_text.specs.Ahead.{Goes, IsAhead, IsPast, ahead, text_behind}
use Rattle.archive_text.specs.Decoded.{Decodes}
use Rattle.archive_text.specs.Newlines.{ending}
use Rattle.archive_text.specs.Sent.{IsSent, of_page}
use Rattle.archive_text.specs.Told.{FileParts, IsText}
use Rattle.archive_text.proofs.StartLemmas.{IsStart, start_ahead}
use Rattle.archive_text.proofs.WritingLemmas.{nothing_ahead, text_first}

-- of an answer that is an error
pub on_err : {T E : Type 0} (r : Result T E) {P : Type 0} → P → OnErr r P
on_err (Ok value) p = tt
on_err (Err refusal) p = p

-- what stands behind what is gathered stays there
moves_before : (now new : Option (List ℕ)) (gathered rest behind : List ℕ) → Moves now new gathered rest → Moves now new (gathered ++ behind) (rest ++ behind)
moves_before now new gathered rest behind m = record { front = m.front; splits = ap (λ l. l ++ behind) m.splits ∙ append_assoc m.front rest behind; grew = m.grew }

front_before : (now new : Option (List ℕ)) (gathered behind : List ℕ) → GrewByFront now new gathered → GrewByFront now new (gathered ++ behind)
front_before now new gathered behind f = (f.0, f.1 ++ behind, ap (λ l. l ++ behind) f.2 ∙ append_assoc f.0 f.1 behind, f.3)

module _ (types words : List (List ℕ)) (open_end : Bool) (bytes text : List ℕ) (start : Option (List ℕ)) where
  -- more was written out
  pub sent_goes : (now : Option (List ℕ)) (old new : Walk) → Goes types words bytes (ahead old) (ahead new) old.lines new.lines
      → IsSent types words open_end bytes start now old text → IsSent types words open_end bytes start now new text
  sent_goes now old new goes is =
      let went = goes is.messages is.ahead in
      record { messages = went.0; ahead = went.1; gathers = subst (λ rest. Gathers start now rest text) (went.2 open_end) is.gathers }

  -- a piece was sent
  pub sent_moves : (now new : Option (List ℕ)) (old more : Walk) → ahead more ≡ ahead old → more.lines.begun ≡ old.lines.begun → Moves now new old.lines.gathered.items more.lines.gathered.items
      → IsSent types words open_end bytes start now old text → IsSent types words open_end bytes start new more text
  sent_moves now new old more same begun moves is =
      let behind : List ℕ = text_behind open_end old.lines.begun is.messages in
      record {
        messages = is.messages;
        ahead = subst (λ a. IsAhead types words a bytes is.messages) (sym same) is.ahead;
        gathers = subst (λ b. Gathers start new (more.lines.gathered.items ++ text_behind open_end b is.messages) text) (sym begun)
            (Gathers-moves start now new (old.lines.gathered.items ++ behind) (more.lines.gathered.items ++ behind) text is.gathers (moves_before now new old.lines.gathered.items more.lines.gathered.items behind moves));
      }

  -- it was sent in part
  pub sent_failed : (now new : Option (List ℕ)) (w : Walk) → GrewByFront now new w.lines.gathered.items → IsSent types words open_end bytes start now w text → GrewByFront start new text
  sent_failed now new w front is =
      let behind : List ℕ = text_behind open_end w.lines.begun is.messages in
      Gathers-front start now new (w.lines.gathered.items ++ behind) text is.gathers (front_before now new w.lines.gathered.items behind front)

  -- nothing more was sent
  pub sent_kept : (now : Option (List ℕ)) (w : Walk) → IsSent types words open_end bytes start now w text → GrewByFront start now text
  sent_kept now w is = Gathers-kept start now _ text is.gathers

  -- nothing is ahead, and the end was written out
  pub sent_past : (now : Option (List ℕ)) (w : Walk) (all : List ℕ) → IsPast (ahead w) → all ≡ w.lines.gathered.items ++ ending open_end w.lines.begun
      → IsSent types words open_end bytes start now w text → Gathers start now all text
  sent_past now w all past e is =
      let none = nothing_ahead types words bytes (ahead w) is.messages past is.ahead in
      subst (λ rest. Gathers start now rest text) (ap (λ ms. w.lines.gathered.items ++ text_behind open_end w.lines.begun ms) none ∙ sym e) is.gathers

-- nothing was sent yet
pub sent_first : (f : FileParts) (w : Walk) (now : Option (List ℕ)) (bytes text : List ℕ) → IsStart f w → IsText f bytes text → IsSent f.types f.words f.open_end bytes now now w text
sent_first f w now bytes text start is =
    let rest : w.lines.gathered.items ++ text_behind f.open_end w.lines.begun is.messages ≡ text_behind f.open_end false is.messages =
    ap₂ (λ (l : List ℕ) (b : Bool). l ++ text_behind f.open_end b is.messages) start.nothing start.begun in
    record {
      messages = is.messages;
      ahead = start_ahead f w bytes text start is;
      gathers = record { front = []; splits = is.is ∙ (text_first f.open_end is.messages ∙ sym rest); grew = Grew-nothing now };
    }

-- nothing was sent
pub nothing_decoded : (number : ℕ) (seen w : Option (List ℕ)) → Decodes false number seen w w
nothing_decoded number None w = tt
nothing_decoded number (Some bytes) w = λ h es stood file at. ([], file_text file, refl, Grew-nothing w)

-- ---- causes

pub page_damaged : {T : Type 0} (refusal : PageRefusal) (r : DecodeRefusal) (x : Result T DecodeRefusal) → r ≡ of_page refusal → x ≡ Err r → x ≡ Err DecodeRefusal.Damaged → refusal ≡ PageRefusal.Damaged
page_damaged PageRefusal.DiskFault r x e is was = absurd cc
page_damaged PageRefusal.Damaged r x e is was = refl
page_damaged PageRefusal.OutOfMemory r x e is was = absurd cc
