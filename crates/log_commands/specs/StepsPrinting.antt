-- How the printing of a log goes on.
use Rattle.line_cut.specs.declared.cut.Cut.{Cut}
use Rattle.line_cut.specs.declared.cut.Cut.TheVariants.{ReadFault as CutReadFault, LineTooLong as CutLineTooLong, TooManyLines as CutTooManyLines, OutOfMemory as CutOutOfMemory}
use Rattle.command_refusals.specs.declared.outcome.LogRefusal.{LogRefusal}
use Rattle.command_refusals.specs.declared.outcome.LogRefusal.TheVariants.{ReadFault, LineTooLong, TooManyLines, OutOfMemory}
use Rattle.std.specs.Prelude.{◌≡◌, [], ℕ, List, ◌++◌, Option, true, false, IfSome}
use Rattle.line_cut.specs.Cutting.{CutterState}
use Rattle.line_cut.specs.declared.cut.Progress.TheVariants.{Open}
use Rattle.command_refusals.specs.LogLimits.{most_bytes, most_messages}
use Rattle.sink_pieces.specs.Output.{GrewByFront, Gathers, Moves}
use Rattle.command_answers.specs.Printing.{ComesTo, is_whole}

-- the refusal for a cutter's
abbrev pub refusal_of : Cut → LogRefusal
refusal_of CutReadFault = ReadFault
refusal_of (CutLineTooLong line) = LineTooLong line
refusal_of CutTooManyLines = TooManyLines
refusal_of CutOutOfMemory = OutOfMemory

-- a cutter that has given nothing, with the limits of a log
pub record IsFresh {S : Type 0} (cutter : CutterState S) : Type 0 where
  pub progress : cutter.progress ≡ Open
  pub pending : cutter.pending ≡ []
  pub given : cutter.given ≡ 0
  pub max_line : cutter.max_line ≡ most_bytes
  pub max_lines : cutter.max_lines ≡ most_messages

-- The sink failed with the text of a message gathered behind the others.
pub record FailsAfter (tells : ℕ → List ℕ → List ℕ → Type 0) (number : ℕ) (message : List ℕ)
    (old new : Option (List ℕ)) (gathered : List ℕ) : Type 0 where
  pub text : List ℕ
  pub told : tells number message text
  pub grew : GrewByFront old new (gathered ++ text)

-- What the printing has come to when it ends with this answer: what has to go out is
-- still gathered in part, unless it ends with a sink that failed or without memory.
pub record Reaches (tells : ℕ → List ℕ → List ℕ → Type 0) (answer : Option LogRefusal)
    (bytes unread start now : Option (List ℕ)) (gathered : List ℕ) : Type 0 where
  pub text : List ℕ
  pub comes_to : IfSome bytes (λ b. ComesTo tells answer b unread text)
  pub kept : is_whole answer ≡ true → Gathers start now gathered text
  pub front : is_whole answer ≡ false → GrewByFront start now text

-- The text of a message is gathered behind the others, and some of it all may have gone out.
pub record TellsNext (tells : ℕ → List ℕ → List ℕ → Type 0) (number : ℕ) (message : List ℕ)
    (old new : Option (List ℕ)) (gathered rest : List ℕ) : Type 0 where
  pub text : List ℕ
  pub told : tells number message text
  pub moves : Moves old new (gathered ++ text) rest
