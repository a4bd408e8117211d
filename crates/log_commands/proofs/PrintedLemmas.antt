-- From what the printing comes to, to what was printed.
use Rattle.std.proofs.Common.{◌≡◌, refl, sym, subst, ℕ, ◌-◌, List, [], true, false, Option, Some, None}
use Rattle.std.specs.Prelude.{IfSome}
use Rattle.sink_pieces.specs.Output.{Grew, GrewByFront, Took}
use Rattle.command_answers.specs.Printing.{ComesTo, Printed, PrintsSome, is_whole}
use Rattle.log_commands.specs.StepsPrinting.{Reaches}
use Rattle.command_refusals.specs.LogLimits.{most_messages}
use Rattle.command_refusals.specs.declared.outcome.LogRefusal.{LogRefusal}
use Rattle.command_refusals.specs.declared.outcome.LogRefusal.TheVariants.{OpenFault, ReadFault, LineTooLong, TooManyLines, SinkFault, OutOfMemory}
use Rattle.sink_pieces.proofs.OutputLemmas.{Grew-nothing, Gathers-all, Gathers-front}
use Rattle.log_commands.proofs.ReadingLemmas.{PrintsAll-some, PrintsBefore-some, Reads-first, Reads-nothing}

-- nothing is the text of no messages
pub PrintsSome-nothing : (tells : ℕ → List ℕ → List ℕ → Type 0) (bytes : List ℕ) → PrintsSome tells bytes []
PrintsSome-nothing tells bytes = (0, Reads-first tells bytes bytes 0 [] (Reads-nothing tells bytes))

-- whatever ended it, the text is that of some first messages
pub ComesTo-some : (tells : ℕ → List ℕ → List ℕ → Type 0) (answer : Option LogRefusal) (bytes : List ℕ) (unread : Option (List ℕ)) (text : List ℕ) → ComesTo tells answer bytes unread text → PrintsSome tells bytes text
ComesTo-some tells None bytes unread text c = PrintsAll-some tells bytes text c
ComesTo-some tells (Some OpenFault) bytes unread text c = subst (λ t. PrintsSome tells bytes t) (sym c) (PrintsSome-nothing tells bytes)
ComesTo-some tells (Some ReadFault) bytes unread text c = PrintsBefore-some tells bytes c.0 text c.2
ComesTo-some tells (Some (LineTooLong line)) bytes unread text c = (line - 1, c.2)
ComesTo-some tells (Some TooManyLines) bytes unread text c = (most_messages, c.1)
ComesTo-some tells (Some SinkFault) bytes unread text c = c
ComesTo-some tells (Some OutOfMemory) bytes unread text c = c

-- what is said of told bytes
some_of : (tells : ℕ → List ℕ → List ℕ → Type 0) (answer : Option LogRefusal) (bytes unread : Option (List ℕ)) (text : List ℕ) → IfSome bytes (λ b. ComesTo tells answer b unread text) → IfSome bytes (λ b. PrintsSome tells b text)
some_of tells answer None unread text c = tt
some_of tells answer (Some b) unread text c = ComesTo-some tells answer b unread text c

-- all of it went out
pub Printed-flushed : (tells : ℕ → List ℕ → List ℕ → Type 0) (answer : Option LogRefusal) (bytes unread start now new : Option (List ℕ)) (gathered : List ℕ) → Reaches tells answer bytes unread start now gathered → is_whole answer ≡ true → Grew now new gathered → Printed tells answer bytes unread start new
Printed-flushed tells answer bytes unread start now new gathered r whole grew = record {
  text = r.text;
  comes_to = r.comes_to;
  took = subst (λ b. Took b start new r.text) (sym whole) (Gathers-all start now new gathered r.text (r.kept whole) grew);
}

-- the sink failed at the end
pub Printed-failed : (tells : ℕ → List ℕ → List ℕ → Type 0) (answer : Option LogRefusal) (bytes unread start now new : Option (List ℕ)) (gathered : List ℕ) → Reaches tells answer bytes unread start now gathered → is_whole answer ≡ true → GrewByFront now new gathered → Printed tells (Some SinkFault) bytes unread start new
Printed-failed tells answer bytes unread start now new gathered r whole grew = record {
  text = r.text;
  comes_to = some_of tells answer bytes unread r.text r.comes_to;
  took = Gathers-front start now new gathered r.text (r.kept whole) grew;
}

-- it ended early
pub Printed-stopped : (tells : ℕ → List ℕ → List ℕ → Type 0) (answer : Option LogRefusal) (bytes unread start now : Option (List ℕ)) (gathered : List ℕ) → Reaches tells answer bytes unread start now gathered → is_whole answer ≡ false → Printed tells answer bytes unread start now
Printed-stopped tells answer bytes unread start now gathered r part = record {
  text = r.text;
  comes_to = r.comes_to;
  took = subst (λ b. Took b start now r.text) (sym part) (r.front part);
}

-- there was no memory to begin
pub Printed-no_memory : (tells : ℕ → List ℕ → List ℕ → Type 0) (bytes unread start : Option (List ℕ)) → Printed tells (Some OutOfMemory) bytes unread start start
Printed-no_memory tells bytes unread start = record { text = []; comes_to = nothing bytes; took = ([], [], refl, Grew-nothing start) }
  where
    nothing : (o : Option (List ℕ)) → IfSome o (λ b. PrintsSome tells b [])
    nothing None = tt
    nothing (Some b) = PrintsSome-nothing tells b
