-- Laws of what opens files, which its trait asks for.
use Rattle.std.specs.Prelude.{ℕ, Option}
use Rattle.std.proofs.Common.{refl, sym, ◌∙◌}
use Rattle.archive_text.specs.declared.cause.TextCause.{TextCause}
use Rattle.archive_jobs.specs.Lent.{LeavesCause, StaysFirst}

pub stays_none : (a : Option TextCause) → StaysFirst a a
stays_none a some = refl

pub stays_then : (a b c : Option TextCause) → StaysFirst a b → StaysFirst b c → StaysFirst a c
stays_then a b c one two some = let same = one some in two (λ none. some (sym same ∙ none)) ∙ same

pub leaves_later : (a b : Option TextCause) (faults : ℕ) → StaysFirst a b → LeavesCause a faults → LeavesCause b faults
leaves_later a b faults stays leaves failed none = let some = leaves failed in some (sym (stays some) ∙ none)
