-- Which reads failed, by the answer.
use Rattle.std.proofs.Common.{◌≡◌, ◌⊎◌, arith, inl, inr, refl, ℕ, Option, Ok, Err}
use Rattle.log_seams.specs.Outside.{CountsOf}
use Rattle.line_cut.specs.declared.cut.Cut.{Cut}
use Rattle.line_cut.specs.declared.cut.Cut.TheVariants.{ReadFault as CutReadFault, LineTooLong, TooManyLines, OutOfMemory as CutOutOfMemory}
use Rattle.command_refusals.specs.declared.outcome.LogRefusal.{LogRefusal}
use Rattle.command_refusals.specs.declared.outcome.LogRefusal.TheVariants.{ReadFault, SinkFault, OutOfMemory}
use Rattle.log_commands.specs.StepsPrinting.{refusal_of}

-- all was printed
pub counts_done : (before now : ℕ) → now ≡ before → CountsOf {T = Unit} ReadFault before now (Ok tt)
counts_done before now same = record { later = omega (arith, same); steady = same; failed = λ is. absurd cc; spared = λ e is. absurd cc }

-- the output failed, or there was no memory
pub counts_stopped : (before now : ℕ) (refusal : LogRefusal) → (refusal ≡ SinkFault) ⊎ (refusal ≡ OutOfMemory) → now ≡ before → CountsOf {T = Unit} ReadFault before now (Err refusal)
counts_stopped before now refusal (inl only) same = record { later = omega (arith, same); steady = tt; failed = λ is. absurd cc; spared = λ e is other. same }
counts_stopped before now refusal (inr only) same = record { later = omega (arith, same); steady = tt; failed = λ is. absurd cc; spared = λ e is other. same }

-- the cutter refused
pub counts_cut : {A : Type 0} (before now : ℕ) (cut : Cut) → CountsOf {T = Option A} CutReadFault before now (Err cut) → CountsOf {T = Unit} ReadFault before now (Err (refusal_of cut))
counts_cut before now CutReadFault counts = record { later = counts.later; steady = tt; failed = λ is. counts.failed refl; spared = λ e is other. absurd (other cc) }
counts_cut before now (LineTooLong line) counts = record { later = counts.later; steady = tt; failed = λ is. absurd cc; spared = λ e is other. counts.spared (LineTooLong line) refl (λ same. cc) }
counts_cut before now TooManyLines counts = record { later = counts.later; steady = tt; failed = λ is. absurd cc; spared = λ e is other. counts.spared TooManyLines refl (λ same. cc) }
counts_cut before now CutOutOfMemory counts = record { later = counts.later; steady = tt; failed = λ is. absurd cc; spared = λ e is other. counts.spared CutOutOfMemory refl (λ same. cc) }
