use Rattle.std.proofs.Common.{◌≡◌, List, length}
use Rattle.logtype_text.specs.declared.symbols.Symbol.{Symbol}
use Rattle.logtype_text.specs.TypeText.{type_text}
use Rattle.query_plan.specs.Slots.{MayBegin}
use Rattle.query_plan.proofs.SlotLemmas.{AreLeft}
use Rattle.query_plan.proofs.slots.may_begin.Given as goal

abbrev pub decreases-loop-first : goal.decreases-loop-first
decreases-loop-first l = length l.rest

-- the rest of the text may begin with the symbols that are left exactly where the text may with all
abbrev pub invariant-loop-first : goal.invariant-loop-first
invariant-loop-first l =
    (symbols : List Symbol) → l.log_type ≡ type_text symbols → AreLeft (MayBegin l.text symbols) (MayBegin l.left) l.rest
