use Rattle.std.proofs.Common.{◌≡◌, List, length}
use Rattle.logtype_text.specs.declared.symbols.Symbol.{Symbol}
use Rattle.logtype_text.specs.TypeText.{type_text}
use Rattle.query_plan.specs.Slots.{MayStand}
use Rattle.query_plan.proofs.SlotLemmas.{AreLeft}
use Rattle.query_plan.proofs.slots.begins_somewhere.Given as goal

abbrev pub decreases-loop-symbol : goal.decreases-loop-symbol
decreases-loop-symbol l = length l.rest

-- the text may stand in the symbols that are left exactly where it may in all
abbrev pub invariant-loop-symbol : goal.invariant-loop-symbol
invariant-loop-symbol l =
    (symbols : List Symbol) → l.log_type ≡ type_text symbols → AreLeft (MayStand l.text symbols) (MayStand l.text) l.rest
