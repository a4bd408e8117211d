use Rattle.std.proofs.Common.{◌≡◌, ◌++◌, false, length}
use Rattle.logtype_text.specs.TypeText.{IsTypeText}
use Rattle.row_codec.specs.Numbers.{kinds_from}
use Rattle.row_rename.proofs.log_types.kinds_of.Given as goal

abbrev pub invariant-loop-symbol : goal.invariant-loop-symbol
invariant-loop-symbol l = record {
  good : IsTypeText l.rest;
  cut : kinds_from false l.text ≡ l.kinds.items ++ kinds_from false l.rest;
}

abbrev pub decreases-loop-symbol : goal.decreases-loop-symbol
decreases-loop-symbol l = length l.rest
