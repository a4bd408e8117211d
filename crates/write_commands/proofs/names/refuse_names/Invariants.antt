use Rattle.std.proofs.Common.{map, take}
use Rattle.std.specs.Prelude.{All}
use Rattle.log_sources.specs.Sources.{str_bytes}
use Rattle.command_answers.specs.Names.{IsShortName}
use Rattle.write_commands.proofs.names.refuse_names.Given as goal

abbrev pub invariant-loop-index : goal.invariant-loop-index
invariant-loop-index l = All IsShortName (take l.index (map str_bytes l.names))
