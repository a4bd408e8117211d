use Rattle.std.proofs.Common.{◌≡◌, map, take, length, vec_len, vec_capacity}
use Rattle.log_sources.specs.Sources.{str_bytes}
use Rattle.write_commands.proofs.register.texts_of.Given as goal

abbrev pub invariant-loop-name : goal.invariant-loop-name
invariant-loop-name l = record {
  room : vec_capacity l.texts ≡ length l.names;
  count : vec_len l.texts ≡ l.name-index;
  these : l.texts.items ≡ take l.name-index (map str_bytes l.names);
}
