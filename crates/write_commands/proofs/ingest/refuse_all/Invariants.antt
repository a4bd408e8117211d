use Rattle.std.proofs.Common.{◌≡◌, All, length, map, take, vec_len, vec_capacity}
use Rattle.log_sources.specs.Sources.{str_bytes}
use Rattle.write_commands.specs.IngestPrints.{names_of}
use Rattle.file_outcomes.specs.Jobs.{IsNotBegun}
use Rattle.write_commands.proofs.ingest.refuse_all.Given as goal

abbrev pub invariant-loop-name : goal.invariant-loop-name
invariant-loop-name l = record {
  named : names_of l.taken.items ≡ take (length l.taken.items) (map str_bytes l.names);
  count : vec_len l.taken ≡ l.name-index;
  room : vec_capacity l.taken ≡ vec_capacity l.fn.taken;
  begun : All IsNotBegun l.taken.items;
}
