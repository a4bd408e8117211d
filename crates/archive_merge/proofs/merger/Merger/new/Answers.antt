use Rattle.std.proofs.Common.{refl}
use Rattle.archive_merge.specs.MergerLaws.{idle_with}
use Rattle.archive_merge.proofs.merger.Merger.new.Goals as goal

pub returns-clause-idle : goal.returns-clause-idle
returns-clause-idle g c = idle_with g.M.Names.types g.M.Names.words g.M.Names.version _ c.args.passes refl c.requires.may c.requires.serves
