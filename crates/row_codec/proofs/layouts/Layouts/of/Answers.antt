use Rattle.std.proofs.Common.{◌++◌, List, ℕ, ap}
use Rattle.row_codec.proofs.layouts.Layouts.of.Goals as goal

pub extend-requires : goal.extend-requires
extend-requires g c = let types = g.N.Names.types c.args.names.now in (types, ap (λ (l : List (List ℕ)). l ++ types) c.new-layouts.ensures)
