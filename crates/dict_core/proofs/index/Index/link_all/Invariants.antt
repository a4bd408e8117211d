use Rattle.std.proofs.Common.{◌≡◌, ◌+◌, ◌-◌, ◌≤◌, take, vec_len, vec_capacity}
use Rattle.indexmap.specs.IndexMap.{spare}
use Rattle.dict_core.specs.Chains.{hash_by, place_at, IsBook}
use Rattle.dict_core.proofs.index.Index.link_all.Given as goal

-- the texts so far are linked, and there is room for the others
abbrev pub invariant-loop-number : goal.invariant-loop-number
invariant-loop-number g l = record {
  hasher : l.self.hasher ≡ l.fn.self.hasher;
  book : IsBook (hash_by g.H.Hasher.write g.H.Hasher.finish l.fn.self.hasher) (take l.number l.texts) l.self.befores.items (place_at l.self.newest) 2147483648;
  map : l.count - l.number ≤ spare l.self.newest;
  room : vec_len l.self.befores + (l.count - l.number) ≤ vec_capacity l.self.befores;
}
