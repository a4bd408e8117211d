use Rattle.std.proofs.Common.{◌≡◌, ◌≤◌, ℕ, List, map, take, length, vec_len, vec_capacity}
use Rattle.std.specs.List.{AllZip}
use Rattle.log_sources.specs.Sources.{CameOf, str_bytes}
use Rattle.log_sources.proofs.logs.open_logs.Given as goal

abbrev pub invariant-loop-name : goal.invariant-loop-name
invariant-loop-name g l = record {
  room : vec_capacity l.sources ≡ length l.names;
  count : vec_len l.sources ≡ l.name-index;
  content : (n : List ℕ) → g.H.Shelf.content l.shelf n ≡ g.H.Shelf.content l.fn.shelf n;
  unread : (n : List ℕ) → g.H.Shelf.unread l.shelf n ≡ g.H.Shelf.unread l.fn.shelf n;
  reads : (n : List ℕ) → g.H.Shelf.read_faults l.shelf n ≡ g.H.Shelf.read_faults l.fn.shelf n;
  opens : (n : List ℕ) → g.H.Shelf.open_faults l.fn.shelf n ≤ g.H.Shelf.open_faults l.shelf n;
  came : AllZip (CameOf g.H.Src.Source.left g.H.Src.Source.name g.H.Src.Source.faults (g.H.Shelf.content l.fn.shelf) (g.H.Shelf.open_faults l.fn.shelf) (g.H.Shelf.open_faults l.shelf)) (take l.name-index (map str_bytes l.names)) l.sources.items;
}
