use Rattle.std.proofs.Common.{◌≡◌, ℕ, List, vec_len}
use Rattle.log_sources.proofs.CloseLemmas.{Closed}
use Rattle.log_sources.proofs.logs.close_logs.Given as goal

abbrev pub invariant-loop-source : goal.invariant-loop-source
invariant-loop-source g l = record {
  content : (n : List ℕ) → g.H.Shelf.content l.shelf n ≡ g.H.Shelf.content l.fn.shelf n;
  opens : (n : List ℕ) → g.H.Shelf.open_faults l.shelf n ≡ g.H.Shelf.open_faults l.fn.shelf n;
  closed : Closed g.H.Src.Source.left g.H.Src.Source.name g.H.Src.Source.faults (record { reads = g.H.Shelf.read_faults l.fn.shelf; unread = g.H.Shelf.unread l.fn.shelf }) (record { reads = g.H.Shelf.read_faults l.shelf; unread = g.H.Shelf.unread l.shelf })
      l.fn.sources.items l.sources.items;
}

abbrev pub decreases-loop-source : goal.decreases-loop-source
decreases-loop-source g l = vec_len l.sources
