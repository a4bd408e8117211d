use Rattle.std.proofs.Common.{◌≡◌, None, subst, sym}
use Rattle.live_search.specs.Reader.{LiveView}
use Rattle.live_search.proofs.ReaderLemmas.{count_stopped}
use Rattle.live_search.proofs.reader.LiveReader.stop.Goals as goal

pub invariant_of-self : goal.invariant_of-self
invariant_of-self g c =
    let runs : c.self.inside.refusal ≡ None = subst (λ (v : LiveView _). v.refusal ≡ None) (sym c.self.view_is) c.requires.runs in
    count_stopped g.K.Sink.faults _ _ c.self.inside.refusal c.args.refusal c.self.invariant runs c.requires.sink
