use Rattle.std.proofs.Common.{sym, ap, ◌∙◌, ◌+◌}
use Rattle.disk_seal.specs.View.{StoreView, state_by}
use Rattle.disk_seal.proofs.CountLemmas.{count_running, count_stopped}
use Rattle.disk_seal.proofs.store.StoreGrows.count.Goals as goal

pub returns-in-None : goal.returns-in-None
returns-in-None g c =
    ap (λ (v : StoreView _). v.count) c.self.view_is ∙ count_running (state_by g.D.Disk.state c.args.self.now) (sym (ap (λ (v : StoreView _). v.stopped) c.self.view_is) ∙ c.in-None.is)

pub returns-in-Some : goal.returns-in-Some
returns-in-Some g c =
    ap (λ (v : StoreView _). v.count + 1) c.self.view_is ∙ count_stopped (state_by g.D.Disk.state c.args.self.now) _ (sym (ap (λ (v : StoreView _). v.stopped) c.self.view_is) ∙ c.in-Some.is)
