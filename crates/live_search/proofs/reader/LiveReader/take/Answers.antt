use Rattle.std.proofs.Common.{◌≡◌, refl, sym, subst, ap, ◌∙◌}
use Rattle.std.specs.Prelude.{None, Err}
use Rattle.live_search.specs.Reader.{LiveView}
use Rattle.live_search.proofs.ReaderLemmas.{count_on, takes_off, takes_on}
use Rattle.live_search.proofs.reader.LiveReader.take.Goals as goal

pub invariant_of-self : goal.invariant_of-self
invariant_of-self g c =
    let runs : c.self.inside.refusal ≡ None = subst (λ (v : LiveView _). v.refusal ≡ None) (sym c.self.view_is) c.requires.runs in
    count_on g.K.Sink.faults c.self.inside.begun.value _ _ c.self.inside.refusal c.self.inside.refusal c.handle.result c.self.invariant runs c.handle.ensures.counts (λ is. absurd (cc (runs, is))) (λ other is. absurd (cc (c.in-Ok.is, is)))

pub invariant_of-self-in-Err : goal.invariant_of-self-in-Err
invariant_of-self-in-Err g c =
    let runs : c.self.inside.refusal ≡ None = subst (λ (v : LiveView _). v.refusal ≡ None) (sym c.self.view_is) c.requires.runs in
    count_on g.K.Sink.faults c.self.inside.begun.value _ _ c.self.inside.refusal _ c.handle.result c.self.invariant runs c.handle.ensures.counts (λ is. cc (c.in-Err.is, is)) (λ other is. other (cc (c.in-Err.is, is)))

pub returns-in-Ok-clause-takes : goal.returns-in-Ok-clause-takes
returns-in-Ok-clause-takes g c =
    let runs : c.self.inside.refusal ≡ None = subst (λ (v : LiveView _). v.refusal ≡ None) (sym c.self.view_is) c.requires.runs in
    takes_on g.K.Sink.written c.args.found.now c.args.self.now _ _ c.self.view_is runs refl refl c.in-Ok.ensures.handled

pub returns-in-Err-clause-takes : goal.returns-in-Err-clause-takes
returns-in-Err-clause-takes g c =
    takes_off g.K.Sink.written c.args.found.now c.args.self.now _ _ c.self.view_is c.in-Err.refusal refl refl refl c.in-Err.ensures.stopped
    (λ at is. c.handle.ensures.damaged at (c.in-Err.is ∙ ap (λ e. Err e) is)) (λ is. c.handle.ensures.disk (c.in-Err.is ∙ ap (λ e. Err e) is))
