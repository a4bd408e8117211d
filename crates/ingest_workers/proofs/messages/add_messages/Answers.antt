use Rattle.std.proofs.Common.{rules, ◌++◌, ◌∷◌, [], Ok, Err, arith, refl, sym, subst, ◌∙◌}
use Rattle.ingest_workers.specs.Taking.{Taking, Took}
use Rattle.ingest_workers.proofs.TakingLemmas.{none_at, one_less, some_at, took_since}
use Rattle.ingest_workers.specs.Causes.{log_from}
use Rattle.ingest_workers.proofs.messages.add_messages.Goals as goal

pub add_next-requires-clause-taking : goal.add_next-requires-clause-taking
add_next-requires-clause-taking g c =
    let r = c.requires.taking in let now = c.messages.invariant.taking r.0 r.1 r.2 r.3 r.4 in (r.0, r.1, r.2, now.0, now.1)

pub returns-in-Err-clause-took : goal.returns-in-Err-clause-took
returns-in-Err-clause-took g c = λ bytes start begin taken t.
    let now = c.messages.invariant.taking bytes start begin taken t in
    took_since bytes g.S.Source.left g.S.Source.faults c.args.reader.now.source c.messages.reader.source c.add_next.new.reader.source c.messages.invariant.steady
    (λ log. Took g.D.Disk.state c.args.rows c.args.namer.now.version log start c.add_next.new.keeper begin c.add_next.new.namer c.add_next.new.segment (Err c.in-Err.stop))
    (subst (λ v. Took g.D.Disk.state c.args.rows v (log_from bytes g.S.Source.left g.S.Source.faults c.messages.reader.source c.add_next.new.reader.source) start c.add_next.new.keeper begin c.add_next.new.namer c.add_next.new.segment (Err c.in-Err.stop))
    (now.1.version ∙ sym t.version) (c.in-Err.ensures.stopped bytes start begin now.0 now.1))

pub returns-in-Ok-Some-clause-took : goal.returns-in-Ok-Some-clause-took
returns-in-Ok-Some-clause-took g c = λ bytes start begin taken t.
    let now = c.messages.invariant.taking bytes start begin taken t in
    took_since bytes g.S.Source.left g.S.Source.faults c.args.reader.now.source c.messages.reader.source c.add_next.new.reader.source c.messages.invariant.steady
    (λ log. Took g.D.Disk.state c.args.rows c.args.namer.now.version log start c.add_next.new.keeper begin c.add_next.new.namer c.add_next.new.segment (Ok c.in-Ok-Some.ended))
    (subst (λ v. Took g.D.Disk.state c.args.rows v (log_from bytes g.S.Source.left g.S.Source.faults c.messages.reader.source c.add_next.new.reader.source) start c.add_next.new.keeper begin c.add_next.new.namer c.add_next.new.segment (Ok c.in-Ok-Some.ended))
    (now.1.version ∙ sym t.version)
    (some_at c.in-Ok-Some.field-0 c.in-Ok-Some.ended (λ e. Took g.D.Disk.state c.args.rows c.messages.namer.version (log_from bytes g.S.Source.left g.S.Source.faults c.messages.reader.source c.add_next.new.reader.source) start c.add_next.new.keeper begin c.add_next.new.namer c.add_next.new.segment (Ok e))
    (search rules) (c.in-Ok-Some.ensures.ended bytes start begin now.0 now.1)))

pub messages-smaller : goal.messages-smaller
messages-smaller g c =
    let r = c.requires.taking in let now = c.messages.invariant.taking r.0 r.1 r.2 r.3 r.4 in let text = c.add_next.new.reader.message in
    one_less g.D.Disk.state g.S.Source.left c.args.rows r.0 r.1 c.messages.keeper c.add_next.new.keeper r.2 c.messages.namer c.add_next.new.namer c.messages.segment c.add_next.new.segment c.messages.reader c.add_next.new.reader now.0 text now.1
    (none_at c.in-Ok-None.field-0 (Taking g.D.Disk.state g.S.Source.left c.args.rows r.0 r.1 c.add_next.new.keeper r.2 c.add_next.new.namer c.add_next.new.segment c.add_next.new.reader (now.0 ++ text ∷ []))
    (search rules) (c.in-Ok-None.ensures.taken r.0 r.1 r.2 now.0 now.1))

pub messages-preserved : goal.messages-preserved
messages-preserved g c = record {
  steady = c.in-Ok-None.ensures.steady ∙ c.messages.invariant.steady;
  source = record { named = c.add_next.ensures.source.named ∙ c.messages.invariant.source.named; later = omega (arith, c.add_next.ensures.source.later, c.messages.invariant.source.later) };
  taking = λ bytes start begin taken t.
      let now = c.messages.invariant.taking bytes start begin taken t in let text = c.add_next.new.reader.message in (
        now.0 ++ text ∷ [],
        none_at c.in-Ok-None.field-0 (Taking g.D.Disk.state g.S.Source.left c.args.rows bytes start c.add_next.new.keeper begin c.add_next.new.namer c.add_next.new.segment c.add_next.new.reader (now.0 ++ text ∷ []))
            (search rules) (c.in-Ok-None.ensures.taken bytes start begin now.0 now.1),
      );
}

pub messages-init : goal.messages-init
messages-init g c = record {
  source = record { named = refl; later = omega arith };
  steady = refl;
  taking = λ bytes start begin taken t. (taken, t);
}
