use Rattle.std.proofs.Common.{◌∙◌, subst, sym}
use Rattle.ingest_workers.specs.Adding.{AddsMessage, KnowsMore}
use Rattle.ingest_workers.specs.Full.{books_by}
use Rattle.ingest_workers.specs.Turns.{MayAsk, stop_in}
use Rattle.ingest_workers.proofs.TurnsLemmas.{may_ask}
use Rattle.ingest_workers.proofs.naming.add_by_keys.Goals as goal

pub returns-clause-passes : goal.returns-clause-passes
returns-clause-passes g c = let keys = c.requires.keys in let now = c.add-answer.new.namer in record {
  of_types = record { lock = now.types ∙ sym keys.0.lock; number = now.types_number ∙ sym keys.0.number; about_is = now.types_about ∙ sym keys.0.about_is };
  of_words = record { lock = now.words ∙ sym keys.1.lock; number = now.words_number ∙ sym keys.1.number; about_is = now.words_about ∙ sym keys.1.about_is };
}

pub returns-clause-known : goal.returns-clause-known
returns-clause-known g c =
    subst (λ n. KnowsMore (g.N.PassNamer.version n) c.args.line.now (books_by (g.N.PassNamer.types n) (g.N.PassNamer.words n)) (books_by (g.N.PassNamer.types c.add-answer.new.namer.namer.now) (g.N.PassNamer.words c.add-answer.new.namer.namer.now)))
    c.keep-kept.ensures.now c.add-answer.ensures.known

pub returns-clause-asked : goal.returns-clause-asked
returns-clause-asked g c =
    let line = c.args.line.now in
    let stop = stop_in c.add-answer.result in
    subst (λ n. MayAsk g.N.PassNamer.naming (g.N.PassNamer.version n) line stop n c.add-answer.new.namer.namer.now) c.keep-kept.ensures.now
    (may_ask c.keep-kept.result c.add-answer.new.namer (λ k. k.namer.now) g.N.PassNamer.naming _ line stop c.add-answer.ensures.asked)

pub returns-clause-added : goal.returns-clause-added
returns-clause-added g c =
    subst (λ n. AddsMessage (g.N.PassNamer.version n) c.args.line.now (books_by (g.N.PassNamer.types n) (g.N.PassNamer.words n)) (books_by (g.N.PassNamer.types c.add-answer.new.namer.namer.now) (g.N.PassNamer.words c.add-answer.new.namer.namer.now))
    c.args.segment.now c.add-answer.new.self c.add-answer.result)
    c.keep-kept.ensures.now c.add-answer.ensures.added
