use Rattle.std.proofs.Common.{sym, ◌<◌, subst}
use Rattle.turn_lock.specs.Words.{number_of}
use Rattle.dict_core.specs.declared.grows.TheConstants.{WORDS_FIRST}
use Rattle.dict_lock.specs.Cached.{pass_in}
use Rattle.ingest_workers.proofs.worker_jobs.do_with_blanks.Goals as goal

pub returns-clause-names : goal.returns-clause-names
returns-clause-names g c = record {
  types = rw (sym c.with_caches-namer.ensures.types, sym c.with_caches-namer.ensures.version, c.into_caches-types.ensures.types) c.run_job.ensures.names.types;
  words = rw (sym c.with_caches-namer.ensures.words, sym c.with_caches-namer.ensures.version, c.into_caches-types.ensures.words) c.run_job.ensures.names.words;
}

pub returns-clause-done : goal.returns-clause-done
returns-clause-done g c = rw (sym c.with_caches-namer.ensures.version, c.into_caches-types.ensures.types, c.into_caches-types.ensures.words) c.run_job.ensures.done

pub returns-clause-may : goal.returns-clause-may
returns-clause-may g c = let out = c.into_caches-types.ensures in record {
  types_ready = c.into_caches-types.result.types.ready;
  words_ready = c.into_caches-types.result.words.ready;
  adds_types = subst (λ p. number_of (pass_in p) < WORDS_FIRST) (sym out.types) c.run_job.new.namer.adds_types;
  adds_words = subst (λ p. WORDS_FIRST < number_of (pass_in p)) (sym out.words) c.run_job.new.namer.adds_words;
}
