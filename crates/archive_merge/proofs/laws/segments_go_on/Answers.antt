use Rattle.std.proofs.Common.{refl, sym, subst}
use Rattle.std.specs.Prelude.{All}
use Rattle.logtype_text.specs.Fair.{IsFairType, IsFairWord}
use Rattle.archive_merge.proofs.RunLemmas.{fair_held, file_run, files_rise, theirs}
use Rattle.archive_merge.proofs.laws.segments_go_on.Goals as goal

pub returns-clause-runs : goal.returns-clause-runs
returns-clause-runs c = λ bytes h es a number stood is. file_run bytes h es a number stood c.segments_are_held.ensures is

pub returns-clause-theirs : goal.returns-clause-theirs
returns-clause-theirs c = λ bytes h es a number stood is. theirs bytes h es a number stood c.segments_are_held.ensures is

pub returns-clause-fair : goal.returns-clause-fair
returns-clause-fair c = λ bytes h es a stood is.
    subst (λ k. All IsFairType k.types × All IsFairWord k.words) (sym is.kept) (fair_held h es stood.legal.held stood.legal.run)

pub returns-clause-rise : goal.returns-clause-rise
returns-clause-rise c = λ bytes h es a stood is. files_rise h es stood.legal.held a stood.legal.run is

pub returns-clause-files : goal.returns-clause-files
returns-clause-files c = λ bytes h es a number stood is. record {
  bytes = bytes;
  told_is = refl;
  sorted = files_rise h es stood.legal.held a stood.legal.run is;
  run = file_run bytes h es a number stood c.segments_are_held.ensures is;
}
