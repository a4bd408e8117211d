use Rattle.std.proofs.Common.{◌≡◌, length, arith, ◌∙◌, sym, rules}
use Rattle.std.proofs.lemmas.Option.{slice_get-get_or}
use Rattle.ingest_fork.specs.Works.{AllReady, AllFit, AllDone, AllWent}
use Rattle.ingest_fork.proofs.WorkLemmas.{went_alone, went_halves, done_alone, done_halves, ready_left, ready_right, fits_left, fits_right}
use Rattle.ingest_fork.proofs.works.+by_workers+fn-by_workers-join_mut+arg2+fn-by_workers-join_mut+arg3.Goals as goal

pub returns-then-count-eq1-clause-went : goal.returns-then-count-eq1-clause-went
returns-then-count-eq1-clause-went g t c = let did = c.in_turn.ensures.did in
    went_alone g.W.Works.ready g.W.Works.went _ _ _ _ _ did.jobs c.if-count-eq1.true (slice_get-get_or c.args.workers.now 0 c.index-workers-0.result (omega arith)) c.in_turn.ensures.ready c.in_turn.ensures.went

pub returns-then-count-eq1-clause-did : goal.returns-then-count-eq1-clause-did
returns-then-count-eq1-clause-did g t c =
    done_alone g.W.Works.went g.W.Works.did _ _ _ _ _ _ _ c.if-count-eq1.true (slice_get-get_or c.args.workers.now 0 c.index-workers-0.result (omega arith)) c.in_turn.ensures.did

pub join_mut-requires-after_bounds : goal.join_mut-requires-after_bounds
join_mut-requires-after_bounds g t c κs within =
    let workers = c.split_at_mut-these.ensures.value in let jobs = c.split_at_mut-front.ensures.value in let keepers = c.split_at_mut-front_keepers.ensures.value in
    let same : length c.split_at_mut-front.result.0.now ≡ length c.split_at_mut-front_keepers.result.0.now = c.split_at_mut-front.ensures.front_len ∙ sym c.split_at_mut-front_keepers.ensures.front_len in
    let ready_these : AllReady g.W.Works.ready c.split_at_mut-these.result.0.now = ready_left g.W.Works.ready _ _ _ workers c.requires.ready in
    let ready_others : AllReady g.W.Works.ready c.split_at_mut-these.result.1.now = ready_right g.W.Works.ready _ c.split_at_mut-these.result.0.now _ workers c.requires.ready in
    let fits_these : AllFit g.W.Works.fits c.split_at_mut-these.result.0.now c.split_at_mut-front.result.0.now c.split_at_mut-front_keepers.result.0.now = fits_left g.W.Works.fits _ _ _ _ _ _ _ _ _ workers jobs keepers c.requires.fits in
    let fits_others : AllFit g.W.Works.fits c.split_at_mut-these.result.1.now c.split_at_mut-front.result.1.now c.split_at_mut-front_keepers.result.1.now = fits_right g.W.Works.fits _ c.split_at_mut-these.result.0.now _ _ c.split_at_mut-front.result.0.now _ _ c.split_at_mut-front_keepers.result.0.now _ workers jobs keepers same c.requires.fits in
    search rules

pub returns-clause-went : goal.returns-clause-went
returns-clause-went g t c =
    let workers = c.split_at_mut-these.ensures.value in let jobs = c.split_at_mut-front.ensures.value in
    let front : AllWent g.W.Works.ready g.W.Works.went c.split_at_mut-front.result.0.now c.front-1.given.0 c.split_at_mut-these.result.0.now c.these-1.given.0 = search rules in
    let back : AllWent g.W.Works.ready g.W.Works.went c.split_at_mut-front.result.1.now c.back-1.given.0 c.split_at_mut-these.result.1.now c.others-1.given.0 = search rules in
    let done : AllDone g.W.Works.went g.W.Works.did c.split_at_mut-these.result.0.now c.these-1.given.0 c.split_at_mut-front.result.0.now c.front-1.given.0 c.split_at_mut-front_keepers.result.0.now c.front_keepers-1.given.0 = search rules in
    rw (workers, jobs) (went_halves g.W.Works.ready g.W.Works.went _ _ _ _ _ _ _ _ done.jobs front back)

pub returns-clause-did : goal.returns-clause-did
returns-clause-did g t c =
    let workers = c.split_at_mut-these.ensures.value in let jobs = c.split_at_mut-front.ensures.value in let keepers = c.split_at_mut-front_keepers.ensures.value in
    let same : length c.split_at_mut-front.result.0.now ≡ length c.split_at_mut-front_keepers.result.0.now = c.split_at_mut-front.ensures.front_len ∙ sym c.split_at_mut-front_keepers.ensures.front_len in
    let went : AllWent g.W.Works.ready g.W.Works.went c.split_at_mut-front.result.0.now c.front-1.given.0 c.split_at_mut-these.result.0.now c.these-1.given.0 = search rules in
    let front : AllDone g.W.Works.went g.W.Works.did c.split_at_mut-these.result.0.now c.these-1.given.0 c.split_at_mut-front.result.0.now c.front-1.given.0 c.split_at_mut-front_keepers.result.0.now c.front_keepers-1.given.0 = search rules in
    let back : AllDone g.W.Works.went g.W.Works.did c.split_at_mut-these.result.1.now c.others-1.given.0 c.split_at_mut-front.result.1.now c.back-1.given.0 c.split_at_mut-front_keepers.result.1.now c.back_keepers-1.given.0 = search rules in
    rw (workers, jobs, keepers) (done_halves g.W.Works.went g.W.Works.did _ _ _ _ _ _ _ _ _ _ _ _ same went.workers front back)
