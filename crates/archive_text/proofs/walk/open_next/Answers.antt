use Rattle.std.proofs.Common.{refl, rules}
use Rattle.std.proofs.lemmas.List.{drop_all}
use Rattle.archive_text.specs.Ahead.{ahead}
use Rattle.archive_text.proofs.WritingLemmas.{place_goes, place_not}
use Rattle.archive_text.proofs.walk.open_next.Goals as goal

pub returns-in_default-pages_of-clause-damaged : goal.returns-in_default-pages_of-clause-damaged
returns-in_default-pages_of-clause-damaged c = λ is types words messages bytes.
    place_not types words bytes (ahead c.args.walk.now) c.in-Some.place.now c.in-Some.rest.now (search rules) (c.in_default-pages_of.ensures.none refl) messages

pub returns-clause-goes : goal.returns-clause-goes
returns-clause-goes c = λ types words bytes.
    let walk = c.args.walk.now in
    place_goes types words bytes (ahead walk) c.in-Some.place.now c.in-Some.rest.now c.in-Some-pages_of.pages walk.lines (drop_all walk.row walk.columns.rows c.requires.done) c.requires.none (search rules) c.in-Some-pages_of.ensures.holds
