use Rattle.std.proofs.Common.{rules, ◌≡◌, Some, slice_get, slice_index}
use Rattle.std.proofs.lemmas.Option.{slice_get-get_or}
use Rattle.dict_lock.proofs.NamingLemmas.{front_more, front_keeps, grows_more}
use Rattle.dict_lock.proofs.naming.remember.Goals as goal

pub returns-in_err-keep_new-clause-seen : goal.returns-in_err-keep_new-clause-seen
returns-in_err-keep_new-clause-seen g c = λ seen was names. let now = c.loop-place in
    let number : slice_get c.args.numbers.now now.place ≡ Some (slice_index c.args.numbers.now now.place) = slice_get-get_or c.args.numbers.now now.place 0 (search rules) in
    c.keep_new.ensures.seen seen (now.invariant.seen seen was names) (names.at now.place _ c.at.result.now number c.at.ensures)

pub returns-in_err-keep_new-clause-grows : goal.returns-in_err-keep_new-clause-grows
returns-in_err-keep_new-clause-grows g c = let now = c.loop-place in
    grows_more c.args.cache.now now.cache c.keep_new.new.cache (g.T.TextSlice.texts c.args.texts.now) c.at.result.now now.place c.at.ensures now.invariant.grows c.keep_new.ensures.grows

pub loop-place-preserved : goal.loop-place-preserved
loop-place-preserved g c = let texts = g.T.TextSlice.texts c.args.texts.now in let now = c.loop-place in
    let number : slice_get c.args.numbers.now now.place ≡ Some (slice_index c.args.numbers.now now.place) = slice_get-get_or c.args.numbers.now now.place 0 (search rules) in record {
      kept = λ t n r. c.keep_new.ensures.kept t n (now.invariant.kept t n r);
      grows = grows_more c.args.cache.now now.cache c.keep_new.new.cache texts c.at.result.now now.place c.at.ensures now.invariant.grows c.keep_new.ensures.grows;
      seen = λ seen was names. c.keep_new.ensures.seen seen (now.invariant.seen seen was names) (names.at now.place _ c.at.result.now number c.at.ensures);
      held = front_more c.keep_new.new.cache texts now.place c.at.result.now c.at.ensures c.in_ok-keep_new.ensures.held (front_keeps now.cache c.keep_new.new.cache texts now.place c.keep_new.ensures.kept now.invariant.held);
    }
