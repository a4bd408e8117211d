use Rattle.std.proofs.Common.{◌≡◌, ℕ, of_z, rules, subst, sym, to_z, w64}
use Rattle.std.specs.Prelude.{slice_index_or}
use Rattle.subquery_filter.specs.Filter.{RunMarks, StampMarks}
use Rattle.subquery_filter.proofs.filter.Filter.stamp_at.Goals as goal

pub returns : goal.returns
returns c = λ page.
    let f = c.args.self.now in
    let moment : to_z w64 (of_z w64 c.args.moment) ≡ c.args.moment = search rules in
    let by_runs = rw moment at c.may_at.ensures.runs in
    let by_tokens = rw moment at c.may_at.ensures.tokens in
    let runs_is : c.mark_at.result ≡ slice_index_or f.run_stamps.items c.args.pattern 0 = search rules in
    let tokens_is : c.mark_at-2.result ≡ slice_index_or f.stamps.items c.args.pattern 0 = search rules in
    record {
      runs = λ stamps s stamped. by_runs f.tokens.items f.runs.items s page stamped (subst (λ (n : ℕ). RunMarks f.runs.items s n) (sym runs_is) (stamps c.args.pattern c.args.moment s stamped));
      tokens = λ stamps s stamped.
          by_tokens f.tokens.items f.runs.items s page stamped (subst (λ (n : ℕ). StampMarks f.tokens.items s n) (sym tokens_is) (stamps c.args.pattern c.args.moment s stamped));
    }
