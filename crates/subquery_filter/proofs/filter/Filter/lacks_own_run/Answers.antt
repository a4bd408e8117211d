use Rattle.std.proofs.Common.{◌≡◌, List, ℕ, of_z, rules, subst, sym, to_z, w64}
use Rattle.std.specs.Prelude.{slice_index_or}
use Rattle.subquery_filter.specs.declared.run.Run.{Run}
use Rattle.subquery_filter.specs.Filter.{RunMarks}
use Rattle.subquery_filter.proofs.filter.Filter.lacks_own_run.Goals as goal

pub returns-clause-lacks : goal.returns-clause-lacks
returns-clause-lacks c = λ yes.
    let own : c.mark_at-own.result ≡ slice_index_or c.args.self.now.run_stamps.items c.args.row.pattern 0 = search rules in
    let moment : to_z w64 (of_z w64 c.args.row.moment) ≡ c.args.row.moment = search rules in
    let runs = c.args.self.now.runs.items in
    let same = c.as_slice-2.ensures.value in
    let tells = rw moment at c.stamp_runs-bits.ensures in (
      c.stamp_runs-bits.result,
      λ stamps s stamped.
          subst (λ (l : List Run). RunMarks l s c.stamp_runs-bits.result) same
          (tells s (λ there. subst (λ (l : List Run). RunMarks l s c.mark_at-own.result) (sym same)
          (subst (λ (n : ℕ). RunMarks runs s n) (sym own) (stamps c.args.row.pattern c.args.row.moment s there))) stamped),
      search rules,
    )
