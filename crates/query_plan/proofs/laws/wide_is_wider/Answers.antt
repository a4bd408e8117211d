use Rattle.std.proofs.Common.{◌-◌, arith}
use Rattle.query_plan.specs.Pieces.{open_tokens}
use Rattle.query_plan.proofs.WideLemmas.{wide_is_wider, wide_is_exact, searched_is_widened, is_searched}
use Rattle.query_plan.proofs.laws.wide_is_wider.Goals as goal

pub returns-clause-wider : goal.returns-clause-wider
returns-clause-wider c p s m = wide_is_wider p s m

pub returns-clause-exact : goal.returns-clause-exact
returns-clause-exact c p s no_one few m = wide_is_exact p s (4 - open_tokens p) no_one (omega (arith, few)) m

pub returns-clause-widened : goal.returns-clause-widened
returns-clause-widened c p is = searched_is_widened p is

pub returns-clause-searched : goal.returns-clause-searched
returns-clause-searched c text p is = is_searched text p is
