use Rattle.std.proofs.Common.{arith, rules}
use Rattle.subquery_filter.proofs.AroundLemmas.{front_apart, no_mark, no_room}
use Rattle.subquery_filter.proofs.stamps.ends_at.Goals as goal

pub returns-then-not-is_delim : goal.returns-then-not-is_delim
returns-then-not-is_delim c = λ never h. no_mark c.args.text.now c.args.stamp.now c.args.len _ c.is_delim.result c.requires (search rules) c.is_delim.ensures (search rules) h

pub returns-then-len-stamp : goal.returns-then-len-stamp
returns-then-len-stamp c = λ never h. front_apart c.args.text.now c.args.stamp.now c.args.len _ _ c.stands_at.result (search (rules, arith)) (search rules) (search rules) c.stands_at.ensures never h

pub returns-else-len-stamp : goal.returns-else-len-stamp
returns-else-len-stamp c = λ never h. no_room c.args.text.now c.args.stamp.now c.args.len (search (rules, arith)) (search (rules, arith)) h
