use Rattle.std.proofs.Common.{rules}
use Rattle.subquery_filter.proofs.AroundLemmas.{ends_none, no_mark}
use Rattle.subquery_filter.proofs.stamps.may_end_at.Goals as goal

pub returns-then-is_delim : goal.returns-then-is_delim
returns-then-is_delim c = λ never moment s prints h. ends_none c.args.pattern c.args.text.now s c.args.len moment _ (search rules) (c.may_end.ensures.none never) prints h

pub returns-else-is_delim : goal.returns-else-is_delim
returns-else-is_delim c = λ never moment s prints h. no_mark c.args.text.now s c.args.len _ c.is_delim.result c.requires (search rules) c.is_delim.ensures (search rules) h
