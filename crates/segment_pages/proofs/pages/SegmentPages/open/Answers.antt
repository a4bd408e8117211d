use Rattle.std.proofs.Common.{rules}
use Rattle.segment_pages.proofs.PageLemmas.{first_holds, none_pages}
use Rattle.segment_pages.proofs.pages.SegmentPages.open.Goals as goal

pub returns-in_err-pages-clause-none : goal.returns-in_err-pages-clause-none
returns-in_err-pages-clause-none g c = λ _. none_pages c.args.at c.args.length c.args.head.now (search rules)

pub returns-clause-holds : goal.returns-clause-holds
returns-clause-holds g c = λ bytes rows holds. first_holds c.args.at c.args.length c.args.head.now _ bytes rows (search rules) holds
