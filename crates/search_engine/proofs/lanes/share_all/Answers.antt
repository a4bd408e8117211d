use Rattle.std.proofs.Common.{◌∙◌, subst, sym, All}
use Rattle.search_engine.proofs.LaneListLemmas.{serves_on}
use Rattle.search_engine.specs.Lanes.{HaveNames, IsWell}
use Rattle.search_engine.proofs.lanes.share_all.Goals as goal

pub pass_words-requires-2-clause-well : goal.pass_words-requires-2-clause-well
pass_words-requires-2-clause-well g c = subst (λ l. All IsWell l) (sym c.pass_words.ensures.kept) c.requires.well

pub pass_words-requires-2-clause-serves : goal.pass_words-requires-2-clause-serves
pass_words-requires-2-clause-serves g c = serves_on g.P.Disk.state c.args.lanes.now c.pass_words.new.lanes c.args.all.now c.pass_words.new.all c.pass_words.ensures.kept c.requires.serves c.pass_words.ensures.serves

pub returns-clause-kept : goal.returns-clause-kept
returns-clause-kept g c = c.pass_words-2.ensures.kept ∙ c.pass_words.ensures.kept

pub returns-clause-serves : goal.returns-clause-serves
returns-clause-serves g c = λ n have serves. c.pass_words-2.ensures.serves n (subst (λ l. HaveNames g.P.Disk.state n l) (sym c.pass_words.ensures.kept) have) (c.pass_words.ensures.serves n have serves)
