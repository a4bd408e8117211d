use Rattle.archive_merge.proofs.taker.Taker.of.Goals as goal

pub returns : goal.returns
returns g c = λ books. record { version_is = c.requires; judge_is = c.in_ok-judge.ensures; tables_are = c.new.ensures _ _ _ _ }
