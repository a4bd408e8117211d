use Rattle.row_tests.proofs.row_rename_tests.damaged.Goals as goal

pub loop-count-init : goal.loop-count-init
loop-count-init c = c.new-tables.ensures _ _ _ _
