use Rattle.td_progress.proofs.table.Table.take_off.Goals as goal

pub returns-clause-stamps : goal.returns-clause-stamps
returns-clause-stamps c = c.take_off_many.ensures.stamps
