use Rattle.td_progress.proofs.table.Table.add.Goals as goal

pub add_many-requires-clause-fits : goal.add_many-requires-clause-fits
add_many-requires-clause-fits c = c.requires.fits

pub returns-clause-ok : goal.returns-clause-ok
returns-clause-ok c = c.add_many.ensures.ok
