use Rattle.td_store.proofs.group.Told.{told_still, told_more}
use Rattle.td_store.proofs.group.laws.group_is_told.Goals as goal

pub returns-clause-still : goal.returns-clause-still
returns-clause-still c inputs j old new floor checkpoint e w next same is = told_still inputs j old new floor checkpoint w e next same is

pub returns-clause-more : goal.returns-clause-more
returns-clause-more c inputs j old new floor checkpoint e w x next same hold ok may small room nothing =
    told_more inputs j old new floor checkpoint w e next same c.cells_read_back.ensures.found x hold ok may small room nothing
