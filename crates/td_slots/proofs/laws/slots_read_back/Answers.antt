use Rattle.td_slots.proofs.ReadBack.{slot_size, slot_found}
use Rattle.td_slots.proofs.laws.slots_read_back.Goals as goal

pub returns-clause-size : goal.returns-clause-size
returns-clause-size c = slot_size

pub returns-clause-found : goal.returns-clause-found
returns-clause-found c version folds k side epoch last states small number ok = slot_found version folds k epoch last states small number ok side
