use Rattle.td_stamp.proofs.TimeLaws.{time_total, time_apart, IsAtMost-time_cmp}
use Rattle.td_stamp.proofs.laws.time_list_order.Goals as goal

pub returns-clause-total : goal.returns-clause-total
returns-clause-total c = time_total

pub returns-clause-told_apart : goal.returns-clause-told_apart
returns-clause-told_apart c = time_apart

pub returns-clause-keeps : goal.returns-clause-keeps
returns-clause-keeps c = IsAtMost-time_cmp
