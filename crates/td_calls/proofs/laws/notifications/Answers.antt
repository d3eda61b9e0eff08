use Rattle.td_calls.proofs.Notifications.{all_notified, keys_notified}
use Rattle.td_calls.proofs.laws.notifications.Goals as goal

pub returns-clause-all : goal.returns-clause-all
returns-clause-all c = all_notified

pub returns-clause-by_keys : goal.returns-clause-by_keys
returns-clause-by_keys c = keys_notified c.bags.ensures.append c.joins.ensures.swaps
