use Rattle.std.proofs.Common.{◌==◌}
use Rattle.std.specs.List.{list_all, list_any}
use Rattle.std.specs.Ordering.{is_le}
use Rattle.std.proofs.lemmas.Bool.{and_parts, and_from}
use Rattle.td_stamp.specs.Orders.{entry_cmp}
use Rattle.td_stamp.specs.ProvedOrders.{entry_total}
use Rattle.td_gate.specs.Fields.{is_chain}
use Rattle.td_journal.proofs.Order.{chain_from_bag, bag_from_chain}
use Rattle.td_journal.proofs.laws.batches_are_in_order.Goals as goal

pub returns-clause-written : goal.returns-clause-written
returns-clause-written c inputs x bag names = and_from (list_all (λ e. list_any (λ v. v == e.input) inputs) x) (is_chain (λ x y. is_le (entry_cmp x y)) x) names (chain_from_bag entry_cmp entry_total x bag)

pub returns-clause-read : goal.returns-clause-read
returns-clause-read c inputs x valid = bag_from_chain entry_cmp entry_total x (and_parts (list_all (λ e. list_any (λ v. v == e.input) inputs) x) (is_chain (λ x y. is_le (entry_cmp x y)) x) valid).1
