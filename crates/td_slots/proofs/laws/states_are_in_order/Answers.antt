use Rattle.std.proofs.Common.{◌==◌}
use Rattle.std.specs.List.{list_all, list_any}
use Rattle.std.specs.Ordering.{is_lt}
use Rattle.std.proofs.lemmas.Bool.{and_from, and_parts}
use Rattle.td_stamp.specs.Orders.{state_key_cmp}
use Rattle.td_gate.specs.Fields.{is_chain}
use Rattle.td_slots.proofs.Order.{ordered, chain_from_states, states_from_chain}
use Rattle.td_slots.proofs.laws.states_are_in_order.Goals as goal

pub returns : goal.returns
returns c = record {
  written = λ folds states sorted names. and_from (list_all (λ s. list_any (λ v. v == s.0.0) folds) states) (is_chain (λ x y. is_lt (state_key_cmp x.0 y.0)) states) names (chain_from_states states sorted);
  read = λ folds states are. states_from_chain states (and_parts (list_all (λ s. list_any (λ v. v == s.0.0) folds) states) (ordered states) are).1;
  rises = states_from_chain;
  named = λ folds states are. (and_parts (list_all (λ s. list_any (λ v. v == s.0.0) folds) states) (ordered states) are).0;
}
