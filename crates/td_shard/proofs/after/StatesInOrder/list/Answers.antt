use Rattle.std.proofs.Common.{◌++◌, filter, nat_le, ◌∙◌, subst}
use Rattle.std.specs.Map.{keys_of}
use Rattle.td_stamp.specs.Bag.{set_of}
use Rattle.td_stamp.specs.Orders.{state_key_cmp}
use Rattle.td_stamp.specs.States.{AreStates}
use Rattle.td_shard.specs.After.{states_after, entries_at}
use Rattle.td_shard.proofs.KeptStates.{left_keeps, states_in_order}
use Rattle.td_shard.proofs.EntriesAt.{all_found, in_order_states}
use Rattle.td_shard.proofs.after.StatesInOrder.list.Goals as goal

pub returns-clause-all : goal.returns-clause-all
returns-clause-all c =
    let s = c.self.inside in
    let all = states_after s.epoch s.base.now s.versions.now in
    (λ i. entries_at all (set_of state_key_cmp (c.of.ensures i ++ c.of-2.ensures i)))
    ∙ ((λ i. entries_at all (set_of state_key_cmp (keys_of (c.list.ensures.all i) ++ keys_of ((c.list-2.ensures.all ∙ c.self.invariant) i))))
    ∙ (all_found c.place_laws.ensures s.base.now (filter (λ k. nat_le k.epoch s.epoch) s.versions.now) c.list.ensures.ordered ∙ c.self.view_is))

pub returns-clause-ordered : goal.returns-clause-ordered
returns-clause-ordered c =
    let s = c.self.inside in
    let left = filter (λ k. nat_le k.epoch s.epoch) s.versions.now in
    subst AreStates c.self.view_is (in_order_states (states_after s.epoch s.base.now s.versions.now) (left_keeps left s.base.now (states_in_order s.base.now c.list.ensures.ordered)))
