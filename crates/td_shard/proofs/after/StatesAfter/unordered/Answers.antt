use Rattle.std.proofs.Common.{◌++◌, ap, ◌∙◌, subst, filter, nat_le}
use Rattle.std.specs.Map.{keys_of}
use Rattle.std.specs.List.{All}
use Rattle.std.proofs.lemmas.List.Elements.{All-from_recursion, recursion_from_All}
use Rattle.td_stamp.specs.States.{AreStates}
use Rattle.td_shard.specs.After.{states_after, entries_at}
use Rattle.td_shard.proofs.KeptStates.{left_keeps, states_in_order}
use Rattle.td_shard.proofs.EntriesAt.{Found, each_found, places_found, none_elsewhere, in_order_states}
use Rattle.td_shard.proofs.after.StatesAfter.unordered.Goals as goal

pub invariant_of-result : goal.invariant_of-result
invariant_of-result c =
    (c.list-in_order.ensures.ordered, recursion_from_All (Found c.self.inside.base.now) c.unordered.result c.unordered.ensures.found, c.latest_of_each.ensures.latest)

pub returns-clause-found : goal.returns-clause-found
returns-clause-found c =
    let s = c.self.inside in
    let after = states_after s.epoch s.base.now s.versions.now in
    let places = keys_of c.unordered.result ++ keys_of c.latest_of_each.result in
    subst (λ all. All (Found all) (entries_at after places)) c.self.view_is (All-from_recursion (Found after) (entries_at after places) (each_found after places))

pub returns-clause-all : goal.returns-clause-all
returns-clause-all c =
    let s = c.self.inside in
    let base = s.base.now in
    let left = s.versions.now in
    let after = states_after s.epoch base left in
    let ordered = c.list-in_order.ensures.ordered in
    let laws = c.place_laws.ensures in
    places_found laws after
    (in_order_states after (left_keeps (filter (λ k. nat_le k.epoch s.epoch) left) base (states_in_order base ordered)))
    (keys_of c.unordered.result ++ keys_of c.latest_of_each.result)
    (none_elsewhere laws s.epoch base left ordered c.unordered.result c.latest_of_each.result c.unordered.ensures.all c.latest_of_each.ensures.others)
    ∙ ap keys_of c.self.view_is

pub returns-clause-ordered : goal.returns-clause-ordered
returns-clause-ordered c =
    let s = c.self.inside in
    let base = s.base.now in
    let left = filter (λ k. nat_le k.epoch s.epoch) s.versions.now in
    subst AreStates c.self.view_is (in_order_states (states_after s.epoch base s.versions.now) (left_keeps left base (states_in_order base c.list-in_order.ensures.ordered)))
