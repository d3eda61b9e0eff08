use Rattle.std.proofs.Common.{◌≡◌, ◌∙◌, refl, ap, sym, map, subst, filter, nat_le}
use Rattle.std.specs.List.{IsDistinct}
use Rattle.std.specs.Ordering.{eq_by_cmp}
use Rattle.td_stamp.specs.Orders.{state_key_cmp}
use Rattle.td_machine.specs.State.{with_left}
use Rattle.td_shard.specs.Versions.{with_some, removed_there, with_changes_back}
use Rattle.td_shard.proofs.Viewed.{seen, keys-seen}
use Rattle.td_shard.proofs.LeftBags.{are_apart}
use Rattle.td_shard.proofs.LeftStates.{brought_up}
use Rattle.td_shard.proofs.versions.Versions.bring_up.Goals as goal

pub set_all-requires : goal.set_all-requires
set_all-requires c = c.self.invariant.1

pub remove_all-requires : goal.remove_all-requires
remove_all-requires c = c.self.invariant.1

pub returns-clause-ok : goal.returns-clause-ok
returns-clause-ok c =
    let e = c.args.epoch in
    let states = c.args.states.now in
    let es = c.self.inside.versions.entries in
    c.remove_all.ensures
    ∙ (ap (λ s. with_some removed_there e s (map (λ d. (d.0, d.1.items)) es)) c.in_default.ensures.ok
    ∙ (brought_up c.version_laws.ensures e (map (seen (λ v. v.items)) es) states (subst (IsDistinct (eq_by_cmp state_key_cmp)) (sym (keys-seen (λ v. v.items) es)) (are_apart es c.self.invariant.0)) c.len-in_order.ensures.ordered
    ∙ ap (λ l. with_left states (filter (λ k. nat_le k.epoch e) l)) c.self.view_is))

pub returns-in-Err-clause-err : goal.returns-in-Err-clause-err
returns-in-Err-clause-err c = c.take_changes_back.ensures ∙ (c.in-Err.ensures.back ∙ ap (with_changes_back c.args.states.now) c.in_ok-before.ensures.items)
