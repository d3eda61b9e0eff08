use Rattle.std.proofs.Common.{◌≡◌, ◌∙◌, ◌+◌, ◌≤◌, ap, sym, length, map, subst, filter, nat_le, arith}
use Rattle.std.proofs.lemmas.List.{length-map}
use Rattle.std.specs.List.{IsDistinct}
use Rattle.std.specs.Ordering.{eq_by_cmp}
use Rattle.td_stamp.specs.Orders.{state_key_cmp}
use Rattle.td_machine.specs.State.{with_left}
use Rattle.td_shard.proofs.Viewed.{seen, keys-seen}
use Rattle.td_shard.proofs.LeftBags.{are_apart}
use Rattle.td_shard.proofs.LeftStates.{at_most}
use Rattle.td_shard.proofs.versions.Versions.places.Goals as goal

pub returns : goal.returns
returns c epoch states ordered =
    let es = c.self.inside.versions.entries in
    let few = at_most c.version_laws.ensures epoch (map (seen (λ v. v.items)) es) states (subst (IsDistinct (eq_by_cmp state_key_cmp)) (sym (keys-seen (λ v. v.items) es)) (are_apart es c.self.invariant.0)) ordered in
    let same = ap (λ l. length (with_left states (filter (λ k. nat_le k.epoch epoch) l))) c.self.view_is in
    let many = length-map es (seen (λ v. v.items)) in
    omega (arith, few, same, many, c.len.ensures.len)
