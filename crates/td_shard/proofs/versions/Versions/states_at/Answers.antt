use Rattle.std.proofs.Common.{◌∙◌, refl, ap, sym, map, subst, filter, nat_le}
use Rattle.std.specs.List.{IsDistinct}
use Rattle.std.specs.Ordering.{eq_by_cmp}
use Rattle.td_stamp.specs.Orders.{state_key_cmp}
use Rattle.td_stamp.specs.Rises.{Rises}
use Rattle.td_machine.specs.State.{with_left}
use Rattle.td_shard.specs.Versions.{AreKept, version_cmp, with_latest, with_version, latest, up_to}
use Rattle.td_shard.proofs.Viewed.{seen, keys-seen}
use Rattle.td_shard.proofs.LeftBags.{are_apart}
use Rattle.td_shard.proofs.LeftStates.{all_states}
use Rattle.td_shard.proofs.versions.Versions.states_at.Goals as goal

pub loop-vertex-init : goal.loop-vertex-init
loop-vertex-init c =
    let whole = c.into_iter-vertex-iterator.ensures.into_iter_gives ∙ c.iter-vertex-items.ensures.rest in
    (refl, subst (λ l. AreKept (map (λ d. (d.0, d.1.items)) l)) (sym whole) c.self.invariant.1)

pub latest-requires : goal.latest-requires
latest-requires c =
    subst (Rises version_cmp) (sym c.as_slice.ensures.value) (subst (λ l. AreKept (map (λ d. (d.0, d.1.items)) l)) c.in-Some.ensures.steps c.loop-vertex.invariant.1).0.1

pub loop-vertex-preserved-in-Continue-1 : goal.loop-vertex-preserved-in-Continue-1
loop-vertex-preserved-in-Continue-1 c =
    let e = c.args.epoch in
    let states = c.loop-vertex.states in
    let place = c.in-Some.field-0-0.now in
    let changed = c.in_ok-keep.ensures ∙ (ap (with_version states place) c.in-Some-latest.ensures ∙ ap (λ l. with_version states place (latest (up_to e l))) c.as_slice.ensures.value) in (
      ap (λ s. with_latest e s (map (λ d. (d.0, d.1.items)) c.next.new.self)) changed
          ∙ (ap (λ l. with_latest e states (map (λ d. (d.0, d.1.items)) l)) (sym c.in-Some.ensures.steps) ∙ c.loop-vertex.invariant.0),
      (subst (λ l. AreKept (map (λ d. (d.0, d.1.items)) l)) c.in-Some.ensures.steps c.loop-vertex.invariant.1).1,
    )

pub loop-vertex-preserved : goal.loop-vertex-preserved
loop-vertex-preserved c =
    let e = c.args.epoch in
    let states = c.loop-vertex.states in
    let place = c.in-Some.field-0-0.now in
    let same = ap (with_version states place) c.in_default.ensures ∙ ap (λ l. with_version states place (latest (up_to e l))) c.as_slice.ensures.value in (
      ap (λ s. with_latest e s (map (λ d. (d.0, d.1.items)) c.next.new.self)) same
          ∙ (ap (λ l. with_latest e states (map (λ d. (d.0, d.1.items)) l)) (sym c.in-Some.ensures.steps) ∙ c.loop-vertex.invariant.0),
      (subst (λ l. AreKept (map (λ d. (d.0, d.1.items)) l)) c.in-Some.ensures.steps c.loop-vertex.invariant.1).1,
    )

pub returns : goal.returns
returns c =
    let e = c.args.epoch in
    let es = c.self.inside.versions.entries in
    let whole = c.into_iter-vertex-iterator.ensures.into_iter_gives ∙ c.iter-vertex-items.ensures.rest in
    ap (λ l. with_latest e c.loop-vertex.states (map (λ d. (d.0, d.1.items)) l)) (sym c.in-None.ensures.steps.0)
    ∙ (c.loop-vertex.invariant.0 ∙ (ap (λ l. with_latest e c.args.base (map (λ d. (d.0, d.1.items)) l)) whole
    ∙ (all_states c.version_laws.ensures e (map (seen (λ v. v.items)) es) c.args.base (subst (IsDistinct (eq_by_cmp state_key_cmp)) (sym (keys-seen (λ v. v.items) es)) (are_apart es c.self.invariant.0)) c.list-in_order.ensures.ordered
    ∙ ap (λ l. with_left c.args.base (filter (λ k. nat_le k.epoch e) l)) c.self.view_is)))
