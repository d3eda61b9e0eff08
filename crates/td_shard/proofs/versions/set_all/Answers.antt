use Rattle.std.proofs.Common.{◌≡◌, ◌∙◌, refl, ap, sym, map, subst, Some, ◌++◌, ◌∷◌, []}
use Rattle.td_stamp.specs.Rises.{Rises}
use Rattle.td_stamp.specs.States.{with_state}
use Rattle.td_shard.specs.Versions.{AreKept, version_cmp, with_some, set_there, with_version, with_changes_back, latest, up_to}
use Rattle.td_shard.proofs.ChangesBack.{set_version, one_more_back}
use Rattle.td_shard.proofs.versions.set_all.Goals as goal

pub loop-vertex-init : goal.loop-vertex-init
loop-vertex-init c =
    let whole = c.into_iter-vertex-iterator.ensures.into_iter_gives ∙ c.iter-vertex-items.ensures.rest in
    record { made = refl; kept = subst (λ l. AreKept (map (λ d. (d.0, d.1.items)) l)) (sym whole) c.requires; back = refl }

pub latest-requires : goal.latest-requires
latest-requires c =
    subst (Rises version_cmp) (sym c.as_slice.ensures.value) (subst (λ l. AreKept (map (λ d. (d.0, d.1.items)) l)) c.in-Some.ensures.steps c.loop-vertex.invariant.kept).0.1

pub loop-vertex-preserved-in-Some-state : goal.loop-vertex-preserved-in-Some-state
loop-vertex-preserved-in-Some-state c =
    let e = c.args.epoch in
    let states = c.loop-vertex.states in
    let place = c.in-Some.field-0-0.now in
    let was = c.in_ok-was.was' in
    let last = sym c.in-Some-latest.is ∙ (c.latest.ensures ∙ ap (λ l. latest (up_to e l)) c.as_slice.ensures.value) in
    let changed = c.in_ok-was.ensures.ok ∙ (sym (set_version states place c.in-Some-latest.version c.in-Some-state.state c.in-Some-state.is) ∙ ap (λ o. with_version states place (set_there o)) last) in
    record {
      made = ap (λ s. with_some set_there e s (map (λ d. (d.0, d.1.items)) c.next.new.self)) changed
          ∙ (ap (λ l. with_some set_there e states (map (λ d. (d.0, d.1.items)) l)) (sym c.in-Some.ensures.steps) ∙ c.loop-vertex.invariant.made);
      kept = (subst (λ l. AreKept (map (λ d. (d.0, d.1.items)) l)) c.in-Some.ensures.steps c.loop-vertex.invariant.kept).1;
      back = (λ i. with_changes_back (c.in_ok-was.ensures.ok i) (c.push_reserved.ensures.items i))
          ∙ (ap (λ l. with_changes_back (with_state states place.0 place.1 c.in-Some-state.state) (l ++ (place, was) ∷ [])) c.in_ok-reserve.ensures.items
          ∙ (one_more_back states place c.in-Some-state.state was c.loop-vertex.before.items c.in_ok-was.ensures.ordered c.in_ok-was.ensures.before ∙ c.loop-vertex.invariant.back));
    }
