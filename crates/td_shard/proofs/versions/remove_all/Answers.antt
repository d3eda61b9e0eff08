use Rattle.std.proofs.Common.{◌≡◌, ◌∙◌, refl, ap, sym, map, subst}
use Rattle.td_stamp.specs.Rises.{Rises}
use Rattle.td_shard.specs.Versions.{AreKept, version_cmp, with_some, removed_there, with_version, latest, up_to}
use Rattle.td_shard.proofs.versions.remove_all.Goals as goal

pub loop-vertex-init : goal.loop-vertex-init
loop-vertex-init c =
    let whole = c.into_iter-vertex-iterator.ensures.into_iter_gives ∙ c.iter-vertex-items.ensures.rest in
    (refl, subst (λ l. AreKept (map (λ d. (d.0, d.1.items)) l)) (sym whole) c.requires)

pub latest-requires : goal.latest-requires
latest-requires c =
    subst (Rises version_cmp) (sym c.as_slice.ensures.value) (subst (λ l. AreKept (map (λ d. (d.0, d.1.items)) l)) c.in-Some.ensures.steps c.loop-vertex.invariant.1).0.1
