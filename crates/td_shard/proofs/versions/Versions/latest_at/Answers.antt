use Rattle.std.proofs.Common.{ℕ, sym, ap, ◌∙◌, subst, Some, None}
use Rattle.td_stamp.specs.Rises.{Rises}
use Rattle.td_shard.specs.Versions.{version_cmp, latest, up_to, IsLatestAt}
use Rattle.td_shard.proofs.LeftBags.{are_apart, found_by_order}
use Rattle.td_shard.proofs.EachKept.{kept-here}
use Rattle.td_shard.proofs.LatestVersions.{by_look}
use Rattle.td_shard.proofs.versions.Versions.latest_at.Goals as goal

pub returns-in_err-versions : goal.returns-in_err-versions
returns-in_err-versions c =
    let place : ℕ × ℕ = (c.args.vertex, c.args.key) in
    let es = c.self.inside.versions.entries in
    subst (IsLatestAt c.args.epoch c.args.self.now place) (sym c.from_residual.ensures)
    (by_look (λ v. v.items) es c.args.epoch c.args.self.now c.version_laws.ensures (are_apart es c.self.invariant.0) c.self.view_is place None
    (found_by_order place es None c.in_err-versions.ensures.value))

pub latest-requires : goal.latest-requires
latest-requires c =
    let place : ℕ × ℕ = (c.args.vertex, c.args.key) in
    let es = c.self.inside.versions.entries in
    let found = c.in_ok-versions.versions.now in
    subst (Rises version_cmp) (sym c.as_slice.ensures.value)
    (kept-here (λ v. v.items) place es es c.self.invariant.1 found (found_by_order place es (Some found) c.in_ok-versions.ensures.value)).1

pub returns : goal.returns
returns c =
    let place : ℕ × ℕ = (c.args.vertex, c.args.key) in
    let es = c.self.inside.versions.entries in
    let found = c.in_ok-versions.versions.now in
    subst (IsLatestAt c.args.epoch c.args.self.now place) (sym (c.latest.ensures ∙ ap (λ l. latest (up_to c.args.epoch l)) c.as_slice.ensures.value))
    (by_look (λ v. v.items) es c.args.epoch c.args.self.now c.version_laws.ensures (are_apart es c.self.invariant.0) c.self.view_is place (Some found)
    (found_by_order place es (Some found) c.in_ok-versions.ensures.value))
