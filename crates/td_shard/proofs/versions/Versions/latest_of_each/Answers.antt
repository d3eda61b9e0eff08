use Rattle.std.proofs.Common.{◌≡◌, ℕ, Option, Some, None, List, Vec, Global, map, sym, ap, ◌∙◌, subst}
use Rattle.std.specs.Map.{keys_of, lookup}
use Rattle.std.specs.List.{AllByRecursion}
use Rattle.std.proofs.lemmas.List.Elements.{recursion_from_All}
use Rattle.td_stamp.specs.Bag.{has}
use Rattle.td_stamp.specs.Orders.{state_key_cmp}
use Rattle.td_stamp.specs.States.{same_place}
use Rattle.td_shard.specs.declared.versions.Version.{Version}
use Rattle.td_shard.specs.Versions.{latest, up_to, IsLatestAt}
use Rattle.td_shard.proofs.LeftBags.{are_apart}
use Rattle.td_shard.proofs.LatestVersions.{by_look, each_latest, no_version}
use Rattle.td_shard.proofs.versions.Versions.latest_of_each.Goals as goal

abbrev Kept : Type 0
Kept = (ℕ × ℕ) × Vec Version Global

abbrev told : ℕ → List Kept → List ((ℕ × ℕ) × Option Version)
told epoch es = map (λ e. (e.0, latest (up_to epoch e.1.items))) es

pub returns-clause-latest : goal.returns-clause-latest
returns-clause-latest c =
    let es = c.self.inside.versions.entries in
    subst (λ l. AllByRecursion (λ (e : (ℕ × ℕ) × Option Version). IsLatestAt c.args.epoch c.args.self.now e.0 e.1) (told c.args.epoch l)) (sym c.iter.ensures.rest)
    (each_latest (λ v. v.items) es c.args.epoch c.args.self.now c.version_laws.ensures (are_apart es c.self.invariant.0) c.self.view_is es
    (recursion_from_All (λ (e : Kept). lookup (same_place e.0) es ≡ Some e.1) es c.iter.ensures.found))

pub returns-clause-others : goal.returns-clause-others
returns-clause-others c place none =
    let es = c.self.inside.versions.entries in
    by_look (λ v. v.items) es c.args.epoch c.args.self.now c.version_laws.ensures (are_apart es c.self.invariant.0) c.self.view_is place None
    (no_version (λ v. v.items) place c.args.epoch es (sym (ap (λ l. has state_key_cmp place (keys_of (told c.args.epoch l))) c.iter.ensures.rest) ∙ none))
