use Rattle.std.proofs.Common.{◌≡◌, ◌≤◌, nat_le, true, refl, sym, arith}
use Rattle.td_shard.proofs.VersionOrder.{all-up_to, last-up_to, none-up_to}
use Rattle.td_shard.proofs.versions.are_up_to.Goals as goal

pub returns-in-Some : goal.returns-in-Some
returns-in-Some c =
    let vs = c.args.versions.now in
    let last = c.in-Some.last.now in (
      λ h. all-up_to vs last c.args.epoch c.requires (sym c.in-Some.ensures.value) (grind (arith, h)),
      λ all. let under = last-up_to vs last c.args.epoch (sym c.in-Some.ensures.value) all in grind (arith, under),
    )

pub returns-in-None : goal.returns-in-None
returns-in-None c = (λ h. none-up_to c.args.versions.now c.args.epoch (sym c.in-None.ensures.value), λ all. refl)
