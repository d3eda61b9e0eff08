use Rattle.std.proofs.Common.{◌≡◌, ◌<◌, ◌≤◌, Bool, true, false, List, refl, sym, ap, ◌∙◌, subst, arith}
use Rattle.std.specs.Prelude.{Ok, Result}
use Rattle.td_plan.specs.Lines.{Line}
use Rattle.td_gate.specs.CrashSafe.{CrashSafe, Unchanged}
use Rattle.td_head.specs.Head.{raised}
use Rattle.td_store.specs.standing.Stops.{Stands}
use Rattle.td_store.specs.standing.Told.{Told}
use Rattle.td_store.specs.standing.Tells.{Keeps}
use Rattle.td_store.specs.standing.Advanced.{HeldWhere, states_by}
use Rattle.td_store.specs.declared.standing.error.KeeperError.{KeeperError}
use Rattle.td_keeper.specs.Keeping.{Keeping}
use Rattle.td_feed.proofs.Carrying.{at_ok, still_each, found}
use Rattle.td_feed.proofs.version.upgrade.Goals as goal

abbrev as_ok : Bool → Result Bool KeeperError
as_ok b = Ok b

-- what an upgrade leaves of a whole keeper
numbered : {D : Type 0} (old new : Keeping D) (was_raised : Bool) → old.broken ≡ false
    → (was_raised ≡ true → (old.head.version < 2) × (new ≡ record old { device = new.device; head = raised old.head }))
    → (was_raised ≡ false → (2 ≤ old.head.version) × (new ≡ old))
    → (2 ≤ new.head.version) × (new.broken ≡ false) × (new.plan ≡ old.plan)
numbered old new true whole done already =
    let is = (done refl).1 in
    let version : new.head.version ≡ 2 = ap (λ k. k.head.version) is in
    (omega (arith, version), ap (λ k. k.broken) is ∙ whole, ap (λ k. k.plan) is)
numbered old new false whole done already =
    let is = (already refl).1 in
    let version : new.head.version ≡ old.head.version = ap (λ k. k.head.version) is in
    let least = (already refl).0 in
    (omega (arith, version, least), ap (λ k. k.broken) is ∙ whole, ap (λ k. k.plan) is)

pub returns-in-Err-clause-same : goal.returns-in-Err-clause-same
returns-in-Err-clause-same g c lawful history told =
    let view = g.D.Disk.view in
    let old = c.args.disk in
    let new = c.in-Err.disk in
    let safe : CrashSafe Unchanged (view old).state (view new).state = c.in-Err.ensures.crash_safe lawful in
    still_each g.L.Law.answers c.args.plan.now history (view old).state (view new).state safe
    (λ i image. g.met.D.Disk.counts_now new (view old).state.moment i (c.in-Err.ensures.device.lawful.0 lawful) safe.later image) told

pub returns-in-Ok-upgrade-clause-same : goal.returns-in-Ok-upgrade-clause-same
returns-in-Ok-upgrade-clause-same g c lawful history told image left =
    let view = g.D.Disk.view in
    let answers = g.L.Law.answers in
    let old = c.args.disk in
    let plan = c.args.plan.now in
    let keeper = c.in-Ok.keeper in
    let new = c.upgrade.new.self in
    let now = c.in-Ok.ensures.device.lawful.0 lawful in
    let whole = c.in-Ok.ensures.fresh.whole in
    let safe : CrashSafe Unchanged (view old).state (view keeper.device).state = c.in-Ok.ensures.crash_safe lawful in
    let stands : Stands (states_by answers plan) keeper.standing history =
    found answers plan history (view old).state (view keeper.device).state safe
    (λ i there. g.met.D.Disk.counts_now keeper.device (view old).state.moment i now safe.later there) told
    c.told_in_parts.ensures.one_answer (g.met.D.Disk.reads_image keeper.device now) keeper.standing (c.in-Ok.ensures.told lawful) in
    let here : (view new.device).state.images image = subst (λ (d : g.row.D.Denot). (view d).state.images image) c.into_disk.ensures.disk left in
    let since = g.met.D.Disk.counts_now new.device (view keeper.device).state.moment image (c.upgrade.ensures.device.lawful.0 now) (c.upgrade.ensures.later now whole) here in
    record {
      standing = keeper.standing;
      told = subst (λ (p : List Line). Told p image (Ok keeper.standing)) c.in-Ok.ensures.plan (c.upgrade.ensures.told now whole image since);
      stands = stands;
    }

pub returns-in-Err-upgrade-clause-same : goal.returns-in-Err-upgrade-clause-same
returns-in-Err-upgrade-clause-same g c lawful history told image left =
    let view = g.D.Disk.view in
    let answers = g.L.Law.answers in
    let old = c.args.disk in
    let plan = c.args.plan.now in
    let keeper = c.in-Ok.keeper in
    let new = c.upgrade.new.self in
    let now = c.in-Ok.ensures.device.lawful.0 lawful in
    let whole = c.in-Ok.ensures.fresh.whole in
    let safe : CrashSafe Unchanged (view old).state (view keeper.device).state = c.in-Ok.ensures.crash_safe lawful in
    let stands : Stands (states_by answers plan) keeper.standing history =
    found answers plan history (view old).state (view keeper.device).state safe
    (λ i there. g.met.D.Disk.counts_now keeper.device (view old).state.moment i now safe.later there) told
    c.told_in_parts.ensures.one_answer (g.met.D.Disk.reads_image keeper.device now) keeper.standing (c.in-Ok.ensures.told lawful) in
    let here : (view new.device).state.images image = subst (λ (d : g.row.D.Denot). (view d).state.images image) c.into_disk-in-Err-upgrade.ensures.disk left in
    let since = g.met.D.Disk.counts_now new.device (view keeper.device).state.moment image (c.upgrade.ensures.device.lawful.0 now) (c.upgrade.ensures.later now whole) here in
    record {
      standing = keeper.standing;
      told = subst (λ (p : List Line). Told p image (Ok keeper.standing)) c.in-Ok.ensures.plan (c.upgrade.ensures.told now whole image since);
      stands = stands;
    }

pub returns-in-Ok-upgrade-clause-raised : goal.returns-in-Ok-upgrade-clause-raised
returns-in-Ok-upgrade-clause-raised g c =
    at_ok c.write_answer.result (λ lawful.
    let view = g.D.Disk.view in
    let answers = g.L.Law.answers in
    let keeper = c.in-Ok.keeper in
    let new = c.upgrade.new.self in
    let facts = numbered keeper new c.in-Ok-upgrade._was_raised c.in-Ok.ensures.fresh.whole (λ e. c.in-Ok-upgrade.ensures.done (ap as_ok e)) (λ e. c.in-Ok-upgrade.ensures.already (ap as_ok e)) in
    let holds : HeldWhere new.broken answers new.plan new.head new.side new.standing (view new.device).state = c.each_disk_holds.ensures (c.upgrade.ensures.device.lawful.0 (c.in-Ok.ensures.device.lawful.0 lawful)) in
    let keeps : Keeps new.plan new.head new.side new.standing (view new.device).state = subst (λ (b : Bool). HeldWhere b answers new.plan new.head new.side new.standing (view new.device).state) facts.1 holds in
    record {
      head = new.head;
      version = facts.0;
      side = new.side;
      standing = new.standing;
      keeps = subst (λ (d : g.row.D.Denot). Keeps c.args.plan.now new.head new.side new.standing (view d).state) (sym c.into_disk.ensures.disk)
          (subst (λ (p : List Line). Keeps p new.head new.side new.standing (view new.device).state) (facts.2 ∙ c.in-Ok.ensures.plan) keeps);
    })
