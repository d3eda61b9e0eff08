use Rattle.std.proofs.Common.{rules, ◌∙◌}
use Rattle.td_gate.specs.CrashSafe.{CrashSafe}
use Rattle.td_gate.proofs.CrashSafety.{HasClock}
use Rattle.td_gate.specs.Region.{Puts}
use Rattle.td_gate.proofs.Steps.{filled_safe, opened_safe, filled_same}
use Rattle.td_gate.proofs.region.Region.close_fill_open.Goals as goal

pub returns-in-Err-fill-clause-crash_safe : goal.returns-in-Err-fill-clause-crash_safe
returns-in-Err-fill-clause-crash_safe g c lawful settled =
    let laws = g.met.D.Disk in
    let view = g.D.Disk.view in
    let a = c.in-Ok.ensures in
    let closed_lawful = a.kept.lawful.0 lawful in
    let at_closed : HasClock (view c.in-Ok.closed.device.now).state = record { counts_now = λ t f. laws.counts_now c.in-Ok.closed.device.now t f closed_lawful; only_now = λ f. laws.only_now c.in-Ok.closed.device.now f closed_lawful } in
    let crash_safe : CrashSafe (Puts c.args.self.now c.args.payload.now) (view c.args.device.now).state (view c.in-Err-fill._device.now).state =
    filled_safe c.args.self.now c.in-Ok.closed.region c.args.payload.now _ _ _ a.region at_closed (a.crash_safe lawful settled) (a.closed lawful settled) (c.in-Err-fill.ensures.crash_safe_back closed_lawful) in
    search (rules, crash_safe)

pub returns-in-Ok-open-clause-crash_safe : goal.returns-in-Ok-open-clause-crash_safe
returns-in-Ok-open-clause-crash_safe g c lawful settled =
    let laws = g.met.D.Disk in
    let view = g.D.Disk.view in
    let a = c.in-Ok.ensures in
    let b = c.in-Ok-fill.ensures in
    let closed_lawful = a.kept.lawful.0 lawful in
    let filled_lawful = b.kept.lawful.0 closed_lawful in
    let at_closed : HasClock (view c.in-Ok.closed.device.now).state = record { counts_now = λ t f. laws.counts_now c.in-Ok.closed.device.now t f closed_lawful; only_now = λ f. laws.only_now c.in-Ok.closed.device.now f closed_lawful } in
    let at_filled : HasClock (view c.in-Ok-fill.filled.device.now).state = record { counts_now = λ t f. laws.counts_now c.in-Ok-fill.filled.device.now t f filled_lawful; only_now = λ f. laws.only_now c.in-Ok-fill.filled.device.now f filled_lawful } in
    let until = filled_safe c.args.self.now c.in-Ok.closed.region c.args.payload.now _ _ _ a.region at_closed (a.crash_safe lawful settled) (a.closed lawful settled) (b.crash_safe closed_lawful) in
    let filled = filled_same c.args.self.now c.in-Ok.closed.region c.args.payload.now (view c.in-Ok.closed.device.now).state (view c.in-Ok-fill.filled.device.now).state a.region (a.closed lawful settled) (b.filled closed_lawful) in
    let crash_safe : CrashSafe (Puts c.args.self.now c.args.payload.now) (view c.args.device.now).state (view c.in-Ok-open._device.now).state =
    opened_safe c.args.self.now c.in-Ok-fill.filled.region c.args.payload.now _ _ _ (b.region ∙ a.region) at_filled until filled (c.in-Ok-open.ensures.crash_safe filled_lawful) in
    search (rules, crash_safe)

pub returns-in-Err-open-clause-crash_safe : goal.returns-in-Err-open-clause-crash_safe
returns-in-Err-open-clause-crash_safe g c lawful settled =
    let laws = g.met.D.Disk in
    let view = g.D.Disk.view in
    let a = c.in-Ok.ensures in
    let b = c.in-Ok-fill.ensures in
    let closed_lawful = a.kept.lawful.0 lawful in
    let filled_lawful = b.kept.lawful.0 closed_lawful in
    let at_closed : HasClock (view c.in-Ok.closed.device.now).state = record { counts_now = λ t f. laws.counts_now c.in-Ok.closed.device.now t f closed_lawful; only_now = λ f. laws.only_now c.in-Ok.closed.device.now f closed_lawful } in
    let at_filled : HasClock (view c.in-Ok-fill.filled.device.now).state = record { counts_now = λ t f. laws.counts_now c.in-Ok-fill.filled.device.now t f filled_lawful; only_now = λ f. laws.only_now c.in-Ok-fill.filled.device.now f filled_lawful } in
    let until = filled_safe c.args.self.now c.in-Ok.closed.region c.args.payload.now _ _ _ a.region at_closed (a.crash_safe lawful settled) (a.closed lawful settled) (b.crash_safe closed_lawful) in
    let filled = filled_same c.args.self.now c.in-Ok.closed.region c.args.payload.now (view c.in-Ok.closed.device.now).state (view c.in-Ok-fill.filled.device.now).state a.region (a.closed lawful settled) (b.filled closed_lawful) in
    let crash_safe : CrashSafe (Puts c.args.self.now c.args.payload.now) (view c.args.device.now).state (view c.in-Err-open._device.now).state =
    opened_safe c.args.self.now c.in-Ok-fill.filled.region c.args.payload.now _ _ _ (b.region ∙ a.region) at_filled until filled (c.in-Err-open.ensures.crash_safe_back filled_lawful) in
    search (rules, crash_safe)

pub returns-in-Err-open-clause-open : goal.returns-in-Err-open-clause-open
returns-in-Err-open-clause-open g c = tt

pub returns-in-Err-open-clause-durable : goal.returns-in-Err-open-clause-durable
returns-in-Err-open-clause-durable g c = tt
