use Rattle.td_gate.proofs.Images.{found_open}
use Rattle.td_gate.proofs.Steps.{close_safe}
use Rattle.td_gate.proofs.region.Region.close_if_open.Goals as goal

pub returns-in_err-write-clause-crash_safe : goal.returns-in_err-write-clause-crash_safe
returns-in_err-write-clause-crash_safe g c lawful settled =
    let view = g.D.Disk.view in
    let laws = g.met.D.Disk in
    let r = c.args.self.now in
    let old = c.args.device.now in
    let mid = c.is_open.new.device in
    let read = c.in_ok-is_open.ensures.read in
    let still = read.lawful.0 lawful in
    let is_open = found_open r (view old).state.bytes c.in_ok-is_open.field-0 (c.in_ok-is_open.ensures.open lawful) c.if-not-branch.false in
    close_safe r (view old).state (view mid).state (view c.write.new.self).state
    (record { counts_now = λ t f. laws.counts_now mid t f still; only_now = λ f. laws.only_now mid f still })
    settled is_open (read.crash_safe lawful) (c.write.ensures.images still) (c.write.ensures.time still)

pub returns-clause-crash_safe : goal.returns-clause-crash_safe
returns-clause-crash_safe g c lawful settled =
    let view = g.D.Disk.view in
    let laws = g.met.D.Disk in
    let r = c.args.self.now in
    let old = c.args.device.now in
    let mid = c.is_open.new.device in
    let read = c.in_ok-is_open.ensures.read in
    let still = read.lawful.0 lawful in
    let is_open = found_open r (view old).state.bytes c.in_ok-is_open.field-0 (c.in_ok-is_open.ensures.open lawful) c.if-not-branch.false in
    close_safe r (view old).state (view mid).state (view c.write.new.self).state
    (record { counts_now = λ t f. laws.counts_now mid t f still; only_now = λ f. laws.only_now mid f still })
    settled is_open (read.crash_safe lawful) (c.write.ensures.images still) (c.write.ensures.time still)
