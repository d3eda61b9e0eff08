use Rattle.td_store.proofs.group.Closing.{then_same}
use Rattle.td_store.proofs.group.free.close_cells.Goals as goal

pub returns-in_err-sync-clause-crash_safe : goal.returns-in_err-sync-clause-crash_safe
returns-in_err-sync-clause-crash_safe g c lawful durable =
    let view = g.D.Disk.view in
    let laws = g.met.D.Disk in
    let mid = c.close_gates.new.device in
    let new = c.sync.new.self in
    let still = c.close_gates.ensures.device.lawful.0 lawful in
    then_same c.args.journal.now c.args.first c.args.count (view c.args.device.now).state (view mid).state (view new).state
    (record { counts_now = λ t f. laws.counts_now mid t f still; only_now = λ f. laws.only_now mid f still })
    (c.close_gates.ensures.crash_safe lawful durable) (c.unchanged.ensures.call mid new still (c.sync.ensures.images still) (c.sync.ensures.time still))

pub returns-in_ok-sync-clause-crash_safe : goal.returns-in_ok-sync-clause-crash_safe
returns-in_ok-sync-clause-crash_safe g c lawful durable =
    let view = g.D.Disk.view in
    let laws = g.met.D.Disk in
    let mid = c.close_gates.new.device in
    let new = c.sync.new.self in
    let still = c.close_gates.ensures.device.lawful.0 lawful in
    then_same c.args.journal.now c.args.first c.args.count (view c.args.device.now).state (view mid).state (view new).state
    (record { counts_now = λ t f. laws.counts_now mid t f still; only_now = λ f. laws.only_now mid f still })
    (c.close_gates.ensures.crash_safe lawful durable) (c.unchanged.ensures.call mid new still (c.sync.ensures.images still) (c.sync.ensures.time still))
