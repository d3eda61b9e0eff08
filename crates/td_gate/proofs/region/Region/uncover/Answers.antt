use Rattle.td_gate.proofs.Steps.{open_safe, open_done, on_ok_both}
use Rattle.td_gate.proofs.region.Region.uncover.Goals as goal

pub returns-clause-crash_safe : goal.returns-clause-crash_safe
returns-clause-crash_safe g c lawful payload filled =
    open_safe c.args.self.now payload _ _ filled (c.write_and_sync.ensures.crash_safe lawful)

pub returns-clause-open : goal.returns-clause-open
returns-clause-open g c = on_ok_both c.write_and_sync.result c.write_and_sync.ensures.durable c.write_and_sync.ensures.written (λ durable written lawful payload filled.
    let laws = g.met.D.Disk in
    let still = c.write_and_sync.ensures.device.lawful.0 lawful in
    open_done c.args.self.now payload (g.D.Disk.view c.args.device.now).state (g.D.Disk.view c.write_and_sync.new.device).state
    (record { counts_now = λ t f. laws.counts_now c.write_and_sync.new.device t f still; only_now = λ f. laws.only_now c.write_and_sync.new.device f still })
    (laws.reads_image c.write_and_sync.new.device still) filled (c.write_and_sync.ensures.crash_safe lawful) (durable lawful) (written lawful))
