use Rattle.std.proofs.Common.{rules}
use Rattle.td_gate.proofs.Steps.{fill_done, on_ok_both}
use Rattle.td_gate.proofs.region.fill_payload.Goals as goal

pub returns-clause-crash_safe : goal.returns-clause-crash_safe
returns-clause-crash_safe g c = search rules

pub returns-clause-filled : goal.returns-clause-filled
returns-clause-filled g c = on_ok_both c.write_and_sync.result c.write_and_sync.ensures.durable c.write_and_sync.ensures.written (λ durable written lawful closed.
    let laws = g.met.D.Disk in
    let new = c.write_and_sync.new.device in
    let still = c.write_and_sync.ensures.device.lawful.0 lawful in
    fill_done c.args.region c.args.payload.now (g.D.Disk.view c.args.device.now).state (g.D.Disk.view new).state
    (record { counts_now = λ t f. laws.counts_now new t f still; only_now = λ f. laws.only_now new f still })
    c.requires.len closed (c.write_and_sync.ensures.crash_safe lawful) (durable lawful) (written lawful))
