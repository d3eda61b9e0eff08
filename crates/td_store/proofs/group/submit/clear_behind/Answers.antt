use Rattle.std.proofs.Common.{suc, ◌+◌}
use Rattle.td_gate.specs.CrashSafe.{CrashSafe}
use Rattle.td_journal.specs.Cell.{cell_of}
use Rattle.td_journal.specs.Images.{Clears}
use Rattle.td_store.specs.group.Groups.{Spares}
use Rattle.td_store.proofs.group.Moments.{weaker_step}
use Rattle.td_store.proofs.group.Ready.{spares_clears, by_fullness}
use Rattle.td_store.proofs.group.submit.clear_behind.Goals as goal

pub returns-in_err-clear-clause-crash_safe : goal.returns-in_err-clear-clause-crash_safe
returns-in_err-clear-clause-crash_safe g c lawful durable =
    let view = g.D.Disk.view in
    let j = c.args.journal.now in
    let e = c.args.first in
    let k = c.args.count in
    let settled = c.durable_is_settled.ensures c.args.device.now (cell_of j (e + k)) durable in
    by_fullness c.args.is_full k j.n (λ n. CrashSafe (Spares j e n) (view c.args.device.now).state (view c.clear.new.device).state) c.if-is_full.false c.requires.few
    (λ room. weaker_step (Clears j (e + k)) (Spares j e (suc k)) (view c.args.device.now).state (view c.clear.new.device).state (c.in_err-clear.ensures.crash_safe lawful settled)
    (λ d f clears. spares_clears c.cells.ensures.apart j e k d f c.requires.some room clears))

pub returns-clause-crash_safe : goal.returns-clause-crash_safe
returns-clause-crash_safe g c lawful durable =
    let view = g.D.Disk.view in
    let j = c.args.journal.now in
    let e = c.args.first in
    let k = c.args.count in
    let settled = c.durable_is_settled.ensures c.args.device.now (cell_of j (e + k)) durable in
    by_fullness c.args.is_full k j.n (λ n. CrashSafe (Spares j e n) (view c.args.device.now).state (view c.clear.new.device).state) c.if-is_full.false c.requires.few
    (λ room. weaker_step (Clears j (e + k)) (Spares j e (suc k)) (view c.args.device.now).state (view c.clear.new.device).state (c.in_ok-clear.ensures.crash_safe lawful settled)
    (λ d f clears. spares_clears c.cells.ensures.apart j e k d f c.requires.some room clears))

pub returns-clause-gone : goal.returns-clause-gone
returns-clause-gone g c lawful durable is borne =
    let settled = c.durable_is_settled.ensures c.args.device.now (cell_of c.args.journal.now (c.args.first + c.args.count)) durable in
    c.in_ok-clear.ensures.gone lawful settled (g.D.Disk.view c.clear.new.device).state.bytes (g.met.D.Disk.reads_image c.clear.new.device (c.in_ok-clear.ensures.device.lawful.0 lawful)) borne
