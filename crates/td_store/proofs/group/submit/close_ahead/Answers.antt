use Rattle.std.proofs.Common.{inl, inr, ◌+◌, subst}
use Rattle.td_gate.specs.CrashSafe.{CrashSafe, Unchanged}
use Rattle.td_gate.specs.declared.region.Region.{Region}
use Rattle.td_gate.specs.Region.{Closes}
use Rattle.td_journal.specs.Cell.{cell_of}
use Rattle.td_store.specs.group.Groups.{ClosesNext}
use Rattle.td_store.proofs.group.Moments.{weaker_step}
use Rattle.td_store.proofs.group.submit.close_ahead.Goals as goal

pub returns-then-is_full-clause-crash_safe : goal.returns-then-is_full-clause-crash_safe
returns-then-is_full-clause-crash_safe g c lawful durable =
    let view = g.D.Disk.view in
    weaker_step Unchanged (ClosesNext c.args.journal.now c.args.first c.args.count c.args.is_full) (view c.args.device.now).state (view c.args.device.now).state
    (c.unchanged.ensures.none c.args.device.now lawful) (λ d f same. inl same)

pub returns-in_err-close_if_open-clause-crash_safe : goal.returns-in_err-close_if_open-clause-crash_safe
returns-in_err-close_if_open-clause-crash_safe g c lawful durable =
    let view = g.D.Disk.view in
    let j = c.args.journal.now in
    let f = c.args.first + c.args.count in
    let settled = c.durable_is_settled.ensures c.args.device.now c.cell_of.result durable in
    weaker_step (Closes (cell_of j f)) (ClosesNext j c.args.first c.args.count c.args.is_full) (view c.args.device.now).state (view c.close_if_open.new.device).state
    (subst (λ (r : Region). CrashSafe (Closes r) (view c.args.device.now).state (view c.close_if_open.new.device).state) c.cell_of.ensures.region (c.in_err-close_if_open.ensures.crash_safe lawful settled))
    (λ d e closes. inr (c.if-is_full.false, closes))

pub returns-clause-crash_safe : goal.returns-clause-crash_safe
returns-clause-crash_safe g c lawful durable =
    let view = g.D.Disk.view in
    let j = c.args.journal.now in
    let f = c.args.first + c.args.count in
    let settled = c.durable_is_settled.ensures c.args.device.now c.cell_of.result durable in
    weaker_step (Closes (cell_of j f)) (ClosesNext j c.args.first c.args.count c.args.is_full) (view c.args.device.now).state (view c.close_if_open.new.device).state
    (subst (λ (r : Region). CrashSafe (Closes r) (view c.args.device.now).state (view c.close_if_open.new.device).state) c.cell_of.ensures.region (c.in_ok-close_if_open.ensures.crash_safe lawful settled))
    (λ d e closes. inr (c.if-is_full.false, closes))
