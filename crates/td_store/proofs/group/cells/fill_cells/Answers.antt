use Rattle.std.proofs.Common.{◌≡◌, ℕ, ◌+◌, List, length, ap, sym, ◌∙◌, subst, arith}
use Rattle.td_disk.specs.Disk.{bytes_at}
use Rattle.td_gate.specs.declared.region.Region.{Region}
use Rattle.td_journal.specs.Cell.{cell_of, cell_len}
use Rattle.td_store.specs.group.Groups.{HasPieces}
use Rattle.td_store.proofs.group.Kept.{at_ok, at_ok_both}
use Rattle.td_store.proofs.group.Moments.{HasClock}
use Rattle.td_store.proofs.group.Ready.{two_steps, fill_step, put_step, sync_step, filled_now, payload_stays}
use Rattle.td_store.proofs.group.cells.fill_cells.Goals as goal

pub returns-in_err-write-clause-crash_safe : goal.returns-in_err-write-clause-crash_safe
returns-in_err-write-clause-crash_safe g c lawful closed =
    let view = g.D.Disk.view in
    let laws = g.met.D.Disk in
    let j = c.args.journal.now in
    let e = c.args.first in
    let n = c.args.count in
    let old = c.args.device.now in
    let m1 = c.write.new.self in
    let clock0 : HasClock (view old).state = record { counts_now = λ t f. laws.counts_now old t f lawful; only_now = λ f. laws.only_now old f lawful } in
    fill_step j e (n + 1) c.cell_of.result c.args.written.payload.now (view old).state (view m1).state clock0 c.cell_of.ensures.region c.requires.payload (omega arith) closed
    (c.write.ensures.time lawful) (c.write.ensures.images lawful)

pub returns-in_err-write_cells-clause-crash_safe : goal.returns-in_err-write_cells-clause-crash_safe
returns-in_err-write_cells-clause-crash_safe g c lawful closed =
    let view = g.D.Disk.view in
    let laws = g.met.D.Disk in
    let j = c.args.journal.now in
    let e = c.args.first in
    let n = c.args.count in
    let old = c.args.device.now in
    let m1 = c.write.new.self in
    let m2 = c.write_cells.new.device in
    let lawful1 = c.write.ensures.lawful.0 lawful in
    let clock0 : HasClock (view old).state = record { counts_now = λ t f. laws.counts_now old t f lawful; only_now = λ f. laws.only_now old f lawful } in
    let clock1 : HasClock (view m1).state = record { counts_now = λ t f. laws.counts_now m1 t f lawful1; only_now = λ f. laws.only_now m1 f lawful1 } in
    let filled = fill_step j e (n + 1) c.cell_of.result c.args.written.payload.now (view old).state (view m1).state clock0 c.cell_of.ensures.region c.requires.payload (omega arith) closed
    (c.write.ensures.time lawful) (c.write.ensures.images lawful) in
    two_steps j e (n + 1) (view old).state (view m1).state (view m2).state clock1 filled
    (put_step c.cells.ensures.apart j e n (n + 1) (view m1).state (view m2).state (omega arith) (omega (arith, c.requires.few)) (c.in_err-write_cells.ensures.crash_safe lawful1))

pub returns-clause-crash_safe : goal.returns-clause-crash_safe
returns-clause-crash_safe g c lawful closed =
    let view = g.D.Disk.view in
    let laws = g.met.D.Disk in
    let j = c.args.journal.now in
    let e = c.args.first in
    let n = c.args.count in
    let old = c.args.device.now in
    let m1 = c.write.new.self in
    let m2 = c.write_cells.new.device in
    let m3 = c.sync.new.self in
    let lawful1 = c.write.ensures.lawful.0 lawful in
    let lawful2 = c.write_cells.ensures.device.lawful.0 lawful1 in
    let clock0 : HasClock (view old).state = record { counts_now = λ t f. laws.counts_now old t f lawful; only_now = λ f. laws.only_now old f lawful } in
    let clock1 : HasClock (view m1).state = record { counts_now = λ t f. laws.counts_now m1 t f lawful1; only_now = λ f. laws.only_now m1 f lawful1 } in
    let clock2 : HasClock (view m2).state = record { counts_now = λ t f. laws.counts_now m2 t f lawful2; only_now = λ f. laws.only_now m2 f lawful2 } in
    let filled = fill_step j e (n + 1) c.cell_of.result c.args.written.payload.now (view old).state (view m1).state clock0 c.cell_of.ensures.region c.requires.payload (omega arith) closed
    (c.write.ensures.time lawful) (c.write.ensures.images lawful) in
    let wrote = two_steps j e (n + 1) (view old).state (view m1).state (view m2).state clock1 filled
    (put_step c.cells.ensures.apart j e n (n + 1) (view m1).state (view m2).state (omega arith) (omega (arith, c.requires.few)) (c.in_ok-write_cells.ensures.crash_safe lawful1)) in
    two_steps j e (n + 1) (view old).state (view m2).state (view m3).state clock2 wrote
    (sync_step j e (n + 1) (view m2).state (view m3).state clock2 (c.sync.ensures.time lawful2) (c.sync.ensures.images lawful2))

pub returns-clause-filled : goal.returns-clause-filled
returns-clause-filled g c = at_ok_both c.sync.result _ _ _
    (λ durable same lawful closed.
    let view = g.D.Disk.view in
    let laws = g.met.D.Disk in
    let j = c.args.journal.now in
    let e = c.args.first in
    let n = c.args.count in
    let p = c.args.written.payload.now in
    let old = c.args.device.now in
    let m1 = c.write.new.self in
    let m2 = c.write_cells.new.device in
    let m3 = c.sync.new.self in
    let lawful1 = c.write.ensures.lawful.0 lawful in
    let lawful2 = c.write_cells.ensures.device.lawful.0 lawful1 in
    let lawful3 = c.sync.ensures.lawful.0 lawful2 in
    let clock3 : HasClock (view m3).state = record { counts_now = λ t f. laws.counts_now m3 t f lawful3; only_now = λ f. laws.only_now m3 f lawful3 } in
    let here : bytes_at (cell_of j e).at (cell_len j.m) (view m1).state.bytes ≡ p =
    subst (λ (l : ℕ). bytes_at (cell_of j e).at l (view m1).state.bytes ≡ p) c.requires.payload
    (subst (λ (r : Region). bytes_at r.at (length p) (view m1).state.bytes ≡ p) c.cell_of.ensures.region (c.in_ok-write.ensures.written lawful)) in
    let read = ap (bytes_at (cell_of j e).at (cell_len j.m)) (same lawful2)
    ∙ payload_stays c.cells.ensures.apart j e n (view m1).state.bytes (view m2).state.bytes (omega (arith, c.requires.few)) (c.in_ok-write_cells.ensures.others lawful1) ∙ here in
    filled_now j e (n + 1) p (view old).state (view m3).state clock3 closed (returns-clause-crash_safe g c lawful closed) (durable lawful2) read)
    c.sync.ensures.durable c.sync.ensures.same

pub returns-clause-written : goal.returns-clause-written
returns-clause-written g c = at_ok c.sync.result _ _
    (λ same lawful.
    let view = g.D.Disk.view in
    let j = c.args.journal.now in
    let lawful1 = c.write.ensures.lawful.0 lawful in
    let lawful2 = c.write_cells.ensures.device.lawful.0 lawful1 in
    subst (λ (l : List ℕ). HasPieces j l (c.args.first + 1) c.args.count c.args.written.others.now) (sym (same lawful2)) (c.in_ok-write_cells.ensures.written lawful1))
    c.sync.ensures.same
