use Rattle.std.proofs.Common.{◌≡◌, ℕ, suc, ◌+◌, List, length, ap, ◌∙◌, subst, arith}
use Rattle.td_gate.specs.CrashSafe.{CrashSafe}
use Rattle.td_gate.specs.declared.region.Region.{Region}
use Rattle.td_gate.specs.Region.{Closes, IsClosed}
use Rattle.td_journal.specs.Cell.{cell_of}
use Rattle.td_journal.specs.Images.{IsBorne}
use Rattle.td_store.specs.group.Groups.{ChangesCells, HasPieces, Hold, Spares, gated, payloads, touched}
use Rattle.td_store.proofs.group.Moments.{HasClock}
use Rattle.td_store.proofs.group.Pieces.{held, gated_size}
use Rattle.td_store.proofs.group.Ready.{bytes_step, touched_wide, touched_more, two_steps, shut_step, wider_step, next_step, each_ready, still_filled, shut_none, behind_stays, borne_before, later_cell}
use Rattle.td_store.proofs.group.submit.get_ready.Goals as goal

pub returns-in_err-shut-clause-crash_safe : goal.returns-in_err-shut-clause-crash_safe
returns-in_err-shut-clause-crash_safe g c lawful durable =
    let view = g.D.Disk.view in
    let laws = g.met.D.Disk in
    let j = c.args.journal.now in
    let e = c.args.first in
    let l = length c.args.others.now in
    let t = c.args.is_full in
    let n = touched t (l + 1) in
    let wide = touched_wide t (l + 1) in
    let old = c.args.device.now in
    let m1 = c.clear_behind.new.device in
    let m2 = c.shut.new.device in
    let lawful1 = c.in_ok-clear_behind.ensures.device.lawful.0 lawful in
    let durable1 = c.in_ok-clear_behind.ensures.durable tt lawful durable in
    let settled = c.durable_is_settled.ensures m1 c.cell_of.result durable1 in
    let clock1 : HasClock (view m1).state = record { counts_now = λ t f. laws.counts_now m1 t f lawful1; only_now = λ f. laws.only_now m1 f lawful1 } in
    let safe1 = c.in_ok-clear_behind.ensures.crash_safe lawful durable in
    two_steps j e n (view old).state (view m1).state (view m2).state clock1 safe1 (shut_step j e n c.cell_of.result (view m1).state (view m2).state c.cell_of.ensures.region (omega (arith, wide)) (c.in_err-shut.ensures.crash_safe lawful1 settled))

pub fill_cells-requires-clause-whole : goal.fill_cells-requires-clause-whole
fill_cells-requires-clause-whole g c =
    let m = c.args.journal.now.m in
    ap length c.requires.bytes ∙ gated_size m (c.args.first + 1) c.args.others.now c.requires.batches (λ x f few. c.cells_read_back.ensures.size m f x.request x.batch few)

pub returns-in_err-fill_cells-clause-crash_safe : goal.returns-in_err-fill_cells-clause-crash_safe
returns-in_err-fill_cells-clause-crash_safe g c lawful durable =
    let view = g.D.Disk.view in
    let laws = g.met.D.Disk in
    let j = c.args.journal.now in
    let e = c.args.first in
    let l = length c.args.others.now in
    let t = c.args.is_full in
    let n = touched t (l + 1) in
    let wide = touched_wide t (l + 1) in
    let old = c.args.device.now in
    let m1 = c.clear_behind.new.device in
    let m2 = c.shut.new.device in
    let lawful1 = c.in_ok-clear_behind.ensures.device.lawful.0 lawful in
    let durable1 = c.in_ok-clear_behind.ensures.durable tt lawful durable in
    let settled = c.durable_is_settled.ensures m1 c.cell_of.result durable1 in
    let clock1 : HasClock (view m1).state = record { counts_now = λ t f. laws.counts_now m1 t f lawful1; only_now = λ f. laws.only_now m1 f lawful1 } in
    let safe1 = c.in_ok-clear_behind.ensures.crash_safe lawful durable in
    let m3 = c.fill_cells.new.device in
    let lawful2 = c.in_ok-shut.ensures.device.lawful.0 lawful1 in
    let clock2 : HasClock (view m2).state = record { counts_now = λ t f. laws.counts_now m2 t f lawful2; only_now = λ f. laws.only_now m2 f lawful2 } in
    let closed : IsClosed (cell_of j e) (view m2).state = subst (λ (r : Region). IsClosed r (view m2).state) c.cell_of.ensures.region (c.in_ok-shut.ensures.closed lawful1 settled) in
    let safe2 = two_steps j e n (view old).state (view m1).state (view m2).state clock1 safe1 (shut_step j e n c.cell_of.result (view m1).state (view m2).state c.cell_of.ensures.region (omega (arith, wide)) (c.in_ok-shut.ensures.crash_safe lawful1 settled)) in
    two_steps j e n (view old).state (view m2).state (view m3).state clock2 safe2 (wider_step j e (l + 1) n (view m2).state (view m3).state wide (c.in_err-fill_cells.ensures.crash_safe lawful2 closed))

pub returns-in_err-close_ahead-clause-crash_safe : goal.returns-in_err-close_ahead-clause-crash_safe
returns-in_err-close_ahead-clause-crash_safe g c lawful durable =
    let view = g.D.Disk.view in
    let laws = g.met.D.Disk in
    let j = c.args.journal.now in
    let e = c.args.first in
    let l = length c.args.others.now in
    let t = c.args.is_full in
    let n = touched t (l + 1) in
    let wide = touched_wide t (l + 1) in
    let old = c.args.device.now in
    let m1 = c.clear_behind.new.device in
    let m2 = c.shut.new.device in
    let lawful1 = c.in_ok-clear_behind.ensures.device.lawful.0 lawful in
    let durable1 = c.in_ok-clear_behind.ensures.durable tt lawful durable in
    let settled = c.durable_is_settled.ensures m1 c.cell_of.result durable1 in
    let clock1 : HasClock (view m1).state = record { counts_now = λ t f. laws.counts_now m1 t f lawful1; only_now = λ f. laws.only_now m1 f lawful1 } in
    let safe1 = c.in_ok-clear_behind.ensures.crash_safe lawful durable in
    let m3 = c.fill_cells.new.device in
    let lawful2 = c.in_ok-shut.ensures.device.lawful.0 lawful1 in
    let clock2 : HasClock (view m2).state = record { counts_now = λ t f. laws.counts_now m2 t f lawful2; only_now = λ f. laws.only_now m2 f lawful2 } in
    let closed : IsClosed (cell_of j e) (view m2).state = subst (λ (r : Region). IsClosed r (view m2).state) c.cell_of.ensures.region (c.in_ok-shut.ensures.closed lawful1 settled) in
    let safe2 = two_steps j e n (view old).state (view m1).state (view m2).state clock1 safe1 (shut_step j e n c.cell_of.result (view m1).state (view m2).state c.cell_of.ensures.region (omega (arith, wide)) (c.in_ok-shut.ensures.crash_safe lawful1 settled)) in
    let lawful3 = c.in_ok-fill_cells.ensures.device.lawful.0 lawful2 in
    let clock3 : HasClock (view m3).state = record { counts_now = λ t f. laws.counts_now m3 t f lawful3; only_now = λ f. laws.only_now m3 f lawful3 } in
    let m4 = c.close_ahead.new.device in
    let safe3 = two_steps j e n (view old).state (view m2).state (view m3).state clock2 safe2 (wider_step j e (l + 1) n (view m2).state (view m3).state wide (c.in_ok-fill_cells.ensures.crash_safe lawful2 closed)) in
    two_steps j e n (view old).state (view m3).state (view m4).state clock3 safe3 (next_step c.cells.ensures.apart j e (l + 1) t (view m3).state (view m4).state (omega arith) c.requires.few (c.in_err-close_ahead.ensures.crash_safe lawful3 (c.in_ok-fill_cells.ensures.durable lawful2)))

pub returns-clause-crash_safe : goal.returns-clause-crash_safe
returns-clause-crash_safe g c lawful durable =
    let view = g.D.Disk.view in
    let laws = g.met.D.Disk in
    let j = c.args.journal.now in
    let e = c.args.first in
    let l = length c.args.others.now in
    let t = c.args.is_full in
    let n = touched t (l + 1) in
    let wide = touched_wide t (l + 1) in
    let old = c.args.device.now in
    let m1 = c.clear_behind.new.device in
    let m2 = c.shut.new.device in
    let lawful1 = c.in_ok-clear_behind.ensures.device.lawful.0 lawful in
    let durable1 = c.in_ok-clear_behind.ensures.durable tt lawful durable in
    let settled = c.durable_is_settled.ensures m1 c.cell_of.result durable1 in
    let clock1 : HasClock (view m1).state = record { counts_now = λ t f. laws.counts_now m1 t f lawful1; only_now = λ f. laws.only_now m1 f lawful1 } in
    let safe1 = c.in_ok-clear_behind.ensures.crash_safe lawful durable in
    let m3 = c.fill_cells.new.device in
    let lawful2 = c.in_ok-shut.ensures.device.lawful.0 lawful1 in
    let clock2 : HasClock (view m2).state = record { counts_now = λ t f. laws.counts_now m2 t f lawful2; only_now = λ f. laws.only_now m2 f lawful2 } in
    let closed : IsClosed (cell_of j e) (view m2).state = subst (λ (r : Region). IsClosed r (view m2).state) c.cell_of.ensures.region (c.in_ok-shut.ensures.closed lawful1 settled) in
    let safe2 = two_steps j e n (view old).state (view m1).state (view m2).state clock1 safe1 (shut_step j e n c.cell_of.result (view m1).state (view m2).state c.cell_of.ensures.region (omega (arith, wide)) (c.in_ok-shut.ensures.crash_safe lawful1 settled)) in
    let lawful3 = c.in_ok-fill_cells.ensures.device.lawful.0 lawful2 in
    let clock3 : HasClock (view m3).state = record { counts_now = λ t f. laws.counts_now m3 t f lawful3; only_now = λ f. laws.only_now m3 f lawful3 } in
    let m4 = c.close_ahead.new.device in
    let safe3 = two_steps j e n (view old).state (view m2).state (view m3).state clock2 safe2 (wider_step j e (l + 1) n (view m2).state (view m3).state wide (c.in_ok-fill_cells.ensures.crash_safe lawful2 closed)) in
    two_steps j e n (view old).state (view m3).state (view m4).state clock3 safe3 (next_step c.cells.ensures.apart j e (l + 1) t (view m3).state (view m4).state (omega arith) c.requires.few (c.in_ok-close_ahead.ensures.crash_safe lawful3 (c.in_ok-fill_cells.ensures.durable lawful2)))

pub returns-clause-ready : goal.returns-clause-ready
returns-clause-ready g c lawful durable =
    let view = g.D.Disk.view in
    let laws = g.met.D.Disk in
    let j = c.args.journal.now in
    let e = c.args.first in
    let l = length c.args.others.now in
    let t = c.args.is_full in
    let n = touched t (l + 1) in
    let wide = touched_wide t (l + 1) in
    let old = c.args.device.now in
    let m1 = c.clear_behind.new.device in
    let m2 = c.shut.new.device in
    let lawful1 = c.in_ok-clear_behind.ensures.device.lawful.0 lawful in
    let durable1 = c.in_ok-clear_behind.ensures.durable tt lawful durable in
    let settled = c.durable_is_settled.ensures m1 c.cell_of.result durable1 in
    let clock1 : HasClock (view m1).state = record { counts_now = λ t f. laws.counts_now m1 t f lawful1; only_now = λ f. laws.only_now m1 f lawful1 } in
    let safe1 = c.in_ok-clear_behind.ensures.crash_safe lawful durable in
    let m3 = c.fill_cells.new.device in
    let lawful2 = c.in_ok-shut.ensures.device.lawful.0 lawful1 in
    let clock2 : HasClock (view m2).state = record { counts_now = λ t f. laws.counts_now m2 t f lawful2; only_now = λ f. laws.only_now m2 f lawful2 } in
    let closed : IsClosed (cell_of j e) (view m2).state = subst (λ (r : Region). IsClosed r (view m2).state) c.cell_of.ensures.region (c.in_ok-shut.ensures.closed lawful1 settled) in
    let safe2 = two_steps j e n (view old).state (view m1).state (view m2).state clock1 safe1 (shut_step j e n c.cell_of.result (view m1).state (view m2).state c.cell_of.ensures.region (omega (arith, wide)) (c.in_ok-shut.ensures.crash_safe lawful1 settled)) in
    let lawful3 = c.in_ok-fill_cells.ensures.device.lawful.0 lawful2 in
    let clock3 : HasClock (view m3).state = record { counts_now = λ t f. laws.counts_now m3 t f lawful3; only_now = λ f. laws.only_now m3 f lawful3 } in
    let durable2 = c.in_ok-shut.ensures.durable lawful1 durable1 in
    let m = j.m in
    let few = c.requires.few in
    let closes : Closes (cell_of j e) (view m1).state.bytes (view m2).state.bytes =
    bytes_step (Closes (cell_of j e)) (view m1).state (view m2).state clock2 (laws.reads_image m2 lawful2) durable1 (subst (λ (r : Region). CrashSafe (Closes r) (view m1).state (view m2).state) c.cell_of.ensures.region (c.in_ok-shut.ensures.crash_safe lawful1 settled)) in
    let changes : ChangesCells j e (l + 1) (view m2).state.bytes (view m3).state.bytes =
    (bytes_step (Spares j e (l + 1)) (view m2).state (view m3).state clock3 (laws.reads_image m3 lawful3) durable2 (c.in_ok-fill_cells.ensures.crash_safe lawful2 closed)).cells in
    let filled = c.in_ok-fill_cells.ensures.filled lawful2 closed (view m3).state.bytes (laws.reads_image m3 lawful3) in
    let pieces : HasPieces j (view m3).state.bytes (e + 1) l (gated m (e + 1) c.args.others.now) =
    subst (λ (b : List ℕ). HasPieces j (view m3).state.bytes (e + 1) l b) c.requires.bytes (c.in_ok-fill_cells.ensures.written lawful2) in
    let next : e + 1 ≡ suc e = omega arith in
    let behind : suc e + l ≡ e + (l + 1) = omega arith in
    let m4 = c.close_ahead.new.device in
    let lawful4 = c.in_ok-close_ahead.ensures.device.lawful.0 lawful3 in
    let clock4 : HasClock (view m4).state = record { counts_now = λ t f. laws.counts_now m4 t f lawful4; only_now = λ f. laws.only_now m4 f lawful4 } in
    let durable3 = c.in_ok-fill_cells.ensures.durable lawful2 in
    each_ready c.cells.ensures.apart j e (l + 1) c.args.others.now t (view m3).state (view m4).state clock4 (omega arith) few durable3 (record {
      closed = shut_none (cell_of j e) (view m3).state.bytes filled.0;
      others = subst (λ (f : ℕ). Hold j (view m3).state.bytes f (payloads m f c.args.others.now)) next
          (held j (view m3).state.bytes (e + 1) c.args.others.now c.requires.batches (λ x f few. c.cells_read_back.ensures.size m f x.request x.batch few) pieces);
      nothing = λ is borne.
          let more = touched_more t (l + 1) j.n is few in
          c.in_ok-clear_behind.ensures.gone lawful durable is
          (borne_before j (view m1).state.bytes (view m2).state.bytes (e + (l + 1)) (later_cell c.cells.ensures.apart j e (e + (l + 1)) (view m1).state.bytes (view m2).state.bytes (omega arith) (omega (arith, more)) closes.others)
          (borne_before j (view m2).state.bytes (view m3).state.bytes (e + (l + 1)) (behind_stays c.cells.ensures.apart j e (l + 1) (view m2).state.bytes (view m3).state.bytes more changes)
          (subst (λ (f : ℕ). IsBorne j (view m3).state.bytes f) behind borne)));
    }) (c.in_ok-close_ahead.ensures.crash_safe lawful3 durable3)

pub returns-clause-filled : goal.returns-clause-filled
returns-clause-filled g c lawful durable =
    let view = g.D.Disk.view in
    let j = c.args.journal.now in
    let m1 = c.clear_behind.new.device in
    let m2 = c.shut.new.device in
    let lawful1 = c.in_ok-clear_behind.ensures.device.lawful.0 lawful in
    let durable1 = c.in_ok-clear_behind.ensures.durable tt lawful durable in
    let settled = c.durable_is_settled.ensures m1 c.cell_of.result durable1 in
    let closed : IsClosed (cell_of j c.args.first) (view m2).state = subst (λ (r : Region). IsClosed r (view m2).state) c.cell_of.ensures.region (c.in_ok-shut.ensures.closed lawful1 settled) in
    let laws = g.met.D.Disk in
    let m4 = c.close_ahead.new.device in
    let lawful2 = c.in_ok-shut.ensures.device.lawful.0 lawful1 in
    let lawful3 = c.in_ok-fill_cells.ensures.device.lawful.0 lawful2 in
    let lawful4 = c.in_ok-close_ahead.ensures.device.lawful.0 lawful3 in
    let clock4 : HasClock (view m4).state = record { counts_now = λ t f. laws.counts_now m4 t f lawful4; only_now = λ f. laws.only_now m4 f lawful4 } in
    still_filled c.cells.ensures.apart j c.args.first (length c.args.others.now + 1) c.args.is_full c.args.written.payload.now (view c.fill_cells.new.device).state (view m4).state clock4 (omega arith) c.requires.few
    (c.in_ok-fill_cells.ensures.filled lawful2 closed) (c.in_ok-close_ahead.ensures.crash_safe lawful3 (c.in_ok-fill_cells.ensures.durable lawful2))
