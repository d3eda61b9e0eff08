use Rattle.std.proofs.Common.{List, ℕ, ◌+◌, ◌*◌, ◌≤◌, length, take, sym, subst, arith}
use Rattle.td_gate.specs.CrashSafe.{Unchanged}
use Rattle.td_gate.specs.declared.region.Region.{Region}
use Rattle.td_journal.specs.Cell.{cell_len}
use Rattle.td_store.proofs.group.Kept.{at_ok}
use Rattle.td_store.proofs.group.Moments.{HasClock, weaker_step}
use Rattle.td_store.proofs.group.Neighbours.{run_room, run_long, run_step, run_safe, run_written}
use Rattle.td_store.proofs.group.Places.{no_change}
use Rattle.td_store.specs.group.Groups.{ChangesCells}
use Rattle.td_store.proofs.group.cells.write_run.Goals as goal

-- for no epoch
pub returns-then-count-eq0-clause-crash_safe : goal.returns-then-count-eq0-clause-crash_safe
returns-then-count-eq0-clause-crash_safe g c lawful =
    let j = c.args.journal.now in
    let e = c.args.first in
    let n = c.args.count in
    let state = (g.D.Disk.view c.args.device.now).state in
    weaker_step Unchanged (ChangesCells j e n) state state (c.unchanged.ensures.none c.args.device.now lawful)
    (λ d f same. subst (λ (l : List ℕ). ChangesCells j e n d l) (sym same) (no_change j e n d))

pub returns-then-count-eq0-clause-others : goal.returns-then-count-eq0-clause-others
returns-then-count-eq0-clause-others g c lawful = no_change c.args.journal.now c.args.first c.args.count (g.D.Disk.view c.args.device.now).state.bytes

pub returns-then-count-eq0-clause-written : goal.returns-then-count-eq0-clause-written
returns-then-count-eq0-clause-written g c lawful k lt = absurd (omega (arith, lt, c.if-count-eq0.true))

-- for some

pub write-requires : goal.write-requires
write-requires g c =
    let j = c.args.journal.now in
    let e = c.args.first in
    let n = c.args.count in
    let long = run_long n (cell_len j.m + 1) c.cell_size.result c.args.bytes.now c.cell_size.ensures c.requires.whole in
    let room = run_room j e n c.requires.run in
    subst (λ (r : Region). r.at + length (take (n * c.cell_size.result) c.args.bytes.now) ≤ (g.D.Disk.view c.args.device.now).capacity) (sym c.cell_of.ensures.region)
    (omega (arith, long, room, c.requires.ring.room))

pub returns-clause-crash_safe : goal.returns-clause-crash_safe
returns-clause-crash_safe g c lawful =
    let view = g.D.Disk.view in
    let laws = g.met.D.Disk in
    let j = c.args.journal.now in
    let n = c.args.count in
    let old = c.args.device.now in
    let clock : HasClock (view old).state = record { counts_now = λ t f. laws.counts_now old t f lawful; only_now = λ f. laws.only_now old f lawful } in
    let long = run_long n (cell_len j.m + 1) c.cell_size.result c.args.bytes.now c.cell_size.ensures c.requires.whole in
    run_safe j c.args.first n c.cell_of.result (length (take (n * c.cell_size.result) c.args.bytes.now)) (view old).state (view c.write.new.self).state c.requires.run c.cell_of.ensures.region long
    clock (c.write.ensures.time lawful) (c.write.ensures.images lawful)

pub returns-clause-others : goal.returns-clause-others
returns-clause-others g c lawful =
    let view = g.D.Disk.view in
    let j = c.args.journal.now in
    let n = c.args.count in
    let long = run_long n (cell_len j.m + 1) c.cell_size.result c.args.bytes.now c.cell_size.ensures c.requires.whole in
    run_step j c.args.first n c.cell_of.result (length (take (n * c.cell_size.result) c.args.bytes.now)) (view c.args.device.now).state.bytes (view c.write.new.self).state.bytes c.requires.run c.cell_of.ensures.region long
    (c.write.ensures.others lawful)

pub returns-clause-written : goal.returns-clause-written
returns-clause-written g c = at_ok c.write.result _ _
    (λ written lawful.
    let j = c.args.journal.now in
    let n = c.args.count in
    let long = run_long n (cell_len j.m + 1) c.cell_size.result c.args.bytes.now c.cell_size.ensures c.requires.whole in
    run_written j c.args.first n c.cell_of.result (length (take (n * c.cell_size.result) c.args.bytes.now)) c.cell_size.result (g.D.Disk.view c.write.new.self).state.bytes c.args.bytes.now
    c.requires.run c.cell_of.ensures.region long c.cell_size.ensures (written lawful))
    c.write.ensures.written
