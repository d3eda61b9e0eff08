use Rattle.std.proofs.Common.{◌≡◌, ◌+◌, ◌-◌, ◌*◌, ◌≤◌, ℕ, List, drop, subst, arith}
use Rattle.std.proofs.lemmas.List.{take_rest}
use Rattle.td_journal.specs.Cell.{cell_len}
use Rattle.td_store.specs.group.Groups.{ChangesCells, HasPieces}
use Rattle.td_store.proofs.group.Kept.{at_ok}
use Rattle.td_store.proofs.group.Moments.{HasClock, weaker_step}
use Rattle.td_store.proofs.group.Neighbours.{both_runs, both_safe, runs_joined, to_the_end, behind_the_end, short_enough, rest_long}
use Rattle.td_store.proofs.group.Ready.{wider}
use Rattle.td_store.proofs.group.cells.write_cells.Goals as goal

pub write_run-requires-clause-run : goal.write_run-requires-clause-run
write_run-requires-clause-run g c =
    to_the_end c.args.first c.args.journal.now.n c.cells_to_end.result c.args.count c.min-before_end.result c.cells_to_end.ensures c.min-before_end.ensures

pub write_run-requires-clause-whole : goal.write_run-requires-clause-whole
write_run-requires-clause-whole g c =
    let size = cell_len c.args.journal.now.m + 1 in
    let le : c.min-before_end.result ≤ c.args.count = omega (arith, c.min-before_end.ensures) in
    let same : size ≡ size = omega arith in
    short_enough c.min-before_end.result c.args.count size size _ le same c.requires.whole

pub returns-in_err-write_run-clause-crash_safe : goal.returns-in_err-write_run-clause-crash_safe
returns-in_err-write_run-clause-crash_safe g c lawful =
    let view = g.D.Disk.view in
    let j = c.args.journal.now in
    let here = c.min-before_end.result in
    let le : here ≤ c.args.count = omega (arith, c.min-before_end.ensures) in
    weaker_step (ChangesCells j c.args.first here) (ChangesCells j c.args.first c.args.count) (view c.args.device.now).state (view c.write_run.new.device).state (c.in_err-write_run.ensures.crash_safe lawful)
    (λ d f changes. wider j c.args.first here c.args.count d f le changes)

pub returns-in_err-write_run-clause-others : goal.returns-in_err-write_run-clause-others
returns-in_err-write_run-clause-others g c lawful =
    let view = g.D.Disk.view in
    let here = c.min-before_end.result in
    let le : here ≤ c.args.count = omega (arith, c.min-before_end.ensures) in
    wider c.args.journal.now c.args.first here c.args.count (view c.args.device.now).state.bytes (view c.write_run.new.device).state.bytes le (c.in_err-write_run.ensures.others lawful)

pub returns-then-before_end-count-clause-crash_safe : goal.returns-then-before_end-count-clause-crash_safe
returns-then-before_end-count-clause-crash_safe g c lawful =
    let view = g.D.Disk.view in
    let j = c.args.journal.now in
    let here = c.min-before_end.result in
    let le : here ≤ c.args.count = omega (arith, c.min-before_end.ensures) in
    weaker_step (ChangesCells j c.args.first here) (ChangesCells j c.args.first c.args.count) (view c.args.device.now).state (view c.write_run.new.device).state (c.in_ok-write_run.ensures.crash_safe lawful)
    (λ d f changes. wider j c.args.first here c.args.count d f le changes)

pub returns-then-before_end-count-clause-others : goal.returns-then-before_end-count-clause-others
returns-then-before_end-count-clause-others g c lawful =
    let view = g.D.Disk.view in
    let here = c.min-before_end.result in
    let le : here ≤ c.args.count = omega (arith, c.min-before_end.ensures) in
    wider c.args.journal.now c.args.first here c.args.count (view c.args.device.now).state.bytes (view c.write_run.new.device).state.bytes le (c.in_ok-write_run.ensures.others lawful)

pub returns-then-before_end-count-clause-written : goal.returns-then-before_end-count-clause-written
returns-then-before_end-count-clause-written g c lawful =
    subst (λ (n : ℕ). HasPieces c.args.journal.now (g.D.Disk.view c.write_run.new.device).state.bytes c.args.first n c.args.bytes.now) c.if-before_end-count.true (c.in_ok-write_run.ensures.written lawful)

pub write_run-requires-2-clause-run : goal.write_run-requires-2-clause-run
write_run-requires-2-clause-run g c =
    behind_the_end c.args.first c.args.journal.now.n c.cells_to_end.result c.args.count c.min-before_end.result c.requires.ring.cells c.cells_to_end.ensures c.min-before_end.ensures c.if-before_end-count.false c.requires.few

pub write_run-requires-2-clause-whole : goal.write_run-requires-2-clause-whole
write_run-requires-2-clause-whole g c =
    let le : c.min-before_end.result ≤ c.args.count = omega (arith, c.min-before_end.ensures) in
    rest_long c.min-before_end.result c.args.count (cell_len c.args.journal.now.m + 1) c.cell_size.result c.args.bytes.now le c.cell_size.ensures c.requires.whole

pub returns-clause-crash_safe : goal.returns-clause-crash_safe
returns-clause-crash_safe g c lawful =
    let view = g.D.Disk.view in
    let laws = g.met.D.Disk in
    let here = c.min-before_end.result in
    let n = c.args.count in
    let sum : here + (n - here) ≡ n = omega (arith, c.min-before_end.ensures) in
    let mid = c.write_run.new.device in
    let lawful1 = c.in_ok-write_run.ensures.device.lawful.0 lawful in
    let clock : HasClock (view mid).state = record { counts_now = λ t f. laws.counts_now mid t f lawful1; only_now = λ f. laws.only_now mid f lawful1 } in
    both_safe c.args.journal.now c.args.first here (n - here) n (view c.args.device.now).state (view mid).state (view c.write_run-2.new.device).state sum clock (c.in_ok-write_run.ensures.crash_safe lawful) (c.write_run-2.ensures.crash_safe lawful1)

pub returns-clause-others : goal.returns-clause-others
returns-clause-others g c lawful =
    let view = g.D.Disk.view in
    let here = c.min-before_end.result in
    let n = c.args.count in
    let sum : here + (n - here) ≡ n = omega (arith, c.min-before_end.ensures) in
    let lawful1 = c.in_ok-write_run.ensures.device.lawful.0 lawful in
    both_runs c.args.journal.now c.args.first here (n - here) n (view c.args.device.now).state.bytes (view c.write_run.new.device).state.bytes (view c.write_run-2.new.device).state.bytes sum
    (c.in_ok-write_run.ensures.others lawful) (c.write_run-2.ensures.others lawful1)

pub returns-clause-written : goal.returns-clause-written
returns-clause-written g c = at_ok c.write_run-2.result _ _
    (λ written lawful.
    let view = g.D.Disk.view in
    let j = c.args.journal.now in
    let here = c.min-before_end.result in
    let n = c.args.count in
    let sum : here + (n - here) ≡ n = omega (arith, c.min-before_end.ensures) in
    let lawful1 = c.in_ok-write_run.ensures.device.lawful.0 lawful in
    let m2 = c.write_run-2.new.device in
    runs_joined c.cells.ensures.apart j c.args.first here (n - here) n (view c.write_run.new.device).state.bytes (view m2).state.bytes c.args.bytes.now sum c.requires.few
    (c.in_ok-write_run.ensures.written lawful) (c.write_run-2.ensures.others lawful1)
    (subst (λ (k : ℕ). HasPieces j (view m2).state.bytes (c.args.first + here) (n - here) (drop (here * k) c.args.bytes.now)) c.cell_size.ensures
    (subst (λ (l : List ℕ). HasPieces j (view m2).state.bytes (c.args.first + here) (n - here) l) (take_rest c.args.bytes.now (here * c.cell_size.result)) (written lawful1))))
    c.write_run-2.ensures.written
