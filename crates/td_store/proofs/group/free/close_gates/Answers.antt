use Rattle.std.proofs.Common.{◌≡◌, ℕ, ◌+◌, sym, ap, ◌∙◌, subst, arith}
use Rattle.std.specs.Prelude.{None}
use Rattle.std.proofs.lemmas.Bool.{or_parts, or_from}
use Rattle.td_disk.specs.Disk.{SameOutside}
use Rattle.td_gate.specs.CrashSafe.{CrashSafe}
use Rattle.td_gate.specs.declared.region.Region.{Region}
use Rattle.td_gate.specs.Region.{opened}
use Rattle.td_journal.specs.Cell.{cell_of}
use Rattle.td_store.specs.group.Groups.{AreShut, ClosesSome}
use Rattle.td_store.proofs.group.Closing.{one_more, shut_more}
use Rattle.td_store.proofs.group.free.close_gates.Goals as goal

pub returns-in_err-wrote-clause-crash_safe : goal.returns-in_err-wrote-clause-crash_safe
returns-in_err-wrote-clause-crash_safe g c lawful durable =
    let view = g.D.Disk.view in
    let laws = g.met.D.Disk in
    let mid = c.loop-k.device in
    let still = c.loop-k.invariant.2.0 lawful in
    one_more c.cells.ensures.apart c.args.journal.now c.args.first c.loop-k.k c.args.count c.cell_of.result (view c.args.device.now).state (view mid).state (view c.close_if_open.new.device).state
    (record { counts_now = λ t f. laws.counts_now mid t f still; only_now = λ f. laws.only_now mid f still }) (laws.reads_image mid still)
    c.cell_of.ensures.region c.loop-k-test.true c.requires.few durable (c.loop-k.invariant.3 lawful durable) (c.in_err-wrote.ensures.crash_safe still)

pub loop-k-preserved : goal.loop-k-preserved
loop-k-preserved g c =
    let view = g.D.Disk.view in
    let laws = g.met.D.Disk in
    let mid = c.loop-k.device in
    let new = c.close_if_open.new.device in
    let j = c.args.journal.now in
    let k = c.loop-k.k in
    let before = c.loop-k.invariant in
    let wrote = c.in_ok-wrote.ensures in (
      wrote.device.size ∙ before.0,
      wrote.device.counts.stays ∙ before.1,
      (λ l. wrote.device.lawful.0 (before.2.0 l), λ l. before.2.1 (wrote.device.lawful.1 l)),
      λ lawful durable.
          let still = before.2.0 lawful in
          one_more c.cells.ensures.apart j c.args.first k (k + 1) c.cell_of.result (view c.args.device.now).state (view mid).state (view new).state
          (record { counts_now = λ t f. laws.counts_now mid t f still; only_now = λ f. laws.only_now mid f still }) (laws.reads_image mid still)
          c.cell_of.ensures.region (omega arith) (omega (arith, c.loop-k-test.true, c.requires.few)) durable (before.3 lawful durable) (wrote.crash_safe still),
      λ lawful.
          let still = before.2.0 lawful in
          shut_more c.cells.ensures.apart j c.args.first k (view mid).state.bytes (view new).state.bytes (omega (arith, c.loop-k-test.true, c.requires.few)) (before.4 lawful)
          (subst (λ (r : Region). SameOutside r.at (r.len + 1) (view mid).state.bytes (view new).state.bytes) c.cell_of.ensures.region (wrote.others still))
          (subst (λ (r : Region). opened r (view new).state.bytes ≡ None) c.cell_of.ensures.region (wrote.closed still)),
      λ none.
          let parts = or_parts c.loop-k.wrote c.in_ok-wrote.field-0 none in
          c.reads_in_turn.ensures.read c.args.device.now mid new (before.5 parts.0) (wrote.unwritten parts.1),
      λ lawful shut.
          let quiet = before.6 lawful shut in
          let none : opened (cell_of j (c.args.first + k)) (view mid).state.bytes ≡ None = ap (opened (cell_of j (c.args.first + k))) ((before.5 quiet).same lawful) ∙ shut k c.loop-k-test.true in
          or_from c.loop-k.wrote c.in_ok-wrote.field-0 quiet
          (wrote.needless (before.2.0 lawful, subst (λ (r : Region). opened r (view mid).state.bytes ≡ None) (sym c.cell_of.ensures.region) none)),
    )

pub returns-in_err-wrote-clause-idle : goal.returns-in_err-wrote-clause-idle
returns-in_err-wrote-clause-idle g c lawful shut =
    let view = g.D.Disk.view in
    let mid = c.loop-k.device in
    let before = c.loop-k.invariant in
    let still = before.2.0 lawful in
    let read = before.5 (before.6 lawful shut) in
    let cell = cell_of c.args.journal.now (c.args.first + c.loop-k.k) in
    let none : opened cell (view mid).state.bytes ≡ None = ap (opened cell) (read.same lawful) ∙ shut c.loop-k.k c.loop-k-test.true in
    c.reads_in_turn.ensures.unchanged c.args.device.now mid c.close_if_open.new.device still (read.crash_safe lawful)
    ((c.in_err-wrote.ensures.idle (still, subst (λ (r : Region). opened r (view mid).state.bytes ≡ None) (sym c.cell_of.ensures.region) none)).crash_safe still)

pub returns-clause-crash_safe : goal.returns-clause-crash_safe
returns-clause-crash_safe g c lawful durable =
    let view = g.D.Disk.view in
    let all : c.loop-k.k ≡ c.args.count = omega (arith, c.loop-k.auto.k-end, c.loop-k-test.false) in
    subst (λ (n : ℕ). CrashSafe (ClosesSome c.args.journal.now c.args.first n) (view c.args.device.now).state (view c.loop-k.device).state) all (c.loop-k.invariant.3 lawful durable)

pub returns-clause-closed : goal.returns-clause-closed
returns-clause-closed g c lawful =
    let all : c.loop-k.k ≡ c.args.count = omega (arith, c.loop-k.auto.k-end, c.loop-k-test.false) in
    subst (AreShut c.args.journal.now (g.D.Disk.view c.loop-k.device).state.bytes c.args.first) all (c.loop-k.invariant.4 lawful)
