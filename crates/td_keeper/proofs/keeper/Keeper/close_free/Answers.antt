use Rattle.std.specs.Prelude.{Bool, Some, None, if◌then◌else◌}
use Rattle.std.proofs.Common.{ap, refl, ◌≡◌, ℕ, ◌+◌, ◌≤◌, true, [], sym, subst}
use Rattle.td_plan.specs.Tree.{tree_of}
use Rattle.td_gate.specs.CrashSafe.{CrashSafe, Unchanged}
use Rattle.td_head.specs.Layout.{size_of}
use Rattle.td_store.specs.standing.Standing.{standing_from, with_more}
use Rattle.td_store.specs.standing.Stops.{Advance}
use Rattle.td_store.specs.standing.Told.{ring_of}
use Rattle.td_store.specs.standing.Advanced.{states_by}
use Rattle.td_store.specs.group.Groups.{AreFree}
use Rattle.td_keeper.specs.Keeping.{Keeping, FreeAreShut, keeping_of}
use Rattle.td_keeper.specs.Calls.{CrashLeaves, IsClosed}
use Rattle.td_store.specs.declared.standing.error.KeeperError.TheVariants.{Broken}
use Rattle.td_keeper.proofs.Kept.{elsewhere}
use Rattle.td_keeper.proofs.Since.{from_start, held, told_further, either_told, keeps_to, keeps_since, none_beyond}
use Rattle.td_keeper.proofs.Submitting.{keeps_of, held_of, free_in, shut_in, shut_out}
use Rattle.td_keeper.proofs.keeper.Keeper.close_free.Goals as goal

pub invariant_of-self-in-Err-Device : goal.invariant_of-self-in-Err-Device
invariant_of-self-in-Err-Device g c =
    let view = g.D.Disk.view in
    let answers = g.L.Law.answers in
    let device = c.self.inside.device in
    let plan = c.self.inside.plan in
    let head = c.self.inside.head in
    let side = c.self.inside.checkpoint.slot in
    let s = standing_from c.self.inside.checkpoint c.self.inside.submitted.items in
    let new = c.close_free.new.device in
    let k = keeping_of device plan head c.self.inside.checkpoint c.self.inside.submitted.items c.self.inside.broken c.self.inside.taken c.self.inside.collected c.self.inside.queue.items c.self.inside.watch in
    let still : Advance (states_by answers plan) (with_more s []) s = c.standings_advance.ensures.not_yet (tree_of plan) s [] in
    let free : AreFree head.shape s (c.last_epoch-first.result + 1) c.min-count.result = free_in answers {k = k} c.last_epoch-first.result c.args.most c.free.result c.min-count.result c.self.view_is c.last_epoch-first.ensures c.free.ensures c.min-count.ensures c.self.invariant.1 in
    let ring : c.ring_of-journal.result ≡ ring_of head.shape s.epoch = c.ring_of-journal.ensures.ring in (
      subst (λ (n : ℕ). size_of head.shape ≤ n) (sym c.in-Err-Device.ensures.device.size) c.self.invariant.0,
      elsewhere answers k new true c.self.invariant.1,
      λ l.
          let old = c.in-Err-Device.ensures.device.lawful.1 l in
          let keeps = keeps_of c.self.inside.broken answers plan head side s (view device).state c.if-self.false (c.self.invariant.2 old) in
          let later : (view device).state.moment ≤ (view new).state.moment = c.in-Err-Device.ensures.free.later old keeps.durable in
          held answers plan head side s [] (view device).state.moment (view new).state (λ d now. g.met.D.Disk.counts_now new (view device).state.moment d l later now)
          (from_start answers plan c.told_in_parts.ensures.together head side s [] (view device).state (view new).state (λ d. g.met.D.Disk.only_now device d old) still keeps
          (told_further answers plan c.told_in_parts.ensures.together head head side s (view device).state (view new).state still (c.in-Err-Device.ensures.free.begun old plan head side s ring free keeps))),
      c.self.invariant.3,
      λ l.
          let old = c.in-Err-Device.ensures.device.lawful.1 l in
          let keeps = keeps_of c.self.inside.broken answers plan head side s (view device).state c.if-self.false (c.self.invariant.2 old) in
          let later : (view device).state.moment ≤ (view new).state.moment = c.in-Err-Device.ensures.free.later old keeps.durable in
          keeps_to plan c.told_in_parts.ensures.one_answer k.base s s (view device).state.moment (view new).state (λ d now. g.met.D.Disk.counts_now new (view device).state.moment d l later now)
          (either_told plan c.told_in_parts.ensures.together head head side side s s (view device).state (view new).state (λ d. g.met.D.Disk.only_now device d old) keeps (c.in-Err-Device.ensures.free.begun old plan head side s ring free keeps))
          c.self.invariant.1.from_checkpoint c.self.invariant.1.from_checkpoint,
    )

pub returns-in-Ok-clause-idle : goal.returns-in-Ok-clause-idle
returns-in-Ok-clause-idle g c =
    let view = g.D.Disk.view in
    let device = c.self.inside.device in
    let k = keeping_of device c.self.inside.plan c.self.inside.head c.self.inside.checkpoint c.self.inside.submitted.items c.self.inside.broken c.self.inside.taken c.self.inside.collected c.self.inside.queue.items c.self.inside.watch in
    subst (λ (z : Keeping g.row.D.Denot). (g.D.Disk.view z.device).lawful → FreeAreShut z c.args.most (view z.device).state.bytes → CrashSafe Unchanged (view z.device).state (view c.close_free.new.device).state) c.self.view_is
    (λ old shut. c.in-Ok.ensures.idle old
    (shut_in {k = k} c.ring_of-journal.result (view device).state.bytes c.last_epoch-first.result c.args.most c.free.result c.min-count.result c.self.view_is c.ring_of-journal.ensures.ring c.last_epoch-first.ensures c.free.ensures c.min-count.ensures shut))

pub returns-in-Err-Device-clause-idle : goal.returns-in-Err-Device-clause-idle
returns-in-Err-Device-clause-idle g c =
    let view = g.D.Disk.view in
    let device = c.self.inside.device in
    let k = keeping_of device c.self.inside.plan c.self.inside.head c.self.inside.checkpoint c.self.inside.submitted.items c.self.inside.broken c.self.inside.taken c.self.inside.collected c.self.inside.queue.items c.self.inside.watch in
    subst (λ (z : Keeping g.row.D.Denot). (g.D.Disk.view z.device).lawful → FreeAreShut z c.args.most (view z.device).state.bytes → CrashSafe Unchanged (view z.device).state (view c.close_free.new.device).state) c.self.view_is
    (λ old shut. c.in-Err-Device.ensures.idle old
    (shut_in {k = k} c.ring_of-journal.result (view device).state.bytes c.last_epoch-first.result c.args.most c.free.result c.min-count.result c.self.view_is c.ring_of-journal.ensures.ring c.last_epoch-first.ensures c.free.ensures c.min-count.ensures shut))

pub invariant_of-self : goal.invariant_of-self
invariant_of-self g c =
    let view = g.D.Disk.view in
    let answers = g.L.Law.answers in
    let device = c.self.inside.device in
    let plan = c.self.inside.plan in
    let head = c.self.inside.head in
    let side = c.self.inside.checkpoint.slot in
    let s = standing_from c.self.inside.checkpoint c.self.inside.submitted.items in
    let new = c.close_free.new.device in
    let k = keeping_of device plan head c.self.inside.checkpoint c.self.inside.submitted.items c.self.inside.broken c.self.inside.taken c.self.inside.collected c.self.inside.queue.items c.self.inside.watch in
    let free : AreFree head.shape s (c.last_epoch-first.result + 1) c.min-count.result = free_in answers {k = k} c.last_epoch-first.result c.args.most c.free.result c.min-count.result c.self.view_is c.last_epoch-first.ensures c.free.ensures c.min-count.ensures c.self.invariant.1 in
    let ring : c.ring_of-journal.result ≡ ring_of head.shape s.epoch = c.ring_of-journal.ensures.ring in (
      subst (λ (n : ℕ). size_of head.shape ≤ n) (sym c.in-Ok.ensures.device.size) c.self.invariant.0,
      elsewhere answers k new c.self.inside.broken c.self.invariant.1,
      λ l.
          let old = c.in-Ok.ensures.device.lawful.1 l in
          let keeps = keeps_of c.self.inside.broken answers plan head side s (view device).state c.if-self.false (c.self.invariant.2 old) in
          held_of c.self.inside.broken answers plan head side s (view new).state c.if-self.false (c.in-Ok.ensures.free.done old plan head side s ring free keeps),
      c.self.invariant.3,
      λ l. none_beyond c.self.inside.broken plan k.base (view new).state c.if-self.false,
    )

pub returns-in-Ok-clause-crash : goal.returns-in-Ok-clause-crash
returns-in-Ok-clause-crash g c =
    let view = g.D.Disk.view in
    let answers = g.L.Law.answers in
    let device = c.self.inside.device in
    let plan = c.self.inside.plan in
    let head = c.self.inside.head in
    let side = c.self.inside.checkpoint.slot in
    let s = standing_from c.self.inside.checkpoint c.self.inside.submitted.items in
    let new = c.close_free.new.device in
    let k = keeping_of device plan head c.self.inside.checkpoint c.self.inside.submitted.items c.self.inside.broken c.self.inside.taken c.self.inside.collected c.self.inside.queue.items c.self.inside.watch in
    let still : Advance (states_by answers plan) (with_more s []) s = c.standings_advance.ensures.not_yet (tree_of plan) s [] in
    let free : AreFree head.shape s (c.last_epoch-first.result + 1) c.min-count.result = free_in answers {k = k} c.last_epoch-first.result c.args.most c.free.result c.min-count.result c.self.view_is c.last_epoch-first.ensures c.free.ensures c.min-count.ensures c.self.invariant.1 in
    let ring : c.ring_of-journal.result ≡ ring_of head.shape s.epoch = c.ring_of-journal.ensures.ring in
    let together = c.told_in_parts.ensures.together in
    let low = c.self.invariant.1.from_checkpoint in
    subst (λ (z : Keeping g.row.D.Denot). (g.D.Disk.view z.device).lawful → CrashLeaves answers [] z (view z.device).state (view new).state) c.self.view_is
    (λ old.
    let keeps = keeps_of c.self.inside.broken answers plan head side s (view device).state c.if-self.false (c.self.invariant.2 old) in
    let begun = c.in-Ok.ensures.free.begun old plan head side s ring free keeps in
    let further = told_further answers plan together head head side s (view device).state (view new).state still begun in
    record {
      later = c.in-Ok.ensures.free.later old keeps.durable;
      images = λ whole. from_start answers plan together head side s [] (view device).state (view new).state (λ d. g.met.D.Disk.only_now device d old) still keeps further;
      further = λ whole. further;
      short = keeps_since plan c.told_in_parts.ensures.one_answer k.base together head head side side s s (view device).state (view new).state low low begun;
    })

pub returns-in-Err-Device-clause-crash : goal.returns-in-Err-Device-clause-crash
returns-in-Err-Device-clause-crash g c =
    let view = g.D.Disk.view in
    let answers = g.L.Law.answers in
    let device = c.self.inside.device in
    let plan = c.self.inside.plan in
    let head = c.self.inside.head in
    let side = c.self.inside.checkpoint.slot in
    let s = standing_from c.self.inside.checkpoint c.self.inside.submitted.items in
    let new = c.close_free.new.device in
    let k = keeping_of device plan head c.self.inside.checkpoint c.self.inside.submitted.items c.self.inside.broken c.self.inside.taken c.self.inside.collected c.self.inside.queue.items c.self.inside.watch in
    let still : Advance (states_by answers plan) (with_more s []) s = c.standings_advance.ensures.not_yet (tree_of plan) s [] in
    let free : AreFree head.shape s (c.last_epoch-first.result + 1) c.min-count.result = free_in answers {k = k} c.last_epoch-first.result c.args.most c.free.result c.min-count.result c.self.view_is c.last_epoch-first.ensures c.free.ensures c.min-count.ensures c.self.invariant.1 in
    let ring : c.ring_of-journal.result ≡ ring_of head.shape s.epoch = c.ring_of-journal.ensures.ring in
    let together = c.told_in_parts.ensures.together in
    let low = c.self.invariant.1.from_checkpoint in
    subst (λ (z : Keeping g.row.D.Denot). (g.D.Disk.view z.device).lawful → CrashLeaves answers [] z (view z.device).state (view new).state) c.self.view_is
    (λ old.
    let keeps = keeps_of c.self.inside.broken answers plan head side s (view device).state c.if-self.false (c.self.invariant.2 old) in
    let begun = c.in-Err-Device.ensures.free.begun old plan head side s ring free keeps in
    let further = told_further answers plan together head head side s (view device).state (view new).state still begun in
    record {
      later = c.in-Err-Device.ensures.free.later old keeps.durable;
      images = λ whole. from_start answers plan together head side s [] (view device).state (view new).state (λ d. g.met.D.Disk.only_now device d old) still keeps further;
      further = λ whole. further;
      short = keeps_since plan c.told_in_parts.ensures.one_answer k.base together head head side side s s (view device).state (view new).state low low begun;
    })

pub returns-in-Ok-clause-closed : goal.returns-in-Ok-clause-closed
returns-in-Ok-clause-closed g c =
    let view = g.D.Disk.view in
    let new = c.close_free.new.device in
    let k = keeping_of c.self.inside.device c.self.inside.plan c.self.inside.head c.self.inside.checkpoint c.self.inside.submitted.items c.self.inside.broken c.self.inside.taken c.self.inside.collected c.self.inside.queue.items c.self.inside.watch in
    let is = keeping_of new c.self.inside.plan c.self.inside.head c.self.inside.checkpoint c.self.inside.submitted.items c.self.inside.broken c.self.inside.taken c.self.inside.collected c.self.inside.queue.items c.self.inside.watch in
    subst (λ (z : Keeping g.row.D.Denot). IsClosed view c.args.most z is) c.self.view_is
    (record {
      accepted = ap (λ (b : Bool). if b then Some Broken else None) c.if-self.false;
      same = refl;
      closed = λ old. shut_out {k = k} c.ring_of-journal.result (view new).state.bytes c.last_epoch-first.result c.args.most c.free.result c.min-count.result c.self.view_is c.ring_of-journal.ensures.ring c.last_epoch-first.ensures c.free.ensures c.min-count.ensures (c.in-Ok.ensures.closed old);
    })
