use Rattle.std.proofs.Common.{◌≡◌, ⊎_elim, inl, inr, Result, Err, ℕ, ◌+◌, ◌-◌, ◌^◌, ◌<◌, ◌≤◌, true, [], length, take, refl, sym, ap, ◌∙◌, subst, arith}
use Rattle.std.specs.Prelude.{Bool, Option, Some, None}
use Rattle.td_plan.specs.Tree.{tree_of}
use Rattle.td_watch.specs.View.{View}
use Rattle.td_head.specs.Layout.{size_of}
use Rattle.td_slots.specs.Slot.{are_states}
use Rattle.td_slots.specs.declared.slots.Slots.{Slots}
use Rattle.td_slots.specs.declared.error.SlotsError.{SlotsError as AnyError}
use Rattle.td_journal.specs.Numbers.{greatest}
use Rattle.td_store.specs.standing.Standing.{standing_from, last_epoch, last_request, with_more, cut_at}
use Rattle.td_store.specs.standing.Stops.{Advance, Holds}
use Rattle.td_store.specs.standing.Told.{folds_of, slots_of}
use Rattle.td_store.specs.standing.Tells.{IsCut, side_after}
use Rattle.td_store.specs.standing.Advanced.{HeldWhere, states_by}
use Rattle.td_store.specs.declared.standing.error.KeeperError.TheVariants.{Memory, Device, TooManyKeys}
use Rattle.td_keeper.specs.declared.keeper.Taken.{Taken}
use Rattle.td_keeper.specs.Calls.{CrashLeaves}
use Rattle.td_keeper.specs.Keeping.{Keeping, IsKeeping, keeping_of, base_of, with_checkpoint, published}
use Rattle.td_keeper.specs.Refused.{write_refusal, waits_after}
use Rattle.td_keeper.proofs.Cutting.{lawful, cut_last, most, is_cut, advance, as_written, not_above, write_none}
use Rattle.td_keeper.proofs.Kept.{written, set_down}
use Rattle.td_keeper.proofs.Leaving.{leaves_as_it_was}
use Rattle.td_keeper.proofs.Since.{either, from_start, held, either_told, keeps_to, keeps_since, none_beyond}
use Rattle.td_keeper.proofs.Submitting.{keeps_of, held_of}
use Rattle.td_keeper.proofs.keeper.Keeper.write_cut.Goals as goal

abbrev as_err : AnyError → Result (Unit {0}) AnyError
as_err e = Err e

pub invariant_of-self-in-Ok : goal.invariant_of-self-in-Ok
invariant_of-self-in-Ok g c =
    let view = g.D.Disk.view in
    let answers = g.L.Law.answers in
    let device = c.self.inside.device in
    let plan = c.self.inside.plan in
    let head = c.self.inside.head in
    let checkpoint = c.self.inside.checkpoint in
    let side = checkpoint.slot in
    let w = c.self.inside.submitted.items in
    let s = standing_from checkpoint w in
    let new = c.write_states.new.device in
    let cut = c.in-Some.cut in
    let n = cut.epoch - checkpoint.epoch in
    let at : c.self.inside.taken ≡ Some cut = c.in-Some.ensures.some.0 in
    let k = keeping_of device plan head checkpoint w c.self.inside.broken (Some cut) c.self.inside.collected c.self.inside.queue.items c.self.inside.watch in
    let is : IsKeeping k answers = subst (λ (t : Option Taken). IsKeeping (keeping_of device plan head checkpoint w c.self.inside.broken t c.self.inside.collected c.self.inside.queue.items c.self.inside.watch) answers) at c.self.invariant.1 in
    let wide : head.shape.k ≤ 1048576 = subst (λ (z : Slots). z.k ≤ 1048576) c.slots_of-slots.ensures.slots c.slots_of-slots.ensures.within.limit in
    let slots : c.slots_of-slots.result ≡ slots_of head.shape = c.slots_of-slots.ensures.slots in
    let few : length cut.states ≤ head.shape.k = subst (λ (z : Slots). length cut.states ≤ z.k) slots (not_above c.slots_of-slots.result.k (length cut.states) (λ lt. let z = c.in-Ok.ensures.refused.too_many.1 lt in absurd (cc z))) in
    let of_folds : are_states (folds_of plan) cut.states ≡ true = lawful answers k is c.states_of_folds.ensures c.states_are_in_order.ensures.written c.states_are_in_order.ensures.named c.vertices-plan.ensures.lawful c.list-in_order.ensures.ordered in
    let narrow : head.shape.k < 2 ^ 32 = omega arith in
    let is_a_cut : IsCut plan head.shape s n cut.states = is_cut answers k is of_folds few narrow c.in-Ok.ensures.fits.fits in
    let epoch : cut.epoch ≡ s.epoch + n = omega (arith, is.from_checkpoint) in
    let last : c.last_of_first-last.result ≡ greatest s.last (take n w) = c.last_of_first-last.ensures in
    let d = c.checkpoint_of.result in
    let v = c.drop_first.new.submitted.items in
    let none : c.take_waiting.new.taken ≡ None = c.in-Some.ensures.some.2 in
    let after : checkpoint.epoch ≤ cut.epoch = is.from_checkpoint in
    let now : keeping_of new plan head d v c.self.inside.broken None c.self.inside.collected c.self.inside.queue.items c.publish.new.watch ≡ with_checkpoint k new =
    ap (λ (o : Option View). keeping_of new plan head d v c.self.inside.broken None c.self.inside.collected c.self.inside.queue.items o) (c.publish.ensures ∙ ap (published c.self.inside.watch) c.words_at-words.ensures)
    ∙ as_written device new plan head checkpoint d w v c.self.inside.broken cut c.self.inside.collected c.self.inside.queue.items c.self.inside.watch after c.checkpoint_of.ensures.slot c.checkpoint_of.ensures.epoch (c.checkpoint_of.ensures.last ∙ last) c.checkpoint_of.ensures.states c.drop_first.ensures in (
      subst (λ (m : ℕ). size_of head.shape ≤ m) (sym c.in-Ok.ensures.device.size) c.self.invariant.0,
      subst (λ (t : Option Taken). IsKeeping (keeping_of new plan head d v c.self.inside.broken t c.self.inside.collected c.self.inside.queue.items c.publish.new.watch) answers) (sym none)
          (subst (λ (z : Keeping g.row.D.Denot). IsKeeping z answers) (sym now) (written answers k new is of_folds)),
      λ l.
          let old = c.in-Ok.ensures.device.lawful.1 l in
          let keeps = keeps_of c.self.inside.broken answers plan head side s (view device).state c.if-self.false (c.self.invariant.2 old) in
          subst (λ (z : Keeping g.row.D.Denot). HeldWhere c.self.inside.broken answers plan head z.side z.standing (view new).state) (sym now)
          (held_of c.self.inside.broken answers plan head (side_after side n) (cut_at s n cut.states) (view new).state c.if-self.false (c.in-Ok.ensures.cut.done old plan head s n slots epoch last is_a_cut keeps)),
      c.self.invariant.3 ∙ sym ((λ i. greatest ((c.checkpoint_of.ensures.last ∙ last) i) (c.drop_first.ensures i)) ∙ cut_last s.last n w),
      λ l. none_beyond c.self.inside.broken plan (base_of d c.take_waiting.new.taken) (view new).state c.if-self.false,
    )

pub invariant_of-self-in-Device : goal.invariant_of-self-in-Device
invariant_of-self-in-Device g c =
    let view = g.D.Disk.view in
    let answers = g.L.Law.answers in
    let device = c.self.inside.device in
    let plan = c.self.inside.plan in
    let head = c.self.inside.head in
    let checkpoint = c.self.inside.checkpoint in
    let side = checkpoint.slot in
    let w = c.self.inside.submitted.items in
    let s = standing_from checkpoint w in
    let still : Advance (states_by answers plan) (with_more s []) s = c.standings_advance.ensures.not_yet (tree_of plan) s [] in
    let new = c.write_states.new.device in
    let cut = c.in-Some.cut in
    let n = cut.epoch - checkpoint.epoch in
    let at : c.self.inside.taken ≡ Some cut = c.in-Some.ensures.some.0 in
    let k = keeping_of device plan head checkpoint w c.self.inside.broken (Some cut) c.self.inside.collected c.self.inside.queue.items c.self.inside.watch in
    let is : IsKeeping k answers = subst (λ (t : Option Taken). IsKeeping (keeping_of device plan head checkpoint w c.self.inside.broken t c.self.inside.collected c.self.inside.queue.items c.self.inside.watch) answers) at c.self.invariant.1 in
    let wide : head.shape.k ≤ 1048576 = subst (λ (z : Slots). z.k ≤ 1048576) c.slots_of-slots.ensures.slots c.slots_of-slots.ensures.within.limit in
    let slots : c.slots_of-slots.result ≡ slots_of head.shape = c.slots_of-slots.ensures.slots in
    let few : length cut.states ≤ head.shape.k = subst (λ (z : Slots). length cut.states ≤ z.k) slots (not_above c.slots_of-slots.result.k (length cut.states) (λ lt. let z = c.in-Err.ensures.refused.too_many.1 lt in let d = c.in-Device.is in absurd (cc (z, d)))) in
    let of_folds : are_states (folds_of plan) cut.states ≡ true = lawful answers k is c.states_of_folds.ensures c.states_are_in_order.ensures.written c.states_are_in_order.ensures.named c.vertices-plan.ensures.lawful c.list-in_order.ensures.ordered in
    let narrow : head.shape.k < 2 ^ 32 = omega arith in
    let is_a_cut : IsCut plan head.shape s n cut.states = is_cut answers k is of_folds few narrow (c.in-Err.ensures.fits.fits_too (ap as_err c.in-Device.is)) in
    let epoch : cut.epoch ≡ s.epoch + n = omega (arith, is.from_checkpoint) in
    let last : c.last_of_first-last.result ≡ greatest s.last (take n w) = c.last_of_first-last.ensures in
    let next : Advance (states_by answers plan) (with_more s []) (cut_at s n cut.states) = advance answers k is (c.standings_advance.ensures.cut (tree_of plan) s n (most answers k is)) in
    let holds : Holds (cut_at s n cut.states) (last_epoch s) = c.standings_advance.ensures.holds_cut s (last_epoch s) n cut.states (most answers k is) (omega arith) in (
      subst (λ (m : ℕ). size_of head.shape ≤ m) (sym c.in-Err.ensures.device.size) c.self.invariant.0,
      set_down answers k new true c.waits_after-waits.result is,
      λ l.
          let old = c.in-Err.ensures.device.lawful.1 l in
          let keeps = keeps_of c.self.inside.broken answers plan head side s (view device).state c.if-self.false (c.self.invariant.2 old) in
          let later : (view device).state.moment ≤ (view new).state.moment = c.in-Err.ensures.cut.later old keeps.durable in
          held answers plan head side s [] (view device).state.moment (view new).state (λ d now. g.met.D.Disk.counts_now new (view device).state.moment d l later now)
          (from_start answers plan c.told_in_parts.ensures.together head side s [] (view device).state (view new).state (λ d. g.met.D.Disk.only_now device d old) still keeps
          (either answers plan c.told_in_parts.ensures.together head side s [] (view device).state (view new).state (side_after side n) (cut_at s n cut.states) still next holds
          (c.in-Err.ensures.cut.begun old plan head s n slots epoch last is_a_cut keeps))),
      c.self.invariant.3,
      λ l.
          let old = c.in-Err.ensures.device.lawful.1 l in
          let keeps = keeps_of c.self.inside.broken answers plan head side s (view device).state c.if-self.false (c.self.invariant.2 old) in
          let later : (view device).state.moment ≤ (view new).state.moment = c.in-Err.ensures.cut.later old keeps.durable in
          keeps_to plan c.told_in_parts.ensures.one_answer cut.epoch s (cut_at s n cut.states) (view device).state.moment (view new).state (λ d now. g.met.D.Disk.counts_now new (view device).state.moment d l later now)
          (either_told plan c.told_in_parts.ensures.together head head side (side_after side n) s (cut_at s n cut.states) (view device).state (view new).state (λ d. g.met.D.Disk.only_now device d old) keeps
          (c.in-Err.ensures.cut.begun old plan head s n slots epoch last is_a_cut keeps))
          is.from_checkpoint (omega (arith, epoch)),
    )

pub returns-in-Ok-clause-last_request : goal.returns-in-Ok-clause-last_request
returns-in-Ok-clause-last_request g c =
    let checkpoint = c.self.inside.checkpoint in
    let w = c.self.inside.submitted.items in
    let n = c.in-Some.cut.epoch - checkpoint.epoch in
    (λ i. greatest ((c.checkpoint_of.ensures.last ∙ c.last_of_first-last.ensures) i) (c.drop_first.ensures i))
    ∙ (cut_last checkpoint.last n w ∙ ap (λ (z : Keeping g.row.D.Denot). last_request z.standing) c.self.view_is)

pub returns-in_default-clause-crash : goal.returns-in_default-clause-crash
returns-in_default-clause-crash g c old =
    subst (λ (d : g.row.D.Denot). CrashLeaves g.L.Law.answers [] c.args.self.now (g.D.Disk.view c.args.self.now.device).state (g.D.Disk.view d).state) (ap (λ (z : Keeping g.row.D.Denot). z.device) (sym c.self.view_is))
    (leaves_as_it_was g.D.Disk.view g.met.D.Disk.only_now g.L.Law.answers c.told_in_parts.ensures.together c.standings_advance.ensures.not_yet c.self.view_is c.self.invariant.2 [] old)

pub returns-in-Ok-clause-crash : goal.returns-in-Ok-clause-crash
returns-in-Ok-clause-crash g c =
    let view = g.D.Disk.view in
    let answers = g.L.Law.answers in
    let device = c.self.inside.device in
    let plan = c.self.inside.plan in
    let head = c.self.inside.head in
    let checkpoint = c.self.inside.checkpoint in
    let side = checkpoint.slot in
    let w = c.self.inside.submitted.items in
    let s = standing_from checkpoint w in
    let still : Advance (states_by answers plan) (with_more s []) s = c.standings_advance.ensures.not_yet (tree_of plan) s [] in
    let new = c.write_states.new.device in
    let cut = c.in-Some.cut in
    let n = cut.epoch - checkpoint.epoch in
    let at : c.self.inside.taken ≡ Some cut = c.in-Some.ensures.some.0 in
    let k = keeping_of device plan head checkpoint w c.self.inside.broken (Some cut) c.self.inside.collected c.self.inside.queue.items c.self.inside.watch in
    let is : IsKeeping k answers = subst (λ (t : Option Taken). IsKeeping (keeping_of device plan head checkpoint w c.self.inside.broken t c.self.inside.collected c.self.inside.queue.items c.self.inside.watch) answers) at c.self.invariant.1 in
    let wide : head.shape.k ≤ 1048576 = subst (λ (z : Slots). z.k ≤ 1048576) c.slots_of-slots.ensures.slots c.slots_of-slots.ensures.within.limit in
    let slots : c.slots_of-slots.result ≡ slots_of head.shape = c.slots_of-slots.ensures.slots in
    let few : length cut.states ≤ head.shape.k = subst (λ (z : Slots). length cut.states ≤ z.k) slots (not_above c.slots_of-slots.result.k (length cut.states) (λ lt. let z = c.in-Ok.ensures.refused.too_many.1 lt in absurd (cc z))) in
    let of_folds : are_states (folds_of plan) cut.states ≡ true = lawful answers k is c.states_of_folds.ensures c.states_are_in_order.ensures.written c.states_are_in_order.ensures.named c.vertices-plan.ensures.lawful c.list-in_order.ensures.ordered in
    let narrow : head.shape.k < 2 ^ 32 = omega arith in
    let is_a_cut : IsCut plan head.shape s n cut.states = is_cut answers k is of_folds few narrow c.in-Ok.ensures.fits.fits in
    let epoch : cut.epoch ≡ s.epoch + n = omega (arith, is.from_checkpoint) in
    let last : c.last_of_first-last.result ≡ greatest s.last (take n w) = c.last_of_first-last.ensures in
    let next : Advance (states_by answers plan) (with_more s []) (cut_at s n cut.states) = advance answers k is (c.standings_advance.ensures.cut (tree_of plan) s n (most answers k is)) in
    let holds : Holds (cut_at s n cut.states) (last_epoch s) = c.standings_advance.ensures.holds_cut s (last_epoch s) n cut.states (most answers k is) (omega arith) in
    let base : base_of checkpoint c.self.inside.taken ≡ cut.epoch = ap (base_of checkpoint) at in
    let together = c.told_in_parts.ensures.together in
    subst (λ (z : Keeping g.row.D.Denot). (g.D.Disk.view z.device).lawful → CrashLeaves answers [] z (view z.device).state (view new).state) c.self.view_is
    (λ old.
    let keeps = keeps_of c.self.inside.broken answers plan head side s (view device).state c.if-self.false (c.self.invariant.2 old) in
    let begun = c.in-Ok.ensures.cut.begun old plan head s n slots epoch last is_a_cut keeps in
    let further = either answers plan together head side s [] (view device).state (view new).state (side_after side n) (cut_at s n cut.states) still next holds begun in
    record {
      later = c.in-Ok.ensures.cut.later old keeps.durable;
      images = λ whole. from_start answers plan together head side s [] (view device).state (view new).state (λ d. g.met.D.Disk.only_now device d old) still keeps further;
      further = λ whole. further;
      short = keeps_since plan c.told_in_parts.ensures.one_answer (base_of checkpoint c.self.inside.taken) together head head side (side_after side n) s (cut_at s n cut.states) (view device).state (view new).state
          c.self.invariant.1.from_checkpoint (omega (arith, epoch, base)) begun;
    })

pub returns-in-Device-clause-crash : goal.returns-in-Device-clause-crash
returns-in-Device-clause-crash g c =
    let view = g.D.Disk.view in
    let answers = g.L.Law.answers in
    let device = c.self.inside.device in
    let plan = c.self.inside.plan in
    let head = c.self.inside.head in
    let checkpoint = c.self.inside.checkpoint in
    let side = checkpoint.slot in
    let w = c.self.inside.submitted.items in
    let s = standing_from checkpoint w in
    let still : Advance (states_by answers plan) (with_more s []) s = c.standings_advance.ensures.not_yet (tree_of plan) s [] in
    let new = c.write_states.new.device in
    let cut = c.in-Some.cut in
    let n = cut.epoch - checkpoint.epoch in
    let at : c.self.inside.taken ≡ Some cut = c.in-Some.ensures.some.0 in
    let k = keeping_of device plan head checkpoint w c.self.inside.broken (Some cut) c.self.inside.collected c.self.inside.queue.items c.self.inside.watch in
    let is : IsKeeping k answers = subst (λ (t : Option Taken). IsKeeping (keeping_of device plan head checkpoint w c.self.inside.broken t c.self.inside.collected c.self.inside.queue.items c.self.inside.watch) answers) at c.self.invariant.1 in
    let wide : head.shape.k ≤ 1048576 = subst (λ (z : Slots). z.k ≤ 1048576) c.slots_of-slots.ensures.slots c.slots_of-slots.ensures.within.limit in
    let slots : c.slots_of-slots.result ≡ slots_of head.shape = c.slots_of-slots.ensures.slots in
    let few : length cut.states ≤ head.shape.k = subst (λ (z : Slots). length cut.states ≤ z.k) slots (not_above c.slots_of-slots.result.k (length cut.states) (λ lt. let z = c.in-Err.ensures.refused.too_many.1 lt in let d = c.in-Device.is in absurd (cc (z, d)))) in
    let of_folds : are_states (folds_of plan) cut.states ≡ true = lawful answers k is c.states_of_folds.ensures c.states_are_in_order.ensures.written c.states_are_in_order.ensures.named c.vertices-plan.ensures.lawful c.list-in_order.ensures.ordered in
    let narrow : head.shape.k < 2 ^ 32 = omega arith in
    let is_a_cut : IsCut plan head.shape s n cut.states = is_cut answers k is of_folds few narrow (c.in-Err.ensures.fits.fits_too (ap as_err c.in-Device.is)) in
    let epoch : cut.epoch ≡ s.epoch + n = omega (arith, is.from_checkpoint) in
    let last : c.last_of_first-last.result ≡ greatest s.last (take n w) = c.last_of_first-last.ensures in
    let next : Advance (states_by answers plan) (with_more s []) (cut_at s n cut.states) = advance answers k is (c.standings_advance.ensures.cut (tree_of plan) s n (most answers k is)) in
    let holds : Holds (cut_at s n cut.states) (last_epoch s) = c.standings_advance.ensures.holds_cut s (last_epoch s) n cut.states (most answers k is) (omega arith) in
    let base : base_of checkpoint c.self.inside.taken ≡ cut.epoch = ap (base_of checkpoint) at in
    let together = c.told_in_parts.ensures.together in
    subst (λ (z : Keeping g.row.D.Denot). (g.D.Disk.view z.device).lawful → CrashLeaves answers [] z (view z.device).state (view new).state) c.self.view_is
    (λ old.
    let keeps = keeps_of c.self.inside.broken answers plan head side s (view device).state c.if-self.false (c.self.invariant.2 old) in
    let begun = c.in-Err.ensures.cut.begun old plan head s n slots epoch last is_a_cut keeps in
    let further = either answers plan together head side s [] (view device).state (view new).state (side_after side n) (cut_at s n cut.states) still next holds begun in
    record {
      later = c.in-Err.ensures.cut.later old keeps.durable;
      images = λ whole. from_start answers plan together head side s [] (view device).state (view new).state (λ d. g.met.D.Disk.only_now device d old) still keeps further;
      further = λ whole. further;
      short = keeps_since plan c.told_in_parts.ensures.one_answer (base_of checkpoint c.self.inside.taken) together head head side (side_after side n) s (cut_at s n cut.states) (view device).state (view new).state
          c.self.invariant.1.from_checkpoint (omega (arith, epoch, base)) begun;
    })

pub returns-in-TooManyKeys-clause-crash : goal.returns-in-TooManyKeys-clause-crash
returns-in-TooManyKeys-clause-crash g c old =
    let same : c.write_states.new.device ≡ c.self.inside.device = ⊎_elim (λ d. (let m = c.in-TooManyKeys.is in absurd (cc (d, m)))) (λ e. e) c.in-Err.ensures.refused.untouched in
    subst (λ (d : g.row.D.Denot). CrashLeaves g.L.Law.answers [] c.args.self.now (g.D.Disk.view c.args.self.now.device).state (g.D.Disk.view d).state) (ap (λ (z : Keeping g.row.D.Denot). z.device) (sym c.self.view_is) ∙ sym same)
    (leaves_as_it_was g.D.Disk.view g.met.D.Disk.only_now g.L.Law.answers c.told_in_parts.ensures.together c.standings_advance.ensures.not_yet c.self.view_is c.self.invariant.2 [] old)

pub returns-in-Memory-clause-crash : goal.returns-in-Memory-clause-crash
returns-in-Memory-clause-crash g c old =
    let same : c.write_states.new.device ≡ c.self.inside.device = ⊎_elim (λ d. (let m = c.in-Memory.is in absurd (cc (d, m)))) (λ e. e) c.in-Err.ensures.refused.untouched in
    subst (λ (d : g.row.D.Denot). CrashLeaves g.L.Law.answers [] c.args.self.now (g.D.Disk.view c.args.self.now.device).state (g.D.Disk.view d).state) (ap (λ (z : Keeping g.row.D.Denot). z.device) (sym c.self.view_is) ∙ sym same)
    (leaves_as_it_was g.D.Disk.view g.met.D.Disk.only_now g.L.Law.answers c.told_in_parts.ensures.together c.standings_advance.ensures.not_yet c.self.view_is c.self.invariant.2 [] old)

pub returns-in-Memory-clause-refused : goal.returns-in-Memory-clause-refused
returns-in-Memory-clause-refused g c =
    let view = g.D.Disk.view in
    let answers = g.L.Law.answers in
    let device = c.self.inside.device in
    let plan = c.self.inside.plan in
    let head = c.self.inside.head in
    let checkpoint = c.self.inside.checkpoint in
    let side = checkpoint.slot in
    let w = c.self.inside.submitted.items in
    let s = standing_from checkpoint w in
    let new = c.write_states.new.device in
    let cut = c.in-Some.cut in
    let n = cut.epoch - checkpoint.epoch in
    let at : c.self.inside.taken ≡ Some cut = c.in-Some.ensures.some.0 in
    let k = keeping_of device plan head checkpoint w c.self.inside.broken (Some cut) c.self.inside.collected c.self.inside.queue.items c.self.inside.watch in
    let is : IsKeeping k answers = subst (λ (t : Option Taken). IsKeeping (keeping_of device plan head checkpoint w c.self.inside.broken t c.self.inside.collected c.self.inside.queue.items c.self.inside.watch) answers) at c.self.invariant.1 in
    let slots : c.slots_of-slots.result ≡ slots_of head.shape = c.slots_of-slots.ensures.slots in
    let few : length cut.states ≤ head.shape.k = subst (λ (z : Slots). length cut.states ≤ z.k) slots (not_above c.slots_of-slots.result.k (length cut.states) (λ lt. let z = c.in-Err.ensures.refused.too_many.1 lt in let m = c.in-Memory.is in absurd (cc (z, m)))) in
    let none : write_refusal (keeping_of device plan head checkpoint w c.self.inside.broken c.self.inside.taken c.self.inside.collected c.self.inside.queue.items c.self.inside.watch) ≡ None =
    subst (λ (t : Option Taken). write_refusal (keeping_of device plan head checkpoint w c.self.inside.broken t c.self.inside.collected c.self.inside.queue.items c.self.inside.watch) ≡ None) (sym at) (write_none k c.if-self.false few) in
    let same : new ≡ device = ⊎_elim (λ d. (let m = c.in-Memory.is in absurd (cc (d, m)))) (λ e. e) c.in-Err.ensures.refused.untouched in
    let waits : c.waits_after-waits.result ≡ cut.waits = c.waits_after-waits.ensures ∙ (ap waits_after c.in-Memory.is ∙ sym c.in-Some.ensures.some.1) in
    record {
      cause = inr (sym (ap (λ (z : Keeping g.row.D.Denot). write_refusal z) c.self.view_is) ∙ none, inl refl);
      too_many = λ is. absurd (let never : Memory ≡ TooManyKeys = is in cc);
      broken = λ is. absurd (let never : Memory ≡ Device = is in cc);
      unchanged = inr (inr (ap (λ (b : Bool). record (keeping_of new plan head checkpoint w c.self.inside.broken (Some cut) c.self.inside.collected c.self.inside.queue.items c.self.inside.watch) { waiting = b }) waits
          ∙ ap (λ (d : g.row.D.Denot). keeping_of d plan head checkpoint w c.self.inside.broken (Some cut) c.self.inside.collected c.self.inside.queue.items c.self.inside.watch) same
          ∙ (ap (λ (t : Option Taken). keeping_of device plan head checkpoint w c.self.inside.broken t c.self.inside.collected c.self.inside.queue.items c.self.inside.watch) (sym at) ∙ c.self.view_is)));
    }
