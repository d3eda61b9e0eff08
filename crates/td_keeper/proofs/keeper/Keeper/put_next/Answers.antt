use Rattle.std.proofs.Common.{◌≡◌, inl, inr, Result, Err, ℕ, ◌+◌, ◌^◌, ◌<◌, ◌≤◌, true, false, List, [], ◌++◌, refl, sym, ap, ◌∙◌, subst, arith, rules}
use Rattle.std.specs.Prelude.{Option, length}
use Rattle.std.proofs.lemmas.List.{length-append}
use Rattle.td_watch.specs.View.{View}
use Rattle.td_watch.specs.Words.{KeepsOrder}
use Rattle.td_plan.specs.Tree.{tree_of}
use Rattle.td_gate.specs.CrashSafe.{CrashSafe, Unchanged}
use Rattle.td_head.specs.Layout.{size_of}
use Rattle.td_journal.specs.Numbers.{greatest}
use Rattle.td_journal.specs.declared.error.JournalError.{JournalError as AnyError}
use Rattle.td_journal.specs.declared.error.JournalError.TheVariants as JournalError
use Rattle.td_journal.specs.declared.payload.Submitted.{Submitted}
use Rattle.td_store.specs.standing.Standing.{standing_from, last_epoch, last_request, with_more}
use Rattle.td_store.specs.standing.Stops.{Advance, Holds}
use Rattle.td_store.specs.standing.Told.{ring_of}
use Rattle.td_store.specs.group.Groups.{HasRoomFor}
use Rattle.td_store.specs.standing.Tells.{Keeps}
use Rattle.td_store.specs.standing.Advanced.{AdvancesSince, HeldWhere, states_by}
use Rattle.td_keeper.specs.Grouped.{AllOrNone}
use Rattle.td_keeper.specs.Keeping.{Keeping, IsKeeping, KeepsSince, keeping_of, words_at, published, IsBelow}
use Rattle.td_keeper.proofs.Kept.{submitted, elsewhere}
use Rattle.td_keeper.proofs.Since.{either, from_start, held, by_further, unwritten, either_told, keeps_to, keeps_since, none_beyond, one_or_other, none_since}
use Rattle.td_keeper.proofs.Submitting.{MayCome, may_come_in, keeps_of, held_of, greatest_more, has_room, below_more}
use Rattle.td_keeper.proofs.keeper.Keeper.put_next.Goals as goal

abbrev as_err : AnyError → Result (Unit {0}) AnyError
as_err e = Err e

pub returns-then-is_err-clause-further : goal.returns-then-is_err-clause-further
returns-then-is_err-clause-further g c =
    let view = g.D.Disk.view in
    let answers = g.L.Law.answers in
    let device = c.self.inside.device in
    let x : List Submitted = c.args.group.items in
    subst (λ (z : Keeping g.row.D.Denot). (g.D.Disk.view z.device).lawful → z.broken ≡ false → AdvancesSince answers z.plan z.standing x (last_epoch z.standing) (view z.device).state (view device).state) c.self.view_is
    (λ old whole t f le left. inl left)

pub returns-then-is_err-clause-images : goal.returns-then-is_err-clause-images
returns-then-is_err-clause-images g c old whole =
    let view = g.D.Disk.view in
    by_further g.D.Disk.view g.met.D.Disk.only_now g.L.Law.answers c.told_in_parts.ensures.together c.standings_advance.ensures.not_yet c.self.view_is c.self.invariant.2
    (c.args.group.items) (view c.self.inside.device).state old whole (returns-then-is_err-clause-further g c old whole)

pub returns-in-Ok-clause-further : goal.returns-in-Ok-clause-further
returns-in-Ok-clause-further g c =
    let view = g.D.Disk.view in
    let answers = g.L.Law.answers in
    let device = c.self.inside.device in
    let plan = c.self.inside.plan in
    let head = c.self.inside.head in
    let s = standing_from c.self.inside.checkpoint c.self.inside.submitted.items in
    let side = c.self.inside.checkpoint.slot in
    let x : List Submitted = c.args.group.items in
    let y : List Submitted = c.deref.result.now in
    let same : y ≡ x = c.deref.ensures.value in
    let still : Advance (states_by answers plan) (with_more s y) s = c.standings_advance.ensures.not_yet (tree_of plan) s y in
    let k = keeping_of device plan head c.self.inside.checkpoint c.self.inside.submitted.items c.self.inside.broken c.self.inside.taken c.self.inside.collected c.self.inside.queue.items c.self.inside.watch in
    let taken : MayCome k y = may_come_in c.self.view_is same (record { some = c.requires.some; whole = c.requires.whole; lawful = c.requires.lawful; few = c.requires.few; small = c.requires.small; room = c.requires.room; fresh = c.requires.fresh }) in
    let epoch : c.last_epoch-first.result + 1 ≡ last_epoch s + 1 = ap (λ (n : ℕ). n + 1) (c.last_epoch-first.ensures ∙ sym (ap (λ (z : Keeping g.row.D.Denot). last_epoch z.standing) c.self.view_is)) in
    let ring : c.ring_of-journal.result ≡ ring_of head.shape s.epoch = c.ring_of-journal.ensures.ring in
    let room : HasRoomFor head.shape s (c.last_epoch-first.result + 1) (length y) = has_room k y (c.last_epoch-first.result + 1) taken epoch in
    let more : Advance (states_by answers plan) (with_more s y) (with_more s y) = c.standings_advance.ensures.submitted (tree_of plan) s y in
    let holds : Holds (with_more s y) (last_epoch s) = c.standings_advance.ensures.holds s (last_epoch s) y (omega arith) in
    let old_k = c.args.self.now in
    subst (λ (l : List Submitted). (g.D.Disk.view old_k.device).lawful → old_k.broken ≡ false → AdvancesSince answers old_k.plan old_k.standing l (last_epoch old_k.standing) (view old_k.device).state (view c.submit_group.new.device).state) same
    (subst (λ (z : Keeping g.row.D.Denot). (g.D.Disk.view z.device).lawful → z.broken ≡ false → AdvancesSince answers z.plan z.standing y (last_epoch z.standing) (view z.device).state (view c.submit_group.new.device).state) c.self.view_is
    (λ old whole.
    let keeps = keeps_of c.self.inside.broken answers plan head side s (view device).state whole (c.self.invariant.2 old) in
    either answers plan c.told_in_parts.ensures.together head side s y (view device).state (view c.submit_group.new.device).state side (with_more s y) still more holds
    (c.in-Ok.ensures.group.begun old plan head side s ring room taken.fresh taken.lawful keeps)))

pub returns-in-Ok-clause-images : goal.returns-in-Ok-clause-images
returns-in-Ok-clause-images g c old whole =
    let view = g.D.Disk.view in
    by_further g.D.Disk.view g.met.D.Disk.only_now g.L.Law.answers c.told_in_parts.ensures.together c.standings_advance.ensures.not_yet c.self.view_is c.self.invariant.2
    (c.args.group.items) (view c.submit_group.new.device).state old whole (returns-in-Ok-clause-further g c old whole)

pub words_at-words-requires : goal.words_at-words-requires
words_at-words-requires g c =
    let x : List Submitted = c.args.group.items in
    let items : c.append.new.queue.items ≡ c.self.inside.submitted.items ++ x = c.append.ensures ∙ ap (λ (l : List Submitted). l ++ x) c.reserve.ensures.items in
    let k = keeping_of c.self.inside.device c.self.inside.plan c.self.inside.head c.self.inside.checkpoint c.self.inside.submitted.items c.self.inside.broken c.self.inside.taken c.self.inside.collected c.self.inside.queue.items c.self.inside.watch in
    let small = (may_come_in c.self.view_is refl (record { some = c.requires.some; whole = c.requires.whole; lawful = c.requires.lawful; few = c.requires.few; small = c.requires.small; room = c.requires.room; fresh = c.requires.fresh })).small in
    let size : length (c.self.inside.submitted.items ++ x) ≡ length c.self.inside.submitted.items + length x = length-append c.self.inside.submitted.items x in
    subst (λ (v : List Submitted). last_epoch (standing_from c.self.inside.checkpoint v) < 2 ^ 63) (sym items) (omega (arith, small, size))

pub publish-requires-clause-ordered : goal.publish-requires-clause-ordered
publish-requires-clause-ordered g c =
    let s = standing_from c.self.inside.checkpoint c.self.inside.submitted.items in
    let x : List Submitted = c.args.group.items in
    let items : c.append.new.queue.items ≡ c.self.inside.submitted.items ++ x = c.append.ensures ∙ ap (λ (l : List Submitted). l ++ x) c.reserve.ensures.items in
    let words : c.words_at-words.result ≡ words_at (with_more s x) c.self.inside.collected =
    c.words_at-words.ensures ∙ ap (λ (v : List Submitted). words_at (standing_from c.self.inside.checkpoint v) c.self.inside.collected) items in
    let keeping = c.self.invariant.1 in
    let size : length (c.self.inside.submitted.items ++ x) ≡ length c.self.inside.submitted.items + length x = length-append c.self.inside.submitted.items x in
    subst KeepsOrder (sym words) (omega (arith, keeping.from_checkpoint, keeping.collected), omega (arith, keeping.done, size))

pub publish-requires-clause-rises : goal.publish-requires-clause-rises
publish-requires-clause-rises g c =
    let s = standing_from c.self.inside.checkpoint c.self.inside.submitted.items in
    let x : List Submitted = c.args.group.items in
    let items : c.append.new.queue.items ≡ c.self.inside.submitted.items ++ x = c.append.ensures ∙ ap (λ (l : List Submitted). l ++ x) c.reserve.ensures.items in
    let words : c.words_at-words.result ≡ words_at (with_more s x) c.self.inside.collected =
    c.words_at-words.ensures ∙ ap (λ (v : List Submitted). words_at (standing_from c.self.inside.checkpoint v) c.self.inside.collected) items in
    subst (IsBelow c.self.inside.watch) (sym words) (below_more c.self.inside.watch s x c.self.inside.collected c.self.invariant.1.watched)

pub invariant_of-self-in-Ok : goal.invariant_of-self-in-Ok
invariant_of-self-in-Ok g c =
    let view = g.D.Disk.view in
    let answers = g.L.Law.answers in
    let device = c.self.inside.device in
    let plan = c.self.inside.plan in
    let head = c.self.inside.head in
    let s = standing_from c.self.inside.checkpoint c.self.inside.submitted.items in
    let side = c.self.inside.checkpoint.slot in
    let x : List Submitted = c.args.group.items in
    let y : List Submitted = c.deref.result.now in
    let same : y ≡ x = c.deref.ensures.value in
    let k = keeping_of device plan head c.self.inside.checkpoint c.self.inside.submitted.items c.self.inside.broken c.self.inside.taken c.self.inside.collected c.self.inside.queue.items c.self.inside.watch in
    let taken : MayCome k y = may_come_in c.self.view_is same (record { some = c.requires.some; whole = c.requires.whole; lawful = c.requires.lawful; few = c.requires.few; small = c.requires.small; room = c.requires.room; fresh = c.requires.fresh }) in
    let epoch : c.last_epoch-first.result + 1 ≡ last_epoch s + 1 = ap (λ (n : ℕ). n + 1) (c.last_epoch-first.ensures ∙ sym (ap (λ (z : Keeping g.row.D.Denot). last_epoch z.standing) c.self.view_is)) in
    let ring : c.ring_of-journal.result ≡ ring_of head.shape s.epoch = c.ring_of-journal.ensures.ring in
    let room : HasRoomFor head.shape s (c.last_epoch-first.result + 1) (length y) = has_room k y (c.last_epoch-first.result + 1) taken epoch in
    let at_x : MayCome k x = subst (MayCome k) same taken in
    let new = c.submit_group.new.device in
    let items : c.append.new.queue.items ≡ c.self.inside.submitted.items ++ x = c.append.ensures ∙ ap (λ (l : List Submitted). l ++ x) c.reserve.ensures.items in
    let watch : c.publish.new.watch ≡ published c.self.inside.watch (words_at (with_more s x) c.self.inside.collected) =
    c.publish.ensures ∙ ap (published c.self.inside.watch) (c.words_at-words.ensures ∙ ap (λ (v : List Submitted). words_at (standing_from c.self.inside.checkpoint v) c.self.inside.collected) items) in (
      subst (λ (n : ℕ). size_of head.shape ≤ n) (sym c.in-Ok.ensures.device.size) c.self.invariant.0,
      subst (λ (v : List Submitted). IsKeeping (keeping_of new plan head c.self.inside.checkpoint v c.self.inside.broken c.self.inside.taken c.self.inside.collected c.self.inside.queue.items c.publish.new.watch) answers) (sym items)
          (subst (λ (o : Option View). IsKeeping (keeping_of new plan head c.self.inside.checkpoint (c.self.inside.submitted.items ++ x) c.self.inside.broken c.self.inside.taken c.self.inside.collected c.self.inside.queue.items o) answers) (sym watch)
          (submitted answers k new x c.self.invariant.1 at_x.lawful at_x.room at_x.small)),
      λ l.
          let old = c.in-Ok.ensures.device.lawful.1 l in
          let keeps = keeps_of c.self.inside.broken answers plan head side s (view device).state taken.whole (c.self.invariant.2 old) in
          subst (λ (v : List Submitted). HeldWhere c.self.inside.broken answers plan head side (standing_from c.self.inside.checkpoint v) (view new).state) (sym items)
          (held_of c.self.inside.broken answers plan head side (with_more s x) (view new).state taken.whole
          (subst (λ (l : List Submitted). Keeps plan head side (with_more s l) (view new).state) same (c.in-Ok.ensures.group.done old plan head side s ring room taken.fresh taken.lawful keeps))),
      c.greatest_request-self-inside.ensures ∙ (ap (λ (l : List Submitted). greatest c.self.inside.last_request l) c.deref-in-Ok.ensures.value ∙ (ap (λ (n : ℕ). greatest n x) c.self.invariant.3
          ∙ (sym (greatest_more c.self.inside.checkpoint.last c.self.inside.submitted.items x) ∙ ap (greatest c.self.inside.checkpoint.last) (sym items)))),
      λ l. none_beyond c.self.inside.broken plan k.base (view new).state taken.whole,
    )

pub returns-in-Device-clause-further : goal.returns-in-Device-clause-further
returns-in-Device-clause-further g c =
    let view = g.D.Disk.view in
    let answers = g.L.Law.answers in
    let device = c.self.inside.device in
    let plan = c.self.inside.plan in
    let head = c.self.inside.head in
    let s = standing_from c.self.inside.checkpoint c.self.inside.submitted.items in
    let side = c.self.inside.checkpoint.slot in
    let x : List Submitted = c.args.group.items in
    let y : List Submitted = c.deref.result.now in
    let same : y ≡ x = c.deref.ensures.value in
    let still : Advance (states_by answers plan) (with_more s y) s = c.standings_advance.ensures.not_yet (tree_of plan) s y in
    let k = keeping_of device plan head c.self.inside.checkpoint c.self.inside.submitted.items c.self.inside.broken c.self.inside.taken c.self.inside.collected c.self.inside.queue.items c.self.inside.watch in
    let taken : MayCome k y = may_come_in c.self.view_is same (record { some = c.requires.some; whole = c.requires.whole; lawful = c.requires.lawful; few = c.requires.few; small = c.requires.small; room = c.requires.room; fresh = c.requires.fresh }) in
    let epoch : c.last_epoch-first.result + 1 ≡ last_epoch s + 1 = ap (λ (n : ℕ). n + 1) (c.last_epoch-first.ensures ∙ sym (ap (λ (z : Keeping g.row.D.Denot). last_epoch z.standing) c.self.view_is)) in
    let ring : c.ring_of-journal.result ≡ ring_of head.shape s.epoch = c.ring_of-journal.ensures.ring in
    let room : HasRoomFor head.shape s (c.last_epoch-first.result + 1) (length y) = has_room k y (c.last_epoch-first.result + 1) taken epoch in
    let more : Advance (states_by answers plan) (with_more s y) (with_more s y) = c.standings_advance.ensures.submitted (tree_of plan) s y in
    let holds : Holds (with_more s y) (last_epoch s) = c.standings_advance.ensures.holds s (last_epoch s) y (omega arith) in
    let old_k = c.args.self.now in
    subst (λ (l : List Submitted). (g.D.Disk.view old_k.device).lawful → old_k.broken ≡ false → AdvancesSince answers old_k.plan old_k.standing l (last_epoch old_k.standing) (view old_k.device).state (view c.submit_group.new.device).state) same
    (subst (λ (z : Keeping g.row.D.Denot). (g.D.Disk.view z.device).lawful → z.broken ≡ false → AdvancesSince answers z.plan z.standing y (last_epoch z.standing) (view z.device).state (view c.submit_group.new.device).state) c.self.view_is
    (λ old whole.
    let keeps = keeps_of c.self.inside.broken answers plan head side s (view device).state whole (c.self.invariant.2 old) in
    either answers plan c.told_in_parts.ensures.together head side s y (view device).state (view c.submit_group.new.device).state side (with_more s y) still more holds
    (c.in-Err.ensures.group.begun old plan head side s ring room taken.fresh taken.lawful keeps)))

pub returns-in-Device-clause-images : goal.returns-in-Device-clause-images
returns-in-Device-clause-images g c old whole =
    let view = g.D.Disk.view in
    by_further g.D.Disk.view g.met.D.Disk.only_now g.L.Law.answers c.told_in_parts.ensures.together c.standings_advance.ensures.not_yet c.self.view_is c.self.invariant.2
    (c.args.group.items) (view c.submit_group.new.device).state old whole (returns-in-Device-clause-further g c old whole)

pub returns-in-Memory-clause-further : goal.returns-in-Memory-clause-further
returns-in-Memory-clause-further g c =
    let view = g.D.Disk.view in
    let answers = g.L.Law.answers in
    let device = c.self.inside.device in
    let plan = c.self.inside.plan in
    let head = c.self.inside.head in
    let s = standing_from c.self.inside.checkpoint c.self.inside.submitted.items in
    let side = c.self.inside.checkpoint.slot in
    let x : List Submitted = c.args.group.items in
    let y : List Submitted = c.deref.result.now in
    let same : y ≡ x = c.deref.ensures.value in
    let still : Advance (states_by answers plan) (with_more s y) s = c.standings_advance.ensures.not_yet (tree_of plan) s y in
    let k = keeping_of device plan head c.self.inside.checkpoint c.self.inside.submitted.items c.self.inside.broken c.self.inside.taken c.self.inside.collected c.self.inside.queue.items c.self.inside.watch in
    let taken : MayCome k y = may_come_in c.self.view_is same (record { some = c.requires.some; whole = c.requires.whole; lawful = c.requires.lawful; few = c.requires.few; small = c.requires.small; room = c.requires.room; fresh = c.requires.fresh }) in
    let epoch : c.last_epoch-first.result + 1 ≡ last_epoch s + 1 = ap (λ (n : ℕ). n + 1) (c.last_epoch-first.ensures ∙ sym (ap (λ (z : Keeping g.row.D.Denot). last_epoch z.standing) c.self.view_is)) in
    let ring : c.ring_of-journal.result ≡ ring_of head.shape s.epoch = c.ring_of-journal.ensures.ring in
    let room : HasRoomFor head.shape s (c.last_epoch-first.result + 1) (length y) = has_room k y (c.last_epoch-first.result + 1) taken epoch in
    let more : Advance (states_by answers plan) (with_more s y) (with_more s y) = c.standings_advance.ensures.submitted (tree_of plan) s y in
    let holds : Holds (with_more s y) (last_epoch s) = c.standings_advance.ensures.holds s (last_epoch s) y (omega arith) in
    let old_k = c.args.self.now in
    subst (λ (l : List Submitted). (g.D.Disk.view old_k.device).lawful → old_k.broken ≡ false → AdvancesSince answers old_k.plan old_k.standing l (last_epoch old_k.standing) (view old_k.device).state (view c.submit_group.new.device).state) same
    (subst (λ (z : Keeping g.row.D.Denot). (g.D.Disk.view z.device).lawful → z.broken ≡ false → AdvancesSince answers z.plan z.standing y (last_epoch z.standing) (view z.device).state (view c.submit_group.new.device).state) c.self.view_is
    (λ old whole.
    let keeps = keeps_of c.self.inside.broken answers plan head side s (view device).state whole (c.self.invariant.2 old) in
    either answers plan c.told_in_parts.ensures.together head side s y (view device).state (view c.submit_group.new.device).state side (with_more s y) still more holds
    (c.in-Err.ensures.group.begun old plan head side s ring room taken.fresh taken.lawful keeps)))

pub returns-in-Memory-clause-images : goal.returns-in-Memory-clause-images
returns-in-Memory-clause-images g c old whole =
    let view = g.D.Disk.view in
    by_further g.D.Disk.view g.met.D.Disk.only_now g.L.Law.answers c.told_in_parts.ensures.together c.standings_advance.ensures.not_yet c.self.view_is c.self.invariant.2
    (c.args.group.items) (view c.submit_group.new.device).state old whole (returns-in-Memory-clause-further g c old whole)

pub invariant_of-self-in-Device : goal.invariant_of-self-in-Device
invariant_of-self-in-Device g c =
    let view = g.D.Disk.view in
    let answers = g.L.Law.answers in
    let device = c.self.inside.device in
    let plan = c.self.inside.plan in
    let head = c.self.inside.head in
    let s = standing_from c.self.inside.checkpoint c.self.inside.submitted.items in
    let side = c.self.inside.checkpoint.slot in
    let x : List Submitted = c.args.group.items in
    let y : List Submitted = c.deref.result.now in
    let same : y ≡ x = c.deref.ensures.value in
    let still : Advance (states_by answers plan) (with_more s y) s = c.standings_advance.ensures.not_yet (tree_of plan) s y in
    let k = keeping_of device plan head c.self.inside.checkpoint c.self.inside.submitted.items c.self.inside.broken c.self.inside.taken c.self.inside.collected c.self.inside.queue.items c.self.inside.watch in
    let taken : MayCome k y = may_come_in c.self.view_is same (record { some = c.requires.some; whole = c.requires.whole; lawful = c.requires.lawful; few = c.requires.few; small = c.requires.small; room = c.requires.room; fresh = c.requires.fresh }) in
    let epoch : c.last_epoch-first.result + 1 ≡ last_epoch s + 1 = ap (λ (n : ℕ). n + 1) (c.last_epoch-first.ensures ∙ sym (ap (λ (z : Keeping g.row.D.Denot). last_epoch z.standing) c.self.view_is)) in
    let ring : c.ring_of-journal.result ≡ ring_of head.shape s.epoch = c.ring_of-journal.ensures.ring in
    let room : HasRoomFor head.shape s (c.last_epoch-first.result + 1) (length y) = has_room k y (c.last_epoch-first.result + 1) taken epoch in
    let more : Advance (states_by answers plan) (with_more s y) (with_more s y) = c.standings_advance.ensures.submitted (tree_of plan) s y in
    let holds : Holds (with_more s y) (last_epoch s) = c.standings_advance.ensures.holds s (last_epoch s) y (omega arith) in
    let new = c.submit_group.new.device in (
      subst (λ (n : ℕ). size_of head.shape ≤ n) (sym c.in-Err.ensures.device.size) c.self.invariant.0,
      subst (λ (v : List Submitted). IsKeeping (keeping_of new plan head c.self.inside.checkpoint v true c.self.inside.taken c.self.inside.collected c.self.inside.queue.items c.self.inside.watch) answers) (sym c.reserve.ensures.items)
          (elsewhere answers k new true c.self.invariant.1),
      λ l.
          let old = c.in-Err.ensures.device.lawful.1 l in
          let keeps = keeps_of c.self.inside.broken answers plan head side s (view device).state taken.whole (c.self.invariant.2 old) in
          let later : (view device).state.moment ≤ (view new).state.moment = c.in-Err.ensures.group.later old keeps.durable in
          subst (λ (v : List Submitted). HeldWhere true answers plan head side (standing_from c.self.inside.checkpoint v) (view new).state) (sym c.reserve.ensures.items)
          (held answers plan head side s y (view device).state.moment (view new).state (λ d now. g.met.D.Disk.counts_now new (view device).state.moment d l later now)
          (from_start answers plan c.told_in_parts.ensures.together head side s y (view device).state (view new).state (λ d. g.met.D.Disk.only_now device d old) still keeps
          (either answers plan c.told_in_parts.ensures.together head side s y (view device).state (view new).state side (with_more s y) still more holds
          (c.in-Err.ensures.group.begun old plan head side s ring room taken.fresh taken.lawful keeps)))),
      subst (λ (v : List Submitted). c.self.inside.last_request ≡ greatest c.self.inside.checkpoint.last v) (sym c.reserve.ensures.items) c.self.invariant.3,
      λ l.
          let old = c.in-Err.ensures.device.lawful.1 l in
          let keeps = keeps_of c.self.inside.broken answers plan head side s (view device).state taken.whole (c.self.invariant.2 old) in
          let later : (view device).state.moment ≤ (view new).state.moment = c.in-Err.ensures.group.later old keeps.durable in
          keeps_to plan c.told_in_parts.ensures.one_answer k.base s (with_more s y) (view device).state.moment (view new).state (λ d now. g.met.D.Disk.counts_now new (view device).state.moment d l later now)
          (either_told plan c.told_in_parts.ensures.together head head side side s (with_more s y) (view device).state (view new).state (λ d. g.met.D.Disk.only_now device d old) keeps
          (c.in-Err.ensures.group.begun old plan head side s ring room taken.fresh taken.lawful keeps))
          c.self.invariant.1.from_checkpoint c.self.invariant.1.from_checkpoint,
    )

pub invariant_of-self-in-Memory : goal.invariant_of-self-in-Memory
invariant_of-self-in-Memory g c =
    let view = g.D.Disk.view in
    let answers = g.L.Law.answers in
    let device = c.self.inside.device in
    let plan = c.self.inside.plan in
    let head = c.self.inside.head in
    let s = standing_from c.self.inside.checkpoint c.self.inside.submitted.items in
    let side = c.self.inside.checkpoint.slot in
    let x : List Submitted = c.args.group.items in
    let y : List Submitted = c.deref.result.now in
    let same : y ≡ x = c.deref.ensures.value in
    let k = keeping_of device plan head c.self.inside.checkpoint c.self.inside.submitted.items c.self.inside.broken c.self.inside.taken c.self.inside.collected c.self.inside.queue.items c.self.inside.watch in
    let taken : MayCome k y = may_come_in c.self.view_is same (record { some = c.requires.some; whole = c.requires.whole; lawful = c.requires.lawful; few = c.requires.few; small = c.requires.small; room = c.requires.room; fresh = c.requires.fresh }) in
    let new = c.submit_group.new.device in (
      subst (λ (n : ℕ). size_of head.shape ≤ n) (sym c.in-Err.ensures.device.size) c.self.invariant.0,
      subst (λ (v : List Submitted). IsKeeping (keeping_of new plan head c.self.inside.checkpoint v c.self.inside.broken c.self.inside.taken c.self.inside.collected c.self.inside.queue.items c.self.inside.watch) answers) (sym c.reserve.ensures.items)
          (elsewhere answers k new c.self.inside.broken c.self.invariant.1),
      λ l.
          let old = c.in-Err.ensures.device.lawful.1 l in
          let keeps = keeps_of c.self.inside.broken answers plan head side s (view device).state taken.whole (c.self.invariant.2 old) in
          let memory : c.in-Err.refusal ≡ JournalError.Memory = c.in-Memory.is in
          subst (λ (v : List Submitted). HeldWhere c.self.inside.broken answers plan head side (standing_from c.self.inside.checkpoint v) (view new).state) (sym c.reserve.ensures.items)
          (held_of c.self.inside.broken answers plan head side s (view new).state taken.whole (c.in-Err.ensures.group.kept (ap as_err memory) old plan head side s keeps)),
      subst (λ (v : List Submitted). c.self.inside.last_request ≡ greatest c.self.inside.checkpoint.last v) (sym c.reserve.ensures.items) c.self.invariant.3,
      λ l. none_beyond c.self.inside.broken plan k.base (view new).state taken.whole,
    )

pub returns-in-Memory-clause-unwritten : goal.returns-in-Memory-clause-unwritten
returns-in-Memory-clause-unwritten g c is =
    let memory : c.in-Err.refusal ≡ JournalError.Memory = c.in-Memory.is in
    subst (λ (z : Keeping g.row.D.Denot). (g.D.Disk.view z.device).lawful → CrashSafe Unchanged (g.D.Disk.view z.device).state (g.D.Disk.view c.submit_group.new.device).state) c.self.view_is
    (λ old. c.in-Err.ensures.group.unwritten (ap as_err memory) old)

pub returns-in-Ok-clause-later : goal.returns-in-Ok-clause-later
returns-in-Ok-clause-later g c =
    let view = g.D.Disk.view in
    let answers = g.L.Law.answers in
    let device = c.self.inside.device in
    let plan = c.self.inside.plan in
    let head = c.self.inside.head in
    let s = standing_from c.self.inside.checkpoint c.self.inside.submitted.items in
    let side = c.self.inside.checkpoint.slot in
    let whole : c.self.inside.broken ≡ false = ap (λ (z : Keeping g.row.D.Denot). z.broken) c.self.view_is ∙ c.requires.whole in
    subst (λ (z : Keeping g.row.D.Denot). (g.D.Disk.view z.device).lawful → (view z.device).state.moment ≤ (view c.submit_group.new.device).state.moment) c.self.view_is
    (λ old. c.in-Ok.ensures.group.later old (keeps_of c.self.inside.broken answers plan head side s (view device).state whole (c.self.invariant.2 old)).durable)

pub returns-in-Device-clause-later : goal.returns-in-Device-clause-later
returns-in-Device-clause-later g c =
    let view = g.D.Disk.view in
    let answers = g.L.Law.answers in
    let device = c.self.inside.device in
    let plan = c.self.inside.plan in
    let head = c.self.inside.head in
    let s = standing_from c.self.inside.checkpoint c.self.inside.submitted.items in
    let side = c.self.inside.checkpoint.slot in
    let whole : c.self.inside.broken ≡ false = ap (λ (z : Keeping g.row.D.Denot). z.broken) c.self.view_is ∙ c.requires.whole in
    subst (λ (z : Keeping g.row.D.Denot). (g.D.Disk.view z.device).lawful → (view z.device).state.moment ≤ (view c.submit_group.new.device).state.moment) c.self.view_is
    (λ old. c.in-Err.ensures.group.later old (keeps_of c.self.inside.broken answers plan head side s (view device).state whole (c.self.invariant.2 old)).durable)

pub returns-then-is_err-clause-nothing : goal.returns-then-is_err-clause-nothing
returns-then-is_err-clause-nothing g c =
    let view = g.D.Disk.view in
    let answers = g.L.Law.answers in
    let device = c.self.inside.device in
    inr (subst (λ (z : Keeping g.row.D.Denot). (g.D.Disk.view z.device).lawful → z.broken ≡ false → AdvancesSince answers z.plan z.standing [] (last_epoch z.standing) (view z.device).state (view device).state) c.self.view_is
    (λ old whole t f le left. inl left))

pub returns-in-Memory-clause-nothing : goal.returns-in-Memory-clause-nothing
returns-in-Memory-clause-nothing g c =
    let view = g.D.Disk.view in
    let answers = g.L.Law.answers in
    let device = c.self.inside.device in
    let plan = c.self.inside.plan in
    let head = c.self.inside.head in
    let s = standing_from c.self.inside.checkpoint c.self.inside.submitted.items in
    let side = c.self.inside.checkpoint.slot in
    let memory : c.in-Err.refusal ≡ JournalError.Memory = c.in-Memory.is in
    let still : Advance (states_by answers plan) (with_more s []) s = c.standings_advance.ensures.not_yet (tree_of plan) s [] in
    inr (subst (λ (z : Keeping g.row.D.Denot). (g.D.Disk.view z.device).lawful → z.broken ≡ false → AdvancesSince answers z.plan z.standing [] (last_epoch z.standing) (view z.device).state (view c.submit_group.new.device).state) c.self.view_is
    (λ old whole.
    let keeps = keeps_of c.self.inside.broken answers plan head side s (view device).state whole (c.self.invariant.2 old) in
    unwritten answers plan c.told_in_parts.ensures.together head side s [] (view device).state (view c.submit_group.new.device).state (c.in-Err.ensures.group.unwritten (ap as_err memory) old) still keeps))

pub returns-in-Memory-clause-unchanged : goal.returns-in-Memory-clause-unchanged
returns-in-Memory-clause-unchanged g c = search rules

pub returns-in-Memory-clause-device : goal.returns-in-Memory-clause-device
returns-in-Memory-clause-device g c = search rules

pub returns-in-Memory-clause-broken : goal.returns-in-Memory-clause-broken
returns-in-Memory-clause-broken g c = search rules

pub returns-in-Ok-clause-last_request : goal.returns-in-Ok-clause-last_request
returns-in-Ok-clause-last_request g c =
    let x : List Submitted = c.args.group.items in
    let checkpoint = c.self.inside.checkpoint in
    let items : c.append.new.queue.items ≡ c.self.inside.submitted.items ++ x = c.append.ensures ∙ ap (λ (l : List Submitted). l ++ x) c.reserve.ensures.items in
    ap (greatest checkpoint.last) items
    ∙ (greatest_more checkpoint.last c.self.inside.submitted.items x ∙ ap (λ (z : Keeping g.row.D.Denot). greatest (last_request z.standing) x) c.self.view_is)

pub returns-in-Ok-clause-all_or_none : goal.returns-in-Ok-clause-all_or_none
returns-in-Ok-clause-all_or_none g c =
    let view = g.D.Disk.view in
    let device = c.self.inside.device in
    let plan = c.self.inside.plan in
    let head = c.self.inside.head in
    let s = standing_from c.self.inside.checkpoint c.self.inside.submitted.items in
    let side = c.self.inside.checkpoint.slot in
    let x : List Submitted = c.args.group.items in
    let y : List Submitted = c.deref.result.now in
    let same : y ≡ x = c.deref.ensures.value in
    let k = keeping_of device plan head c.self.inside.checkpoint c.self.inside.submitted.items c.self.inside.broken c.self.inside.taken c.self.inside.collected c.self.inside.queue.items c.self.inside.watch in
    let taken : MayCome k y = may_come_in c.self.view_is same (record { some = c.requires.some; whole = c.requires.whole; lawful = c.requires.lawful; few = c.requires.few; small = c.requires.small; room = c.requires.room; fresh = c.requires.fresh }) in
    let epoch : c.last_epoch-first.result + 1 ≡ last_epoch s + 1 = ap (λ (n : ℕ). n + 1) (c.last_epoch-first.ensures ∙ sym (ap (λ (z : Keeping g.row.D.Denot). last_epoch z.standing) c.self.view_is)) in
    let ring : c.ring_of-journal.result ≡ ring_of head.shape s.epoch = c.ring_of-journal.ensures.ring in
    let room : HasRoomFor head.shape s (c.last_epoch-first.result + 1) (length y) = has_room k y (c.last_epoch-first.result + 1) taken epoch in
    subst (λ (z : Keeping g.row.D.Denot). (g.D.Disk.view z.device).lawful → z.broken ≡ false → AllOrNone z.plan z.standing x (view z.device).state.moment (view c.submit_group.new.device).state) c.self.view_is
    (subst (λ (l : List Submitted). (g.D.Disk.view device).lawful → c.self.inside.broken ≡ false → AllOrNone plan s l (view device).state.moment (view c.submit_group.new.device).state) same
    (λ old whole.
    let keeps = keeps_of c.self.inside.broken g.L.Law.answers plan head side s (view device).state whole (c.self.invariant.2 old) in
    one_or_other plan c.told_in_parts.ensures.together head side s (with_more s y) (view device).state (view c.submit_group.new.device).state (λ d. g.met.D.Disk.only_now device d old) keeps
    (c.in-Ok.ensures.group.begun old plan head side s ring room taken.fresh taken.lawful keeps)))

pub returns-in-Device-clause-all_or_none : goal.returns-in-Device-clause-all_or_none
returns-in-Device-clause-all_or_none g c =
    let view = g.D.Disk.view in
    let device = c.self.inside.device in
    let plan = c.self.inside.plan in
    let head = c.self.inside.head in
    let s = standing_from c.self.inside.checkpoint c.self.inside.submitted.items in
    let side = c.self.inside.checkpoint.slot in
    let x : List Submitted = c.args.group.items in
    let y : List Submitted = c.deref.result.now in
    let same : y ≡ x = c.deref.ensures.value in
    let k = keeping_of device plan head c.self.inside.checkpoint c.self.inside.submitted.items c.self.inside.broken c.self.inside.taken c.self.inside.collected c.self.inside.queue.items c.self.inside.watch in
    let taken : MayCome k y = may_come_in c.self.view_is same (record { some = c.requires.some; whole = c.requires.whole; lawful = c.requires.lawful; few = c.requires.few; small = c.requires.small; room = c.requires.room; fresh = c.requires.fresh }) in
    let epoch : c.last_epoch-first.result + 1 ≡ last_epoch s + 1 = ap (λ (n : ℕ). n + 1) (c.last_epoch-first.ensures ∙ sym (ap (λ (z : Keeping g.row.D.Denot). last_epoch z.standing) c.self.view_is)) in
    let ring : c.ring_of-journal.result ≡ ring_of head.shape s.epoch = c.ring_of-journal.ensures.ring in
    let room : HasRoomFor head.shape s (c.last_epoch-first.result + 1) (length y) = has_room k y (c.last_epoch-first.result + 1) taken epoch in
    subst (λ (z : Keeping g.row.D.Denot). (g.D.Disk.view z.device).lawful → z.broken ≡ false → AllOrNone z.plan z.standing x (view z.device).state.moment (view c.submit_group.new.device).state) c.self.view_is
    (subst (λ (l : List Submitted). (g.D.Disk.view device).lawful → c.self.inside.broken ≡ false → AllOrNone plan s l (view device).state.moment (view c.submit_group.new.device).state) same
    (λ old whole.
    let keeps = keeps_of c.self.inside.broken g.L.Law.answers plan head side s (view device).state whole (c.self.invariant.2 old) in
    one_or_other plan c.told_in_parts.ensures.together head side s (with_more s y) (view device).state (view c.submit_group.new.device).state (λ d. g.met.D.Disk.only_now device d old) keeps
    (c.in-Err.ensures.group.begun old plan head side s ring room taken.fresh taken.lawful keeps)))

pub returns-in-Memory-clause-all_or_none : goal.returns-in-Memory-clause-all_or_none
returns-in-Memory-clause-all_or_none g c =
    let view = g.D.Disk.view in
    let device = c.self.inside.device in
    let plan = c.self.inside.plan in
    let head = c.self.inside.head in
    let s = standing_from c.self.inside.checkpoint c.self.inside.submitted.items in
    let side = c.self.inside.checkpoint.slot in
    let x : List Submitted = c.args.group.items in
    let y : List Submitted = c.deref.result.now in
    let same : y ≡ x = c.deref.ensures.value in
    let k = keeping_of device plan head c.self.inside.checkpoint c.self.inside.submitted.items c.self.inside.broken c.self.inside.taken c.self.inside.collected c.self.inside.queue.items c.self.inside.watch in
    let taken : MayCome k y = may_come_in c.self.view_is same (record { some = c.requires.some; whole = c.requires.whole; lawful = c.requires.lawful; few = c.requires.few; small = c.requires.small; room = c.requires.room; fresh = c.requires.fresh }) in
    let epoch : c.last_epoch-first.result + 1 ≡ last_epoch s + 1 = ap (λ (n : ℕ). n + 1) (c.last_epoch-first.ensures ∙ sym (ap (λ (z : Keeping g.row.D.Denot). last_epoch z.standing) c.self.view_is)) in
    let ring : c.ring_of-journal.result ≡ ring_of head.shape s.epoch = c.ring_of-journal.ensures.ring in
    let room : HasRoomFor head.shape s (c.last_epoch-first.result + 1) (length y) = has_room k y (c.last_epoch-first.result + 1) taken epoch in
    subst (λ (z : Keeping g.row.D.Denot). (g.D.Disk.view z.device).lawful → z.broken ≡ false → AllOrNone z.plan z.standing x (view z.device).state.moment (view c.submit_group.new.device).state) c.self.view_is
    (subst (λ (l : List Submitted). (g.D.Disk.view device).lawful → c.self.inside.broken ≡ false → AllOrNone plan s l (view device).state.moment (view c.submit_group.new.device).state) same
    (λ old whole.
    let keeps = keeps_of c.self.inside.broken g.L.Law.answers plan head side s (view device).state whole (c.self.invariant.2 old) in
    one_or_other plan c.told_in_parts.ensures.together head side s (with_more s y) (view device).state (view c.submit_group.new.device).state (λ d. g.met.D.Disk.only_now device d old) keeps
    (c.in-Err.ensures.group.begun old plan head side s ring room taken.fresh taken.lawful keeps)))

pub returns-then-is_err-clause-all_or_none : goal.returns-then-is_err-clause-all_or_none
returns-then-is_err-clause-all_or_none g c =
    let view = g.D.Disk.view in
    let device = c.self.inside.device in
    let plan = c.self.inside.plan in
    let head = c.self.inside.head in
    let s = standing_from c.self.inside.checkpoint c.self.inside.submitted.items in
    let side = c.self.inside.checkpoint.slot in
    subst (λ (z : Keeping g.row.D.Denot). (g.D.Disk.view z.device).lawful → z.broken ≡ false → AllOrNone z.plan z.standing c.args.group.items (view z.device).state.moment (view device).state) c.self.view_is
    (λ old whole i left.
    let keeps = keeps_of c.self.inside.broken g.L.Law.answers plan head side s (view device).state whole (c.self.invariant.2 old) in
    inl (none_since plan c.told_in_parts.ensures.together head side s (view device).state (λ d. g.met.D.Disk.only_now device d old) keeps i left))

pub returns-then-is_err-clause-short : goal.returns-then-is_err-clause-short
returns-then-is_err-clause-short g c =
    let view = g.D.Disk.view in
    let device = c.self.inside.device in
    subst (λ (z : Keeping g.row.D.Denot). (g.D.Disk.view z.device).lawful → KeepsSince z.plan z.base (view z.device).state (view device).state) c.self.view_is
    (λ old t i le left. inl left)

pub returns-in-Ok-clause-short : goal.returns-in-Ok-clause-short
returns-in-Ok-clause-short g c =
    let view = g.D.Disk.view in
    let device = c.self.inside.device in
    let plan = c.self.inside.plan in
    let head = c.self.inside.head in
    let s = standing_from c.self.inside.checkpoint c.self.inside.submitted.items in
    let side = c.self.inside.checkpoint.slot in
    let y : List Submitted = c.deref.result.now in
    let k = keeping_of device plan head c.self.inside.checkpoint c.self.inside.submitted.items c.self.inside.broken c.self.inside.taken c.self.inside.collected c.self.inside.queue.items c.self.inside.watch in
    let taken : MayCome k y = may_come_in c.self.view_is c.deref.ensures.value (record { some = c.requires.some; whole = c.requires.whole; lawful = c.requires.lawful; few = c.requires.few; small = c.requires.small; room = c.requires.room; fresh = c.requires.fresh }) in
    let epoch : c.last_epoch-first.result + 1 ≡ last_epoch s + 1 = ap (λ (n : ℕ). n + 1) (c.last_epoch-first.ensures ∙ sym (ap (λ (z : Keeping g.row.D.Denot). last_epoch z.standing) c.self.view_is)) in
    let ring : c.ring_of-journal.result ≡ ring_of head.shape s.epoch = c.ring_of-journal.ensures.ring in
    let room : HasRoomFor head.shape s (c.last_epoch-first.result + 1) (length y) = has_room k y (c.last_epoch-first.result + 1) taken epoch in
    let low = c.self.invariant.1.from_checkpoint in
    subst (λ (z : Keeping g.row.D.Denot). (g.D.Disk.view z.device).lawful → KeepsSince z.plan z.base (view z.device).state (view c.submit_group.new.device).state) c.self.view_is
    (λ old.
    let keeps = keeps_of c.self.inside.broken g.L.Law.answers plan head side s (view device).state taken.whole (c.self.invariant.2 old) in
    keeps_since plan c.told_in_parts.ensures.one_answer k.base c.told_in_parts.ensures.together head head side side s (with_more s y) (view device).state (view c.submit_group.new.device).state low low
    (c.in-Ok.ensures.group.begun old plan head side s ring room taken.fresh taken.lawful keeps))

pub returns-in-Device-clause-short : goal.returns-in-Device-clause-short
returns-in-Device-clause-short g c =
    let view = g.D.Disk.view in
    let device = c.self.inside.device in
    let plan = c.self.inside.plan in
    let head = c.self.inside.head in
    let s = standing_from c.self.inside.checkpoint c.self.inside.submitted.items in
    let side = c.self.inside.checkpoint.slot in
    let y : List Submitted = c.deref.result.now in
    let k = keeping_of device plan head c.self.inside.checkpoint c.self.inside.submitted.items c.self.inside.broken c.self.inside.taken c.self.inside.collected c.self.inside.queue.items c.self.inside.watch in
    let taken : MayCome k y = may_come_in c.self.view_is c.deref.ensures.value (record { some = c.requires.some; whole = c.requires.whole; lawful = c.requires.lawful; few = c.requires.few; small = c.requires.small; room = c.requires.room; fresh = c.requires.fresh }) in
    let epoch : c.last_epoch-first.result + 1 ≡ last_epoch s + 1 = ap (λ (n : ℕ). n + 1) (c.last_epoch-first.ensures ∙ sym (ap (λ (z : Keeping g.row.D.Denot). last_epoch z.standing) c.self.view_is)) in
    let ring : c.ring_of-journal.result ≡ ring_of head.shape s.epoch = c.ring_of-journal.ensures.ring in
    let room : HasRoomFor head.shape s (c.last_epoch-first.result + 1) (length y) = has_room k y (c.last_epoch-first.result + 1) taken epoch in
    let low = c.self.invariant.1.from_checkpoint in
    subst (λ (z : Keeping g.row.D.Denot). (g.D.Disk.view z.device).lawful → KeepsSince z.plan z.base (view z.device).state (view c.submit_group.new.device).state) c.self.view_is
    (λ old.
    let keeps = keeps_of c.self.inside.broken g.L.Law.answers plan head side s (view device).state taken.whole (c.self.invariant.2 old) in
    keeps_since plan c.told_in_parts.ensures.one_answer k.base c.told_in_parts.ensures.together head head side side s (with_more s y) (view device).state (view c.submit_group.new.device).state low low
    (c.in-Err.ensures.group.begun old plan head side s ring room taken.fresh taken.lawful keeps))

pub returns-in-Memory-clause-short : goal.returns-in-Memory-clause-short
returns-in-Memory-clause-short g c =
    let view = g.D.Disk.view in
    let device = c.self.inside.device in
    let plan = c.self.inside.plan in
    let head = c.self.inside.head in
    let s = standing_from c.self.inside.checkpoint c.self.inside.submitted.items in
    let side = c.self.inside.checkpoint.slot in
    let y : List Submitted = c.deref.result.now in
    let k = keeping_of device plan head c.self.inside.checkpoint c.self.inside.submitted.items c.self.inside.broken c.self.inside.taken c.self.inside.collected c.self.inside.queue.items c.self.inside.watch in
    let taken : MayCome k y = may_come_in c.self.view_is c.deref.ensures.value (record { some = c.requires.some; whole = c.requires.whole; lawful = c.requires.lawful; few = c.requires.few; small = c.requires.small; room = c.requires.room; fresh = c.requires.fresh }) in
    let epoch : c.last_epoch-first.result + 1 ≡ last_epoch s + 1 = ap (λ (n : ℕ). n + 1) (c.last_epoch-first.ensures ∙ sym (ap (λ (z : Keeping g.row.D.Denot). last_epoch z.standing) c.self.view_is)) in
    let ring : c.ring_of-journal.result ≡ ring_of head.shape s.epoch = c.ring_of-journal.ensures.ring in
    let room : HasRoomFor head.shape s (c.last_epoch-first.result + 1) (length y) = has_room k y (c.last_epoch-first.result + 1) taken epoch in
    let low = c.self.invariant.1.from_checkpoint in
    subst (λ (z : Keeping g.row.D.Denot). (g.D.Disk.view z.device).lawful → KeepsSince z.plan z.base (view z.device).state (view c.submit_group.new.device).state) c.self.view_is
    (λ old.
    let keeps = keeps_of c.self.inside.broken g.L.Law.answers plan head side s (view device).state taken.whole (c.self.invariant.2 old) in
    keeps_since plan c.told_in_parts.ensures.one_answer k.base c.told_in_parts.ensures.together head head side side s (with_more s y) (view device).state (view c.submit_group.new.device).state low low
    (c.in-Err.ensures.group.begun old plan head side s ring room taken.fresh taken.lawful keeps))
