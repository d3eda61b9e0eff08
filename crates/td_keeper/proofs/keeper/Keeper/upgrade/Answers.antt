use Rattle.std.proofs.Common.{◌≡◌, ⊎_elim, inl, ℕ, ◌≤◌, true, false, List, [], sym, subst}
use Rattle.td_plan.specs.Tree.{tree_of}
use Rattle.td_head.specs.Head.{raised}
use Rattle.td_head.specs.Layout.{size_of}
use Rattle.td_store.specs.standing.Standing.{standing_from, last_epoch, with_more}
use Rattle.td_store.specs.standing.Stops.{Advance}
use Rattle.td_store.specs.standing.Told.{Told}
use Rattle.td_store.specs.standing.Read.{Stood}
use Rattle.td_store.specs.standing.Advanced.{AdvancesSince, states_by}
use Rattle.td_keeper.specs.Keeping.{Keeping, keeping_of}
use Rattle.td_keeper.proofs.Kept.{elsewhere}
use Rattle.td_keeper.proofs.Since.{from_start, held, told_since, told_further, either_told, keeps_to}
use Rattle.td_keeper.proofs.Submitting.{keeps_of}
use Rattle.td_keeper.proofs.keeper.Keeper.upgrade.Goals as goal

pub returns-then-self-ge-NUMBERED-clause-told : goal.returns-then-self-ge-NUMBERED-clause-told
returns-then-self-ge-NUMBERED-clause-told g c =
    let view = g.D.Disk.view in
    let answers = g.L.Law.answers in
    let device = c.self.inside.device in
    let plan = c.self.inside.plan in
    let head = c.self.inside.head in
    let side = c.self.inside.checkpoint.slot in
    let s = standing_from c.self.inside.checkpoint c.self.inside.submitted.items in
    subst (λ (z : Keeping g.row.D.Denot). (g.D.Disk.view z.device).lawful → z.broken ≡ false → (i : List ℕ) → (view z.device).state.since (view z.device).state.moment i → Told z.plan i (Stood z.standing)) c.self.view_is
    (λ old whole.
    let keeps = keeps_of c.self.inside.broken answers plan head side s (view device).state whole (c.self.invariant.2 old) in
    told_since answers plan c.told_in_parts.ensures.together head head side s (view device).state (view device).state (λ d. g.met.D.Disk.only_now device d old) keeps (λ t i le left. inl left))

pub returns-in-Ok-clause-told : goal.returns-in-Ok-clause-told
returns-in-Ok-clause-told g c =
    let view = g.D.Disk.view in
    let answers = g.L.Law.answers in
    let device = c.self.inside.device in
    let plan = c.self.inside.plan in
    let head = c.self.inside.head in
    let side = c.self.inside.checkpoint.slot in
    let s = standing_from c.self.inside.checkpoint c.self.inside.submitted.items in
    let new = c.raise_head.new.device in
    subst (λ (z : Keeping g.row.D.Denot). (g.D.Disk.view z.device).lawful → z.broken ≡ false → (i : List ℕ) → (view new).state.since (view z.device).state.moment i → Told z.plan i (Stood z.standing)) c.self.view_is
    (λ old whole.
    let keeps = keeps_of c.self.inside.broken answers plan head side s (view device).state whole (c.self.invariant.2 old) in
    told_since answers plan c.told_in_parts.ensures.together head (raised head) side s (view device).state (view new).state (λ d. g.met.D.Disk.only_now device d old) keeps (c.in-Ok.ensures.head.begun old side s keeps))

pub returns-in-Ok-clause-further : goal.returns-in-Ok-clause-further
returns-in-Ok-clause-further g c =
    let view = g.D.Disk.view in
    let answers = g.L.Law.answers in
    let device = c.self.inside.device in
    let plan = c.self.inside.plan in
    let head = c.self.inside.head in
    let side = c.self.inside.checkpoint.slot in
    let s = standing_from c.self.inside.checkpoint c.self.inside.submitted.items in
    let new = c.raise_head.new.device in
    let still : Advance (states_by answers plan) (with_more s []) s = c.standings_advance.ensures.not_yet (tree_of plan) s [] in
    subst (λ (z : Keeping g.row.D.Denot). (g.D.Disk.view z.device).lawful → z.broken ≡ false → AdvancesSince answers z.plan z.standing [] (last_epoch z.standing) (view z.device).state (view new).state) c.self.view_is
    (λ old whole.
    let keeps = keeps_of c.self.inside.broken answers plan head side s (view device).state whole (c.self.invariant.2 old) in
    told_further answers plan c.told_in_parts.ensures.together head (raised head) side s (view device).state (view new).state still (c.in-Ok.ensures.head.begun old side s keeps))

pub returns-in-Device-clause-told : goal.returns-in-Device-clause-told
returns-in-Device-clause-told g c =
    let view = g.D.Disk.view in
    let answers = g.L.Law.answers in
    let device = c.self.inside.device in
    let plan = c.self.inside.plan in
    let head = c.self.inside.head in
    let side = c.self.inside.checkpoint.slot in
    let s = standing_from c.self.inside.checkpoint c.self.inside.submitted.items in
    let new = c.raise_head.new.device in
    subst (λ (z : Keeping g.row.D.Denot). (g.D.Disk.view z.device).lawful → z.broken ≡ false → (i : List ℕ) → (view new).state.since (view z.device).state.moment i → Told z.plan i (Stood z.standing)) c.self.view_is
    (λ old whole.
    let keeps = keeps_of c.self.inside.broken answers plan head side s (view device).state whole (c.self.invariant.2 old) in
    told_since answers plan c.told_in_parts.ensures.together head (raised head) side s (view device).state (view new).state (λ d. g.met.D.Disk.only_now device d old) keeps (c.in-Err.ensures.head.begun old side s keeps))

pub returns-in-Device-clause-further : goal.returns-in-Device-clause-further
returns-in-Device-clause-further g c =
    let view = g.D.Disk.view in
    let answers = g.L.Law.answers in
    let device = c.self.inside.device in
    let plan = c.self.inside.plan in
    let head = c.self.inside.head in
    let side = c.self.inside.checkpoint.slot in
    let s = standing_from c.self.inside.checkpoint c.self.inside.submitted.items in
    let new = c.raise_head.new.device in
    let still : Advance (states_by answers plan) (with_more s []) s = c.standings_advance.ensures.not_yet (tree_of plan) s [] in
    subst (λ (z : Keeping g.row.D.Denot). (g.D.Disk.view z.device).lawful → z.broken ≡ false → AdvancesSince answers z.plan z.standing [] (last_epoch z.standing) (view z.device).state (view new).state) c.self.view_is
    (λ old whole.
    let keeps = keeps_of c.self.inside.broken answers plan head side s (view device).state whole (c.self.invariant.2 old) in
    told_further answers plan c.told_in_parts.ensures.together head (raised head) side s (view device).state (view new).state still (c.in-Err.ensures.head.begun old side s keeps))

pub invariant_of-self-in-Device : goal.invariant_of-self-in-Device
invariant_of-self-in-Device g c =
    let view = g.D.Disk.view in
    let answers = g.L.Law.answers in
    let device = c.self.inside.device in
    let plan = c.self.inside.plan in
    let head = c.self.inside.head in
    let side = c.self.inside.checkpoint.slot in
    let s = standing_from c.self.inside.checkpoint c.self.inside.submitted.items in
    let new = c.raise_head.new.device in
    let k = keeping_of device plan head c.self.inside.checkpoint c.self.inside.submitted.items c.self.inside.broken c.self.inside.taken c.self.inside.collected c.self.inside.queue.items c.self.inside.watch in
    let still : Advance (states_by answers plan) (with_more s []) s = c.standings_advance.ensures.not_yet (tree_of plan) s [] in (
      subst (λ (n : ℕ). size_of head.shape ≤ n) (sym c.in-Err.ensures.device.size) c.self.invariant.0,
      elsewhere answers k new true c.self.invariant.1,
      λ l.
          let old = c.in-Err.ensures.device.lawful.1 l in
          let keeps = keeps_of c.self.inside.broken answers plan head side s (view device).state c.if-self.false (c.self.invariant.2 old) in
          let later : (view device).state.moment ≤ (view new).state.moment = c.in-Err.ensures.head.later old keeps.durable in
          held answers plan head side s [] (view device).state.moment (view new).state (λ d now. g.met.D.Disk.counts_now new (view device).state.moment d l later now)
          (from_start answers plan c.told_in_parts.ensures.together head side s [] (view device).state (view new).state (λ d. g.met.D.Disk.only_now device d old) still keeps
          (told_further answers plan c.told_in_parts.ensures.together head (raised head) side s (view device).state (view new).state still (c.in-Err.ensures.head.begun old side s keeps))),
      c.self.invariant.3,
      λ l.
          let old = c.in-Err.ensures.device.lawful.1 l in
          let keeps = keeps_of c.self.inside.broken answers plan head side s (view device).state c.if-self.false (c.self.invariant.2 old) in
          let later : (view device).state.moment ≤ (view new).state.moment = c.in-Err.ensures.head.later old keeps.durable in
          keeps_to plan c.told_in_parts.ensures.one_answer k.base s s (view device).state.moment (view new).state (λ d now. g.met.D.Disk.counts_now new (view device).state.moment d l later now)
          (either_told plan c.told_in_parts.ensures.together head (raised head) side side s s (view device).state (view new).state (λ d. g.met.D.Disk.only_now device d old) keeps (c.in-Err.ensures.head.begun old side s keeps))
          c.self.invariant.1.from_checkpoint c.self.invariant.1.from_checkpoint,
    )

pub returns-in-LastGeneration-clause-told : goal.returns-in-LastGeneration-clause-told
returns-in-LastGeneration-clause-told g c =
    let view = g.D.Disk.view in
    let answers = g.L.Law.answers in
    let device = c.self.inside.device in
    let plan = c.self.inside.plan in
    let head = c.self.inside.head in
    let side = c.self.inside.checkpoint.slot in
    let s = standing_from c.self.inside.checkpoint c.self.inside.submitted.items in
    let new = c.raise_head.new.device in
    let same : new ≡ device = ⊎_elim (λ d. (let m = c.in-LastGeneration.is in absurd (cc (d, m)))) (λ e. e) c.in-Err.ensures.untouched in
    subst (λ (z : Keeping g.row.D.Denot). (g.D.Disk.view z.device).lawful → z.broken ≡ false → (i : List ℕ) → (view new).state.since (view z.device).state.moment i → Told z.plan i (Stood z.standing)) c.self.view_is
    (λ old whole.
    let keeps = keeps_of c.self.inside.broken answers plan head side s (view device).state whole (c.self.invariant.2 old) in
    told_since answers plan c.told_in_parts.ensures.together head head side s (view device).state (view new).state (λ d. g.met.D.Disk.only_now device d old) keeps
    (λ t i le left. inl (subst (λ (d : g.row.D.Denot). (view d).state.since t i) same left)))

pub returns-in-Memory-clause-told : goal.returns-in-Memory-clause-told
returns-in-Memory-clause-told g c =
    let view = g.D.Disk.view in
    let answers = g.L.Law.answers in
    let device = c.self.inside.device in
    let plan = c.self.inside.plan in
    let head = c.self.inside.head in
    let side = c.self.inside.checkpoint.slot in
    let s = standing_from c.self.inside.checkpoint c.self.inside.submitted.items in
    let new = c.raise_head.new.device in
    let same : new ≡ device = ⊎_elim (λ d. (let m = c.in-Memory.is in absurd (cc (d, m)))) (λ e. e) c.in-Err.ensures.untouched in
    subst (λ (z : Keeping g.row.D.Denot). (g.D.Disk.view z.device).lawful → z.broken ≡ false → (i : List ℕ) → (view new).state.since (view z.device).state.moment i → Told z.plan i (Stood z.standing)) c.self.view_is
    (λ old whole.
    let keeps = keeps_of c.self.inside.broken answers plan head side s (view device).state whole (c.self.invariant.2 old) in
    told_since answers plan c.told_in_parts.ensures.together head head side s (view device).state (view new).state (λ d. g.met.D.Disk.only_now device d old) keeps
    (λ t i le left. inl (subst (λ (d : g.row.D.Denot). (view d).state.since t i) same left)))
