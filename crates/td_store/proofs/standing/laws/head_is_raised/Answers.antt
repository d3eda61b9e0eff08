use Rattle.std.proofs.Common.{◌≡◌, ◌∙◌, ◌-◌, ◌≤◌, ℕ, List, Some, None, true, Ok, sym, subst, arith, inl, inr, ⊎_elim}
use Rattle.td_gate.specs.Region.{opened, Puts}
use Rattle.td_plan.specs.Lines.{Line}
use Rattle.td_head.specs.declared.head.Head.{Head}
use Rattle.td_head.specs.Layout.{head as head_of_side}
use Rattle.td_head.specs.Head.{is_version, raised_bytes}
use Rattle.td_slots.specs.Slot.{slot, is_last}
use Rattle.td_journal.specs.declared.payload.Submitted.{Submitted}
use Rattle.td_journal.specs.Ring.{told_after}
use Rattle.td_store.specs.standing.Standing.{Standing}
use Rattle.td_store.specs.standing.Told.{inputs_of, folds_of, slots_of, ring_of, floor_of}
use Rattle.td_store.specs.standing.Tells.{checkpoint_of}
use Rattle.td_store.proofs.standing.Crash.{some_cells}
use Rattle.td_store.proofs.standing.Raised.{slots_by_head, cells_by_head, each_version, no_number}
use Rattle.td_store.proofs.standing.Versions.{newest_last}
use Rattle.td_store.proofs.standing.laws.head_is_raised.Goals as goal

-- what the ring tells, it tells in version 2
in_version_2 : (plan : List Line) (head : Head) (s : Standing) (image : List ℕ)
    → ((w : List Submitted) → told_after (inputs_of plan) (ring_of head.shape s.epoch) image None s.epoch ≡ Ok w → told_after (inputs_of plan) (ring_of head.shape s.epoch) image (Some 0) s.epoch ≡ Ok w)
    → is_version head.version ≡ true → is_last head.version s.last ≡ true
    → told_after (inputs_of plan) (ring_of head.shape s.epoch) image (floor_of head.version s.last) s.epoch ≡ Ok s.submitted
    → told_after (inputs_of plan) (ring_of head.shape s.epoch) image (floor_of 2 s.last) s.epoch ≡ Ok s.submitted
in_version_2 plan head s image raises version last told = ⊎_elim
    (λ one.
    let none : s.last ≡ 0 = no_number s.last (subst (λ (v : ℕ). is_last v s.last ≡ true) one last) in
    let before : told_after (inputs_of plan) (ring_of head.shape s.epoch) image None s.epoch ≡ Ok s.submitted =
    subst (λ (v : ℕ). told_after (inputs_of plan) (ring_of head.shape s.epoch) image (floor_of v s.last) s.epoch ≡ Ok s.submitted) one told in
    subst (λ (q : ℕ). told_after (inputs_of plan) (ring_of head.shape s.epoch) image (Some q) s.epoch ≡ Ok s.submitted) (sym none) (raises s.submitted before))
    (λ two. subst (λ (v : ℕ). told_after (inputs_of plan) (ring_of head.shape s.epoch) image (floor_of v s.last) s.epoch ≡ Ok s.submitted) two told)
    (each_version head.version version)

pub returns-clause-begun : goal.returns-clause-begun
returns-clause-begun c plan head side s old new is_plan tells small put =
    let sizes = head.shape in
    let ring = ring_of sizes s.epoch in
    let payload = raised_bytes head plan in
    let which : 1 - head.side ≤ 1 = omega arith in
    let others = c.put_leaves_others.ensures in
    let slots = slots_by_head others sizes payload old new (1 - head.side) which put in
    let cells = cells_by_head others sizes payload old new (1 - head.side) which put s.epoch in
    let some = some_cells sizes (c.heads_tell.ensures.limits tells.canonical plan old head tells.head_is).0 in
    let last = newest_last head.version (folds_of plan) sizes.k (opened (slot (slots_of sizes) 0) old) (opened (slot (slots_of sizes) 1) old) (checkpoint_of side s) tells.checkpoint in
    let checkpoint = c.slots_tell.ensures head.version (folds_of plan) (slots_of sizes) old new slots ∙ tells.checkpoint in
    let submitted = c.cells_tell.ensures (inputs_of plan) ring old new (floor_of head.version s.last) s.epoch s.submitted some cells tells.submitted in
    ⊎_elim
    (λ still. inl (record { canonical = tells.canonical; text = still.1; head_is = still.0; checkpoint = checkpoint; submitted = submitted }))
    (λ raised. inr (record {
      canonical = tells.canonical;
      text = raised.1;
      head_is = raised.0;
      checkpoint = c.version_is_raised.ensures head.version (folds_of plan) (slots_of sizes) new (checkpoint_of side s) checkpoint;
      submitted = in_version_2 plan head s new (c.version_is_raised-2.ensures (inputs_of plan) ring new s.epoch) (c.heads_tell.ensures.version tells.canonical plan old head tells.head_is) last submitted;
    }))
    (c.other_head_is_put.ensures.begun tells.canonical plan old new head is_plan tells.head_is tells.text small put)

pub returns-clause-done : goal.returns-clause-done
returns-clause-done c plan head side s old new is_plan tells small done =
    let sizes = head.shape in
    let ring = ring_of sizes s.epoch in
    let payload = raised_bytes head plan in
    let put : Puts (head_of_side (1 - head.side)) payload old new = record { others = done.others; region = inr (inr done.region) } in
    let which : 1 - head.side ≤ 1 = omega arith in
    let others = c.put_leaves_others.ensures in
    let slots = slots_by_head others sizes payload old new (1 - head.side) which put in
    let cells = cells_by_head others sizes payload old new (1 - head.side) which put s.epoch in
    let some = some_cells sizes (c.heads_tell.ensures.limits tells.canonical plan old head tells.head_is).0 in
    let last = newest_last head.version (folds_of plan) sizes.k (opened (slot (slots_of sizes) 0) old) (opened (slot (slots_of sizes) 1) old) (checkpoint_of side s) tells.checkpoint in
    let checkpoint = c.slots_tell.ensures head.version (folds_of plan) (slots_of sizes) old new slots ∙ tells.checkpoint in
    let submitted = c.cells_tell.ensures (inputs_of plan) ring old new (floor_of head.version s.last) s.epoch s.submitted some cells tells.submitted in
    let raised = c.other_head_is_put.ensures.done tells.canonical plan old new head is_plan tells.head_is tells.text small done in
    record {
      canonical = tells.canonical;
      text = raised.1;
      head_is = raised.0;
      checkpoint = c.version_is_raised.ensures head.version (folds_of plan) (slots_of sizes) new (checkpoint_of side s) checkpoint;
      submitted = in_version_2 plan head s new (c.version_is_raised-2.ensures (inputs_of plan) ring new s.epoch) (c.heads_tell.ensures.version tells.canonical plan old head tells.head_is) last submitted;
    }
