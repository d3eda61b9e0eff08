use Rattle.std.proofs.Common.{◌∙◌, ◌≡◌, ◌-◌, ◌+◌, ◌≤◌, ℕ, take, drop, Option, Ok, ap, subst, arith, inl, inr, ⊎_elim}
use Rattle.td_gate.specs.Region.{opened, Puts}
use Rattle.td_slots.specs.Slot.{slot, slot_bytes, IsLast}
use Rattle.td_journal.specs.Numbers.{greatest}
use Rattle.td_journal.specs.Ring.{told_after}
use Rattle.td_store.specs.standing.Told.{inputs_of, folds_of, slots_of, ring_of, floor_of}
use Rattle.td_store.specs.standing.Tells.{checkpoint_of}
use Rattle.td_store.proofs.standing.Crash.{heads_by_slot, cells_by_slot, after_cut, made, some_cells}
use Rattle.td_store.proofs.standing.Requests.{floor-after}
use Rattle.td_store.proofs.standing.Versions.{newest_last, cut_last}
use Rattle.td_store.proofs.standing.laws.cut_is_written.Goals as goal

pub returns-clause-begun : goal.returns-clause-begun
returns-clause-begun c plan head side s old new k states tells cut fits put =
    let sizes = head.shape in
    let last = greatest s.last (take k s.submitted) in
    let payload = slot_bytes sizes.k (s.epoch + k) last states in
    let ring = ring_of sizes s.epoch in
    let floor = floor_of head.version s.last in
    let which : 1 - side ≤ 1 = omega arith in
    let others = c.put_leaves_others.ensures in
    let heads = heads_by_slot others sizes payload old new (1 - side) which put in
    let cells = cells_by_slot others sizes payload old new (1 - side) which put s.epoch in
    let may : IsLast head.version last = record {
      lawful = cut_last head.version s.last k s.submitted
          (newest_last head.version (folds_of plan) sizes.k (opened (slot (slots_of sizes) 0) old) (opened (slot (slots_of sizes) 1) old) (checkpoint_of side s) tells.checkpoint)
          (c.told_numbers_rise.ensures (inputs_of plan) ring old floor s.epoch s.submitted tells.submitted);
      fits = fits;
    } in
    let some = some_cells sizes (c.heads_tell.ensures.limits tells.canonical plan old head tells.head_is).0 in
    let text = c.heads_tell.ensures.text tells.canonical old new heads tells.text in
    let head_is = c.heads_tell.ensures.head tells.canonical plan old new heads ∙ tells.head_is in
    let submitted = c.cells_tell.ensures (inputs_of plan) ring old new floor s.epoch s.submitted some cells tells.submitted in
    ⊎_elim
    (λ before. inl (record { canonical = tells.canonical; text = text; head_is = head_is; checkpoint = before; submitted = submitted }))
    (λ after. inr (record {
      canonical = tells.canonical;
      text = text;
      head_is = head_is;
      checkpoint = after ∙ ap made (after_cut s states side k cut.same);
      submitted = subst (λ (f : Option ℕ). told_after (inputs_of plan) ring new f (s.epoch + k) ≡ Ok (drop k s.submitted)) (floor-after head.version s.last (take k s.submitted))
          (c.checkpoint_goes_on.ensures (inputs_of plan) ring new floor s.epoch k s.submitted some cut.most submitted);
    }))
    (c.other_is_put.ensures.begun head.version (folds_of plan) (slots_of sizes) old new (checkpoint_of side s) (s.epoch + k) last states tells.checkpoint cut.small may cut.fit put)

pub returns-clause-done : goal.returns-clause-done
returns-clause-done c plan head side s old new k states tells cut fits done =
    let sizes = head.shape in
    let last = greatest s.last (take k s.submitted) in
    let payload = slot_bytes sizes.k (s.epoch + k) last states in
    let ring = ring_of sizes s.epoch in
    let floor = floor_of head.version s.last in
    let put : Puts (slot (slots_of sizes) (1 - side)) payload old new = record { others = done.others; region = inr (inr done.region) } in
    let which : 1 - side ≤ 1 = omega arith in
    let others = c.put_leaves_others.ensures in
    let heads = heads_by_slot others sizes payload old new (1 - side) which put in
    let cells = cells_by_slot others sizes payload old new (1 - side) which put s.epoch in
    let may : IsLast head.version last = record {
      lawful = cut_last head.version s.last k s.submitted
          (newest_last head.version (folds_of plan) sizes.k (opened (slot (slots_of sizes) 0) old) (opened (slot (slots_of sizes) 1) old) (checkpoint_of side s) tells.checkpoint)
          (c.told_numbers_rise.ensures (inputs_of plan) ring old floor s.epoch s.submitted tells.submitted);
      fits = fits;
    } in
    let some = some_cells sizes (c.heads_tell.ensures.limits tells.canonical plan old head tells.head_is).0 in
    record {
      canonical = tells.canonical;
      text = c.heads_tell.ensures.text tells.canonical old new heads tells.text;
      head_is = c.heads_tell.ensures.head tells.canonical plan old new heads ∙ tells.head_is;
      checkpoint = c.other_is_put.ensures.done head.version (folds_of plan) (slots_of sizes) old new (checkpoint_of side s) (s.epoch + k) last states tells.checkpoint cut.small may cut.fit done
          ∙ ap made (after_cut s states side k cut.same);
      submitted = subst (λ (f : Option ℕ). told_after (inputs_of plan) ring new f (s.epoch + k) ≡ Ok (drop k s.submitted)) (floor-after head.version s.last (take k s.submitted))
          (c.checkpoint_goes_on.ensures (inputs_of plan) ring new floor s.epoch k s.submitted some cut.most
          (c.cells_tell.ensures (inputs_of plan) ring old new floor s.epoch s.submitted some cells tells.submitted));
    }
