use Rattle.std.proofs.Common.{◌%◌, ◌∙◌, suc, [], inl, inr, ⊎_elim, sym, subst}
use Rattle.td_gate.specs.Region.{Puts}
use Rattle.td_journal.specs.Cell.{cell_of}
use Rattle.td_journal.specs.Images.{IsNext}
use Rattle.td_store.specs.standing.Told.{inputs_of, folds_of, slots_of, ring_of, floor_of}
use Rattle.td_store.specs.standing.Tells.{Tells}
use Rattle.td_store.proofs.standing.Crash.{heads_by_cell, slots_by_cell}
use Rattle.td_store.proofs.standing.laws.following_is_cleared.Goals as goal

pub returns-clause-begun : goal.returns-clause-begun
returns-clause-begun c plan head side s old new e tells room clears =
    ⊎_elim (λ same. subst (Tells plan head side s) (sym same) tells) (λ closes.
    let sizes = head.shape in
    let ring = ring_of sizes s.epoch in
    let floor = floor_of head.version s.last in
    let put : Puts (cell_of ring (suc e)) [] old new = record { others = closes.1.others; region = ⊎_elim (λ same. inl same) (λ none. inr (inl none)) closes.1.region } in
    let others = c.put_leaves_others.ensures in
    let heads = heads_by_cell others sizes [] old new s.epoch (suc e % sizes.n) put in
    let slots = slots_by_cell others sizes [] old new s.epoch (suc e % sizes.n) put in
    let next : IsNext (inputs_of plan) ring old floor s.epoch s.submitted e = record { told = tells.submitted; room = room.room; epoch = room.epoch } in
    record {
      canonical = tells.canonical;
      text = c.heads_tell.ensures.text tells.canonical old new heads tells.text;
      head_is = c.heads_tell.ensures.head tells.canonical plan old new heads ∙ tells.head_is;
      checkpoint = c.slots_tell.ensures head.version (folds_of plan) (slots_of sizes) old new slots ∙ tells.checkpoint;
      submitted = c.following_is_closed.ensures.begun (inputs_of plan) ring old new floor s.epoch e s.submitted next closes.0 closes.1;
    }) clears

pub returns-clause-done : goal.returns-clause-done
returns-clause-done c sizes kept e image none = c.following_is_closed.ensures.done (ring_of sizes kept) image e none
