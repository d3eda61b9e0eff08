use Rattle.std.proofs.Common.{◌%◌, ◌∙◌, inl, inr, ⊎_elim}
use Rattle.td_gate.specs.Region.{Puts}
use Rattle.td_journal.specs.Cell.{cell_of, cell_bytes}
use Rattle.td_journal.specs.Images.{IsNext}
use Rattle.td_store.specs.standing.Told.{inputs_of, folds_of, slots_of, ring_of, floor_of}
use Rattle.td_store.proofs.standing.Crash.{heads_by_cell, slots_by_cell}
use Rattle.td_store.proofs.standing.Requests.{fresh_after}
use Rattle.td_store.proofs.standing.laws.next_is_submitted.Goals as goal

pub returns-clause-begun : goal.returns-clause-begun
returns-clause-begun c plan head side s old new e x tells room fresh ok nothing put =
    let sizes = head.shape in
    let ring = ring_of sizes s.epoch in
    let floor = floor_of head.version s.last in
    let others = c.put_leaves_others.ensures in
    let payload = cell_bytes sizes.m e x.request x.batch in
    let heads = heads_by_cell others sizes payload old new s.epoch (e % sizes.n) put in
    let slots = slots_by_cell others sizes payload old new s.epoch (e % sizes.n) put in
    let next : IsNext (inputs_of plan) ring old floor s.epoch s.submitted e = record { told = tells.submitted; room = room.room; epoch = room.epoch } in
    let text = c.heads_tell.ensures.text tells.canonical old new heads tells.text in
    let head_is = c.heads_tell.ensures.head tells.canonical plan old new heads ∙ tells.head_is in
    let checkpoint = c.slots_tell.ensures head.version (folds_of plan) (slots_of sizes) old new slots ∙ tells.checkpoint in
    ⊎_elim
    (λ before. inl (record { canonical = tells.canonical; text = text; head_is = head_is; checkpoint = checkpoint; submitted = before }))
    (λ after. inr (record { canonical = tells.canonical; text = text; head_is = head_is; checkpoint = checkpoint; submitted = after }))
    (c.next_is_put.ensures.begun (inputs_of plan) ring old new floor s.epoch e s.submitted x next room.small ok (fresh_after head.version s x.request fresh) nothing put)

pub returns-clause-done : goal.returns-clause-done
returns-clause-done c plan head side s old new e x tells room fresh ok nothing done =
    let sizes = head.shape in
    let ring = ring_of sizes s.epoch in
    let floor = floor_of head.version s.last in
    let others = c.put_leaves_others.ensures in
    let payload = cell_bytes sizes.m e x.request x.batch in
    let put : Puts (cell_of ring e) payload old new = record { others = done.others; region = inr (inr done.region) } in
    let heads = heads_by_cell others sizes payload old new s.epoch (e % sizes.n) put in
    let slots = slots_by_cell others sizes payload old new s.epoch (e % sizes.n) put in
    let next : IsNext (inputs_of plan) ring old floor s.epoch s.submitted e = record { told = tells.submitted; room = room.room; epoch = room.epoch } in
    record {
      canonical = tells.canonical;
      text = c.heads_tell.ensures.text tells.canonical old new heads tells.text;
      head_is = c.heads_tell.ensures.head tells.canonical plan old new heads ∙ tells.head_is;
      checkpoint = c.slots_tell.ensures head.version (folds_of plan) (slots_of sizes) old new slots ∙ tells.checkpoint;
      submitted = c.next_is_put.ensures.done (inputs_of plan) ring old new floor s.epoch e s.submitted x next room.small ok (fresh_after head.version s x.request fresh) nothing done;
    }
