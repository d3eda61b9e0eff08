use Rattle.std.proofs.Common.{inl, inr, ⊎_elim, ℕ, ◌≤◌, List, length, suc, arith}
use Rattle.td_store.proofs.group.Standing.{Laws, ready_since, tells_ready, put_first, opened_first, changed}
use Rattle.td_store.proofs.group.laws.group_is_safe.Goals as goal

pub returns-clause-ready : goal.returns-clause-ready
returns-clause-ready g c plan head side s e k is_full old mid room some wide each safe t f le left =
    let view = g.D.Disk.view in
    let laws : Laws = record {
      head = c.heads_tell.ensures.head;
      text = c.heads_tell.ensures.text;
      slots = c.slots_tell.ensures;
      heads_cells = c.parts_are_apart.ensures.heads_cells;
      slots_cells = c.parts_are_apart.ensures.slots_cells;
      apart = c.cells.ensures.apart;
      still = c.group_is_told.ensures.still;
      more = c.group_is_told.ensures.more;
    } in
    ready_since laws plan head side s e k is_full room some wide (view old).state (view mid).state each safe t f le left

pub returns-clause-begun : goal.returns-clause-begun
returns-clause-begun g c plan head side s e x xs is_full old mid new room some wide full fresh ok each lawful safe ready puts t f le left =
    let view = g.D.Disk.view in
    let met = g.met.D.Disk in
    let laws : Laws = record {
      head = c.heads_tell.ensures.head;
      text = c.heads_tell.ensures.text;
      slots = c.slots_tell.ensures;
      heads_cells = c.parts_are_apart.ensures.heads_cells;
      slots_cells = c.parts_are_apart.ensures.slots_cells;
      apart = c.cells.ensures.apart;
      still = c.group_is_told.ensures.still;
      more = c.group_is_told.ensures.more;
    } in
    let counts : (t : ℕ) (d : List ℕ) → t ≤ (view mid).state.moment → (view mid).state.images d → (view mid).state.since t d = λ t d. met.counts_now mid t d lawful in
    let told = tells_ready laws plan head side s e (suc (length xs)) is_full room some wide (view old).state (view mid).state counts each safe in
    ⊎_elim
    (λ was. ⊎_elim (λ before. inl before) (λ tells. inr (inl tells)) (ready_since laws plan head side s e (suc (length xs)) is_full room some wide (view old).state (view mid).state each safe t f le was))
    (λ now. inr (put_first laws plan head side s e x xs is_full room fresh ok full now.0 f (told now.0 now.1) (ready now.0 now.1) now.2))
    (puts.before t f (omega (arith, le, safe.later)) left)

pub returns-clause-done : goal.returns-clause-done
returns-clause-done g c plan head side s e x xs is_full old mid new room some wide full fresh ok each lawful still safe ready puts is_open f image =
    let view = g.D.Disk.view in
    let met = g.met.D.Disk in
    let laws : Laws = record {
      head = c.heads_tell.ensures.head;
      text = c.heads_tell.ensures.text;
      slots = c.slots_tell.ensures;
      heads_cells = c.parts_are_apart.ensures.heads_cells;
      slots_cells = c.parts_are_apart.ensures.slots_cells;
      apart = c.cells.ensures.apart;
      still = c.group_is_told.ensures.still;
      more = c.group_is_told.ensures.more;
    } in
    let counts : (t : ℕ) (d : List ℕ) → t ≤ (view mid).state.moment → (view mid).state.images d → (view mid).state.since t d = λ t d. met.counts_now mid t d lawful in
    let told = tells_ready laws plan head side s e (suc (length xs)) is_full room some wide (view old).state (view mid).state counts each safe in
    let from = puts.each f (met.counts_now new (view mid).state.moment f still puts.later image) in
    opened_first laws plan head side s e x xs is_full room fresh ok full from.0 f (told from.0 from.1) (ready from.0 from.1)
    (changed laws plan head side s e x xs is_full room fresh ok full from.0 f (told from.0 from.1) (ready from.0 from.1) from.2.others) (is_open.each f image)
