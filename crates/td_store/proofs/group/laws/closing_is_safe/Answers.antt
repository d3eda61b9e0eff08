use Rattle.td_store.proofs.group.Standing.{Laws, closing_since, tells_after}
use Rattle.td_store.proofs.group.laws.closing_is_safe.Goals as goal

pub returns-clause-begun : goal.returns-clause-begun
returns-clause-begun g c plan head side s e n old new free each safe =
    let view = g.D.Disk.view in
    let laws : Laws = record {
      head = c.heads_tell.ensures.head;
      text = c.heads_tell.ensures.text;
      slots = c.slots_tell.ensures;
      heads_cells = c.parts_are_apart.ensures.heads_cells;
      slots_cells = c.parts_are_apart.ensures.slots_cells;
      apart = c.cells.ensures.apart;
      still = c.group_is_told.ensures.still;
      more = c.group_is_told.ensures.more;
    } in
    closing_since laws plan head side s e n free (view old).state (view new).state each safe

pub returns-clause-done : goal.returns-clause-done
returns-clause-done g c plan head side s e n old new free each lawful safe =
    let view = g.D.Disk.view in
    let met = g.met.D.Disk in
    let laws : Laws = record {
      head = c.heads_tell.ensures.head;
      text = c.heads_tell.ensures.text;
      slots = c.slots_tell.ensures;
      heads_cells = c.parts_are_apart.ensures.heads_cells;
      slots_cells = c.parts_are_apart.ensures.slots_cells;
      apart = c.cells.ensures.apart;
      still = c.group_is_told.ensures.still;
      more = c.group_is_told.ensures.more;
    } in
    tells_after laws plan head side s e n free (view old).state (view new).state each safe (λ d now. met.counts_now new (view old).state.moment d lawful safe.later now)
