use Rattle.std.proofs.Common.{◌%◌, sym, inl, inr, ⊎_elim}
use Rattle.td_journal.specs.Cell.{cell, cell_of, cell_bytes}
use Rattle.td_journal.proofs.Places.{cells_apart}
use Rattle.td_journal.proofs.Images.{SameBut, same_next, closed_next, written_next}
use Rattle.td_journal.proofs.laws.next_is_put.Goals as goal

pub returns-clause-begun : goal.returns-clause-begun
returns-clause-begun c inputs j old new floor checkpoint e w x next small ok may nothing put =
    let but : SameBut j (e % j.n) old new = record { others = λ k not. c.put_leaves_others.ensures (cell_of j e) (cell j k) (cell_bytes j.m e x.request x.batch) old new (cells_apart j (e % j.n) k (λ is. not (sym is))) put } in
    ⊎_elim (λ same. inl (same_next inputs j old new floor checkpoint w e next but same))
    (λ other. ⊎_elim (λ none. inl (closed_next inputs j old new floor checkpoint w e next but none))
    (λ is. inr (written_next inputs j old new floor checkpoint w e next but x small ok may nothing is)) other)
    put.region

pub returns-clause-done : goal.returns-clause-done
returns-clause-done c inputs j old new floor checkpoint e w x next small ok may nothing put =
    let but : SameBut j (e % j.n) old new = record { others = λ k not. c.put_leaves_others.ensures (cell_of j e) (cell j k) (cell_bytes j.m e x.request x.batch) old new (cells_apart j (e % j.n) k (λ is. not (sym is))) (record { others = put.others; region = inr (inr put.region) }) } in
    written_next inputs j old new floor checkpoint w e next but x small ok may nothing put.region
