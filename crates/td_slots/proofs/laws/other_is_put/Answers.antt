use Rattle.std.proofs.Common.{ℕ, ◌-◌, subst, inl, inr, ⊎_elim}
use Rattle.td_gate.specs.Region.{opened, Puts}
use Rattle.td_slots.specs.Slot.{slot, slot_bytes}
use Rattle.td_slots.proofs.OtherPut.{stands, into_first, into_second, slot_0_1, slot_1_0}
use Rattle.td_slots.proofs.laws.other_is_put.Goals as goal
use Rattle.td_gate.specs.Regions.{Replaces}

pub returns-clause-begun : goal.returns-clause-begun
returns-clause-begun c version folds s old new at e q states was small number ok put =
    let payload = slot_bytes s.k e q states in
    elim (stands version folds s.k (opened (slot s 0) old) (opened (slot s 1) old) at was) [
      | inl first ↦
          let here : Puts (slot s 1) payload old new = subst (λ (i : ℕ). Puts (slot s (1 - i)) payload old new) first.0 put in
          let cases = into_second version folds s old new at was e q states small number ok first.0 first.1 first.2 first.3 (c.put_leaves_others.ensures (slot s 1) (slot s 0) payload old new (slot_1_0 s) here) in
          ⊎_elim (λ same. inl (cases.0 same)) (λ other. ⊎_elim (λ none. inl (cases.1 none)) (λ is. inr (cases.2 is)) other) here.region
      | inr second ↦
          let here : Puts (slot s 0) payload old new = subst (λ (i : ℕ). Puts (slot s (1 - i)) payload old new) second.0 put in
          let cases = into_first version folds s old new at was e q states small number ok second.0 second.1 second.2 second.3 (c.put_leaves_others.ensures (slot s 0) (slot s 1) payload old new (slot_0_1 s) here) in
          ⊎_elim (λ same. inl (cases.0 same)) (λ other. ⊎_elim (λ none. inl (cases.1 none)) (λ is. inr (cases.2 is)) other) here.region
    ]

pub returns-clause-done : goal.returns-clause-done
returns-clause-done c version folds s old new at e q states was small number ok put =
    let payload = slot_bytes s.k e q states in
    elim (stands version folds s.k (opened (slot s 0) old) (opened (slot s 1) old) at was) [
      | inl first ↦
          let here : Replaces (slot s 1) payload old new = subst (λ (i : ℕ). Replaces (slot s (1 - i)) payload old new) first.0 put in
          let cases = into_second version folds s old new at was e q states small number ok first.0 first.1 first.2 first.3 (c.put_leaves_others.ensures (slot s 1) (slot s 0) payload old new (slot_1_0 s) (record { others = here.others; region = inr (inr here.region) })) in
          cases.2 here.region
      | inr second ↦
          let here : Replaces (slot s 0) payload old new = subst (λ (i : ℕ). Replaces (slot s (1 - i)) payload old new) second.0 put in
          let cases = into_first version folds s old new at was e q states small number ok second.0 second.1 second.2 second.3 (c.put_leaves_others.ensures (slot s 0) (slot s 1) payload old new (slot_0_1 s) (record { others = here.others; region = inr (inr here.region) })) in
          cases.2 here.region
    ]
