use Rattle.std.proofs.Common.{◌≡◌, ℕ, List, None, Some, sym, ◌∙◌, subst, arith}
use Rattle.std.proofs.lemmas.Bool.Decides.{nat_tests}
use Rattle.td_disk.specs.Disk.{bytes_at}
use Rattle.td_gate.specs.declared.region.Region.{Region}
use Rattle.td_gate.specs.Region.{gate_of, opened}
use Rattle.td_head.specs.Layout.{head_b}
use Rattle.td_head.proofs.format.close_heads.Goals as goal

-- the gate of a region that reads closed is not open
not_open : (r s : Region) (c : List ℕ) → r ≡ s → opened r c ≡ None → gate_of s c ≡ 165 → ⊥
not_open r s c same none gate =
    let is_open : opened s c ≡ Some (bytes_at s.at s.len c) = grind (arith, nat_tests) in
    let both : None ≡ Some (bytes_at s.at s.len c) = sym (subst (λ (q : Region). opened q c ≡ None) same none) ∙ is_open in absurd cc

pub returns-in_ok-sync-clause-second : goal.returns-in_ok-sync-clause-second
returns-in_ok-sync-clause-second g c lawful gate =
    let still = c.in_ok-is_first.ensures.device.lawful.0 lawful in
    not_open c.head_region-2.result head_b (g.D.Disk.view c.close_if_open-2.new.device).state.bytes c.head_region-2.ensures (c.in_ok-is_second.ensures.closed still)
    (subst (λ (image : List ℕ). gate_of head_b image ≡ 165) (c.in_ok-sync.ensures.same (c.in_ok-is_second.ensures.device.lawful.0 still)) gate)

pub returns-else-is_second-clause-second : goal.returns-else-is_second-clause-second
returns-else-is_second-clause-second g c lawful gate =
    not_open c.head_region-2.result head_b (g.D.Disk.view c.close_if_open-2.new.device).state.bytes c.head_region-2.ensures
    (c.in_ok-is_second.ensures.closed (c.in_ok-is_first.ensures.device.lawful.0 lawful)) gate
