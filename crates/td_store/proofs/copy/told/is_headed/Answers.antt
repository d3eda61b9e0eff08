use Rattle.std.proofs.Common.{◌≡◌, ℕ, List, Bool, true, false, None, Some, sym, ap, ◌∙◌, subst}
use Rattle.std.specs.Prelude.{if◌then◌else◌}
use Rattle.td_disk.specs.Disk.{bytes_at}
use Rattle.td_gate.specs.declared.region.Region.{Region}
use Rattle.td_gate.specs.Region.{is_open_in, opened}
use Rattle.td_head.specs.Layout.{head_a, head_b}
use Rattle.td_store.proofs.copy.told.is_headed.Goals as goal

-- a region of which the gate was found open, or not: it is r
none_there : (r : Region) (c : List ℕ) (is : Bool) (s : Region) → s ≡ r → is ≡ is_open_in s c → is ≡ false → opened r c ≡ None
none_there r c is s same found shut =
    subst (λ (q : Region). opened q c ≡ None) same (ap (λ (b : Bool). if b then Some (bytes_at s.at s.len c) else None) (sym found ∙ shut))

not_none : (r : Region) (c : List ℕ) (is : Bool) (s : Region) → s ≡ r → is ≡ is_open_in s c → is ≡ true → opened r c ≡ None → ⊥
not_none r c is s same found there none =
    let some : opened s c ≡ Some (bytes_at s.at s.len c) = ap (λ (b : Bool). if b then Some (bytes_at s.at s.len c) else None) (sym found ∙ there) in
    let both : None ≡ Some (bytes_at s.at s.len c) = sym (subst (λ (q : Region). opened q c ≡ None) (sym same) none) ∙ some in
    absurd (cc)

pub returns-then-is_first-clause-headed : goal.returns-then-is_first-clause-headed
returns-then-is_first-clause-headed g c is lawful none =
    let view = g.D.Disk.view in
    let l1 = c.in_ok-sync.ensures.lawful.0 lawful in
    let l2 = c.in_ok-is_first.ensures.read.lawful.0 l1 in
    let same : (view c.is_open-2.new.device).state.bytes ≡ (view c.sync.new.self).state.bytes = c.in_ok-is_second.ensures.read.same l2 ∙ c.in_ok-is_first.ensures.read.same l1 in
    let closed : opened head_a (view c.sync.new.self).state.bytes ≡ None = subst (λ (b : List ℕ). opened head_a b ≡ None) same none.first in
    not_none head_a (view c.sync.new.self).state.bytes c.in_ok-is_first.is_first c.head_region.result c.head_region.ensures (c.in_ok-is_first.ensures.open l1) c.if-is_first.true closed

pub returns-else-is_first-clause-headed : goal.returns-else-is_first-clause-headed
returns-else-is_first-clause-headed g c is lawful none =
    let view = g.D.Disk.view in
    let l1 = c.in_ok-sync.ensures.lawful.0 lawful in
    let l2 = c.in_ok-is_first.ensures.read.lawful.0 l1 in
    let same : (view c.is_open-2.new.device).state.bytes ≡ (view c.is_open.new.device).state.bytes = c.in_ok-is_second.ensures.read.same l2 in
    let closed : opened head_b (view c.is_open.new.device).state.bytes ≡ None = subst (λ (b : List ℕ). opened head_b b ≡ None) same none.second in
    not_none head_b (view c.is_open.new.device).state.bytes c.in_ok-is_second.is_second c.head_region-2.result c.head_region-2.ensures (c.in_ok-is_second.ensures.open l2) is closed

pub returns-else-is_first-clause-not_headed : goal.returns-else-is_first-clause-not_headed
returns-else-is_first-clause-not_headed g c is lawful =
    let view = g.D.Disk.view in
    let l1 = c.in_ok-sync.ensures.lawful.0 lawful in
    let l2 = c.in_ok-is_first.ensures.read.lawful.0 l1 in
    let same_2 : (view c.is_open-2.new.device).state.bytes ≡ (view c.is_open.new.device).state.bytes = c.in_ok-is_second.ensures.read.same l2 in
    let same_1 : (view c.is_open.new.device).state.bytes ≡ (view c.sync.new.self).state.bytes = c.in_ok-is_first.ensures.read.same l1 in
    let first : opened head_a (view c.sync.new.self).state.bytes ≡ None =
    none_there head_a (view c.sync.new.self).state.bytes c.in_ok-is_first.is_first c.head_region.result c.head_region.ensures (c.in_ok-is_first.ensures.open l1) c.if-is_first.false in
    let second : opened head_b (view c.is_open.new.device).state.bytes ≡ None =
    none_there head_b (view c.is_open.new.device).state.bytes c.in_ok-is_second.is_second c.head_region-2.result c.head_region-2.ensures (c.in_ok-is_second.ensures.open l2) is in
    record {
      first = subst (λ (b : List ℕ). opened head_a b ≡ None) (sym (same_2 ∙ same_1)) first;
      second = subst (λ (b : List ℕ). opened head_b b ≡ None) (sym same_2) second;
    }
