-- What a write of the gate or of the payload makes of an image.
use Rattle.std.proofs.Common.{◌≡◌, ◌≢◌, inl, inr, ℕ, ◌+◌, ◌<◌, ◌≤◌, List, [], ◌∷◌, length, get_or, drop, Some, None, Bool, true, refl, sym, ◌∙◌, ap, arith, length-drop}
use Rattle.std.proofs.lemmas.Bool.{cases_eq}
use Rattle.std.proofs.lemmas.Bool.Decides.{nat_tests}
use Rattle.std.proofs.lemmas.List.{ext_get_or, take_all, length-take, get_or-take, get_or-drop}
use Rattle.td_disk.specs.Disk.{DiskState, bytes_at, SameOutside}
use Rattle.td_gate.specs.declared.region.Region.{Region}
use Rattle.td_gate.specs.Region.{gate_of, is_open_in, opened, start_of, IsSettled, Closes, Fills, Opens}

pub same_outside_refl : (at n : ℕ) (c : List ℕ) → SameOutside at n c c
same_outside_refl at n c = record { size = refl; before = λ i l. refl; after = λ i l. refl }

pub same_outside_trans : (at n : ℕ) (c d e : List ℕ) → SameOutside at n c d → SameOutside at n d e → SameOutside at n c e
same_outside_trans at n c d e f s = record { size = s.size ∙ f.size; before = λ i l. s.before i l ∙ f.before i l; after = λ i l. s.after i l ∙ f.after i l }

pub same_outside_wider : (at n big m : ℕ) (c d : List ℕ) → big ≤ at → at + n ≤ big + m → SameOutside at n c d → SameOutside big m c d
same_outside_wider at n big m c d low high f = record { size = f.size; before = λ i l. f.before i (omega arith); after = λ i l. f.after i (omega arith) }

-- what is outside the range is the same bytes_at
pub bytes_same : (at n : ℕ) (c d : List ℕ) → length d ≡ length c → ((i : ℕ) → at ≤ i → i < at + n → get_or d i 0 ≡ get_or c i 0) → bytes_at at n d ≡ bytes_at at n c
bytes_same at n c d size same = ext_get_or 0 (bytes_at at n d) (bytes_at at n c)
    (omega (arith, length-take n (drop at d), length-take n (drop at c), length-drop at d, length-drop at c))
    (λ i l. let lt : i < n = omega (arith, length-take n (drop at d)) in
    get_or-take n (drop at d) i 0 lt ∙ get_or-drop at d i 0 ∙ same (at + i) (omega arith) (omega arith)
    ∙ sym (get_or-drop at c i 0) ∙ sym (get_or-take n (drop at c) i 0 lt))

-- one byte of a bytes_at
pub bytes_one : (at : ℕ) (c : List ℕ) (b : ℕ) → bytes_at at 1 c ≡ b ∷ [] → get_or c at 0 ≡ b
bytes_one at c b is = ap (λ i. get_or c i 0) (omega arith) ∙ sym (get_or-drop at c 0 0) ∙ sym (get_or-take 1 (drop at c) 0 0 (omega arith)) ∙ ap (λ (l : List ℕ). get_or l 0 0) is

pub opened_open : (r : Region) (c : List ℕ) → gate_of r c ≡ 165 → opened r c ≡ Some (bytes_at r.at r.len c)
opened_open r c is = grind (arith, nat_tests)

pub opened_closed : (r : Region) (c : List ℕ) → gate_of r c ≢ 165 → opened r c ≡ None
opened_closed r c is = grind (arith, nat_tests)

-- a gate that was found open
pub found_open : (r : Region) (c : List ℕ) (is : Bool) → is ≡ is_open_in r c → is ≡ true → gate_of r c ≡ 165
found_open r c is found true_is = grind (arith, nat_tests)

-- A payload's first bytes are it, where they are as many as it has.
pub whole_start : (r : Region) (c : List ℕ) → start_of r.len (opened r c) ≡ opened r c
whole_start r c = elim (cases_eq (gate_of r c) 165) [
  | inl is ↦
      let taken = take_all r.len (bytes_at r.at r.len c) (omega (arith, length-take r.len (drop r.at c))) in
      ap (start_of r.len) (opened_open r c is) ∙ ap (λ (l : List ℕ). Some l) taken ∙ sym (opened_open r c is)
  | inr closed ↦ ap (start_of r.len) (opened_closed r c closed) ∙ sym (opened_closed r c closed)
]

-- the gate as it was read
pub gate_read : (at : ℕ) (c buf : List ℕ) → buf ≡ bytes_at at 1 c → length buf ≡ 1 → get_or buf 0 0 ≡ get_or c at 0
gate_read at c buf is len = ap (λ (l : List ℕ). get_or l 0 0) is ∙ get_or-take 1 (drop at c) 0 0 (omega arith) ∙ get_or-drop at c 0 0 ∙ ap (λ i. get_or c i 0) (omega arith)

-- a write of the gate leaves the payload
pub payload_same : (r : Region) (d c : List ℕ) → SameOutside (r.at + r.len) 1 d c → bytes_at r.at r.len c ≡ bytes_at r.at r.len d
payload_same r d c f = bytes_same r.at r.len d c f.size (λ i low high. f.before i high)

-- the gate of an open region is written
pub closes : (r : Region) (state : DiskState) (d c : List ℕ) → IsSettled r state → state.images d → gate_of r state.bytes ≡ 165 → SameOutside (r.at + r.len) 1 d c → Closes r d c
closes r state d c settled image was f = record {
  others = same_outside_wider (r.at + r.len) 1 r.at (r.len + 1) d c (omega arith) (omega arith) f;
  region = elim (cases_eq (gate_of r c) 165) [
    | inl still ↦
        let before : gate_of r d ≡ 165 = (settled d image).each (r.at + r.len) (omega arith) (omega arith) ∙ was in
        inl (opened_open r c still ∙ ap (λ (l : List ℕ). Some l) (payload_same r d c f) ∙ sym (opened_open r d before))
    | inr closed ↦ inr (opened_closed r c closed)
  ];
}

-- a payload is written behind a closed gate
pub fills : (r : Region) (d c : List ℕ) → gate_of r d ≢ 165 → SameOutside r.at r.len d c → Fills r d c
fills r d c closed f = record {
  others = same_outside_wider r.at r.len r.at (r.len + 1) d c (omega arith) (omega arith) f;
  region = opened_closed r c (λ is. closed (sym (f.after (r.at + r.len) (omega arith)) ∙ is));
}

-- the gate of a filled region is written
pub opens : (r : Region) (payload d c : List ℕ) → bytes_at r.at r.len d ≡ payload → SameOutside (r.at + r.len) 1 d c → Opens r payload d c
opens r payload d c filled f = record {
  others = same_outside_wider (r.at + r.len) 1 r.at (r.len + 1) d c (omega arith) (omega arith) f;
  region = elim (cases_eq (gate_of r c) 165) [
    | inl now ↦ inr (opened_open r c now ∙ ap (λ (l : List ℕ). Some l) (payload_same r d c f ∙ filled))
    | inr closed ↦ inl (opened_closed r c closed)
  ];
}
