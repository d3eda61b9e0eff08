-- Zeros behind heads that are closed, write by write.
use Rattle.std.proofs.Common.{◌≡◌, ◌⊎◌, inl, inr, ⊎_elim, if◌then◌else◌, ℕ, zero, suc, ◌+◌, ◌-◌, ◌<◌, ◌≤◌, ◌==◌, Bool, true, false, List, length, take, drop, replicate, sym, ap, ◌∙◌, arith, Some, None, refl}
use Rattle.std.specs.Prelude.{slice_index}
use Rattle.std.proofs.lemmas.Bool.{cases_lt}
use Rattle.std.proofs.lemmas.List.{get_or-take, get_or-drop}
use Rattle.td_disk.specs.Disk.{DiskState, ImagesFollow, NoNewImages, TimePasses, SameOutside, bytes_at}
use Rattle.td_gate.specs.declared.region.Region.{Region}
use Rattle.td_gate.specs.Region.{gate_of, opened}
use Rattle.td_head.specs.Layout.{Sizes, head_a, head_b, size_of}
use Rattle.td_slots.specs.Slot.{slot}
use Rattle.td_journal.specs.Cell.{cell}
use Rattle.td_store.specs.standing.Told.{slots_of, ring_of}
use Rattle.td_store.specs.copy.Copied.{EachHasNoHead, HasNoHead, IsZeroBetween, OpensNoHead}

-- A GATE THAT STAYS AS IT IS stays closed.
closed_by : (b : Bool) (payload : List ℕ) → (if b then Some payload else None) ≡ None → b ≡ false
closed_by true payload none = absurd cc
closed_by false payload none = refl

stays_closed : (r : Region) (old new : List ℕ) → gate_of r new ≡ gate_of r old → opened r old ≡ None → opened r new ≡ None
stays_closed r old new same none =
    let test : (gate_of r old == 0xA5) ≡ false = closed_by (gate_of r old == 0xA5) (bytes_at r.at r.len old) none in
    ap (λ (b : Bool). if b then Some (bytes_at r.at r.len new) else None) (ap (λ (g : ℕ). g == 0xA5) same ∙ test)

-- a range without the gates of the heads
abbrev pub OffGates : ℕ → ℕ → Type 0
OffGates at end = (4129 ≤ at) × ((end ≤ 8257) ⊎ (8258 ≤ at))

pub still_no_head : (at n : ℕ) (old new : List ℕ) → OffGates at (at + n) → SameOutside at n old new → HasNoHead old → HasNoHead new
still_no_head at n old new off same none = record {
  first = stays_closed head_a old new (same.before 4128 (omega (arith, off.0))) none.first;
  second = stays_closed head_b old new
      (⊎_elim (λ low. same.after 8257 low) (λ high. same.before 8257 high) off.1) none.second;
}

-- a write, whether it succeeds or not
pub written_no_head : (at n : ℕ) (old new : DiskState) → OffGates at (at + n) → ImagesFollow (SameOutside at n) old new → TimePasses old new → EachHasNoHead old
    → EachHasNoHead new × OpensNoHead old new
written_no_head at n old new off follow time none =
    let each : EachHasNoHead new = λ c left. let from = follow c left in still_no_head at n from.0 c off from.2 (none from.0 from.1) in
    (each, record { later = time.later; each = λ t c le left. ⊎_elim (λ was. inl was) (λ now. inr (each c now)) (time.nothing_else t c le left) })

-- a sync
pub synced_no_head : (old new : DiskState) → NoNewImages old new → TimePasses old new → EachHasNoHead old → EachHasNoHead new × OpensNoHead old new
synced_no_head old new follow time none =
    let each : EachHasNoHead new = λ c left. none c (follow c left) in
    (each, record { later = time.later; each = λ t c le left. ⊎_elim (λ was. inl was) (λ now. inr (each c now)) (time.nothing_else t c le left) })

-- one after another
pub no_head_in_turn : (old mid new : DiskState) → EachHasNoHead mid × OpensNoHead old mid → (EachHasNoHead mid → EachHasNoHead new × OpensNoHead mid new) → EachHasNoHead new × OpensNoHead old new
no_head_in_turn old mid new first next =
    let second = next first.0 in (
      second.0,
      record {
        later = omega (arith, first.1.later, second.1.later);
        each = λ t c le left. ⊎_elim (λ was. first.1.each t c le was) (λ none. inr none) (second.1.each t c (omega (arith, le, first.1.later)) left);
      },
    )

pub no_head_at_first : (state : DiskState) → EachHasNoHead state → EachHasNoHead state × OpensNoHead state state
no_head_at_first state none = (none, record { later = omega arith; each = λ t c le left. inl left })

-- the bytes of a write
within : (at n i : ℕ) (image bytes : List ℕ) → bytes_at at n image ≡ bytes → IsZeroBetween 0 n bytes → at ≤ i → i < at + n → slice_index image i ≡ 0
within at n i image bytes read zero_bytes le lt =
    let place : i ≡ at + (i - at) = omega (arith, le) in
    let few : i - at < n = omega (arith, le, lt) in
    ap (λ (j : ℕ). slice_index image j) place ∙ sym (get_or-drop at image (i - at) 0) ∙ sym (get_or-take n (drop at image) (i - at) 0 few)
    ∙ ap (λ (l : List ℕ). slice_index l (i - at)) read ∙ zero_bytes.each (i - at) (omega arith) few

-- zeros written behind zeros
pub zeros_more : (at from to n : ℕ) (old new bytes : List ℕ) → to ≡ from + n → length bytes ≡ n → IsZeroBetween at from old → SameOutside from (length bytes) old new
    → bytes_at from (length bytes) new ≡ bytes → IsZeroBetween 0 n bytes → IsZeroBetween at to new
zeros_more at from to n old new bytes end size was same read zero_bytes = record {
  each = λ i low high. ⊎_elim (λ before. same.before i before ∙ was.each i low before)
      (λ past. within from n i new bytes (ap (λ (k : ℕ). bytes_at from k new) (sym size) ∙ read) zero_bytes past (omega (arith, high, end))) (cases_lt i from);
}

pub part_zero : (n k : ℕ) (bytes : List ℕ) → k ≤ n → IsZeroBetween 0 n bytes → IsZeroBetween 0 k (take k bytes)
part_zero n k bytes le zero_bytes = record { each = λ i low high. get_or-take k bytes i 0 high ∙ zero_bytes.each i low (omega (arith, high, le)) }

zero_of : (n i : ℕ) → slice_index (replicate n 0) i ≡ 0
zero_of zero i = refl
zero_of (suc n) zero = refl
zero_of (suc n) (suc i) = zero_of n i

pub all_zero : (n m : ℕ) → IsZeroBetween 0 m (replicate n 0)
all_zero n m = record { each = λ i low high. zero_of n i }

pub still_zero : (at end : ℕ) (old new : List ℕ) → ((i : ℕ) → i < end → slice_index new i ≡ slice_index old i) → IsZeroBetween at end old → IsZeroBetween at end new
still_zero at end old new same was = record { each = λ i low high. same i high ∙ was.each i low high }

-- A REGION OF ZEROS is closed.
zero_closed : (r : Region) (at end : ℕ) (image : List ℕ) → IsZeroBetween at end image → at ≤ r.at + r.len → r.at + r.len < end → opened r image ≡ None
zero_closed r at end image zeros low high = ap (λ (g : ℕ). if g == 0xA5 then Some (bytes_at r.at r.len image) else None) (zeros.each (r.at + r.len) low high)

pub slot_closed : (sizes : Sizes) (image : List ℕ) → IsZeroBetween 8258 (size_of sizes) image → opened (slot (slots_of sizes) 1) image ≡ None
slot_closed sizes image zeros = zero_closed (slot (slots_of sizes) 1) 8258 (size_of sizes) image zeros (omega arith) (omega arith)

pub cell_closed : (sizes : Sizes) (kept i : ℕ) (image : List ℕ) → (cell (ring_of sizes kept) i).at + (cell (ring_of sizes kept) i).len + 1 ≤ size_of sizes
    → IsZeroBetween 8258 (size_of sizes) image → opened (cell (ring_of sizes kept) i) image ≡ None
cell_closed sizes kept i image ends zeros = zero_closed (cell (ring_of sizes kept) i) 8258 (size_of sizes) image zeros (omega arith) (omega (arith, ends))
