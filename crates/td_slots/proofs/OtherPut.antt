-- What a put into the slot beside the newest makes of the newest.
use Rattle.std.proofs.Common.{◌≡◌, ◌⊎◌, inl, inr, ⊎_elim, ℕ, ◌-◌, ◌<◌, ◌^◌, Bool, true, false, nat_lt, List, Option, Some, None, refl, sym, ap, ◌∙◌, arith, Result, Ok, Err}
use Rattle.td_stamp.specs.States.{StateList}
use Rattle.td_gate.specs.Region.{opened}
use Rattle.td_gate.specs.Regions.{Apart}
use Rattle.td_slots.specs.declared.slots.Slots.{Slots}
use Rattle.td_slots.specs.declared.error.SlotsError.{SlotsError}
use Rattle.td_slots.specs.Slot.{slot, slot_bytes, is_slot, IsLast, AreSlotStates}
use Rattle.td_slots.specs.declared.slots.Checkpoint.{Checkpoint}
use Rattle.td_slots.specs.Newest.{where_valid, spelled, checkpoint_in, second_if, later, newest_of, newest_in, newest, in_order, after_write}
use Rattle.td_slots.proofs.ReadBack.{slot_found}

abbrev made : Checkpoint → Result Checkpoint SlotsError
made c = Ok c

side_where : (t : Bool) (x c : Checkpoint) → where_valid t x ≡ Ok c → c.slot ≡ x.slot
side_where true x c is = let same : x ≡ c = cc in ap (λ (y : Checkpoint). y.slot) (sym same)
side_where false x c is = absurd cc

one_of : (t : Bool) (x y c : Checkpoint) → made (second_if t x y) ≡ made c → (made x ≡ made c) ⊎ (made y ≡ made c)
one_of true x y c e = inr e
one_of false x y c e = inl e

-- both are valid, and the newest is one of them
both_valid : (r q : Result Checkpoint SlotsError) (c : Checkpoint) → newest_of r q ≡ Ok c → ((r ≡ Ok c) ⊎ (q ≡ Ok c))
both_valid (Err e) q c is = absurd cc
both_valid (Ok x) (Err e) c is = absurd cc
both_valid (Ok x) (Ok y) c is = one_of (nat_lt x.epoch y.epoch) x y c is

module _ (version : ℕ) (folds : List ℕ) (k : ℕ) where
  side_of : (side : ℕ) (bytes : List ℕ) (c : Checkpoint) → checkpoint_in version folds k side bytes ≡ Ok c → c.slot ≡ side
  side_of side bytes c is = side_where (is_slot version folds k bytes) (spelled side bytes) c is

  -- the newest stands in its slot
  pub stands : (h q : Option (List ℕ)) (c : Checkpoint) → newest_in version folds k h q ≡ Ok c
      → ((c.slot ≡ 0) × (bytes : List ℕ) × (h ≡ Some bytes) × (checkpoint_in version folds k 0 bytes ≡ Ok c))
      ⊎ ((c.slot ≡ 1) × (bytes : List ℕ) × (q ≡ Some bytes) × (checkpoint_in version folds k 1 bytes ≡ Ok c))
  stands None None c is = absurd cc
  stands (Some p) None c is = inl (side_of 0 p c is, p, refl, is)
  stands None (Some q) c is = inr (side_of 1 q c is, q, refl, is)
  stands (Some p) (Some q) c is = ⊎_elim (λ first. inl (side_of 0 p c first, p, refl, first)) (λ second. inr (side_of 1 q c second, q, refl, second))
      (both_valid (checkpoint_in version folds k 0 p) (checkpoint_in version folds k 1 q) c is)

  -- one of them stays, and the other is closed
  second_closed : (h q : Option (List ℕ)) (bytes : List ℕ) (c : Checkpoint) → h ≡ Some bytes → checkpoint_in version folds k 0 bytes ≡ Ok c → q ≡ None → newest_in version folds k h q ≡ Ok c
  second_closed h q bytes c eh valid eq = ap (λ (x : Option (List ℕ)). newest_in version folds k x q) eh ∙ ap (newest_in version folds k (Some bytes)) eq ∙ valid

  first_closed : (h q : Option (List ℕ)) (bytes : List ℕ) (c : Checkpoint) → q ≡ Some bytes → checkpoint_in version folds k 1 bytes ≡ Ok c → h ≡ None → newest_in version folds k h q ≡ Ok c
  first_closed h q bytes c eq valid eh = ap (λ (x : Option (List ℕ)). newest_in version folds k x q) eh ∙ ap (newest_in version folds k None) eq ∙ valid

  -- both are open
  both_open : (h q : Option (List ℕ)) (p r : List ℕ) (x y : Checkpoint) → h ≡ Some p → q ≡ Some r → checkpoint_in version folds k 0 p ≡ Ok x → checkpoint_in version folds k 1 r ≡ Ok y → newest_in version folds k h q ≡ Ok (later x y)
  both_open h q p r x y eh eq valid also =
      ap (λ (z : Option (List ℕ)). newest_in version folds k z q) eh ∙ ap (newest_in version folds k (Some p)) eq
      ∙ ap (λ (z : Result Checkpoint SlotsError). newest_of z (checkpoint_in version folds k 1 r)) valid ∙ ap (newest_of (Ok x)) also

module _ (version : ℕ) (folds : List ℕ) (s : Slots) (old new : List ℕ) (c : Checkpoint) (was : newest version folds s old ≡ Ok c) (e q : ℕ) (states : StateList)
    (small : e < 2 ^ 63) (number : IsLast version q) (ok : AreSlotStates folds s.k states) where
  -- the newest is in slot 0, and slot 1 is written
  pub into_second : c.slot ≡ 0 → (bytes : List ℕ) → opened (slot s 0) old ≡ Some bytes → checkpoint_in version folds s.k 0 bytes ≡ Ok c → opened (slot s 0) new ≡ opened (slot s 0) old
      → ((opened (slot s 1) new ≡ opened (slot s 1) old → newest version folds s new ≡ Ok c)
      × (opened (slot s 1) new ≡ None → newest version folds s new ≡ Ok c)
      × (opened (slot s 1) new ≡ Some (slot_bytes s.k e q states) → newest version folds s new ≡ Ok (after_write c e q states)))
  into_second side bytes held valid same = (
    λ is. ap (λ (h : Option (List ℕ)). newest_in version folds s.k h (opened (slot s 1) new)) same ∙ ap (newest_in version folds s.k (opened (slot s 0) old)) is ∙ was,
    λ none. second_closed version folds s.k (opened (slot s 0) new) (opened (slot s 1) new) bytes c (same ∙ held) valid none,
    λ is. both_open version folds s.k (opened (slot s 0) new) (opened (slot s 1) new) bytes (slot_bytes s.k e q states) c (record { slot = 1; epoch = e; last = q; states = states }) (same ∙ held) is valid (slot_found version folds s.k e q states small number ok 1)
        ∙ sym (ap (λ (i : ℕ). made (in_order i c (record { slot = 1 - i; epoch = e; last = q; states = states }))) side),
  )

  -- the newest is in slot 1, and slot 0 is written
  pub into_first : c.slot ≡ 1 → (bytes : List ℕ) → opened (slot s 1) old ≡ Some bytes → checkpoint_in version folds s.k 1 bytes ≡ Ok c → opened (slot s 1) new ≡ opened (slot s 1) old
      → ((opened (slot s 0) new ≡ opened (slot s 0) old → newest version folds s new ≡ Ok c)
      × (opened (slot s 0) new ≡ None → newest version folds s new ≡ Ok c)
      × (opened (slot s 0) new ≡ Some (slot_bytes s.k e q states) → newest version folds s new ≡ Ok (after_write c e q states)))
  into_first side bytes held valid same = (
    λ is. ap (λ (h : Option (List ℕ)). newest_in version folds s.k (opened (slot s 0) new) h) same ∙ ap (λ (h : Option (List ℕ)). newest_in version folds s.k h (opened (slot s 1) old)) is ∙ was,
    λ none. first_closed version folds s.k (opened (slot s 0) new) (opened (slot s 1) new) bytes c (same ∙ held) valid none,
    λ is. both_open version folds s.k (opened (slot s 0) new) (opened (slot s 1) new) (slot_bytes s.k e q states) bytes (record { slot = 0; epoch = e; last = q; states = states }) c is (same ∙ held) (slot_found version folds s.k e q states small number ok 0) valid
        ∙ sym (ap (λ (i : ℕ). made (in_order i c (record { slot = 1 - i; epoch = e; last = q; states = states }))) side),
  )

pub slot_0_1 : (s : Slots) → Apart (slot s 0) (slot s 1)
slot_0_1 s = inl (omega arith)

pub slot_1_0 : (s : Slots) → Apart (slot s 1) (slot s 0)
slot_1_0 s = inr (omega arith)
