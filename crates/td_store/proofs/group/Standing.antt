-- What a disk tells while a group of epochs is put on it, and once it is.
use Rattle.std.proofs.Common.{◌≡◌, ◌⊎◌, inl, inr, ⊎_elim, ℕ, zero, suc, ◌+◌, ◌%◌, ◌<◌, ◌≤◌, ◌^◌, Bool, true, false, nat_le, List, [], ◌∷◌, ◌++◌, length, Option, Some, None, refl, sym, ap, ◌∙◌, subst, arith, Ok}
use Rattle.td_plan.specs.Lines.{Line}
use Rattle.td_disk.specs.Disk.{DiskState, SameOutside}
use Rattle.td_gate.specs.declared.region.Region.{Region}
use Rattle.td_gate.specs.Region.{opened, Puts}
use Rattle.td_gate.specs.Regions.{Apart}
use Rattle.td_gate.specs.CrashSafe.{CrashSafe}
use Rattle.td_head.specs.declared.head.Head.{Head}
use Rattle.td_head.specs.Layout.{Sizes, head_a, head_b}
use Rattle.td_head.specs.Head.{headed, TellsCanonical}
use Rattle.td_head.specs.Images.{SameHeads}
use Rattle.td_slots.specs.declared.slots.Slots.{Slots}
use Rattle.td_slots.specs.Slot.{slot}
use Rattle.td_slots.specs.Newest.{newest}
use Rattle.td_slots.specs.Images.{SameSlots}
use Rattle.td_journal.specs.declared.journal.Journal.{Journal}
use Rattle.td_journal.specs.declared.payload.Submitted.{Submitted}
use Rattle.td_journal.specs.Cell.{cell, cell_of, cell_bytes, bears}
use Rattle.td_journal.specs.Images.{IsBorne, IsNext}
use Rattle.td_journal.specs.Numbers.{floor_after, greatest}
use Rattle.td_journal.specs.Ring.{told_after}
use Rattle.td_store.specs.standing.Standing.{Standing, last_epoch, with_more}
use Rattle.td_store.specs.standing.Told.{inputs_of, folds_of, slots_of, ring_of, floor_of}
use Rattle.td_store.specs.standing.Tells.{Tells, EachTells, TellsSince}
use Rattle.td_store.specs.group.Groups.{payloads, Hold, AreCellBatches, may_follow, AreFresh, HasRoomFor, ChangesCells, Spares, IsReady, ClosesSome, AreFree, touched}
use Rattle.td_store.proofs.group.Closing.{none_closed}
use Rattle.td_store.proofs.group.Places.{CellsApart, opened_beside, one_cell, epochs_apart, epochs_apart_too, hold_same}

-- the laws of the crates below, as they are handed in
pub record Laws : Type 0 where
  pub head : (canonical : Bool) (plan : List Line) (old new : List ℕ) → SameHeads old new → headed canonical plan new ≡ headed canonical plan old
  pub text : (canonical : Bool) (old new : List ℕ) → SameHeads old new → TellsCanonical canonical old → TellsCanonical canonical new
  pub slots : (version : ℕ) (folds : List ℕ) (s : Slots) (old new : List ℕ) → SameSlots s old new → newest version folds s new ≡ newest version folds s old
  pub heads_cells : (sizes : Sizes) (kept i : ℕ) → Apart head_a (cell (ring_of sizes kept) i) × Apart head_b (cell (ring_of sizes kept) i)
  pub slots_cells : (sizes : Sizes) (kept i : ℕ) → Apart (slot (slots_of sizes) 0) (cell (ring_of sizes kept) i) × Apart (slot (slots_of sizes) 1) (cell (ring_of sizes kept) i)
  pub apart : CellsApart
  pub still : (inputs : List ℕ) (j : Journal) (old new : List ℕ) (floor : Option ℕ) (checkpoint e : ℕ) (w : List Submitted)
      → IsNext inputs j old floor checkpoint w e
      → ((f : ℕ) → checkpoint < f → f < e → opened (cell_of j f) new ≡ opened (cell_of j f) old)
      → (opened (cell_of j e) new ≡ opened (cell_of j e) old) ⊎ (opened (cell_of j e) new ≡ None)
      → told_after inputs j new floor checkpoint ≡ Ok w
  pub more : (inputs : List ℕ) (j : Journal) (old new : List ℕ) (floor : Option ℕ) (checkpoint e : ℕ) (w x : List Submitted)
      → IsNext inputs j old floor checkpoint w e
      → ((f : ℕ) → checkpoint < f → f < e → opened (cell_of j f) new ≡ opened (cell_of j f) old)
      → Hold j new e (payloads j.m e x) → AreCellBatches inputs j.m x → may_follow (floor_after floor w) x ≡ true
      → e + length x ≤ 2 ^ 63 → length w + length x ≤ j.n → (length w + length x < j.n → IsBorne j new (e + length x) → ⊥)
      → told_after inputs j new floor checkpoint ≡ Ok (w ++ x)

turned : (r s : Region) → Apart r s → Apart s r
turned r s apart = ⊎_elim (λ low. inr low) (λ high. inl high) apart

-- the floor after the epochs of a standing
floors : (version last : ℕ) (w : List Submitted) → floor_after (floor_of version last) w ≡ floor_of version (greatest last w)
floors version last w = by_version (nat_le 2 version)
  where
    by_version : (t : Bool) → floor_after (elim t [ true ↦ Some last | false ↦ None ]) w ≡ elim t [ true ↦ Some (greatest last w) | false ↦ None ]
    by_version true = refl
    by_version false = refl

module _ (laws : Laws) (plan : List Line) (head : Head) (side : ℕ) (s : Standing) where
  ring : Journal
  ring = ring_of head.shape s.epoch

  -- what lies outside of the cells
  heads_beside : (e n : ℕ) (old new : List ℕ) → ChangesCells (ring_of head.shape s.epoch) e n old new → SameHeads old new
  heads_beside e n old new changes = record {
    size = changes.size;
    first = opened_beside (ring_of head.shape s.epoch) e n head_a old new changes (λ k lt. turned head_a (cell_of (ring_of head.shape s.epoch) (e + k)) (laws.heads_cells head.shape s.epoch ((e + k) % head.shape.n)).0);
    second = opened_beside (ring_of head.shape s.epoch) e n head_b old new changes (λ k lt. turned head_b (cell_of (ring_of head.shape s.epoch) (e + k)) (laws.heads_cells head.shape s.epoch ((e + k) % head.shape.n)).1);
  }

  slots_beside : (e n : ℕ) (old new : List ℕ) → ChangesCells (ring_of head.shape s.epoch) e n old new → SameSlots (slots_of head.shape) old new
  slots_beside e n old new changes = record {
    first = opened_beside (ring_of head.shape s.epoch) e n (slot (slots_of head.shape) 0) old new changes (λ k lt. turned (slot (slots_of head.shape) 0) (cell_of (ring_of head.shape s.epoch) (e + k)) (laws.slots_cells head.shape s.epoch ((e + k) % head.shape.n)).0);
    second = opened_beside (ring_of head.shape s.epoch) e n (slot (slots_of head.shape) 1) old new changes (λ k lt. turned (slot (slots_of head.shape) 1) (cell_of (ring_of head.shape s.epoch) (e + k)) (laws.slots_cells head.shape s.epoch ((e + k) % head.shape.n)).1);
  }

  module _ (e n : ℕ) (place : e ≡ last_epoch s + 1) (some : 0 < n) (wide : length s.submitted + n ≤ head.shape.n) (old new : List ℕ) (tells : Tells plan head side s old)
      (changes : ChangesCells (ring_of head.shape s.epoch) e n old new) where
    next : IsNext (inputs_of plan) (ring_of head.shape s.epoch) old (floor_of head.version s.last) s.epoch s.submitted e
    next = record { told = tells.submitted; room = omega (arith, some, wide); epoch = place }

    -- the cells of the epochs before
    before : (f : ℕ) → s.epoch < f → f < e → opened (cell_of (ring_of head.shape s.epoch) f) new ≡ opened (cell_of (ring_of head.shape s.epoch) f) old
    before f low high =
        opened_beside (ring_of head.shape s.epoch) e n (cell_of (ring_of head.shape s.epoch) f) old new changes
        (λ i lt. epochs_apart_too laws.apart (ring_of head.shape s.epoch) f (e + i) (omega (arith, high)) (omega (arith, place, low, lt, wide)))

    -- WHILE the first cell is as it was or closed
    pub tells_still : (opened (cell_of (ring_of head.shape s.epoch) e) new ≡ opened (cell_of (ring_of head.shape s.epoch) e) old) ⊎ (opened (cell_of (ring_of head.shape s.epoch) e) new ≡ None) → Tells plan head side s new
    tells_still first =
        let heads = heads_beside e n old new changes in record {
          canonical = tells.canonical;
          text = laws.text tells.canonical old new heads tells.text;
          head_is = laws.head tells.canonical plan old new heads ∙ tells.head_is;
          checkpoint = laws.slots head.version (folds_of plan) (slots_of head.shape) old new (slots_beside e n old new changes) ∙ tells.checkpoint;
          submitted = laws.still (inputs_of plan) (ring_of head.shape s.epoch) old new (floor_of head.version s.last) s.epoch e s.submitted next before first;
        }

    -- ONCE the group stands in its cells
    pub tells_more : (xs : List Submitted) → length s.submitted + length xs ≤ head.shape.n → e + length xs ≤ 2 ^ 63 → AreFresh head.version s xs → AreCellBatches (inputs_of plan) head.shape.m xs
        → Hold (ring_of head.shape s.epoch) new e (payloads head.shape.m e xs)
        → (length s.submitted + length xs < head.shape.n → IsBorne (ring_of head.shape s.epoch) new (e + length xs) → ⊥)
        → Tells plan head side (with_more s xs) new
    tells_more xs most small fresh ok hold nothing =
        let heads = heads_beside e n old new changes in record {
          canonical = tells.canonical;
          text = laws.text tells.canonical old new heads tells.text;
          head_is = laws.head tells.canonical plan old new heads ∙ tells.head_is;
          checkpoint = laws.slots head.version (folds_of plan) (slots_of head.shape) old new (slots_beside e n old new changes) ∙ tells.checkpoint;
          submitted = laws.more (inputs_of plan) (ring_of head.shape s.epoch) old new (floor_of head.version s.last) s.epoch e s.submitted xs next before hold ok
              (ap (λ (o : Option ℕ). may_follow o xs) (floors head.version s.last s.submitted) ∙ fresh) small most nothing;
        }

  -- THE FIRST CELL IS OPENED over a ring that is ready
  module _ (e : ℕ) (x : Submitted) (xs : List Submitted) (is_full : Bool) (room : HasRoomFor head.shape s e (suc (length xs))) (fresh : AreFresh head.version s (x ∷ xs))
      (ok : AreCellBatches (inputs_of plan) head.shape.m (x ∷ xs)) (full : length s.submitted + suc (length xs) < head.shape.n → is_full ≡ false)
      (old new : List ℕ) (tells : Tells plan head side s old) (ready : IsReady (ring_of head.shape s.epoch) e xs is_full old) where
    one_wide : length s.submitted + 1 ≤ head.shape.n
    one_wide = let most = room.room in omega (arith, most)

    pub changed : SameOutside (cell_of (ring_of head.shape s.epoch) e).at ((cell_of (ring_of head.shape s.epoch) e).len + 1) old new → ChangesCells (ring_of head.shape s.epoch) e 1 old new
    changed others =
        let here : e ≡ e + 0 = omega arith in
        one_cell (ring_of head.shape s.epoch) e 1 0 old new (omega arith)
        (subst (λ f. SameOutside (cell_of (ring_of head.shape s.epoch) f).at ((cell_of (ring_of head.shape s.epoch) f).len + 1) old new) here others)

    -- a cell behind the first
    behind : ChangesCells (ring_of head.shape s.epoch) e 1 old new → (f : ℕ) → e < f → f < e + head.shape.n → opened (cell_of (ring_of head.shape s.epoch) f) new ≡ opened (cell_of (ring_of head.shape s.epoch) f) old
    behind changes f low high = opened_beside (ring_of head.shape s.epoch) e 1 (cell_of (ring_of head.shape s.epoch) f) old new changes
        (λ i lt. let none : e ≡ e + i = omega (arith, lt) in
        subst (λ g. Apart (cell_of (ring_of head.shape s.epoch) g) (cell_of (ring_of head.shape s.epoch) f)) none (epochs_apart laws.apart (ring_of head.shape s.epoch) e f low high))

    pub opened_first : ChangesCells (ring_of head.shape s.epoch) e 1 old new → opened (cell_of (ring_of head.shape s.epoch) e) new ≡ Some (cell_bytes head.shape.m e x.request x.batch) → Tells plan head side (with_more s (x ∷ xs)) new
    opened_first changes is =
        let most = room.room in
        let place : suc e + length xs ≡ e + suc (length xs) = omega arith in
        tells_more e 1 room.epoch (omega arith) one_wide old new tells changes (x ∷ xs) room.room room.small fresh ok (
          is,
          hold_same (ring_of head.shape s.epoch) old new (suc e) (payloads head.shape.m (suc e) xs)
              (λ f low high. behind changes f (omega (arith, low)) (omega (arith, high, payloads_long head.shape.m (suc e) xs, most))) ready.others,
        )
        (λ left borne. ready.nothing (full left) (
          borne.0,
          ap (λ f. opened (cell_of (ring_of head.shape s.epoch) f) old) place ∙ sym (behind changes (e + suc (length xs)) (omega arith) (omega (arith, left))) ∙ borne.1,
          again borne.0 (e + suc (length xs)) (suc e + length xs) (sym place) borne.2,
        ))
      where
        payloads_long : (m f : ℕ) (ys : List Submitted) → length (payloads m f ys) ≡ length ys
        payloads_long m f [] = refl
        payloads_long m f (y ∷ ys) = ap suc (payloads_long m (suc f) ys)

        again : (bytes : List ℕ) (f g : ℕ) → f ≡ g → bears bytes f ≡ true → bears bytes g ≡ true
        again bytes f g same is = subst (λ h. bears bytes h ≡ true) same is

    pub put_first : Puts (cell_of (ring_of head.shape s.epoch) e) (cell_bytes head.shape.m e x.request x.batch) old new → Tells plan head side s new ⊎ Tells plan head side (with_more s (x ∷ xs)) new
    put_first put =
        let changes = changed put.others in
        ⊎_elim
        (λ same. inl (tells_still e 1 room.epoch (omega arith) one_wide old new tells changes (inl same)))
        (λ rest. ⊎_elim
        (λ none. inl (tells_still e 1 room.epoch (omega arith) one_wide old new tells changes (inr none)))
        (λ is. inr (opened_first changes is))
        rest)
        put.region

  -- AT EACH MOMENT
  module _ (e k : ℕ) (is_full : Bool) (room : HasRoomFor head.shape s e k) (some : 0 < touched is_full k) (wide : length s.submitted + touched is_full k ≤ head.shape.n) where
    pub ready_since : (old mid : DiskState) → EachTells plan head side s old → CrashSafe (Spares (ring_of head.shape s.epoch) e (touched is_full k)) old mid
        → (t : ℕ) (c : List ℕ) → t ≤ old.moment → mid.since t c → old.since t c ⊎ Tells plan head side s c
    ready_since old mid each safe t c le left = ⊎_elim
        (λ was. inl was)
        (λ from. inr (tells_still e (touched is_full k) room.epoch some wide from.0 c (each from.0 from.1) from.2.cells from.2.first))
        (safe.before t c le left)

    pub tells_ready : (old mid : DiskState) → ((t : ℕ) (c : List ℕ) → t ≤ mid.moment → mid.images c → mid.since t c) → EachTells plan head side s old → CrashSafe (Spares (ring_of head.shape s.epoch) e (touched is_full k)) old mid
        → EachTells plan head side s mid
    tells_ready old mid counts each safe c image =
        let from = safe.each c (counts old.moment c safe.later image) in
        tells_still e (touched is_full k) room.epoch some wide from.0 c (each from.0 from.1) from.2.cells from.2.first

  -- WHILE CELLS THAT ARE FREE are closed
  pub tells_closed : (e n : ℕ) → AreFree head.shape s e n → (old new : List ℕ) → Tells plan head side s old → ClosesSome (ring_of head.shape s.epoch) e n old new → Tells plan head side s new
  tells_closed e zero free old new tells closes = subst (Tells plan head side s) (sym (none_closed (ring_of head.shape s.epoch) e old new closes)) tells
  tells_closed e (suc n) free old new tells closes =
      let here : e + 0 ≡ e = omega arith in
      tells_still e (suc n) free.epoch (omega arith) free.room old new tells closes.cells
      (subst (λ f. (opened (cell_of (ring_of head.shape s.epoch) f) new ≡ opened (cell_of (ring_of head.shape s.epoch) f) old) ⊎ (opened (cell_of (ring_of head.shape s.epoch) f) new ≡ None)) here (closes.each 0 (omega arith)))

  module _ (e n : ℕ) (free : AreFree head.shape s e n) (old new : DiskState) (each : EachTells plan head side s old) (safe : CrashSafe (ClosesSome (ring_of head.shape s.epoch) e n) old new) where
    pub closing_since : TellsSince (Tells plan head side s) (Tells plan head side s) old new
    closing_since t c le left = ⊎_elim
        (λ was. inl was)
        (λ from. inr (inl (tells_closed e n free from.0 c (each from.0 from.1) from.2)))
        (safe.before t c le left)

    pub tells_after : ((c : List ℕ) → new.images c → new.since old.moment c) → EachTells plan head side s new
    tells_after counts c image =
        let from = safe.each c (counts c image) in
        tells_closed e n free from.0 c (each from.0 from.1) from.2
