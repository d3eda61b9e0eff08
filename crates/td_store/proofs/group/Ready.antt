-- How a ring is made ready for a group, step by step.
use Rattle.std.proofs.Common.{◌≡◌, ◌≢◌, inl, inr, ⊎_elim, ℕ, suc, ◌+◌, ◌<◌, ◌≤◌, nat_le, Bool, true, false, List, [], ◌∷◌, length, Some, None, refl, sym, ap, ◌∙◌, subst, arith}
use Rattle.std.proofs.lemmas.Bool.{leb-false, lt-leb}
use Rattle.std.proofs.lemmas.Bool.Decides.{nat_tests}
use Rattle.td_disk.specs.Disk.{DiskState, IsDurable, ImagesFollow, NoNewImages, SameOutside, TimePasses, bytes_at}
use Rattle.td_gate.specs.CrashSafe.{CrashSafe}
use Rattle.td_gate.specs.declared.region.Region.{Region}
use Rattle.td_gate.specs.Region.{gate_of, opened, Closes, IsClosed, IsFilled}
use Rattle.td_gate.specs.Regions.{Apart}
use Rattle.td_journal.specs.declared.journal.Journal.{Journal}
use Rattle.td_journal.specs.declared.payload.Submitted.{Submitted}
use Rattle.td_journal.specs.Cell.{cell_of, cell_len}
use Rattle.td_journal.specs.Images.{IsBorne, Clears}
use Rattle.td_store.specs.group.Groups.{payloads, ChangesCells, ClosesNext, EachReady, IsBeside, IsReady, Spares, touched}
use Rattle.td_store.proofs.group.Moments.{HasClock, at_the_end, in_turn, one_call, weaker_step}
use Rattle.td_store.proofs.group.Places.{CellsApart, opened_beside, range_beside, one_cell, no_change, then_change, epochs_apart, epochs_apart_too, hold_same}
use Rattle.td_store.proofs.group.Pieces.{opened_open}

-- of a disk of which a crash leaves what is read: what a run of calls did to what is read
pub bytes_step : (step : List ℕ → List ℕ → Type 0) (old new : DiskState) → HasClock new → new.images new.bytes → IsDurable old → CrashSafe step old new → step old.bytes new.bytes
bytes_step step old new clock read durable safe =
    let from = safe.each new.bytes (clock.counts_now old.moment new.bytes safe.later read) in
    subst (λ (d : List ℕ). step d new.bytes) (durable from.0 from.1) from.2

pub wider : (j : Journal) (e n m : ℕ) (d c : List ℕ) → n ≤ m → ChangesCells j e n d c → ChangesCells j e m d c
wider j e n m d c le changes = record { size = changes.size; each = λ i beside. changes.each i (λ k lt. beside k (omega (arith, lt, le))) }

pub spares_wider : (j : Journal) (e n m : ℕ) (d c : List ℕ) → n ≤ m → Spares j e n d c → Spares j e m d c
spares_wider j e n m d c le spares = record { cells = wider j e n m d c le spares.cells; first = spares.first }

pub spares_same : (j : Journal) (e n : ℕ) (d : List ℕ) → Spares j e n d d
spares_same j e n d = record { cells = no_change j e n d; first = inl refl }

pub spares_then : (j : Journal) (e n : ℕ) (d m c : List ℕ) → Spares j e n d m → Spares j e n m c → Spares j e n d c
spares_then j e n d m c one two = record {
  cells = then_change j e n d m c one.cells two.cells;
  first = ⊎_elim (λ same. ⊎_elim (λ before. inl (same ∙ before)) (λ none. inr (same ∙ none)) one.first) (λ none. inr none) two.first;
}

-- a closed gate
pub shut_none : (r : Region) (c : List ℕ) → gate_of r c ≢ 165 → opened r c ≡ None
shut_none r c is = grind (arith, nat_tests)

none_shut : (r : Region) (c : List ℕ) → opened r c ≡ None → gate_of r c ≢ 165
none_shut r c none is = let no : Some (bytes_at r.at r.len c) ≡ None = sym (opened_open r c is) ∙ none in cc

-- a cell of the group, or the one behind it
at_cell : (j : Journal) (e n k : ℕ) (d c : List ℕ) → k < n → SameOutside (cell_of j (e + k)).at ((cell_of j (e + k)).len + 1) d c → ChangesCells j e n d c
at_cell j e n k d c lt others = one_cell j e n k d c lt others

-- what another cell than the one that changed holds
pub other_cell : CellsApart → (j : Journal) (f g : ℕ) (d c : List ℕ) → f < g → g < f + j.n → SameOutside (cell_of j g).at ((cell_of j g).len + 1) d c → opened (cell_of j f) c ≡ opened (cell_of j f) d
other_cell apart j f g d c low high others =
    let here : g ≡ g + 0 = omega arith in
    opened_beside j g 1 (cell_of j f) d c (one_cell j g 1 0 d c (omega arith) (subst (λ h. SameOutside (cell_of j h).at ((cell_of j h).len + 1) d c) here others))
    (λ k lt. let none : g ≡ g + k = omega (arith, lt) in
    subst (λ h. Apart (cell_of j h) (cell_of j f)) none (epochs_apart_too apart j f g low high))

pub later_cell : CellsApart → (j : Journal) (f g : ℕ) (d c : List ℕ) → f < g → g < f + j.n → SameOutside (cell_of j f).at ((cell_of j f).len + 1) d c → opened (cell_of j g) c ≡ opened (cell_of j g) d
later_cell apart j f g d c low high others =
    let here : f ≡ f + 0 = omega arith in
    opened_beside j f 1 (cell_of j g) d c (one_cell j f 1 0 d c (omega arith) (subst (λ h. SameOutside (cell_of j h).at ((cell_of j h).len + 1) d c) here others))
    (λ k lt. let none : f ≡ f + k = omega (arith, lt) in
    subst (λ h. Apart (cell_of j h) (cell_of j g)) none (epochs_apart apart j f g low high))

-- THE CELL BEHIND THE GROUP is closed
spares_behind : CellsApart → (j : Journal) (e k : ℕ) (d c : List ℕ) → 0 < k → suc k ≤ j.n → Closes (cell_of j (e + k)) d c → Spares j e (suc k) d c
spares_behind apart j e k d c some room closes = record {
  cells = at_cell j e (suc k) k d c (omega arith) closes.others;
  first = inl (other_cell apart j e (e + k) d c (omega (arith, some)) (omega (arith, room)) closes.others);
}

pub spares_clears : CellsApart → (j : Journal) (e k : ℕ) (d c : List ℕ) → 0 < k → suc k ≤ j.n → Clears j (e + k) d c → Spares j e (suc k) d c
spares_clears apart j e k d c some room clears = ⊎_elim
    (λ same. subst (λ (x : List ℕ). Spares j e (suc k) d x) (sym same) (spares_same j e (suc k) d))
    (λ closes. spares_behind apart j e k d c some room closes.1)
    clears

-- THE FIRST CELL is closed
pub spares_closes : (j : Journal) (e n : ℕ) (d c : List ℕ) → 0 < n → Closes (cell_of j e) d c → Spares j e n d c
spares_closes j e n d c some closes =
    let here : e ≡ e + 0 = omega arith in record {
      cells = at_cell j e n 0 d c some (subst (λ h. SameOutside (cell_of j h).at ((cell_of j h).len + 1) d c) here closes.others);
      first = closes.region;
    }

-- THE OTHERS are written
pub first_stays : CellsApart → (j : Journal) (e n : ℕ) (d c : List ℕ) → suc n ≤ j.n → ChangesCells j (e + 1) n d c → opened (cell_of j e) c ≡ opened (cell_of j e) d
first_stays apart j e n d c room changes = opened_beside j (e + 1) n (cell_of j e) d c changes
    (λ k lt. epochs_apart_too apart j e (e + 1 + k) (omega arith) (omega (arith, lt, room)))

pub spares_changes : CellsApart → (j : Journal) (e n m : ℕ) (d c : List ℕ) → suc n ≤ m → suc n ≤ j.n → ChangesCells j (e + 1) n d c → Spares j e m d c
spares_changes apart j e n m d c wide room changes = record {
  cells = record {
    size = changes.size;
    each = λ i beside. changes.each i (λ k lt. let place : e + suc k ≡ e + 1 + k = omega arith in
        subst (λ h. IsBeside (cell_of j h) i) place (beside (suc k) (omega (arith, lt, wide))));
  };
  first = inl (first_stays apart j e n d c room changes);
}

-- THE FIRST CELL is filled, behind its closed gate
pub spares_fills : (j : Journal) (e n : ℕ) (d c : List ℕ) → 0 < n → gate_of (cell_of j e) d ≢ 165 → SameOutside (cell_of j e).at (cell_of j e).len d c → Spares j e n d c
spares_fills j e n d c some closed f =
    let here : e ≡ e + 0 = omega arith in
    let wide : SameOutside (cell_of j e).at ((cell_of j e).len + 1) d c = record { size = f.size; before = f.before; after = λ i past. f.after i (omega (arith, past)) } in record {
      cells = at_cell j e n 0 d c some (subst (λ h. SameOutside (cell_of j h).at ((cell_of j h).len + 1) d c) here wide);
      first = inr (shut_none (cell_of j e) c (λ is. closed (sym (f.after ((cell_of j e).at + (cell_of j e).len) (omega arith)) ∙ is)));
    }

-- the cell behind them stays
pub behind_stays : CellsApart → (j : Journal) (e n : ℕ) (d c : List ℕ) → suc n ≤ j.n → ChangesCells j e n d c → opened (cell_of j (e + n)) c ≡ opened (cell_of j (e + n)) d
behind_stays apart j e n d c room changes = opened_beside j e n (cell_of j (e + n)) d c changes
    (λ k lt. epochs_apart apart j (e + k) (e + n) (omega (arith, lt)) (omega (arith, room)))

pub borne_before : (j : Journal) (d c : List ℕ) (f : ℕ) → opened (cell_of j f) c ≡ opened (cell_of j f) d → IsBorne j c f → IsBorne j d f
borne_before j d c f same borne = (borne.0, sym same ∙ borne.1, borne.2)

-- a ring that is not full with the group has a cell behind it
pub by_fullness : (t : Bool) (k n : ℕ) (P : ℕ → Type 0) → t ≡ false → touched t k ≤ n → (suc k ≤ n → P (suc k)) → P (touched t k)
by_fullness false k n P is room go = go room
by_fullness true k n P is room go = absurd cc

pub touched_wide : (t : Bool) (k : ℕ) → k ≤ touched t k
touched_wide true k = omega arith
touched_wide false k = omega arith

pub touched_more : (t : Bool) (k n : ℕ) → t ≡ false → touched t k ≤ n → suc k ≤ n
touched_more false k n is room = room
touched_more true k n is room = absurd cc

-- two steps
pub two_steps : (j : Journal) (e n : ℕ) (old mid new : DiskState) → HasClock mid → CrashSafe (Spares j e n) old mid → CrashSafe (Spares j e n) mid new → CrashSafe (Spares j e n) old new
two_steps j e n old mid new clock one two = in_turn (Spares j e n) (Spares j e n) (Spares j e n) old mid new clock one two (λ d c step. step) (λ d m c first second. spares_then j e n d m c first second)

pub shut_step : (j : Journal) (e n : ℕ) (r : Region) (mid new : DiskState) → r ≡ cell_of j e → 0 < n → CrashSafe (Closes r) mid new → CrashSafe (Spares j e n) mid new
shut_step j e n r mid new is some safe = weaker_step (Closes (cell_of j e)) (Spares j e n) mid new (subst (λ (q : Region). CrashSafe (Closes q) mid new) is safe) (λ d c closes. spares_closes j e n d c some closes)

pub put_step : CellsApart → (j : Journal) (e n m : ℕ) (mid new : DiskState) → suc n ≤ m → suc n ≤ j.n → CrashSafe (ChangesCells j (e + 1) n) mid new → CrashSafe (Spares j e m) mid new
put_step apart j e n m mid new wide room safe = weaker_step (ChangesCells j (e + 1) n) (Spares j e m) mid new safe (λ d c changes. spares_changes apart j e n m d c wide room changes)

pub fill_step : (j : Journal) (e n : ℕ) (r : Region) (payload : List ℕ) (old new : DiskState) → HasClock old → r ≡ cell_of j e → length payload ≡ cell_len j.m → 0 < n → IsClosed (cell_of j e) old
    → TimePasses old new → ImagesFollow (SameOutside r.at (length payload)) old new → CrashSafe (Spares j e n) old new
fill_step j e n r payload old new clock is long some closed time wrote = one_call (Spares j e n) old new clock (spares_same j e n) time (λ c now.
    let from = wrote c now in
    let here = subst (λ (q : Region). SameOutside q.at (length payload) from.0 c) is from.2 in
    (from.0, from.1, spares_fills j e n from.0 c some (closed from.0 from.1) (subst (λ (l : ℕ). SameOutside (cell_of j e).at l from.0 c) long here)))

pub sync_step : (j : Journal) (e n : ℕ) (old new : DiskState) → HasClock old → TimePasses old new → NoNewImages old new → CrashSafe (Spares j e n) old new
sync_step j e n old new clock time images = one_call (Spares j e n) old new clock (spares_same j e n) time (λ c now. (c, images c now, spares_same j e n c))

pub wider_step : (j : Journal) (e n m : ℕ) (old new : DiskState) → n ≤ m → CrashSafe (Spares j e n) old new → CrashSafe (Spares j e m) old new
wider_step j e n m old new le safe = weaker_step (Spares j e n) (Spares j e m) old new safe (λ d c spares. spares_wider j e n m d c le spares)

-- a payload is read, and the gate was closed before
pub filled_now : (j : Journal) (e n : ℕ) (payload : List ℕ) (old new : DiskState) → HasClock new → IsClosed (cell_of j e) old → CrashSafe (Spares j e n) old new → IsDurable new
    → bytes_at (cell_of j e).at (cell_of j e).len new.bytes ≡ payload → IsFilled (cell_of j e) payload new
filled_now j e n payload old new clock closed safe durable read c now =
    let from = at_the_end (Spares j e n) old new clock safe c now in
    let none : opened (cell_of j e) c ≡ None = ⊎_elim (λ same. same ∙ shut_none (cell_of j e) from.0 (closed from.0 from.1)) (λ none. none) from.2.first in
    (none_shut (cell_of j e) c none, ap (bytes_at (cell_of j e).at (cell_of j e).len) (durable c now) ∙ read)

-- the payload stays while the others are written
pub payload_stays : CellsApart → (j : Journal) (e n : ℕ) (d c : List ℕ) → suc n ≤ j.n → ChangesCells j (e + 1) n d c → bytes_at (cell_of j e).at (cell_of j e).len c ≡ bytes_at (cell_of j e).at (cell_of j e).len d
payload_stays apart j e n d c room changes = range_beside j (e + 1) n (cell_of j e) (cell_of j e).len d c (omega arith) changes
    (λ k lt. epochs_apart_too apart j e (e + 1 + k) (omega arith) (omega (arith, lt, room)))

-- how many cells a group may touch beside those of before, and when there is one behind it
pub room_by : (x y w l n kept first : ℕ) → x ≡ kept + n → y ≡ first + l → first ≡ kept + w + 1 → w + suc l ≤ n → w + touched (nat_le x y) (suc l) ≤ n
room_by x y w l n kept first is here place room = by_test (nat_le x y) refl
  where
    by_test : (t : Bool) → nat_le x y ≡ t → w + touched t (suc l) ≤ n
    by_test true test = room
    by_test false test = let lt = leb-false x y test in omega (arith, lt, is, here, place)

pub not_full : (x y w l n kept first : ℕ) → x ≡ kept + n → y ≡ first + l → first ≡ kept + w + 1 → w + suc l < n → nat_le x y ≡ false
not_full x y w l n kept first is here place room = lt-leb x y (omega (arith, is, here, place, room))

-- THE CELL BEHIND THE GROUP is closed ahead
spares_next : CellsApart → (j : Journal) (e k : ℕ) (t : Bool) (d c : List ℕ) → 0 < k → touched t k ≤ j.n → ClosesNext j e k t d c → Spares j e (touched t k) d c
spares_next apart j e k t d c some room next = ⊎_elim
    (λ same. subst (λ (x : List ℕ). Spares j e (touched t k) d x) (sym same) (spares_same j e (touched t k) d))
    (λ closes. by_fullness t k j.n (λ n. Spares j e n d c) closes.0 room (λ wide. spares_behind apart j e k d c some wide closes.1))
    next

pub next_step : CellsApart → (j : Journal) (e k : ℕ) (t : Bool) (mid new : DiskState) → 0 < k → touched t k ≤ j.n → CrashSafe (ClosesNext j e k t) mid new → CrashSafe (Spares j e (touched t k)) mid new
next_step apart j e k t mid new some room safe = weaker_step (ClosesNext j e k t) (Spares j e (touched t k)) mid new safe (λ d c next. spares_next apart j e k t d c some room next)

payloads_long : (m e : ℕ) (xs : List Submitted) → length (payloads m e xs) ≡ length xs
payloads_long m e [] = refl
payloads_long m e (x ∷ xs) = ap suc (payloads_long m (suc e) xs)

-- a ring that is ready stays so
ready_next : CellsApart → (j : Journal) (e : ℕ) (xs : List Submitted) (t : Bool) (d c : List ℕ) → touched t (suc (length xs)) ≤ j.n → IsReady j e xs t d → ClosesNext j e (suc (length xs)) t d c → IsReady j e xs t c
ready_next apart j e xs t d c room ready next = ⊎_elim
    (λ same. subst (IsReady j e xs t) (sym same) ready)
    (λ closes.
    let l = length xs in
    let most : suc (suc l) ≤ j.n = touched_more t (suc l) j.n closes.0 room in
    let stays : (f : ℕ) → e ≤ f → f < e + suc l → opened (cell_of j f) c ≡ opened (cell_of j f) d =
    λ f low high. other_cell apart j f (e + suc l) d c high (omega (arith, low, most)) closes.1.others in
    let here : e + suc l ≡ suc e + l = omega arith in record {
      closed = stays e (omega arith) (omega arith) ∙ ready.closed;
      others = hold_same j d c (suc e) (payloads j.m (suc e) xs)
          (λ f low high. stays f (omega (arith, low)) (omega (arith, high, payloads_long j.m (suc e) xs))) ready.others;
      nothing = λ is borne. ⊎_elim
          (λ same. ready.nothing is (borne_before j d c (suc e + l) (subst (λ f. opened (cell_of j f) c ≡ opened (cell_of j f) d) here same) borne))
          (λ none. none_borne j c (suc e + l) (subst (λ f. opened (cell_of j f) c ≡ None) here none) borne)
          closes.1.region;
    })
    next
  where
    none_borne : (j : Journal) (c : List ℕ) (f : ℕ) → opened (cell_of j f) c ≡ None → IsBorne j c f → ⊥
    none_borne j c f none borne = let no : None ≡ Some borne.0 = sym none ∙ borne.1 in cc

pub each_ready : CellsApart → (j : Journal) (e k : ℕ) (xs : List Submitted) (t : Bool) (mid new : DiskState) → HasClock new → k ≡ suc (length xs) → touched t k ≤ j.n
    → IsDurable mid → IsReady j e xs t mid.bytes → CrashSafe (ClosesNext j e k t) mid new → EachReady j e xs t new
each_ready apart j e k xs t mid new clock is room durable ready safe c now =
    let from = at_the_end (ClosesNext j e k t) mid new clock safe c now in
    ready_next apart j e xs t from.0 c (subst (λ (n : ℕ). touched t n ≤ j.n) is room) (subst (IsReady j e xs t) (sym (durable from.0 from.1)) ready)
    (subst (λ (n : ℕ). ClosesNext j e n t from.0 c) is from.2)

-- and so does its first payload
payload_next : CellsApart → (j : Journal) (e k : ℕ) (d c : List ℕ) → 0 < k → suc k ≤ j.n → Closes (cell_of j (e + k)) d c → bytes_at (cell_of j e).at (cell_of j e).len c ≡ bytes_at (cell_of j e).at (cell_of j e).len d
payload_next apart j e k d c some room closes =
    let here : e + k ≡ e + k + 0 = omega arith in
    range_beside j (e + k) 1 (cell_of j e) (cell_of j e).len d c (omega arith)
    (one_cell j (e + k) 1 0 d c (omega arith) (subst (λ h. SameOutside (cell_of j h).at ((cell_of j h).len + 1) d c) here closes.others))
    (λ q lt. let none : e + k ≡ e + k + q = omega (arith, lt) in
    subst (λ h. Apart (cell_of j h) (cell_of j e)) none (epochs_apart_too apart j e (e + k) (omega (arith, some)) (omega (arith, room))))

pub still_filled : CellsApart → (j : Journal) (e k : ℕ) (t : Bool) (payload : List ℕ) (mid new : DiskState) → HasClock new → 0 < k → touched t k ≤ j.n
    → IsFilled (cell_of j e) payload mid → CrashSafe (ClosesNext j e k t) mid new → IsFilled (cell_of j e) payload new
still_filled apart j e k t payload mid new clock some room filled safe c now =
    let from = at_the_end (ClosesNext j e k t) mid new clock safe c now in
    let was = filled from.0 from.1 in
    ⊎_elim
    (λ same. subst (λ (x : List ℕ). (gate_of (cell_of j e) x ≢ 165) × (bytes_at (cell_of j e).at (cell_of j e).len x ≡ payload)) (sym same) was)
    (λ closes.
    let wide = touched_more t k j.n closes.0 room in (
      none_shut (cell_of j e) c (other_cell apart j e (e + k) from.0 c (omega (arith, some)) (omega (arith, wide)) closes.1.others ∙ shut_none (cell_of j e) from.0 was.0),
      payload_next apart j e k from.0 c some wide closes.1 ∙ was.1,
    ))
    from.2
