-- What the closing of the gates of several cells makes of an image.
use Rattle.std.proofs.Common.{◌≡◌, ◌⊎◌, inl, inr, ⊎_elim, ℕ, ◌+◌, ◌<◌, ◌≤◌, List, get_or, None, refl, sym, ◌∙◌, subst, arith}
use Rattle.std.proofs.lemmas.Bool.{cases_eq, cases_lt}
use Rattle.std.proofs.lemmas.List.{ext_get_or}
use Rattle.td_disk.specs.Disk.{DiskState, IsDurable, SameOutside}
use Rattle.td_gate.specs.CrashSafe.{CrashSafe, Unchanged}
use Rattle.td_gate.specs.declared.region.Region.{Region}
use Rattle.td_gate.specs.Region.{opened, IsSettled, Closes}
use Rattle.td_journal.specs.declared.journal.Journal.{Journal}
use Rattle.td_journal.specs.Cell.{cell_of}
use Rattle.td_store.specs.group.Groups.{AreShut, ChangesCells, ClosesSome}
use Rattle.td_store.proofs.group.Moments.{HasClock, in_turn, at_the_end}
use Rattle.td_store.proofs.group.Places.{CellsApart, opened_beside, one_cell, no_change, then_change, epochs_apart}
use Rattle.td_store.proofs.group.Ready.{wider, other_cell, later_cell}

-- SEVERAL CELLS
pub some_same : (j : Journal) (e n : ℕ) (d : List ℕ) → ClosesSome j e n d d
some_same j e n d = record { cells = no_change j e n d; each = λ k lt. inl refl }

pub some_then : (j : Journal) (e n : ℕ) (d m c : List ℕ) → ClosesSome j e n d m → ClosesSome j e n m c → ClosesSome j e n d c
some_then j e n d m c one two = record {
  cells = then_change j e n d m c one.cells two.cells;
  each = λ k lt. ⊎_elim (λ same. ⊎_elim (λ before. inl (same ∙ before)) (λ none. inr (same ∙ none)) (one.each k lt)) (λ none. inr none) (two.each k lt);
}

-- none of them
pub none_closed : (j : Journal) (e : ℕ) (d c : List ℕ) → ClosesSome j e 0 d c → c ≡ d
none_closed j e d c none = ext_get_or 0 c d none.cells.size (λ i lt. none.cells.each i (λ k less. absurd (omega (arith, less))))

-- one of them
pub some_closes : CellsApart → (j : Journal) (e n k : ℕ) (d c : List ℕ) → k < n → n ≤ j.n → Closes (cell_of j (e + k)) d c → ClosesSome j e n d c
some_closes apart j e n k d c lt room one = record {
  cells = one_cell j e n k d c lt one.others;
  each = λ i less. elim (cases_eq i k) [
    | inl is ↦ subst (λ h. (opened (cell_of j (e + h)) c ≡ opened (cell_of j (e + h)) d) ⊎ (opened (cell_of j (e + h)) c ≡ None)) (sym is) one.region
    | inr not ↦ elim (cases_lt i k) [
      | inl low ↦ inl (other_cell apart j (e + i) (e + k) d c (omega (arith, low)) (omega (arith, low, lt, room)) one.others)
      | inr high ↦ inl (later_cell apart j (e + k) (e + i) d c (omega (arith, high, not)) (omega (arith, less, room)) one.others)
    ]
  ];
}

-- more of them
pub some_wider : CellsApart → (j : Journal) (e n m : ℕ) (d c : List ℕ) → n ≤ m → m ≤ j.n → ClosesSome j e n d c → ClosesSome j e m d c
some_wider apart j e n m d c le room some = record {
  cells = wider j e n m d c le some.cells;
  each = λ k lt. elim (cases_lt k n) [
    | inl low ↦ some.each k low
    | inr high ↦ inl (opened_beside j e n (cell_of j (e + k)) d c some.cells (λ i less. epochs_apart apart j (e + i) (e + k) (omega (arith, less, high)) (omega (arith, lt, room))))
  ];
}

-- WHILE THOSE BEFORE IT are closed, a cell is settled
pub settled_behind : CellsApart → (j : Journal) (e k : ℕ) (old new : DiskState) → HasClock new → new.images new.bytes → k < j.n → IsDurable old → CrashSafe (ClosesSome j e k) old new → IsSettled (cell_of j (e + k)) new
settled_behind apart j e k old new clock read room durable safe c image = record {
  each = λ i low high. let here = same c image i low high in let there = same new.bytes read i low high in here ∙ sym there;
}
  where
    same : (f : List ℕ) → new.images f → (i : ℕ) → (cell_of j (e + k)).at ≤ i → i < (cell_of j (e + k)).at + ((cell_of j (e + k)).len + 1) → get_or f i 0 ≡ get_or old.bytes i 0
    same f now i low high =
        let from = at_the_end (ClosesSome j e k) old new clock safe f now in
        let changes : ChangesCells j e k old.bytes f = subst (λ (d : List ℕ). ChangesCells j e k d f) (durable from.0 from.1) from.2.cells in
        changes.each i
        (λ h less. ⊎_elim (λ before. inr (omega (arith, before, low))) (λ after. inl (omega (arith, after, high))) (epochs_apart apart j (e + h) (e + k) (omega (arith, less)) (omega (arith, room))))

-- and one more is closed
pub shut_more : CellsApart → (j : Journal) (e k : ℕ) (d c : List ℕ) → k < j.n → AreShut j d e k → SameOutside (cell_of j (e + k)).at ((cell_of j (e + k)).len + 1) d c → opened (cell_of j (e + k)) c ≡ None → AreShut j c e (k + 1)
shut_more apart j e k d c room before others closed i lt = elim (cases_lt i k) [
  | inl low ↦ other_cell apart j (e + i) (e + k) d c (omega (arith, low)) (omega (arith, low, room)) others ∙ before i low
  | inr le ↦
      let same : k ≡ i = omega (arith, lt, le) in
      subst (λ h. opened (cell_of j (e + h)) c ≡ None) same closed
]

-- ONE CELL MORE, after those before it
pub one_more : CellsApart → (j : Journal) (e k n : ℕ) (r : Region) (old mid new : DiskState) → HasClock mid → mid.images mid.bytes → r ≡ cell_of j (e + k) → k < n → n ≤ j.n → IsDurable old
    → CrashSafe (ClosesSome j e k) old mid → (IsSettled r mid → CrashSafe (Closes r) mid new) → CrashSafe (ClosesSome j e n) old new
one_more apart j e k n r old mid new clock read is lt room durable before one =
    let settled = settled_behind apart j e k old mid clock read (omega (arith, lt, room)) durable before in
    let closed : CrashSafe (Closes (cell_of j (e + k))) mid new = subst (λ (q : Region). CrashSafe (Closes q) mid new) is (one (subst (λ (q : Region). IsSettled q mid) (sym is) settled)) in
    in_turn (ClosesSome j e k) (Closes (cell_of j (e + k))) (ClosesSome j e n) old mid new clock before closed
    (λ d c some. some_wider apart j e k n d c (omega (arith, lt)) room some)
    (λ d m c some closes. some_then j e n d m c (some_wider apart j e k n d m (omega (arith, lt)) room some) (some_closes apart j e n k m c lt room closes))

-- and then a call that changes no image
pub then_same : (j : Journal) (e n : ℕ) (old mid new : DiskState) → HasClock mid → CrashSafe (ClosesSome j e n) old mid → CrashSafe Unchanged mid new → CrashSafe (ClosesSome j e n) old new
then_same j e n old mid new clock one two =
    in_turn (ClosesSome j e n) Unchanged (ClosesSome j e n) old mid new clock one two (λ d c some. some) (λ d m c some is. subst (λ (l : List ℕ). ClosesSome j e n d l) (sym is) some)
