-- What stands in other regions than the cells that changed, and in which cell an epoch stands.
use Rattle.std.proofs.Common.{◌≡◌, ◌≢◌, inl, inr, ⊎_elim, ℕ, suc, ◌+◌, ◌*◌, ◌/◌, ◌%◌, ◌<◌, ◌≤◌, ◌==◌, List, [], ◌∷◌, length, get_or, drop, Some, None, if◌then◌else◌, refl, sym, ap, ◌∙◌, arith, length-drop}
use Rattle.std.proofs.Math.Nat.{div-add-mod, mul-le-mul_left, mul-suc}
use Rattle.std.proofs.lemmas.Bool.{cases_lt}
use Rattle.std.proofs.lemmas.List.{ext_get_or, length-take, get_or-take, get_or-drop}
use Rattle.td_disk.specs.Disk.{bytes_at, SameOutside}
use Rattle.td_gate.specs.declared.region.Region.{Region}
use Rattle.td_gate.specs.Region.{gate_of, opened}
use Rattle.td_gate.specs.Regions.{Apart}
use Rattle.td_journal.specs.declared.journal.Journal.{Journal}
use Rattle.td_journal.specs.Cell.{cell, cell_of}
use Rattle.td_store.specs.group.Groups.{ChangesCells, Hold}

-- the same bytes in a range
pub bytes_same : (at n : ℕ) (c d : List ℕ) → length d ≡ length c → ((i : ℕ) → at ≤ i → i < at + n → get_or d i 0 ≡ get_or c i 0) → bytes_at at n d ≡ bytes_at at n c
bytes_same at n c d size same = ext_get_or 0 (bytes_at at n d) (bytes_at at n c)
    (omega (arith, length-take n (drop at d), length-take n (drop at c), length-drop at d, length-drop at c))
    (λ i l. let lt : i < n = omega (arith, length-take n (drop at d)) in
    get_or-take n (drop at d) i 0 lt ∙ get_or-drop at d i 0 ∙ same (at + i) (omega arith) (omega arith)
    ∙ sym (get_or-drop at c i 0) ∙ sym (get_or-take n (drop at c) i 0 lt))

-- the same bytes in a region
pub opened_same : (s : Region) (d c : List ℕ) → length c ≡ length d → ((i : ℕ) → s.at ≤ i → i < s.at + s.len + 1 → get_or c i 0 ≡ get_or d i 0) → opened s c ≡ opened s d
opened_same s d c size same =
    let gate : gate_of s c ≡ gate_of s d = same (s.at + s.len) (omega arith) (omega arith) in
    let bytes : bytes_at s.at s.len c ≡ bytes_at s.at s.len d = bytes_same s.at s.len d c size (λ i low high. same i low (omega (arith, high))) in
    ap (λ (g : ℕ). if g == 165 then Some (bytes_at s.at s.len c) else None) gate ∙ ap (λ (l : List ℕ). if gate_of s d == 165 then Some l else None) bytes

-- a region apart from all cells that changed
pub opened_beside : (j : Journal) (e n : ℕ) (s : Region) (d c : List ℕ) → ChangesCells j e n d c → ((k : ℕ) → k < n → Apart (cell_of j (e + k)) s) → opened s c ≡ opened s d
opened_beside j e n s d c changes apart = opened_same s d c changes.size
    (λ i low high. changes.each i (λ k lt. ⊎_elim (λ before. inr (omega (arith, before, low))) (λ after. inl (omega (arith, after, high))) (apart k lt)))

pub range_beside : (j : Journal) (e n : ℕ) (s : Region) (m : ℕ) (d c : List ℕ) → m ≤ s.len + 1 → ChangesCells j e n d c → ((k : ℕ) → k < n → Apart (cell_of j (e + k)) s) → bytes_at s.at m c ≡ bytes_at s.at m d
range_beside j e n s m d c le changes apart = bytes_same s.at m d c changes.size
    (λ i low high. changes.each i (λ k lt. ⊎_elim (λ before. inr (omega (arith, before, low))) (λ after. inl (omega (arith, after, high, le))) (apart k lt)))

-- one cell changed
pub one_cell : (j : Journal) (e n k : ℕ) (d c : List ℕ) → k < n → SameOutside (cell_of j (e + k)).at ((cell_of j (e + k)).len + 1) d c → ChangesCells j e n d c
one_cell j e n k d c lt f = record {
  size = f.size;
  each = λ i beside. ⊎_elim (λ low. f.before i low) (λ high. f.after i (omega (arith, high))) (beside k lt);
}

pub no_change : (j : Journal) (e n : ℕ) (d : List ℕ) → ChangesCells j e n d d
no_change j e n d = record { size = refl; each = λ i beside. refl }

pub then_change : (j : Journal) (e n : ℕ) (d m c : List ℕ) → ChangesCells j e n d m → ChangesCells j e n m c → ChangesCells j e n d c
then_change j e n d m c one two = record { size = two.size ∙ one.size; each = λ i beside. two.each i beside ∙ one.each i beside }

-- two epochs that differ by less than the number of cells stand in different cells
pub residues : (n e f : ℕ) → e < f → f < e + n → e % n ≡ f % n → ⊥
residues n e f low high same =
    let first : n * (e / n) + e % n ≡ e = div-add-mod e n in
    let second : n * (f / n) + f % n ≡ f = div-add-mod f n in
    elim (cases_lt (e / n) (f / n)) [
      | inl lt ↦ let step : n * suc (e / n) ≤ n * (f / n) = mul-le-mul_left n lt in let more : n * suc (e / n) ≡ n * (e / n) + n = mul-suc n (e / n) in far (n * (e / n)) (n * (f / n)) (e % n) (f % n) e f n first second same step more high
      | inr le ↦ let step : n * (f / n) ≤ n * (e / n) = mul-le-mul_left n le in near (n * (e / n)) (n * (f / n)) (e % n) (f % n) e f first second same step low
    ]
  where
    far : (a b r s e f n : ℕ) {t : ℕ} → a + r ≡ e → b + s ≡ f → r ≡ s → t ≤ b → t ≡ a + n → f < e + n → ⊥
    far a b r s e f n first second same step more high = omega arith

    near : (a b r s e f : ℕ) → a + r ≡ e → b + s ≡ f → r ≡ s → b ≤ a → e < f → ⊥
    near a b r s e f first second same step low = omega arith

-- cells of such epochs are apart
abbrev pub CellsApart : Type 0
CellsApart = (j : Journal) (i k : ℕ) → i ≢ k → Apart (cell j i) (cell j k)

pub epochs_apart : CellsApart → (j : Journal) (e f : ℕ) → e < f → f < e + j.n → Apart (cell_of j e) (cell_of j f)
epochs_apart apart j e f low high = apart j (e % j.n) (f % j.n) (λ same. residues j.n e f low high same)

pub epochs_apart_too : CellsApart → (j : Journal) (e f : ℕ) → e < f → f < e + j.n → Apart (cell_of j f) (cell_of j e)
epochs_apart_too apart j e f low high = apart j (f % j.n) (e % j.n) (λ same. residues j.n e f low high (sym same))

-- what cells hold stays where they did not change
pub hold_same : (j : Journal) (d c : List ℕ) (e : ℕ) (bs : List (List ℕ)) → ((f : ℕ) → e ≤ f → f < e + length bs → opened (cell_of j f) c ≡ opened (cell_of j f) d) → Hold j d e bs → Hold j c e bs
hold_same j d c e [] same h = tt
hold_same j d c e (b ∷ bs) same h = (
  same e (omega arith) (omega arith) ∙ h.0,
  hold_same j d c (suc e) bs (λ f low high. same f (omega (arith, low)) (omega (arith, high))) h.1,
)
