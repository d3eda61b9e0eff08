-- Where cells lie, and which epochs share one.
use Rattle.std.proofs.Common.{◌≡◌, ◌≢◌, inl, inr, ℕ, suc, ◌+◌, ◌*◌, ◌/◌, ◌%◌, ◌<◌, ◌≤◌, arith, mul-suc}
use Rattle.std.proofs.Math.Nat.{div-add-mod, mul-le-mul_left, mul-le-mul_right, suc-mul}
use Rattle.std.proofs.lemmas.Bool.{cases_lt}
use Rattle.td_gate.specs.Regions.{Apart}
use Rattle.td_journal.specs.declared.journal.Journal.{Journal}
use Rattle.td_journal.specs.Cell.{cell, cell_len}

-- a place in a row of equal parts, and the next
below : (i k size : ℕ) → i < k → i * size + size ≤ k * size
below i k size lt = let step : suc i * size ≤ k * size = mul-le-mul_right size lt in let more : suc i * size ≡ i * size + size = suc-mul i size in omega arith

pub cells_apart : (j : Journal) (i k : ℕ) → i ≢ k → Apart (cell j i) (cell j k)
cells_apart j i k not = elim (cases_lt i k) [
  | inl lt ↦ let e = below i k (cell_len j.m + 1) lt in inl (omega (arith, e))
  | inr le ↦ let e = below k i (cell_len j.m + 1) (omega (arith, not, le)) in inr (omega (arith, e))
]

-- a part of the row ends within it
pub within : (i n size : ℕ) → i < n → i * size + size ≤ n * size
within i n size lt = below i n size lt

-- two epochs that differ by less than the number of cells stand in different cells
pub residues : (n e f : ℕ) → e < f → f < e + n → e % n ≡ f % n → ⊥
residues n e f low high same =
    let first : n * (e / n) + e % n ≡ e = div-add-mod e n in
    let second : n * (f / n) + f % n ≡ f = div-add-mod f n in
    elim (cases_lt (e / n) (f / n)) [
      | inl lt ↦ let step : n * suc (e / n) ≤ n * (f / n) = mul-le-mul_left n lt in let more : n * suc (e / n) ≡ n * (e / n) + n = mul-suc n (e / n) in far (n * (e / n)) (n * (f / n)) (e % n) (f % n) e f n first second same step more high
      | inr le ↦ let step : n * (f / n) ≤ n * (e / n) = mul-le-mul_left n le in near (n * (e / n)) (n * (f / n)) (e % n) (f % n) e f first second same step low
    ]
  where
    far : (a b r s e f n : ℕ) {t : ℕ} → a + r ≡ e → b + s ≡ f → r ≡ s → t ≤ b → t ≡ a + n → f < e + n → ⊥
    far a b r s e f n first second same step more high = omega arith

    near : (a b r s e f : ℕ) → a + r ≡ e → b + s ≡ f → r ≡ s → b ≤ a → e < f → ⊥
    near a b r s e f first second same step low = omega arith
