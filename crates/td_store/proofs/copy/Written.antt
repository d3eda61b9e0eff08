-- Cells that are written at once, payload and gate.
use Rattle.std.proofs.Common.{◌≡◌, ◌≢◌, inl, inr, if◌then◌else◌, ℕ, suc, ◌+◌, ◌*◌, ◌/◌, ◌%◌, ◌<◌, ◌≤◌, ◌==◌, List, [], ◌∷◌, ◌++◌, length, take, drop, Some, None, sym, ap, ◌∙◌, arith}
use Rattle.std.specs.Prelude.{slice_index}
use Rattle.std.proofs.lemmas.Bool.{cases_lt}
use Rattle.std.proofs.lemmas.List.{take-take, get_or-take, get_or-drop}
use Rattle.std.proofs.Math.Nat.{div-add-mod, mul-le-mul_left, mul-suc}
use Rattle.std.proofs.Math.Seq.{take-append_seam, get_or-append_seam}
use Rattle.td_disk.specs.Disk.{bytes_at}
use Rattle.td_gate.specs.declared.region.Region.{Region}
use Rattle.td_gate.specs.Region.{gate_of, opened}
use Rattle.td_gate.specs.Regions.{Apart, Replaces}
use Rattle.td_journal.specs.declared.journal.Journal.{Journal}
use Rattle.td_journal.specs.Cell.{cell, cell_of}
use Rattle.td_store.specs.copy.Copied.{AreClosedAfter}
use Rattle.td_store.proofs.copy.Steps.{LeavesOthers}

-- WHAT WAS WRITTEN IS OPEN with its payload.
pub opened_written : (r : Region) (payload image : List ℕ) → length payload ≡ r.len → bytes_at r.at (r.len + 1) image ≡ payload ++ 165 ∷ [] → opened r image ≡ Some payload
opened_written r payload image size read =
    let bytes : bytes_at r.at r.len image ≡ payload =
    sym (take-take r.len (r.len + 1) (drop r.at image) (omega arith)) ∙ ap (take r.len) read ∙ ap (λ (n : ℕ). take n (payload ++ 165 ∷ [])) (sym size) ∙ take-append_seam payload (165 ∷ []) in
    let gate : gate_of r image ≡ 165 =
    sym (get_or-drop r.at image r.len 0) ∙ sym (get_or-take (r.len + 1) (drop r.at image) r.len 0 (omega arith)) ∙ ap (λ (l : List ℕ). slice_index l r.len) read
    ∙ ap (λ (n : ℕ). slice_index (payload ++ 165 ∷ []) n) (sym size) ∙ get_or-append_seam payload 165 [] 0 in
    ap (λ (g : ℕ). if g == 0xA5 then Some (bytes_at r.at r.len image) else None) gate ∙ ap Some bytes

-- two epochs that differ by less than the number of cells stand in different cells
residues : (n e f : ℕ) → e < f → f < e + n → e % n ≡ f % n → ⊥
residues n e f low high same =
    let first : n * (e / n) + e % n ≡ e = div-add-mod e n in
    let second : n * (f / n) + f % n ≡ f = div-add-mod f n in
    elim (cases_lt (e / n) (f / n)) [
      | inl lt ↦ let step : n * suc (e / n) ≤ n * (f / n) = mul-le-mul_left n lt in let more : n * suc (e / n) ≡ n * (e / n) + n = mul-suc n (e / n) in far (n * (e / n)) (n * (f / n)) (e % n) (f % n) e f n first second same step more high
      | inr le ↦ let step : n * (f / n) ≤ n * (e / n) = mul-le-mul_left n le in near (n * (e / n)) (n * (f / n)) (e % n) (f % n) e f first second same step low
    ]
  where
    far : (a b r s e f n : ℕ) {t : ℕ} → a + r ≡ e → b + s ≡ f → r ≡ s → t ≤ b → t ≡ a + n → f < e + n → ⊥
    far a b r s e f n first second same step more high = omega arith

    near : (a b r s e f : ℕ) → a + r ≡ e → b + s ≡ f → r ≡ s → b ≤ a → e < f → ⊥
    near a b r s e f first second same step low = omega arith

-- the laws, as they are handed in
abbrev pub CellsApart : Type 0
CellsApart = (j : Journal) (i k : ℕ) → i ≢ k → Apart (cell j i) (cell j k)

module _ (others : LeavesOthers) (apart : CellsApart) (j : Journal) (i : ℕ) (payload old new : List ℕ) (done : Replaces (cell_of j (j.kept + (i + 1))) payload old new) where
  -- the cells after the one that was written stay closed
  pub still_closed : AreClosedAfter j i old → AreClosedAfter j (i + 1) new
  still_closed closed k low high =
      others (cell_of j (j.kept + (i + 1))) (cell_of j (j.kept + k)) payload old new
      (apart j ((j.kept + (i + 1)) % j.n) ((j.kept + k) % j.n) (λ same. residues j.n (j.kept + (i + 1)) (j.kept + k) (omega (arith, low)) (omega (arith, high)) same))
      (record { others = done.others; region = inr (inr done.region) })
      ∙ closed k (omega (arith, low)) high
