-- A proof that an `impl` of a reader needs: its ghost members take nothing from the crate's own proofs.
use Rattle.std.specs.Prelude.{ℕ, ◌<◌}
use Rattle.std.proofs.Common.{arith}

-- no number is below 0
pub not_below : {n : ℕ} → n < 0 → ⊥
not_below {n} e = absurd (omega arith)
