-- Words for readers and writers.
use Rattle.std.specs.Prelude.{◌≡◌, ◌⊎◌, ℕ, Result, MatchResult}
use Rattle.std.specs.IoError.{error_kind}
use Rattle.std.specs.declared.io.Error.{Error}
use Rattle.std.specs.declared.io.ErrorKind.TheVariants.{Interrupted}

-- of no number
abbrev pub never : ℕ → Type 0
never n = ⊥

-- a read told the end; or it gave bytes or was interrupted, and this holds
abbrev pub EndsOr : Type 0 → Result ℕ Error → Type 0
EndsOr Holds result = MatchResult result (λ k. (k ≡ 0) ⊎ Holds) (λ e. (error_kind e ≡ Interrupted) × Holds)
