-- Closures that are stored.
use Rattle.std.specs.Prelude.{ℕ, Bool}
use Rattle.td_calls.specs.Answers.{Answers}

-- THE CODES of which a closure is stored, of each kind
pub record Codes : Type 0 where
  pub map : ℕ → Bool
  pub group : ℕ → Bool
  pub fold : ℕ → Bool

-- THE CLOSURES that are stored: their codes, and what they answer
pub record Stored : Type 0 where
  pub answers : Answers
  pub codes : Codes

-- those of these codes, which answer a law
abbrev pub stored_in : Answers → Codes → Stored
stored_in answers codes = record { answers = answers; codes = codes }
