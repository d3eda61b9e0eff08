-- What the ledger of a pool counts: the gives and the takes of its seats, told apart by what each counts for.
use Rattle.std.specs.Prelude.{◌≡◌, ℕ, ◌+◌, ◌*◌, ◌≤◌}
use Rattle.td_machine.specs.State.{HallState}

-- a give counts 1, and a take 2 ^ 64 - 1, which is more than all gives of a hall together
abbrev pub take_weight : ℕ
take_weight = 18446744073709551615

-- so many gives and takes
abbrev pub counts : ℕ → ℕ → ℕ
counts gives takes = gives + take_weight * takes

-- THE LEDGER OF A HALL, to which so many tasks were given before, has this total: the gives are those since then, each task that is out
-- counts as a take, and beside the hall's own takes only gives count as one more
pub record IsCounted (start : ℕ) (S : HallState) (total : ℕ) : Type 0 where
  pub gives : ℕ
  pub takes : ℕ
  pub total_is : total ≡ counts gives takes
  pub given : S.given ≡ start + gives
  pub none_lost : S.taken ≤ start + takes
  pub bound : start + takes ≤ S.taken + S.given
