-- Names, and what they stand for: a function of the name.
use Rattle.std.specs.Prelude.{ℕ, ◌+◌, ◌%◌, Bool, ◌==◌, if◌then◌else◌, ℤ, pos}
use Rattle.td_formula.specs.declared.expression.Name.{Name}
use Rattle.td_formula.specs.declared.expression.Name.TheVariants.{Key, Val, Port, A, B, BeforeA, BeforeB, Known, Items, Lost, Register}

-- a number for each name: the registers, of which there are 8, have the last ones
abbrev pub place : Name → ℕ
place Key = 0
place Val = 1
place Port = 2
place A = 3
place B = 4
place BeforeA = 5
place BeforeB = 6
place Known = 7
place Items = 8
place Lost = 9
place (Register r) = 10 + r % 8

abbrev pub is_same : Name → Name → Bool
is_same x y = place x == place y

-- where one name stands for this value from now on
unfoldable pub with_name : (Name → ℤ) → Name → ℤ → Name → ℤ
with_name at x v y = if is_same y x then v else at y

-- where each name stands for 0
unfoldable pub no_names : Name → ℤ
no_names x = pos 0
