-- WHAT EXPRESSIONS MEAN. Each step is an integer of 128 bits, and stops at its ends.
use Rattle.std.specs.Prelude.{Bool, not, ◌&&◌, ◌||◌, if◌then◌else◌, ℤ, pos, ◌+ℤ◌, ◌-ℤ◌, ◌*ℤ◌, neg_ℤ, unsigned_abs, int_lt, int_le}
use Rattle.std.specs.Ordering.{int_eq}
use Rattle.std.specs.Int.{int_min, int_max, int_div_euclid, int_rem_euclid, saturate_signed, w128}
use Rattle.td_formula.specs.declared.expression.Name.{Name}
use Rattle.td_formula.specs.declared.expression.Sign.{Sign}
use Rattle.td_formula.specs.declared.expression.Sign.TheVariants.{Not, Negative, Absolute}
use Rattle.td_formula.specs.declared.expression.Operator.{Operator}
use Rattle.td_formula.specs.declared.expression.Operator.TheVariants.{Or, And, Equal, Unequal, Less, AtMost, Greater, AtLeast, Plus, Minus, Times, Quotient, Remainder, Least, Most}
use Rattle.td_formula.specs.declared.expression.Expression.{Expression, Number, Named, One', Two', If'}

abbrev pub step : ℤ → ℤ
step z = saturate_signed w128 z

-- a number that is not 0 holds, and a test is 1 or 0
abbrev pub holds : ℤ → Bool
holds z = not (int_eq z (pos 0))

abbrev pub truth : Bool → ℤ
truth b = if b then pos 1 else pos 0

abbrev pub quotient : ℤ → ℤ → ℤ
quotient x y = if int_eq y (pos 0) then pos 0 else step (int_div_euclid x y)

abbrev pub remainder : ℤ → ℤ → ℤ
remainder x y = if int_eq y (pos 0) then x else int_rem_euclid x y

abbrev pub of_one : Sign → ℤ → ℤ
of_one Not x = truth (not (holds x))
of_one Negative x = step (neg_ℤ x)
of_one Absolute x = step (pos (unsigned_abs x))

abbrev pub of_two : Operator → ℤ → ℤ → ℤ
of_two Or x y = truth (holds x || holds y)
of_two And x y = truth (holds x && holds y)
of_two Equal x y = truth (int_eq x y)
of_two Unequal x y = truth (not (int_eq x y))
of_two Less x y = truth (int_lt x y)
of_two AtMost x y = truth (int_le x y)
of_two Greater x y = truth (int_lt y x)
of_two AtLeast x y = truth (int_le y x)
of_two Plus x y = step (x +ℤ y)
of_two Minus x y = step (x -ℤ y)
of_two Times x y = step (x *ℤ y)
of_two Quotient x y = quotient x y
of_two Remainder x y = remainder x y
of_two Least x y = int_min x y
of_two Most x y = int_max x y

-- the value of an expression, where the names stand for these numbers
abbrev pub value : Expression → (Name → ℤ) → ℤ
value (Number n) at = n
value (Named x) at = at x
value (One' o p e) at = of_one o (value e at)
value (Two' o p e q f) at = of_two o (value e at) (value f at)
value (If' p test q e r f) at = if holds (value test at) then value e at else value f at
