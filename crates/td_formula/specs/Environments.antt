-- What the names of an environment stand for: the numbers at their places.
use Rattle.std.specs.Prelude.{List, ℤ, pos, get_or}
use Rattle.td_formula.specs.declared.expression.Name.{Name}
use Rattle.td_formula.specs.Names.{place}

unfoldable pub named : List ℤ → Name → ℤ
named numbers x = get_or numbers (place x) (pos 0)
