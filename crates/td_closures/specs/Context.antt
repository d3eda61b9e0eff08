-- What the reader's own types stand for.
use Rattle.std.specs.Prelude.{◌≡◌, List, Result, Ok, Err}
use Rattle.std.specs.Borrow.{Bor}
use Rattle.td_formula.specs.declared.expression.Expression.{Expression}
use Rattle.td_closures.specs.declared.context.Context.{Context, Whole, Paren', Signed', Left', Called', First', Second', Test', Chosen', Otherwise'}
use Rattle.td_closures.specs.declared.expression.Progress.{Progress}
use Rattle.td_closures.specs.declared.expression.Progress.TheVariants.{Wanted, There, Read}
use Rattle.td_closures.specs.declared.fault.Wrong.{Wrong}
use Rattle.td_closures.specs.declared.fault.Wrong.TheVariants.{Memory}
use Rattle.td_closures.specs.Phrase.{tree_of}
use Rattle.td_closures.specs.Machine.{Around, whole, paren, signed, left, called, first, second, test, chosen, otherwise, Reading, wanted, there, read, wrong, Front, front, faulty}
use Rattle.td_closures.specs.declared.token.Token.{Token}

abbrev pub around_of : Context → Around
around_of Whole = whole
around_of (Paren' p around) = paren (around_of around)
around_of (Signed' s p around) = signed s (around_of around)
around_of (Left' o e p around) = left o (tree_of e) (around_of around)
around_of (Called' o p around) = called o (around_of around)
around_of (First' o p around) = first o (around_of around)
around_of (Second' o e p around) = second o (tree_of e) (around_of around)
around_of (Test' p around) = test (around_of around)
around_of (Chosen' e p around) = chosen (tree_of e) (around_of around)
around_of (Otherwise' e f p around) = otherwise (tree_of e) (tree_of f) (around_of around)

abbrev pub reading_of : Progress → Reading
reading_of (Wanted around) = wanted (around_of around)
reading_of (There around e) = there (around_of around) (tree_of e)
reading_of (Read e) = read (tree_of e)

-- what a step answers: what the reading is then, unless memory was refused
abbrev pub Steps : Result Progress Wrong → Reading → Type 0
Steps (Ok progress) reading = reading_of progress ≡ reading
Steps (Err Memory) reading = Unit {0}
Steps (Err w) reading = wrong w ≡ reading

abbrev pub Fronts : Result (Expression × Bor (List Token)) Wrong → Front → Type 0
Fronts (Ok r) f = front (tree_of r.0) r.1.now ≡ f
Fronts (Err Memory) f = Unit {0}
Fronts (Err w) f = faulty w ≡ f
