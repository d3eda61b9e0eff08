use Rattle.std.specs.Prelude.{List, Result, Ok, Err}
use Rattle.std.specs.Borrow.{Bor}
use Rattle.std.proofs.Common.{refl, ap, sym, inl, inr}
use Rattle.td_formula.specs.declared.expression.Expression.{Expression}
use Rattle.td_closures.specs.declared.fault.Wrong.{Wrong}
use Rattle.td_closures.specs.declared.fault.Wrong.TheVariants.{Syntax, Name, Code, TooMany, Deep, Memory}
use Rattle.td_closures.specs.declared.token.Token.{Token}
use Rattle.td_closures.specs.Context.{Fronts}
use Rattle.td_closures.specs.Machine.{Front}
use Rattle.td_closures.specs.Reading.{expression_of, of_front}
use Rattle.td_closures.specs.Kept.{Answers, expression_by}
use Rattle.td_closures.proofs.line.expression.Goals as goal

answered : (r : Result (Expression × Bor (List Token)) Wrong) (f : Front) → Fronts r f → Answers expression_by r (of_front f)
answered (Ok x) f h = ap of_front (sym h)
answered (Err Memory) f h = inl refl
answered (Err Syntax) f h = inr (ap of_front (sym h))
answered (Err Name) f h = inr (ap of_front (sym h))
answered (Err Code) f h = inr (ap of_front (sym h))
answered (Err TooMany) f h = inr (ap of_front (sym h))
answered (Err Deep) f h = inr (ap of_front (sym h))

pub returns : goal.returns
unfolding expression_of
returns c = answered c.read_expression.result _ c.read_expression.ensures.steps
