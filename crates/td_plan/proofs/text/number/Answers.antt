use Rattle.std.proofs.Common.{arith, sym, ◌∙◌}
use Rattle.td_plan.proofs.Numerals.{only_below}
use Rattle.td_plan.proofs.text.number.Goals as goal

pub returns-else-number-lt1000000000-clause-none : goal.returns-else-number-lt1000000000-clause-none
returns-else-number-lt1000000000-clause-none c n small w =
    only_below 1000000000 c.in_ok-number.number n c.args.word.now (omega arith) (sym c.natural.ensures.exact ∙ c.in_ok-number.was) (λ h. omega arith) small w
