use Rattle.std.proofs.Common.{◌≡◌, drop}
use Rattle.td_plan.specs.Blocks.{vertices}
use Rattle.td_questions.specs.Words.{is_among}
use Rattle.td_questions.proofs.question.fold_of.Given as goal

-- whether it is among those that are left is whether it is among all
abbrev pub invariant-loop-each : goal.invariant-loop-each
invariant-loop-each l = is_among (drop l.each-index (vertices l.plan)) l.vertex ≡ is_among (vertices l.plan) l.vertex
