use Rattle.std.proofs.Common.{◌≡◌, []}
use Rattle.td_questions.specs.Weighed.{IsFew}
use Rattle.td_questions.proofs.Weights.{in_all}
use Rattle.td_questions.proofs.ranks.first_entries.Given as goal

-- with those that are left it is the first of all
abbrev pub invariant-loop-place : goal.invariant-loop-place
invariant-loop-place l = record {
  so_far : in_all l.order l.count l.vertex l.place-iterator l.first.keys ≡ in_all l.order l.count l.vertex l.initial.place-iterator [];
  few : IsFew l.count l.first.keys;
}
