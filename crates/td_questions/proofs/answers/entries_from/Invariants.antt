use Rattle.std.proofs.Common.{◌≡◌, []}
use Rattle.td_questions.specs.Weighed.{IsFew}
use Rattle.td_questions.proofs.Listing.{with_rest}
use Rattle.td_questions.proofs.answers.entries_from.Given as goal

-- with those that are left it is the whole list
abbrev pub invariant-loop-place : goal.invariant-loop-place
invariant-loop-place l = record {
  so_far : with_rest l.count l.vertex l.from l.entries.items l.place-iterator ≡ with_rest l.count l.vertex l.from [] l.states;
  few : IsFew l.count l.entries.items;
}
