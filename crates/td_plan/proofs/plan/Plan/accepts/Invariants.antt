use Rattle.std.proofs.Common.{◌≡◌, true}
use Rattle.std.specs.List.{list_all}
use Rattle.td_plan.specs.Inputs.{is_input_of}
use Rattle.td_plan.proofs.plan.Plan.accepts.Given as goal

abbrev pub invariant-loop-entry : goal.invariant-loop-entry
invariant-loop-entry l = (goal.iterator-loop-entry).can_next l.entry-iterator × (goal.iterator-loop-entry).is_finite l.entry-iterator × (list_all (λ e. is_input_of l.self e.input) l.yielded ≡ true)
