use Rattle.std.proofs.Common.{◌≡◌, map, take, true}
use Rattle.std.specs.List.{list_all}
use Rattle.td_plan.specs.Inputs.{is_input_of}
use Rattle.td_c.specs.Rows.{entry_of}
use Rattle.td_c.proofs.input.batch_of.Given as goal

abbrev pub invariant-loop-index : goal.invariant-loop-index
invariant-loop-index l = record {
  entries : l.entries.items ≡ map entry_of (take l.index l.records);
  inputs : list_all (λ r. is_input_of l.plan r.vertex) (take l.index l.records) ≡ true;
}
