use Rattle.std.proofs.Common.{ap, ◌∙◌}
use Rattle.std.specs.Prelude.{option_map}
use Rattle.td_plan.specs.Blocks.{scope_of}
use Rattle.td_plan.specs.Faults.{fault_of}
use Rattle.td_plan.specs.Steps.Reading.{error_of}
use Rattle.td_plan.specs.Steps.Written.{written_line}
use Rattle.td_plan.proofs.reader.Draft.fault.Goals as goal

pub returns : goal.returns
returns c =
    c.fault.ensures
    ∙ ap (λ s. option_map (λ fault. error_of fault c.args.number) (fault_of s (written_line c.args.line.now))) (c.self.invariant.scope_is ∙ ap (λ d. scope_of d.lines) c.self.view_is)
