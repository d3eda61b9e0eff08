use Rattle.std.proofs.Common.{sym, ap, ◌∙◌, reverse}
use Rattle.std.specs.Prelude.{option_map}
use Rattle.std.specs.Option.{option_copied}
use Rattle.td_plan.specs.Blocks.{read_loops, is_read_on}
use Rattle.td_plan.proofs.SameLoops.{read_there}
use Rattle.td_plan.proofs.scope.Standing.is_read_on.Goals as goal

pub returns-in-Some : goal.returns-in-Some
returns-in-Some c =
    c.is_same_block.ensures
    ∙ read_there (read_loops c.self.inside.written.kind (reverse c.self.inside.loops.items)) c.in-Some.loops.now c.args.block.now
    (ap option_copied (sym c.in-Some.is) ∙ c.read_on.ensures ∙ (λ i. option_map reverse (read_loops (c.kind.ensures i) (reverse (c.as_slice.ensures.value i)))))
    ∙ ap (is_read_on (reverse c.args.block.now)) c.self.view_is
