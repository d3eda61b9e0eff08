use Rattle.std.proofs.Common.{◌≡◌, ◌+◌, ◌++◌, ◌∷◌, [], sym, ap, ◌∙◌, length, subst, List, ℕ, reverse}
use Rattle.td_plan.specs.Blocks.{PlacedVertex, Scope}
use Rattle.td_plan.specs.Lines.Line.{vertex}
use Rattle.td_plan.specs.Faults.{fault_of}
use Rattle.td_plan.specs.Steps.Inside.{IsCounted}
use Rattle.td_plan.proofs.Growth.{counted_push}
use Rattle.td_plan.proofs.scope.Scope.with_vertex.Goals as goal

pub invariant_of-result : goal.invariant_of-result
invariant_of-result c =
    let scope : Scope = record { vertices = c.self.inside.vertices.items; loops = reverse c.self.inside.loops.items } in
    let loops : reverse c.copy_loops.result.items ≡ scope.loops = ap reverse (c.copy_loops.ensures ∙ c.as_slice.ensures.value) in
    let after : c.push.new.self.items ≡ scope.vertices ++ record { vertex = c.args.written; loops = scope.loops } ∷ [] =
    c.in_ok-push.ensures.items ∙ (λ i. scope.vertices ++ record { vertex = c.args.written; loops = loops i } ∷ []) in
    subst (λ (p : List PlacedVertex × ℕ). IsCounted p.0 p.1) (λ i. (sym after i, c.self.inside.edges + length (sym c.sources.ensures i)))
    (counted_push scope c.args.written c.self.inside.edges c.self.invariant (ap (λ s. fault_of s (vertex c.args.written)) c.self.view_is ∙ c.requires))
