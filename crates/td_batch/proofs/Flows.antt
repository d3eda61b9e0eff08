-- What holds of a flow in a block at given counters, where it solves the flat equations at all times.
use Rattle.std.proofs.Common.{◌≡◌, ℕ, ◌<◌, List, ◌∷◌, length}
use Rattle.std.specs.List.{AllByRecursion}
use Rattle.td_plan.specs.declared.vertex.Kind.{Kind}
use Rattle.td_plan.specs.declared.vertex.Kind.TheVariants.{Leave}
use Rattle.td_plan.specs.Lines.{Vertex}
use Rattle.td_plan.specs.Tree.{Nodes}
use Rattle.td_plan.specs.Tree.Nodes.{done, node, block}
use Rattle.td_batch.specs.Meaning.{EpochInput, Bags, emitted}
use Rattle.td_batch.specs.Flow.{Flow, answer_at, leave_at, AreBelow, Equation, Solves}

-- the last bags of a turn are those of a flow
abbrev pub EndsAs : Flow → List ℕ → Bags → ℕ → Type 0
EndsAs flow counters bags s = (s < length bags) × (emitted bags s ≡ flow s counters)

-- those of all these vertices
abbrev pub AllEndAs : Flow → List ℕ → Bags → List ℕ → Type 0
AllEndAs flow counters bags vertices = AllByRecursion (EndsAs flow counters bags) vertices

module _ (epoch : EpochInput) (flow : Flow) where
  -- a vertex sends what it answers, but a leave sends at the time outside what it answers in all turns
  abbrev pub Sends : Vertex → Kind → List ℕ → Type 0
  Sends v Leave counters = Unit {0}
  Sends v _ counters = flow v.number counters ≡ answer_at epoch flow v counters

  abbrev pub SendsOut : ℕ → Vertex → Kind → List ℕ → Type 0
  SendsOut bound v Leave counters = flow v.number counters ≡ leave_at epoch flow v bound counters
  SendsOut bound v _ counters = Unit {0}

  abbrev pub LeavesSend : ℕ → Nodes → List ℕ → Type 0
  LeavesSend bound done counters = Unit {0}
  LeavesSend bound (node v rest) counters = SendsOut bound v v.kind counters × LeavesSend bound rest counters
  LeavesSend bound (block b body rest) counters = LeavesSend bound rest counters

  -- the bags of a flow determine one another in this block, at these counters and all below them
  abbrev pub IsFlow : Nodes → List ℕ → Type 0
  IsFlow done counters = Unit {0}
  IsFlow (node v rest) counters = Sends v v.kind counters × IsFlow rest counters
  IsFlow (block bound body rest) counters = ((k : ℕ) → k < bound → IsFlow body (k ∷ counters)) × LeavesSend bound body counters × IsFlow rest counters

  sends : (v : Vertex) (kind : Kind) (bounds counters : List ℕ) → AreBelow counters bounds → Equation epoch flow bounds v kind → Sends v kind counters
  sends v Leave bounds counters below e = tt
  sends v _ bounds counters below e = e counters below

  sends_out : (v : Vertex) (kind : Kind) (bound : ℕ) (bounds counters : List ℕ) → AreBelow counters bounds → Equation epoch flow (bound ∷ bounds) v kind → SendsOut bound v kind counters
  sends_out v Leave bound bounds counters below e = e counters below
  sends_out v _ bound bounds counters below e = tt

  leaves_send : (nodes : Nodes) (bound : ℕ) (bounds counters : List ℕ) → AreBelow counters bounds → Solves epoch flow (bound ∷ bounds) nodes → LeavesSend bound nodes counters
  leaves_send done bound bounds counters below s = tt
  leaves_send (node v rest) bound bounds counters below s = (sends_out v v.kind bound bounds counters below s.0, leaves_send rest bound bounds counters below s.1)
  leaves_send (block b body rest) bound bounds counters below s = leaves_send rest bound bounds counters below s.1

  -- what solves the flat equations is a flow of the tree
  pub solution_is_flow : (nodes : Nodes) (bounds counters : List ℕ) → AreBelow counters bounds → Solves epoch flow bounds nodes → IsFlow nodes counters
  solution_is_flow done bounds counters below s = tt
  solution_is_flow (node v rest) bounds counters below s = (sends v v.kind bounds counters below s.0, solution_is_flow rest bounds counters below s.1)
  solution_is_flow (block bound body rest) bounds counters below s = (
    λ k lt. solution_is_flow body (bound ∷ bounds) (k ∷ counters) (lt, below) s.0,
    leaves_send body bound bounds counters below s.0,
    solution_is_flow rest bounds counters below s.1,
  )
