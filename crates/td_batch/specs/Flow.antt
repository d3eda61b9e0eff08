-- The flat meaning: a bag for each vertex at each list of loop counters, where the bags determine one another as in an
-- engine that passes messages. Counters stand innermost first: a loop is entered by `0 ∷ _`, left by the tail, and gone
-- round again by `suc` at the head.
use Rattle.std.specs.Prelude.{◌≡◌, ℕ, zero, suc, ◌<◌, List, [], ◌∷◌, map, flat_map}
use Rattle.td_stamp.specs.declared.values.Rec.{Rec}
use Rattle.td_stamp.specs.Orders.{rec_cmp}
use Rattle.td_stamp.specs.Bag.{bag_of}
use Rattle.td_plan.specs.declared.vertex.Kind.{Kind}
use Rattle.td_plan.specs.declared.vertex.Kind.TheVariants.{Enter, Feedback, Leave}
use Rattle.td_plan.specs.Lines.{Vertex}
use Rattle.td_plan.specs.Tree.{Nodes}
use Rattle.td_plan.specs.Tree.Nodes.{done, node, block}
use Rattle.td_calls.specs.Callbacks.{arrivals}
use Rattle.td_batch.specs.Meaning.{EpochInput, answer}

-- What each vertex sends, by the counters that its records bear
abbrev pub Flow : Type 0
Flow = ℕ → List ℕ → List Rec

-- what comes into a loop from a source outside: in turn 0 alone
abbrev pub entered_at : Flow → List ℕ → ℕ → List Rec
entered_at flow [] s = []
entered_at flow (zero ∷ outer) s = flow s outer
entered_at flow (suc k ∷ outer) s = []

-- what comes back from the turn before
abbrev pub returned_at : Flow → List ℕ → ℕ → List Rec
returned_at flow [] s = []
returned_at flow (zero ∷ outer) s = []
returned_at flow (suc k ∷ outer) s = flow s (k ∷ outer)

-- what comes from a source to a vertex of this kind in a turn of the block in which the vertex stands
abbrev pub read_at : Flow → Kind → List ℕ → ℕ → List Rec
read_at flow Enter counters s = entered_at flow counters s
read_at flow Feedback counters s = returned_at flow counters s
read_at flow _ counters s = flow s counters

-- what a vertex answers in that turn
abbrev pub answer_at : EpochInput → Flow → Vertex → List ℕ → List Rec
answer_at epoch flow v counters = answer epoch v.number v.kind (arrivals (map (read_at flow v.kind counters) v.sources))

-- n numbers from k on
abbrev pub numbers_from : ℕ → ℕ → List ℕ
numbers_from k zero = []
numbers_from k (suc n) = k ∷ numbers_from (suc k) n

-- what a leave of a loop with this bound sends outside: what it answers in all turns
abbrev pub leave_at : EpochInput → Flow → Vertex → ℕ → List ℕ → List Rec
leave_at epoch flow v bound counters = bag_of rec_cmp (flat_map (λ k. answer_at epoch flow v (k ∷ counters)) (numbers_from 0 bound))

-- as many counters as bounds, each below its own
abbrev pub AreBelow : List ℕ → List ℕ → Type 0
AreBelow [] [] = Unit {0}
AreBelow [] (bound ∷ bounds) = ⊥
AreBelow (k ∷ counters) [] = ⊥
AreBelow (k ∷ counters) (bound ∷ bounds) = (k < bound) × AreBelow counters bounds

-- the equation of a leave, and of any vertex, that stands in loops of these bounds: at each of its times it sends its answer
abbrev pub LeaveEquation : EpochInput → Flow → List ℕ → Vertex → Type 0
LeaveEquation epoch flow [] v = Unit {0}
LeaveEquation epoch flow (bound ∷ bounds) v = (counters : List ℕ) → AreBelow counters bounds → flow v.number counters ≡ leave_at epoch flow v bound counters

abbrev pub Equation : EpochInput → Flow → List ℕ → Vertex → Kind → Type 0
Equation epoch flow bounds v Leave = LeaveEquation epoch flow bounds v
Equation epoch flow bounds v _ = (counters : List ℕ) → AreBelow counters bounds → flow v.number counters ≡ answer_at epoch flow v counters

-- THE FLAT EQUATIONS: those of all vertices of a block in loops of these bounds
abbrev pub Solves : EpochInput → Flow → List ℕ → Nodes → Type 0
Solves epoch flow bounds done = Unit {0}
Solves epoch flow bounds (node v rest) = Equation epoch flow bounds v v.kind × Solves epoch flow bounds rest
Solves epoch flow bounds (block bound body rest) = Solves epoch flow (bound ∷ bounds) body × Solves epoch flow bounds rest
