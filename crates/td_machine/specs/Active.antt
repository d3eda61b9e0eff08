-- The pointstamps of a hall's state, which of them hold others back, and which epochs have passed (Naiad, section 2.3).
use Rattle.std.specs.Prelude.{ℕ, ◌+◌, ◌-◌, Bool, true, false, not, List, [], ◌++◌, map, filter, Option, Some, None, unwrap_or, find}
use Rattle.td_stamp.specs.Time.{Timestamp}
use Rattle.td_plan.specs.declared.vertex.Kind.{Kind}
use Rattle.td_plan.specs.declared.vertex.Kind.TheVariants.{Input}
use Rattle.td_plan.specs.Lines.{Line}
use Rattle.td_plan.specs.Blocks.{vertices, kind_at, bound_at, edge_at}
use Rattle.td_plan.specs.Faults.{is_input}
use Rattle.td_batch.specs.Flow.{numbers_from}
use Rattle.td_reach.specs.declared.stamp.Place.TheVariants as places
use Rattle.td_reach.specs.declared.stamp.Stamp.{Stamp}
use Rattle.td_reach.specs.Frontier as frontier
use Rattle.td_machine.specs.declared.records.Message.{Message}
use Rattle.td_machine.specs.declared.records.Notification.{Notification}
use Rattle.td_machine.specs.State.{HallState}

-- the kind of a vertex; a number that has none is taken for an input
abbrev pub kind_or : Option Kind → Kind
kind_or None = Input
kind_or (Some k) = k

-- the kind of the vertex of this number
abbrev pub kind_of : List Line → ℕ → Kind
kind_of plan v = kind_or (kind_at plan v)

-- the bound of the loop in which a vertex stands
abbrev pub bound_of : List Line → ℕ → ℕ
bound_of plan v = unwrap_or (bound_at plan v) 0

-- the numbers of the inputs
abbrev pub inputs_of : List Line → List ℕ
inputs_of plan = map (λ p. p.vertex.number) (filter (λ p. is_input p.vertex.kind) (vertices plan))

-- the pointstamp of a message: its time, on the edge to its port
abbrev pub stamp_of_message : List Line → Message → Stamp
stamp_of_message plan c = record { time = c.time; place = places.Edge (edge_at plan c.vertex c.port) }

-- that of a vertex and a time
abbrev pub stamp_at : ℕ → Timestamp → Stamp
stamp_at v t = record { time = t; place = places.Vertex v }

-- that of a notification: its shard is not told
abbrev pub stamp_of_asked : Notification → Stamp
stamp_of_asked a = stamp_at a.vertex a.time

-- that of an input, which may still be given records of the next epoch and of later ones
abbrev pub stamp_of_input : ℕ → ℕ → Stamp
stamp_of_input next v = stamp_at v (record { epoch = next; turns = [] })

-- inputs that are closed have none
abbrev pub stamps_of_inputs : List Line → ℕ → Bool → List Stamp
stamps_of_inputs plan next true = []
stamps_of_inputs plan next false = map (stamp_of_input next) (inputs_of plan)

module _ (S : HallState) where
  -- ACTIVE: the bag of active pointstamps, in which each stands as often as it occurs. Those of tasks that are out are among them
  abbrev pub active : List Stamp
  active = map (stamp_of_message S.plan) S.messages ++ (map stamp_of_asked S.asked ++ stamps_of_inputs S.plan S.next S.closed)

  -- no active pointstamp holds this one back
  abbrev pub IsFree : Stamp → Type 0
  IsFree p = frontier.IsFree S.plan active p

  -- active, and held back by no other
  abbrev pub Frontier : Stamp → Type 0
  Frontier p = frontier.Frontier S.plan active p

  -- nothing of this epoch, or of one before, is active
  abbrev pub has_passed : ℕ → Bool
  has_passed e = frontier.has_passed active e

  -- the released epochs after this one
  abbrev pub released_after : ℕ → List ℕ
  released_after e = numbers_from (e + 1) (S.next - (e + 1))

  -- the least released epoch that has not passed. The epochs up to the base have passed
  abbrev pub unpassed : Option ℕ
  unpassed = find (λ e. not (has_passed e)) (released_after S.base)
