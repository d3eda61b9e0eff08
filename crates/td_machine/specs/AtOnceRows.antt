-- Rows of what tasks do all at once, and of the pointstamps that they move: each holds by computing.
use Rattle.std.specs.Prelude.{◌≡◌, ℕ, List, [], ◌∷◌, ℤ, pos, refl, None}
use Rattle.td_stamp.specs.declared.values.Rec.{Rec}
use Rattle.td_plan.specs.declared.vertex.Kind.TheVariants.{Distinct, Group}
use Rattle.td_plan.specs.Named.{count_plan, straight}
use Rattle.td_reach.specs.declared.stamp.Place.TheVariants as places
use Rattle.td_reach.specs.declared.stamp.Stamp.{Stamp}
use Rattle.td_calls.specs.Stock.{stock}
use Rattle.td_machine.specs.State.{HallState, Task}
use Rattle.td_machine.specs.Active.{stamp_at}
use Rattle.td_machine.specs.Steps.{opened, release_step, coming, all_delivered}
use Rattle.td_machine.specs.Steps.Event.{release, give, close}
use Rattle.td_machine.specs.Steps.Answer.{has_released, has_given, has_closed}
use Rattle.td_machine.specs.Examples.{at_epoch, one_batch, message_task, one_item, note_task, seen_at}
use Rattle.td_machine.specs.AtOnce.{fresh, at_once}
use Rattle.td_machine.specs.Moves.{come_by, gone_by}

-- records of key 7
abbrev seven : ℤ → Rec
seven val = record { key = 7; val = val }

abbrev three : List Rec
three = seven (pos 1) ∷ seven (pos 2) ∷ seven (pos 1) ∷ []

-- a record that comes twice is new once
pub new_once : fresh [] 1 (at_epoch 1) three ≡ seven (pos 1) ∷ seven (pos 2) ∷ []
new_once = refl

-- what was seen at this vertex and time is not new, and what was seen in another epoch is
pub seen_before : fresh (seen_at 1 ∷ []) 1 (at_epoch 1) three ≡ seven (pos 2) ∷ []
seen_before = refl

pub seen_elsewhere : fresh (seen_at 2 ∷ []) 1 (at_epoch 1) three ≡ seven (pos 1) ∷ seven (pos 2) ∷ []
seen_elsewhere = refl

-- a distinct that is given three records, one after another and all at once
abbrev before : HallState
before = record (opened (straight Distinct) [] 1 1) { next = 2; messages = coming 1 0 (at_epoch 1) (seven (pos 1) ∷ seven (pos 1) ∷ seven (pos 2) ∷ []) }

pub as_one_by_one : all_delivered stock Distinct before (coming 1 0 (at_epoch 1) three) ≡ at_once stock before Distinct 1 0 (at_epoch 1) three []
as_one_by_one = refl

-- a group's first record asks for its notification, and its second record does not
abbrev edge_to_group : ℕ → Stamp
edge_to_group e = record { time = at_epoch e; place = places.Edge 0 }

abbrev counting : HallState
counting = (release_step (opened count_plan [] 1 1) (one_batch (pos 1))).1

abbrev record_task : Task
record_task = message_task 1 1 (Group 20) (at_epoch 1) (pos 1)

pub asks : come_by stock counting (give record_task) has_given ≡ stamp_at 1 (at_epoch 1) ∷ []
asks = refl

pub asked_already : come_by stock (record counting { asked = record { shard = 0; vertex = 1; time = at_epoch 1 } ∷ [] }) (give record_task) has_given ≡ []
asked_already = refl

pub answered : gone_by counting (give record_task) has_given ≡ edge_to_group 1 ∷ []
answered = refl

-- its notification sends the count to the output
abbrev count_task : Task
count_task = note_task 0 2 1 (Group 20) (at_epoch 1) (one_item 7 (pos 1) None)

pub sends_count : come_by stock counting (give count_task) has_given ≡ record { time = at_epoch 1; place = places.Edge 1 } ∷ []
sends_count = refl

pub notified_once : gone_by counting (give count_task) has_given ≡ stamp_at 1 (at_epoch 1) ∷ []
notified_once = refl

-- a release puts its message on the edge, and the input goes from epoch 2 to epoch 3; a close takes the input away
pub released : come_by stock counting (release (one_batch (pos 1))) (has_released 2) ≡ edge_to_group 2 ∷ stamp_at 0 (at_epoch 3) ∷ []
released = refl

pub input_goes : gone_by counting (release (one_batch (pos 1))) (has_released 2) ≡ stamp_at 0 (at_epoch 2) ∷ []
input_goes = refl

pub closed_away : gone_by counting close has_closed ≡ stamp_at 0 (at_epoch 2) ∷ []
closed_away = refl
