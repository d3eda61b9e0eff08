-- A play on COUNT.
use Rattle.std.specs.Prelude.{◌≡◌, List, [], ◌∷◌, pos, refl, Some, None}
use Rattle.std.proofs.Common.{arith}
use Rattle.td_plan.specs.declared.vertex.Kind.TheVariants.{Group, Output}
use Rattle.td_plan.specs.Named.{count_plan}
use Rattle.td_plan.specs.Tree.{tree_of}
use Rattle.td_reach.specs.declared.stamp.Place.TheVariants as places
use Rattle.td_calls.specs.Stock.{stock}
use Rattle.td_batch.specs.Meaning.{run}
use Rattle.td_batch.specs.Examples.{out}
use Rattle.td_machine.specs.State.{HallState, Task}
use Rattle.td_machine.specs.Active.{Frontier}
use Rattle.td_machine.specs.Steps.{Event, Answer, Plays, Takes, opened, release_step, collect_step}
use Rattle.td_machine.specs.Steps.Event.{release, taking, give, collect}
use Rattle.td_machine.specs.Steps.Answer.{has_released, has_taken, has_given, has_collected}
use Rattle.td_machine.specs.Steps.Takes.{takes}
use Rattle.td_machine.specs.Steps.Gives.{gives}
use Rattle.td_machine.specs.Tally.{records_in, notes_in, tally}
use Rattle.td_machine.specs.Exact.{WorkIs}
use Rattle.td_machine.specs.Examples.{at_epoch, one_batch, message_task, one_item, note_task, taken_by, given_by, could-epoch}

-- COUNT, one record
abbrev s0 : HallState
s0 = opened count_plan [] 1 1

abbrev s1 : HallState
s1 = (release_step s0 (one_batch (pos 1))).1

abbrev t1 : Task
t1 = message_task 1 1 (Group 20) (at_epoch 1) (pos 1)

abbrev s2 : HallState
s2 = taken_by s1 t1

abbrev s3 : HallState
s3 = given_by s2 t1

abbrev t2 : Task
t2 = note_task 0 2 1 (Group 20) (at_epoch 1) (one_item 7 (pos 1) None)

abbrev s4 : HallState
s4 = taken_by s3 t2

abbrev s5 : HallState
s5 = given_by s4 t2

abbrev t3 : Task
t3 = message_task 3 2 Output (at_epoch 1) (pos 1)

abbrev s6 : HallState
s6 = taken_by s5 t3

abbrev s7 : HallState
s7 = given_by s6 t3

abbrev s8 : HallState
s8 = (collect_step s7).1

abbrev count_events : List Event
count_events = release (one_batch (pos 1)) ∷ taking 0 ∷ give t1 ∷ taking 0 ∷ give t2 ∷ taking 0 ∷ give t3 ∷ collect ∷ []

abbrev count_answers : List Answer
count_answers =
    has_released 1 ∷ has_taken (Some t1) ∷ has_given ∷ has_taken (Some t2) ∷ has_given ∷ has_taken (Some t3) ∷ has_given
    ∷ has_collected (record { epoch = 1; recs = out 2 7 (pos 1) ∷ [] } ∷ []) ∷ []

-- the group's notification is in the frontier, though the input is open for epoch 2
in_frontier : Frontier s3 (record { time = at_epoch 1; place = places.Vertex 1 })
in_frontier = record {
  is_active = (0, omega arith, refl);
  is_free = (λ other c. absurd (other refl), (λ other c. absurd (omega (arith, could-epoch count_plan _ _ c)), tt));
}

first_take : Takes s1 0 (has_taken (Some t1)) s2
first_take = takes refl t1 (record { shard = refl; number = refl; kind = refl; content = (omega arith, omega arith, (refl, tt), ([], refl)) }) (omega arith)

second_take : Takes s3 0 (has_taken (Some t2)) s4
second_take = takes refl t2 (record { shard = refl; number = refl; kind = refl; content = (refl, in_frontier, refl) }) (omega arith)

third_take : Takes s5 0 (has_taken (Some t3)) s6
third_take = takes refl t3 (record { shard = refl; number = refl; kind = refl; content = (omega arith, omega arith, (refl, tt), ([], refl)) }) (omega arith)

pub count_play : Plays stock s0 count_events count_answers s8
count_play = (
  s1,
  (refl, refl),
  (
    s2,
    first_take,
    (
      s3,
      gives (0, omega arith, refl),
      (
        s4,
        second_take,
        (
          s5,
          gives (0, omega arith, refl),
          (
            s6,
            third_take,
            (
              s7,
              gives (0, omega arith, refl),
              (s8, refl, refl),
            ),
          ),
        ),
      ),
    ),
  ),
)

-- what was collected is the batch meaning
pub count_collected : (collect_step s7).0 ≡ has_collected (record { epoch = 1; recs = out 2 7 (pos 1) ∷ [] } ∷ [])
count_collected = refl

pub count_batch : (run stock (tree_of count_plan) [] (one_batch (pos 1) ∷ [])).outs ≡ (out 2 7 (pos 1) ∷ []) ∷ []
count_batch = refl

-- two records and one notification were given, which is the work of the batch meaning
pub count_given : (tally records_in count_events count_answers ≡ 2) × (tally notes_in count_events count_answers ≡ 1)
count_given = (refl, refl)

pub count_work : WorkIs stock count_plan [] 1 count_events count_answers
count_work = record { records = refl; notes = refl }
