-- A play on TOTAL, a fold: two epochs are released, and a cut is made at the first when the state of the second has been made and
-- its output has not come. The cut has nothing of the second epoch, and the second epoch runs on.
use Rattle.std.specs.Prelude.{◌≡◌, ℕ, List, [], ◌∷◌, pos, negsuc, refl, Option, Some, None, ℤ}
use Rattle.std.proofs.Common.{arith}
use Rattle.td_stamp.specs.declared.values.State.{State}
use Rattle.td_stamp.specs.States.{StateList}
use Rattle.td_plan.specs.declared.vertex.Kind.TheVariants.{Fold, Output}
use Rattle.td_plan.specs.Named.{total_plan}
use Rattle.td_plan.specs.Tree.{tree_of}
use Rattle.td_reach.specs.declared.stamp.Place.TheVariants as places
use Rattle.td_calls.specs.Stock.{stock}
use Rattle.td_batch.specs.Meaning.{run, states_after}
use Rattle.td_batch.specs.Examples.{out}
use Rattle.td_machine.specs.State.{HallState, Task}
use Rattle.td_machine.specs.Active.{Frontier}
use Rattle.td_machine.specs.Steps.{Event, Answer, Plays, Takes, opened, release_step, collect_step, cut_to}
use Rattle.td_machine.specs.Steps.Refusal.{not_passed}
use Rattle.td_machine.specs.Steps.Event.{release, taking, give, collect, cut, cut_at}
use Rattle.td_machine.specs.Steps.Answer.{refused, has_released, has_taken, has_given, has_collected, has_cut}
use Rattle.td_machine.specs.Steps.Takes.{takes}
use Rattle.td_machine.specs.Steps.Gives.{gives}
use Rattle.td_machine.specs.Examples.{at_epoch, one_batch, message_task, one_item, note_task, message_at, taken_by, given_by, could-epoch}

abbrev kept : ℤ → ℤ → StateList
kept a b = ((1, 7), record { a = a; b = b }) ∷ []

-- the notification of an epoch, with the state before it
abbrev note : ℕ → ℕ → ℤ → Option State → Task
note number e val state = note_task 0 number 1 (Fold 40) (at_epoch e) (one_item 7 val state)

-- both epochs are released, and come to the fold
abbrev s0 : HallState
s0 = opened total_plan [] 1 1

abbrev s1 : HallState
s1 = (release_step s0 (one_batch (pos 5))).1

abbrev s2 : HallState
s2 = (release_step s1 (one_batch (negsuc 1))).1

abbrev t1 : Task
t1 = message_task 1 1 (Fold 40) (at_epoch 1) (pos 5)

abbrev s3 : HallState
s3 = given_by (taken_by s2 t1) t1

abbrev t2 : Task
t2 = message_task 2 1 (Fold 40) (at_epoch 2) (negsuc 1)

abbrev s4 : HallState
s4 = given_by (taken_by s3 t2) t2

-- the first epoch is notified and comes out; the second is notified
abbrev t3 : Task
t3 = note 3 1 (pos 5) None

abbrev s5 : HallState
s5 = given_by (taken_by s4 t3) t3

abbrev t4 : Task
t4 = message_task 4 2 Output (at_epoch 1) (pos 5)

abbrev s6 : HallState
s6 = given_by (taken_by s5 t4) t4

abbrev t5 : Task
t5 = note 5 2 (negsuc 1) (Some (record { a = pos 5; b = pos 1 }))

abbrev s7 : HallState
s7 = given_by (taken_by s6 t5) t5

-- the cut at the first epoch; then the second comes out
abbrev s8 : HallState
s8 = cut_to s7 1

abbrev t6 : Task
t6 = message_task 6 2 Output (at_epoch 2) (pos 3)

abbrev s9 : HallState
s9 = given_by (taken_by s8 t6) t6

abbrev s10 : HallState
s10 = (collect_step s9).1

abbrev s11 : HallState
s11 = cut_to s10 2

abbrev total_events : List Event
total_events =
    release (one_batch (pos 5)) ∷ release (one_batch (negsuc 1))
    ∷ taking 0 ∷ give t1 ∷ taking 0 ∷ give t2 ∷ taking 0 ∷ give t3 ∷ taking 0 ∷ give t4 ∷ taking 0 ∷ give t5
    ∷ cut ∷ cut_at 2 ∷ cut_at 1 ∷ taking 0 ∷ give t6 ∷ collect ∷ cut ∷ []

abbrev total_answers : List Answer
total_answers =
    has_released 1 ∷ has_released 2
    ∷ has_taken (Some t1) ∷ has_given ∷ has_taken (Some t2) ∷ has_given ∷ has_taken (Some t3) ∷ has_given ∷ has_taken (Some t4) ∷ has_given ∷ has_taken (Some t5) ∷ has_given
    ∷ refused (not_passed 2) ∷ refused (not_passed 2) ∷ has_cut 1 (kept (pos 5) (pos 1)) ∷ has_taken (Some t6) ∷ has_given
    ∷ has_collected (record { epoch = 1; recs = out 2 7 (pos 5) ∷ [] } ∷ record { epoch = 2; recs = out 2 7 (pos 3) ∷ [] } ∷ []) ∷ has_cut 2 (kept (pos 3) (pos 2)) ∷ []

-- the notification of the second epoch waits, and does not hold that of the first back
in_frontier_1 : Frontier s4 (record { time = at_epoch 1; place = places.Vertex 1 })
in_frontier_1 = record {
  is_active = (0, omega arith, refl);
  is_free = (λ other c. absurd (other refl), (λ other c. absurd (omega (arith, could-epoch total_plan _ _ c)), (λ other c. absurd (omega (arith, could-epoch total_plan _ _ c)), tt)));
}

in_frontier_2 : Frontier s6 (record { time = at_epoch 2; place = places.Vertex 1 })
in_frontier_2 = record {
  is_active = (0, omega arith, refl);
  is_free = (λ other c. absurd (other refl), (λ other c. absurd (omega (arith, could-epoch total_plan _ _ c)), tt));
}

take_1 : Takes s2 0 (has_taken (Some t1)) (taken_by s2 t1)
take_1 = takes refl t1 (record { shard = refl; number = refl; kind = refl; content = (omega arith, omega arith, (refl, tt), (message_at 1 (at_epoch 2) (negsuc 1) ∷ [], refl)) }) (omega arith)

take_2 : Takes s3 0 (has_taken (Some t2)) (taken_by s3 t2)
take_2 = takes refl t2 (record { shard = refl; number = refl; kind = refl; content = (omega arith, omega arith, (refl, tt), ([], refl)) }) (omega arith)

take_3 : Takes s4 0 (has_taken (Some t3)) (taken_by s4 t3)
take_3 = takes refl t3 (record { shard = refl; number = refl; kind = refl; content = (refl, in_frontier_1, refl) }) (omega arith)

take_4 : Takes s5 0 (has_taken (Some t4)) (taken_by s5 t4)
take_4 = takes refl t4 (record { shard = refl; number = refl; kind = refl; content = (omega arith, omega arith, (refl, tt), ([], refl)) }) (omega arith)

take_5 : Takes s6 0 (has_taken (Some t5)) (taken_by s6 t5)
take_5 = takes refl t5 (record { shard = refl; number = refl; kind = refl; content = (refl, in_frontier_2, refl) }) (omega arith)

take_6 : Takes s8 0 (has_taken (Some t6)) (taken_by s8 t6)
take_6 = takes refl t6 (record { shard = refl; number = refl; kind = refl; content = (omega arith, omega arith, (refl, tt), ([], refl)) }) (omega arith)

pub total_play : Plays stock s0 total_events total_answers s11
total_play = (
  s1,
  (refl, refl),
  (
    s2,
    (refl, refl),
    (
      taken_by s2 t1,
      take_1,
      (
        s3,
        gives (0, omega arith, refl),
        (
          taken_by s3 t2,
          take_2,
          (
            s4,
            gives (0, omega arith, refl),
            (
              taken_by s4 t3,
              take_3,
              (
                s5,
                gives (0, omega arith, refl),
                (
                  taken_by s5 t4,
                  take_4,
                  (
                    s6,
                    gives (0, omega arith, refl),
                    (
                      taken_by s6 t5,
                      take_5,
                      (
                        s7,
                        gives (0, omega arith, refl),
                        (
                          s7,
                          refl,
                          (
                            s7,
                            (omega arith, omega arith, refl),
                            (
                              s8,
                              (omega arith, omega arith, refl),
                              (
                                taken_by s8 t6,
                                take_6,
                                (
                                  s9,
                                  gives (0, omega arith, refl),
                                  (
                                    s10,
                                    refl,
                                    (s11, refl, refl),
                                  ),
                                ),
                              ),
                            ),
                          ),
                        ),
                      ),
                    ),
                  ),
                ),
              ),
            ),
          ),
        ),
      ),
    ),
  ),
)

-- what was cut and collected is the batch meaning
pub total_states : states_after stock (tree_of total_plan) [] (one_batch (pos 5) ∷ one_batch (negsuc 1) ∷ []) 1 ≡ kept (pos 5) (pos 1)
total_states = refl

pub total_batch : (run stock (tree_of total_plan) [] (one_batch (pos 5) ∷ one_batch (negsuc 1) ∷ [])).outs ≡ (out 2 7 (pos 5) ∷ []) ∷ (out 2 7 (pos 3) ∷ []) ∷ []
total_batch = refl
