-- A play on NEST.
use Rattle.std.specs.Prelude.{◌≡◌, [], ◌∷◌, pos, refl, Some}
use Rattle.std.proofs.Common.{arith}
use Rattle.td_plan.specs.declared.vertex.Kind.TheVariants.{Enter}
use Rattle.td_plan.specs.Named.{nest_plan}
use Rattle.td_calls.specs.Stock.{stock}
use Rattle.td_machine.specs.State.{HallState, Task}
use Rattle.td_machine.specs.State.Content.{messages}
use Rattle.td_machine.specs.Steps.{Plays, opened, release_step}
use Rattle.td_machine.specs.Steps.Event.{release, taking, give}
use Rattle.td_machine.specs.Steps.Answer.{has_released, has_taken, has_given}
use Rattle.td_machine.specs.Steps.Takes.{takes}
use Rattle.td_machine.specs.Steps.Gives.{gives}
use Rattle.td_machine.specs.Examples.{at_epoch, one_batch, taken_by, given_by}

-- NEST, three steps: a record enters the outer loop
abbrev s0 : HallState
s0 = opened nest_plan [] 1 2

abbrev s1 : HallState
s1 = (release_step s0 (one_batch (pos 5))).1

abbrev t1 : Task
t1 = record { shard = 1; number = 1; vertex = 1; kind = Enter; time = at_epoch 1; content = messages 0 (record { key = 7; val = pos 5 } ∷ []) }

abbrev s2 : HallState
s2 = taken_by s1 t1

abbrev s3 : HallState
s3 = given_by s2 t1

pub nest_play : Plays stock s0 (release (one_batch (pos 5)) ∷ taking 1 ∷ give t1 ∷ []) (has_released 1 ∷ has_taken (Some t1) ∷ has_given ∷ []) s3
nest_play = (
  s1,
  (refl, refl),
  (
    s2,
    takes refl t1 (record { shard = refl; number = refl; kind = refl; content = (omega arith, omega arith, (refl, tt), ([], refl)) }) (omega arith),
    (s3, gives (0, omega arith, refl), refl),
  ),
)

pub nest_entered : s3.messages ≡ record { vertex = 3; port = 0; time = record { epoch = 1; turns = 0 ∷ [] }; rec = record { key = 7; val = pos 5 } } ∷ []
nest_entered = refl
