-- A play on COUNT with two shards, one record in each: a notification waits for the messages of the other shard too, and the
-- notifications of both shards at one time, which are one pointstamp, do not wait for one another.
use Rattle.std.specs.Prelude.{◌≡◌, ℕ, zero, suc, List, [], ◌∷◌, pos, refl, Some, None, Contains}
use Rattle.std.proofs.Common.{arith, inr}
use Rattle.td_stamp.specs.declared.values.Entry.{Entry}
use Rattle.td_plan.specs.declared.vertex.Kind.TheVariants.{Group}
use Rattle.td_plan.specs.Named.{count_plan}
use Rattle.td_reach.specs.declared.stamp.Place.TheVariants as places
use Rattle.td_reach.specs.declared.stamp.Stamp.{Stamp}
use Rattle.td_reach.specs.Paths.{Could}
use Rattle.td_calls.specs.Stock.{stock}
use Rattle.td_batch.specs.Examples.{entry}
use Rattle.td_machine.specs.State.{HallState, Task}
use Rattle.td_machine.specs.State.Content.{messages}
use Rattle.td_machine.specs.Active.{Frontier}
use Rattle.td_machine.specs.Steps.{Plays, opened, release_step}
use Rattle.td_machine.specs.Steps.Refusal.{busy, stranger}
use Rattle.td_machine.specs.Steps.Event.{release, taking, give}
use Rattle.td_machine.specs.Steps.Answer.{refused, has_released, has_taken, has_given}
use Rattle.td_machine.specs.Steps.Takes.{takes, is_busy}
use Rattle.td_machine.specs.Steps.Gives.{gives, is_stranger}
use Rattle.td_machine.specs.Examples.{at_epoch, message_at, one_item, note_task, taken_by, given_by, could-epoch}

-- keys 7 and 8 are of shards 1 and 0
abbrev two : List Entry
two = entry 0 7 (pos 1) ∷ entry 0 8 (pos 1) ∷ []

abbrev message_of : ℕ → ℕ → ℕ → Task
message_of shard number key = record { shard = shard; number = number; vertex = 1; kind = Group 20; time = at_epoch 1; content = messages 0 (record { key = key; val = pos 1 } ∷ []) }

abbrev note_of : ℕ → ℕ → ℕ → Task
note_of shard number key = note_task shard number 1 (Group 20) (at_epoch 1) (one_item key (pos 1) None)

abbrev s0 : HallState
s0 = opened count_plan [] 1 2

abbrev s1 : HallState
s1 = (release_step s0 two).1

-- the record of shard 0 comes to the group
abbrev t1 : Task
t1 = message_of 0 1 8

abbrev s2 : HallState
s2 = given_by (taken_by s1 t1) t1

-- then that of shard 1
abbrev t2 : Task
t2 = message_of 1 2 7

abbrev s3 : HallState
s3 = given_by (taken_by s2 t2) t2

-- both notifications are out at once, and are given the other way round
abbrev t3 : Task
t3 = note_of 0 3 8

abbrev s4 : HallState
s4 = taken_by s3 t3

abbrev t4 : Task
t4 = note_of 1 4 7

abbrev s5 : HallState
s5 = taken_by s4 t4

abbrev s6 : HallState
s6 = given_by s5 t4

abbrev s7 : HallState
s7 = given_by s6 t3

abbrev here : Stamp
here = record { time = at_epoch 1; place = places.Vertex 1 }

-- the message that is left on the edge to the group, in the other shard, could result in the notification
reaches : Could count_plan (record { time = at_epoch 1; place = places.Edge 0 }) here
reaches = record {
  first = 1;
  path = [];
  begins = (record { source = 0; reader = 1; port = 0 }, refl, refl);
  is_path = tt;
  ends = inr (1, (record { source = 0; reader = 1; port = 0 }, refl, refl), refl);
  in_time = record { epoch = omega arith; turns = inr refl };
}

pub held_back : Frontier s2 here → ⊥
held_back f = f.is_free.0 (λ same. let no : places.Edge 0 ≡ places.Vertex 1 = (λ i. (same i).place) in absurd (cc)) reaches

-- when it has come too, nothing holds the notifications back
in_frontier : Frontier s3 here
in_frontier = record {
  is_active = (0, omega arith, refl);
  is_free = (λ other c. absurd (other refl), (λ other c. absurd (other refl), (λ other c. absurd (omega (arith, could-epoch count_plan _ _ c)), tt)));
}

-- nor does the one that is out hold back the other
still_in_frontier : Frontier s4 here
still_in_frontier = record { is_active = in_frontier.is_active; is_free = in_frontier.is_free }

-- a task that was given is not taken back twice
gone : Contains s6.out t4 → ⊥
gone (zero, l, e) = let no : 3 ≡ 4 = (λ i. (e i).number) in absurd (omega (arith, no))
gone (suc k, l, e) = absurd (omega (arith, l))

pub shards_play : Plays stock s0
    (release two ∷ taking 0 ∷ give t1 ∷ taking 1 ∷ give t2 ∷ taking 0 ∷ taking 0 ∷ taking 1 ∷ give t4 ∷ give t4 ∷ give t3 ∷ [])
    (has_released 1 ∷ has_taken (Some t1) ∷ has_given ∷ has_taken (Some t2) ∷ has_given
    ∷ has_taken (Some t3) ∷ refused busy ∷ has_taken (Some t4) ∷ has_given ∷ refused stranger ∷ has_given ∷ [])
    s7
shards_play = (
  s1,
  (refl, refl),
  (
    taken_by s1 t1,
    takes refl t1 (record { shard = refl; number = refl; kind = refl; content = (omega arith, omega arith, (refl, tt), (message_at 1 (at_epoch 1) (pos 1) ∷ [], refl)) }) (omega arith),
    (
      s2,
      gives (0, omega arith, refl),
      (
        taken_by s2 t2,
        takes refl t2 (record { shard = refl; number = refl; kind = refl; content = (omega arith, omega arith, (refl, tt), ([], refl)) }) (omega arith),
        (
          s3,
          gives (0, omega arith, refl),
          (
            s4,
            takes refl t3 (record { shard = refl; number = refl; kind = refl; content = (refl, in_frontier, refl) }) (omega arith),
            (
              s4,
              is_busy refl,
              (
                s5,
                takes refl t4 (record { shard = refl; number = refl; kind = refl; content = (refl, still_in_frontier, refl) }) (omega arith),
                (
                  s6,
                  gives (1, omega arith, refl),
                  (
                    s6,
                    is_stranger gone,
                    (s7, gives (0, omega arith, refl), refl),
                  ),
                ),
              ),
            ),
          ),
        ),
      ),
    ),
  ),
)
