-- What the closures of this program answer: their law. Sensors are numbered so that a tenth of the number is the room.
use Rattle.std.specs.Prelude.{ℕ, ◌/◌, List, [], ◌∷◌, ◌≤◌, length, Option}
use Rattle.std.proofs.Common.{arith}
use Rattle.td_stamp.specs.declared.values.Rec.{Rec}
use Rattle.td_stamp.specs.declared.values.Item.{Item}
use Rattle.td_stamp.specs.declared.values.State.{State}
use Rattle.td_calls.specs.Answers.{Answers, AnswerFew}

-- a sensor's reading, as one of its room
abbrev pub in_room : Rec → List Rec
in_room r = record { key = r.key / 10; val = r.val } ∷ []

-- the coldest reading: the items of a key come sorted, so it is the first of them
abbrev pub coldest : ℕ → List Item → List Rec
coldest room [] = []
coldest room (i ∷ rest) = record { key = room; val = i.val } ∷ []

-- every map is `in_room` and every group `coldest`, whatever the code; a fold keeps what there was and sends nothing
abbrev pub rooms : Answers
rooms = record {
  emit = λ code port r. in_room r;
  group = λ code room items. coldest room items;
  fold = λ code key state items. (state, []);
}

coldest_few : (room : ℕ) (items : List Item) → length (coldest room items) ≤ 8
coldest_few room [] = omega arith
coldest_few room (i ∷ rest) = omega arith

-- no closure sends more than eight records
pub rooms_few : AnswerFew rooms
rooms_few = record {
  emit = λ code port r. omega arith;
  group = λ code room items. coldest_few room items;
  fold = λ code key state items. omega arith;
}
