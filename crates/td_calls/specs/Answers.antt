-- What closures answer, by their codes.
use Rattle.std.specs.Prelude.{ℕ, ◌≤◌, List, Option, length}
use Rattle.td_stamp.specs.declared.values.Rec.{Rec}
use Rattle.td_stamp.specs.declared.values.Item.{Item}
use Rattle.td_stamp.specs.declared.values.State.{State}

pub record Answers : Type 0 where
  -- of a map's code, a port and a record: what it sends
  pub emit : ℕ → ℕ → Rec → List Rec
  -- of a group's code, a key and its sorted items: what it sends
  pub group : ℕ → ℕ → List Item → List Rec
  -- of a fold's code, a key, its state and its sorted items: the state that it keeps, and what it sends
  pub fold : ℕ → ℕ → Option State → List Item → Option State × List Rec

-- no closure sends more than eight records
pub record AnswerFew (answers : Answers) : Type 0 where
  pub emit : (code port : ℕ) (rec : Rec) → length (answers.emit code port rec) ≤ 8
  pub group : (code key : ℕ) (items : List Item) → length (answers.group code key items) ≤ 8
  pub fold : (code key : ℕ) (state : Option State) (items : List Item) → length (answers.fold code key state items).1 ≤ 8
