-- The condition on a closure that is stored: whatever it may answer is what the law says for its code. `post` tells what
-- it may answer; the first arguments read the answer, and what is lent.
use Rattle.std.specs.Prelude.{◌≡◌, ℕ, ◌<◌, ◌^◌, List, Option}
use Rattle.td_stamp.specs.declared.values.Rec.{Rec}
use Rattle.td_stamp.specs.declared.values.Item.{Item}
use Rattle.td_stamp.specs.declared.values.State.{State}
use Rattle.td_calls.specs.Answers.{Answers}
use Rattle.td_calls.specs.Ranges.{IsRec, IsOptionalState}

-- of a map's closure
abbrev pub IsLawfulMap : {Sent : Type 0} → (Sent → List Rec) → Answers → (ℕ → Rec → Sent → Type 0) → ℕ → Type 0
IsLawfulMap {Sent} records answers post code =
    (port : ℕ) (rec : Rec) (sent : Sent) → port < 2 ^ 8 → IsRec rec → post port rec sent → records sent ≡ answers.emit code port rec

-- of a group's closure
abbrev pub IsLawfulGroup : {Sent Lent : Type 0} → (Sent → List Rec) → (Lent → List Item) → Answers → (ℕ → Lent → Sent → Type 0) → ℕ → Type 0
IsLawfulGroup {Sent} {Lent} records items answers post code =
    (key : ℕ) (lent : Lent) (sent : Sent) → key < 2 ^ 64 → post key lent sent → records sent ≡ answers.group code key (items lent)

-- of a fold's closure
abbrev pub IsLawfulFold : {Sent Lent : Type 0} → (Sent → List Rec) → (Lent → List Item) → Answers
    → (ℕ → Option State → Lent → Option State × Sent → Type 0) → ℕ → Type 0
IsLawfulFold {Sent} {Lent} records items answers post code =
    (key : ℕ) (state : Option State) (lent : Lent) (answer : Option State × Sent) →
    key < 2 ^ 64 → IsOptionalState state → post key state lent answer → (answer.0, records answer.1) ≡ answers.fold code key state (items lent)
