-- What a disk tells at the end of a life, and the theorem.
use Rattle.std.specs.Prelude.{◌≡◌, ℕ, true, List, [], ◌∷◌, ◌++◌, All, Contains, Some, Ok}
use Rattle.td_plan.specs.Lines.{Line}
use Rattle.td_plan.specs.Faults.{IsPlan}
use Rattle.td_calls.specs.Answers.{Answers}
use Rattle.td_disk.specs.Disk.{DiskView, DiskState}
use Rattle.td_head.specs.Layout.{Sizes}
use Rattle.td_journal.specs.declared.payload.Submitted.{Submitted}
use Rattle.td_journal.specs.Numbers.{rise}
use Rattle.td_store.specs.standing.Standing.{Standing, nothing_told}
use Rattle.td_store.specs.standing.Stops.{Begins, Stands}
use Rattle.td_store.specs.standing.Told.{Told}
use Rattle.td_store.specs.standing.Tells.{Keeps, first_head}
use Rattle.td_store.specs.standing.Advanced.{states_by}
use Rattle.td_keeper.specs.Acknowledged.{epochs_of, outs_of}
use Rattle.td_theorem.specs.Life.{Stint, Life, submitted_in_stint, acknowledged_in_life, handed_in_life}
use Rattle.td_theorem.specs.Comes.{ComesToTheRest}

-- A HISTORY IS MADE OF STINTS: one after another, it has a beginning of what each submitted, and nothing else.
abbrev pub IsMadeOf : {D : Type 0} → List Submitted → List (Stint D) → Type 0
IsMadeOf history [] = history ≡ []
IsMadeOf history (s ∷ more) = (first : List Submitted) × (rest : List Submitted) × (history ≡ first ++ rest) × Begins first (submitted_in_stint s) × IsMadeOf rest more

-- WHAT AN IMAGE HOLDS at the end of a life: it tells a history, and all of this is so of it.
pub record HoldsAll {D : Type 0} (answers : Answers) (plan : List Line) (life : List (Stint D)) (image : List ℕ) : Type 0 where
  pub standing : Standing
  pub told : Told plan image (Ok standing)
  pub history : List Submitted
  pub stands : Stands (states_by answers plan) standing history
  pub made : IsMadeOf history life
  pub acknowledged : All (Contains (epochs_of history)) (acknowledged_in_life life)
  pub handed : All (Contains (outs_of answers plan history)) (handed_in_life life)
  pub once : rise (Some 0) history ≡ true
  pub comes : ComesToTheRest answers plan standing history

-- THE THEOREM: format a disk; let keepers stand on it, one after another, told anything, stopped anywhere; then this is so of it.
abbrev pub TheTheorem : {D : Type 0} → (D → DiskView) → Answers → Type 0
TheTheorem {D = D} view answers = (plan : List Line) (sizes : Sizes) (formatted : D) (from to : List ℕ) (life : List (Stint D)) → IsPlan plan
    → Keeps plan (first_head sizes) 0 nothing_told (view formatted).state → (view formatted).state.images from
    → Life view answers plan from life to → HoldsAll answers plan life to
