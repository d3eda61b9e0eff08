-- The folds of a plan, and states of these alone.
use Rattle.std.specs.Prelude.{ℕ, ◌==◌, Bool, List, map, filter}
use Rattle.std.specs.List.{list_all, list_any}
use Rattle.td_stamp.specs.States.{StateList}
use Rattle.td_plan.specs.Lines.{Line}
use Rattle.td_plan.specs.Blocks.{vertices}
use Rattle.td_plan.specs.Faults.{is_fold}

-- the numbers of the folds
abbrev pub folds_of : List Line → List ℕ
folds_of plan = map (λ p. p.vertex.number) (filter (λ p. is_fold p.vertex.kind) (vertices plan))

-- whether one of some vertices keeps each state
abbrev pub are_kept_by : List ℕ → StateList → Bool
are_kept_by folds states = list_all (λ s. list_any (λ v. v == s.0.0) folds) states
