-- Renamings in a list.
use Rattle.std.specs.Prelude.{◌≡◌, ℕ, ◌==◌, List, [], ◌∷◌, map, Option, Some, None}
use Rattle.std.specs.List.{slice_split}
use Rattle.td_plan.specs.Text.{natural_of}
use Rattle.td_states.specs.declared.rename.Rename.{Rename}

-- the renaming that two numbers make
abbrev pub rename_by : Option ℕ → Option ℕ → Option Rename
rename_by (Some from) (Some to) = Some (record { from = from; to = to })
rename_by _ _ = None

-- and the parts between `=`
abbrev pub rename_in : List (List ℕ) → Option Rename
rename_in (from ∷ to ∷ []) = rename_by (natural_of from) (natural_of to)
rename_in _ = None

-- the renaming that `V=W` writes
abbrev pub rename_of : List ℕ → Option Rename
rename_of pair = rename_in (slice_split (λ b. b == 61) pair)

-- A TEXT WRITES RENAMINGS, joined by commas
abbrev pub IsRenames : List ℕ → List Rename → Type 0
IsRenames text renames = map rename_of (slice_split (λ b. b == 44) text) ≡ map Some renames
