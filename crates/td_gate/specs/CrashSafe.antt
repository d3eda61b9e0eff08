-- What a crash in the middle of a run of calls leaves.
use Rattle.std.specs.Prelude.{◌≡◌, ◌⊎◌, ℕ, ◌≤◌, List}
use Rattle.td_disk.specs.Disk.{DiskState}

-- A crash at any moment from old on leaves an image of old after a step.
pub record CrashSafe (step : List ℕ → List ℕ → Type 0) (old new : DiskState) : Type 0 where
  pub later : old.moment ≤ new.moment
  pub each : (c : List ℕ) → new.since old.moment c → (d : List ℕ) × old.images d × step d c
  -- The same for a run that began before old: it left what it might have left by then, or an image of old after a step.
  pub before : (t : ℕ) (c : List ℕ) → t ≤ old.moment → new.since t c → old.since t c ⊎ ((d : List ℕ) × old.images d × step d c)

-- the step that changes nothing
abbrev pub Unchanged : List ℕ → List ℕ → Type 0
Unchanged old new = new ≡ old
