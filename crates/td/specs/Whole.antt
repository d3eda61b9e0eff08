-- Which engines may be asked for.
use Rattle.td.specs.declared.engine.Engine.{Engine}
use Rattle.td.specs.declared.engine.Engine.TheVariants.{Batch, Run, Sim, Feed, Stream}
use Rattle.std.specs.Prelude.{◌≤◌, ◌<◌, length}

-- an engine with 1 to 16 shards, and some pick
abbrev pub IsLawfulEngine : Engine → Type 0
IsLawfulEngine (Batch closures) = Unit {0}
IsLawfulEngine (Run workers closures) = (1 ≤ workers) × (workers ≤ 16)
IsLawfulEngine (Feed disk plan workers closures) = (1 ≤ workers) × (workers ≤ 16)
IsLawfulEngine (Stream disk path plan workers options telling closures) = (1 ≤ workers) × (workers ≤ 16)
IsLawfulEngine (Sim workers picks closures) = (1 ≤ workers) × (workers ≤ 16) × (0 < length picks.items)
