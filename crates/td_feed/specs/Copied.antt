-- Copies of a disk that a stream makes while it goes on.
use Rattle.std.specs.Prelude.{◌≡◌, ℕ, ◌≤◌, List, ◌++◌, length, map, take, All, codes, string_bytes, Option, option_map}
use Rattle.td_plan.specs.Lines.{Line as PlanLine}
use Rattle.td_calls.specs.Answers.{Answers}
use Rattle.td_disk.specs.Disk.{DiskView}
use Rattle.td_journal.specs.declared.payload.Submitted.{Submitted}
use Rattle.td_keeper.specs.Keeping.{Keeping}
use Rattle.td_feed.specs.declared.host.Why.{Why}
use Rattle.td_feed.specs.declared.host.Why.TheVariants.{Memory, Because}
use Rattle.td_feed.specs.Fed.{EachTellsHistory}
use Rattle.td_feed.specs.Carried.{StandsFor}

-- A COPY: the name of its disk, the epoch up to which it goes, and the disk
pub record Copied (E : Type 0) : Type 0 where
  pub name : List ℕ
  pub epoch : ℕ
  pub disk : E

-- copies that are kept, where they are known, and some more
abbrev pub with_copies : {E : Type 0} → Option (List (Copied E)) → List (Copied E) → Option (List (Copied E))
with_copies kept made = option_map (λ copies. copies ++ made) kept

-- the names of copies, and the epochs up to which they go
abbrev pub labels : {E : Type 0} → List (Copied E) → List (List ℕ × ℕ)
labels made = map (λ c. (c.name, c.epoch)) made

-- A COPY IS OF A HISTORY: it goes up to one of its epochs, and whatever a crash leaves of its disk tells the history up to there
pub record IsCopyOf {E : Type 0} (view : E → DiskView) (answers : Answers) (plan : List PlanLine) (history : List Submitted) (c : Copied E) : Type 0 where
  pub within : c.epoch ≤ length history
  pub tells : (view c.disk).lawful → EachTellsHistory answers plan (take c.epoch history) (view c.disk).state

module _ {D E : Type 0} (view : D → DiskView) (new_view : E → DiskView) (answers : Answers) where
  -- COPIES OF A KEEPER WERE MADE, with these names and epochs, and are kept: each is of the history for which it stood, with these batches
  pub record MakesCopies (said : List (List ℕ × ℕ)) (had has : Option (List (Copied E))) (old : Keeping D) (x : List Submitted) : Type 0 where
    pub made : List (Copied E)
    pub kept : has ≡ with_copies had made
    pub labelled : labels made ≡ said
    pub each : (view old.device).lawful → (history : List Submitted) → StandsFor answers old history → All (IsCopyOf new_view answers old.plan (history ++ x)) made

-- why a copy was not made
abbrev pub why_text : Why → List ℕ
why_text Memory = codes "memory"
why_text (Because text) = string_bytes text
