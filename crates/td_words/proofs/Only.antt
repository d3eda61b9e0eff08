-- The jobs of the subcommand of a name, and their values.
use Rattle.std.proofs.Common.{◌≡◌, ℕ, Bool, true, false, List, Option, Some, refl, ap, bytes_eq, codes}
use Rattle.std.specs.Borrow.{Bor}
use Rattle.clap.specs.Words.{Row, Text, first_of}
use Rattle.td_words.specs.declared.job.Job.{Job}
use Rattle.td_words.specs.declared.job.Job.TheVariants.{Batch, Run, Sim, Format, Feed, Show, Dump, Upgrade, Copy, States, Load, Plan}
use Rattle.td_words.specs.Jobs.{IsOf}
use Rattle.td_words.specs.Command.{IsWorkers, IsClosures, HasValues}

-- two names that compare otherwise are not one
pub differs : false ≡ true → ⊥
differs e = cc

-- the jobs of each name, and their values; that any other job has another name is computed from the two names
pub only_batch : (rows : List Row) (job : Job) → IsOf (codes "batch") rows job → (c : Option (Bor Text)) × (job ≡ Batch c) × IsClosures rows c
only_batch rows (Batch c) h = (c, refl, h.1)
only_batch rows _ h = absurd (differs (ap (bytes_eq (codes "batch")) h.0))

pub only_run : (rows : List Row) (job : Job) → IsOf (codes "run") rows job → (w : ℕ) × (c : Option (Bor Text)) × (job ≡ Run w c) × IsWorkers rows w × IsClosures rows c
only_run rows (Run w c) h = (w, c, refl, h.1.0, h.1.1)
only_run rows _ h = absurd (differs (ap (bytes_eq (codes "run")) h.0))

pub only_sim : (rows : List Row) (job : Job) → IsOf (codes "sim") rows job → (w : ℕ) × (picks : Bor Text) × IsWorkers rows w × (first_of (codes "picks") rows ≡ Some picks.now)
only_sim rows (Sim w picks c) h = (w, picks, h.1.0, h.1.1)
only_sim rows _ h = absurd (differs (ap (bytes_eq (codes "sim")) h.0))

pub only_format : (rows : List Row) (job : Job) → IsOf (codes "format") rows job → (disk : Bor Text) × (plan : Bor Text) × (m : ℕ) × (n : ℕ) × (k : ℕ) × (c : Option (Bor Text)) × (job ≡ Format disk plan m n k c) × HasValues rows (Format disk plan m n k c)
only_format rows (Format disk plan m n k c) h = (disk, plan, m, n, k, c, refl, h.1)
only_format rows _ h = absurd (differs (ap (bytes_eq (codes "format")) h.0))

pub only_feed : (rows : List Row) (job : Job) → IsOf (codes "feed") rows job → (disk : Bor Text) × (plan : Bor Text) × (w : ℕ) × (job ≡ Feed disk plan w) × HasValues rows (Feed disk plan w)
only_feed rows (Feed disk plan w) h = (disk, plan, w, refl, h.1)
only_feed rows _ h = absurd (differs (ap (bytes_eq (codes "feed")) h.0))

pub only_show : (rows : List Row) (job : Job) → IsOf (codes "show") rows job → (disk : Bor Text) × (plan : Bor Text) × (live : Bool) × HasValues rows (Show disk plan live)
only_show rows (Show disk plan live) h = (disk, plan, live, h.1)
only_show rows _ h = absurd (differs (ap (bytes_eq (codes "show")) h.0))

pub only_dump : (rows : List Row) (job : Job) → IsOf (codes "dump") rows job → (disk : Bor Text) × (plan : Bor Text) × (live : Bool) × (at : Bool) × HasValues rows (Dump disk plan live at)
only_dump rows (Dump disk plan live at) h = (disk, plan, live, at, h.1)
only_dump rows _ h = absurd (differs (ap (bytes_eq (codes "dump")) h.0))

pub only_upgrade : (rows : List Row) (job : Job) → IsOf (codes "upgrade") rows job → (disk : Bor Text) × (plan : Bor Text) × HasValues rows (Upgrade disk plan)
only_upgrade rows (Upgrade disk plan) h = (disk, plan, h.1)
only_upgrade rows _ h = absurd (differs (ap (bytes_eq (codes "upgrade")) h.0))

pub only_plan : (rows : List Row) (job : Job) → IsOf (codes "plan") rows job → (plan : Bor Text) × (dot : Bool) × (c : Option (Bor Text)) × HasValues rows (Plan plan dot c)
only_plan rows (Plan plan dot c) h = (plan, dot, c, h.1)
only_plan rows _ h = absurd (differs (ap (bytes_eq (codes "plan")) h.0))

pub only_copy : (rows : List Row) (job : Job) → IsOf (codes "copy") rows job
    → (disk : Bor Text) × (plan : Bor Text) × (new : Bor Text) × (m : ℕ) × (n : ℕ) × (k : ℕ) × (until : Option ℕ) × (job ≡ Copy disk plan new m n k until) × HasValues rows (Copy disk plan new m n k until)
only_copy rows (Copy disk plan new m n k until) h = (disk, plan, new, m, n, k, until, refl, h.1)
only_copy rows _ h = absurd (differs (ap (bytes_eq (codes "copy")) h.0))

pub only_states : (rows : List Row) (job : Job) → IsOf (codes "states") rows job → (disk : Bor Text) × (plan : Bor Text) × HasValues rows (States disk plan)
only_states rows (States disk plan) h = (disk, plan, h.1)
only_states rows _ h = absurd (differs (ap (bytes_eq (codes "states")) h.0))

pub only_load : (rows : List Row) (job : Job) → IsOf (codes "load") rows job
    → (new : Bor Text) × (plan : Bor Text) × (m : ℕ) × (n : ℕ) × (k : ℕ) × (map : Option (Bor Text)) × (closures : Option (Bor Text)) × HasValues rows (Load new plan m n k map closures)
only_load rows (Load new plan m n k map closures) h = (new, plan, m, n, k, map, closures, h.1)
only_load rows _ h = absurd (differs (ap (bytes_eq (codes "load")) h.0))
