-- What a keeper's steps keep.
use Rattle.std.proofs.Common.{◌≡◌, ℕ, List, sym, subst}
use Rattle.td_plan.specs.Lines.{Line}
use Rattle.td_disk.specs.Disk.{DiskState, IsDurable}
use Rattle.td_head.specs.declared.head.Head.{Head}
use Rattle.td_store.specs.standing.Standing.{Standing}
use Rattle.td_store.specs.standing.Tells.{Tells, EachTells, Keeps}

pub each_keeps : (plan : List Line) (head : Head) (side : ℕ) (s : Standing) (state : DiskState) → Keeps plan head side s state → EachTells plan head side s state
each_keeps plan head side s state keeps c image = subst (Tells plan head side s) (sym (keeps.durable c image)) keeps.tells

-- the same is read, and a crash leaves it still
pub keeps_after : (plan : List Line) (head : Head) (side : ℕ) (s : Standing) (old new : DiskState) → Keeps plan head side s old → IsDurable new → new.bytes ≡ old.bytes → Keeps plan head side s new
keeps_after plan head side s old new keeps durable same = record { durable = durable; tells = subst (Tells plan head side s) (sym same) keeps.tells }
