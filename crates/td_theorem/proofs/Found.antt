-- A keeper as it was found: by a feed, and on a disk that it formatted.
use Rattle.std.proofs.Common.{◌≡◌, ℕ, Bool, List, sym, subst}
use Rattle.std.specs.Prelude.{Option, Result}
use Rattle.td_plan.specs.Lines.{Line}
use Rattle.td_calls.specs.Answers.{Answers}
use Rattle.td_disk.specs.Disk.{DiskView, DiskState}
use Rattle.td_head.specs.declared.head.Head.{Head}
use Rattle.td_store.specs.standing.Standing.{Standing, nothing_told}
use Rattle.td_store.specs.standing.Tells.{Keeps}
use Rattle.td_watch.specs.View.{View}
use Rattle.td_keeper.specs.Keeping.{Keeping, IsKeeping, IsBelow, words_of}
use Rattle.td_console.specs.declared.faults.Fault.{Fault}
use Rattle.td_feed.specs.Said.{Wanted, SaysFrom}

-- its memory is right, before a watch is attached
pub is_kept : {D : Type 0} {view : D → DiskView} {answers : Answers} {marks : Bool} {result : Result (Unit {0}) Fault} {plan : List Line}
    {alone : Bool} {disk left : D} {before after : Option (List ℕ)} {wanted : Wanted}
    (from : SaysFrom view answers marks result plan alone disk left before after wanted) → IsKeeping from.keeper answers
is_kept from = record {
  which = from.kept.which;
  batches = from.kept.batches;
  few = from.kept.few;
  small = from.kept.small;
  states = from.kept.states;
  from_checkpoint = from.kept.from_checkpoint;
  released = from.kept.released;
  base_states = from.kept.base_states;
  collected = from.kept.collected;
  done = from.kept.done;
  watched = subst (λ (w : Option View). IsBelow w (words_of from.keeper)) (sym from.fresh.unwatched) tt;
}

-- what a disk keeps for a keeper that was just formatted, in the keeper's own words
pub keeps_first : {D : Type 0} (k : Keeping D) (plan : List Line) (head : Head) (at : DiskState) → k.head ≡ head → k.side ≡ 0 → k.standing ≡ nothing_told
    → Keeps plan head 0 nothing_told at → Keeps plan k.head k.side k.standing at
keeps_first k plan head at head_is side_is standing_is keeps =
    subst (λ (h : Head). Keeps plan h k.side k.standing at) (sym head_is)
    (subst (λ (n : ℕ). Keeps plan head n k.standing at) (sym side_is)
    (subst (λ (s : Standing). Keeps plan head 0 s at) (sym standing_is) keeps))
