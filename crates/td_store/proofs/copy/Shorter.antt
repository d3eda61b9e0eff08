-- What is told up to an epoch may stand where all may, and its numbers rise.
use Rattle.std.proofs.Common.{◌≡◌, ⊎_elim, ℕ, ◌-◌, ◌≤◌, true, List, length, take, sym, ap, ◌∙◌, subst, arith, Option, Some, None}
use Rattle.std.proofs.lemmas.Bool.{cases_lt}
use Rattle.std.proofs.lemmas.List.{take_all, length-take-le}
use Rattle.std.proofs.lemmas.List.Elements.{All-take}
use Rattle.td_plan.specs.Lines.{Line}
use Rattle.td_head.specs.Layout.{Sizes}
use Rattle.td_head.specs.declared.head.Head.{Head}
use Rattle.td_slots.specs.declared.slots.Checkpoint.{Checkpoint}
use Rattle.td_journal.specs.Cell.{is_batch}
use Rattle.td_journal.specs.declared.payload.Submitted.{Submitted}
use Rattle.td_store.specs.standing.Standing.{Standing}
use Rattle.td_store.specs.standing.Told.{inputs_of}
use Rattle.td_store.specs.declared.standing.parts.Recovered.{Recovered}
use Rattle.td_store.specs.standing.Read.{MayStand, standing_of}
use Rattle.td_store.specs.copy.Copied.{IsRising}
use Rattle.td_store.specs.declared.copy.error.CopyError.{CopyError}
use Rattle.td_store.specs.copy.Room.{room_fault}
use Rattle.td_store.specs.copy.Until.{told_until, until_fault, copy_fault, first_of}
use Rattle.td_store.proofs.copy.Rising.{OneMore, rise_take}

no_longer : (k : ℕ) (w : List Submitted) → length (take k w) ≤ length w
no_longer k w = ⊎_elim (λ lt. let few : length (take k w) ≡ k = length-take-le k w (omega (arith, lt)) in omega (arith, few, lt))
    (λ le. let all : length (take k w) ≡ length w = ap length (take_all k w le) in omega (arith, all)) (cases_lt k (length w))

pub may_stand_until : (plan : List Line) (head : Head) (side : ℕ) (until : Option ℕ) (s : Standing) → MayStand plan head side s → MayStand plan head side (told_until until s)
may_stand_until plan head side None s all = all
may_stand_until plan head side (Some e) s all =
    let shorter : length (take (e - s.epoch) s.submitted) ≤ length s.submitted = no_longer (e - s.epoch) s.submitted in
    record {
      which = all.which;
      states = all.states;
      batches = All-take (λ (x : Submitted). is_batch (inputs_of plan) x.batch ≡ true) (e - s.epoch) s.submitted all.batches;
      few = omega (arith, shorter, all.few);
      small = omega (arith, shorter, all.small);
    }

pub rising_until : OneMore → (until : Option ℕ) (s : Standing) → IsRising s → IsRising (told_until until s)
rising_until one_more None s all = all
rising_until one_more (Some e) s all = rise_take one_more (Some s.last) s.submitted (e - s.epoch) all

-- so may what was read, cut short
pub stands_after : (plan : List Line) (until : Option ℕ) (read left : Recovered) → (left.head ≡ read.head) × (left.checkpoint ≡ read.checkpoint) → standing_of left ≡ told_until until (standing_of read)
    → MayStand plan read.head read.checkpoint.slot (standing_of read) → MayStand plan left.head left.checkpoint.slot (standing_of left)
stands_after plan until read left same kept all =
    subst (λ (h : Head). MayStand plan h left.checkpoint.slot (standing_of left)) (sym same.0)
    (subst (λ (c : Checkpoint). MayStand plan read.head c.slot (standing_of left)) (sym same.1)
    (subst (λ (z : Standing). MayStand plan read.head read.checkpoint.slot z) (sym kept) (may_stand_until plan read.head read.checkpoint.slot until (standing_of read) all)))

-- THE FAULT OF A COPY is that of its epoch, or of the room for what is told up to it.
pub until_first : (until : Option ℕ) (sizes : Sizes) (s : Standing) (e : CopyError) → until_fault until s ≡ Some e → copy_fault until sizes s ≡ Some e
until_first until sizes s e is = ap (λ (o : Option CopyError). first_of o (room_fault sizes (told_until until s))) is

pub room_next : (until : Option ℕ) (sizes : Sizes) (s z : Standing) (o : Option CopyError) → until_fault until s ≡ None → z ≡ told_until until s → room_fault sizes z ≡ o → copy_fault until sizes s ≡ o
room_next until sizes s z o none kept is =
    ap (λ (u : Option CopyError). first_of u (room_fault sizes (told_until until s))) none ∙ ap (room_fault sizes) (sym kept) ∙ is
