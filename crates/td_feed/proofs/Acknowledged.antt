-- Each image of a disk that a feed left tells each epoch that was acknowledged.
use Rattle.std.proofs.Common.{◌≡◌, ℕ, ◌≤◌, Bool, true, false, List, sym, subst, arith, All, Ok}
use Rattle.std.proofs.lemmas.List.Elements.{All-weaker}
use Rattle.td_plan.specs.Lines.{Line}
use Rattle.td_calls.specs.Answers.{Answers}
use Rattle.td_disk.specs.Disk.{DiskState}
use Rattle.td_head.specs.declared.head.Head.{Head}
use Rattle.td_store.specs.standing.Standing.{Standing, last_epoch}
use Rattle.td_store.specs.standing.Told.{Told}
use Rattle.td_store.specs.standing.Advanced.{HeldWhere}
use Rattle.td_keeper.specs.declared.command.Reply.{Reply}
use Rattle.td_keeper.specs.declared.command.Reply.TheVariants.{Submitted, SubmittedAs, SubmittedAll, Released, Settled, Collected, Out, CutTaken, Answered, Written, Closed, Refused, RefusedAll}
use Rattle.td_keeper.specs.declared.receipt.Receipt.TheVariants.{New, Already}
use Rattle.td_keeper.specs.Driven.{AcknowledgesUpTo}
use Rattle.td_feed.specs.Said.{TellsAcknowledged}
use Rattle.td_feed.proofs.Carrying.{Together}

-- with a greater number
further : (n m : ℕ) → n ≤ m → (reply : Reply) → AcknowledgesUpTo n reply → AcknowledgesUpTo m reply
further a b far (Submitted n) up = omega (arith, far, up)
further a b far (SubmittedAs (New n)) up = omega (arith, far, up)
further a b far (SubmittedAs (Already n)) up = up
further a b far (SubmittedAll n m) up = omega (arith, far, up)
further a b far (Released n) up = up
further a b far Settled up = up
further a b far (Collected n) up = up
further a b far (Out o) up = up
further a b far (CutTaken n) up = up
further a b far (Written w) up = up
further a b far (Answered m ys) up = up
further a b far Closed up = up
further a b far (Refused e back) up = up
further a b far (RefusedAll e back) up = up

-- what a disk holds for a keeper that counts them
told : (b : Bool) (answers : Answers) (plan : List Line) (head : Head) (side : ℕ) (s : Standing) (state : DiskState) (replies : List Reply) → Together
    → HeldWhere b answers plan head side s state → All (AcknowledgesUpTo (last_epoch s)) replies → (c : List ℕ) → state.images c → TellsAcknowledged plan replies c
told false answers plan head side s state replies together held counted c image =
    record { standing = s; told = subst (λ (i : List ℕ). Told plan i (Ok s)) (sym (held.durable c image)) (together plan head side s state.bytes held.tells); acknowledged = counted }
told true answers plan head side s state replies together held counted c image =
    let tells = (held c image).1 in record {
      standing = tells.standing;
      told = tells.told;
      acknowledged = All-weaker (AcknowledgesUpTo (last_epoch s)) (AcknowledgesUpTo (last_epoch tells.standing)) (further (last_epoch s) (last_epoch tells.standing) tells.holds) replies counted;
    }

pub told_of : (b : Bool) (answers : Answers) (plan other : List Line) (head : Head) (side : ℕ) (s : Standing) (state : DiskState) (replies : List Reply) → Together → other ≡ plan
    → HeldWhere b answers other head side s state → All (AcknowledgesUpTo (last_epoch s)) replies → (c : List ℕ) → state.images c → TellsAcknowledged plan replies c
told_of b answers plan other head side s state replies together is held counted c image =
    subst (λ (p : List Line). TellsAcknowledged p replies c) is (told b answers other head side s state replies together held counted c image)
