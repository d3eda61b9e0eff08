-- Which epochs replies acknowledge: none beyond what the keeper counts after them.
use Rattle.std.proofs.Common.{◌≡◌, ℕ, ◌≤◌, List, [], ◌∷◌, sym, ap, ◌∙◌, subst, arith, All}
use Rattle.std.proofs.lemmas.List.Elements.{All-nil, All-cons}
use Rattle.td_calls.specs.Answers.{Answers}
use Rattle.td_disk.specs.Disk.{DiskView, DiskState}
use Rattle.td_store.specs.standing.Standing.{last_epoch}
use Rattle.td_keeper.specs.declared.command.Command.{Command}
use Rattle.td_keeper.specs.declared.command.Command.TheVariants.{Submit, SubmitAs, SubmitAll, Release, Settle, Collect, NextOut, Cut, CutUpTo, Answer, WriteCut, CloseFree}
use Rattle.td_keeper.specs.declared.command.Reply.{Reply}
use Rattle.td_keeper.specs.declared.command.Reply.TheVariants.{Submitted, SubmittedAs, SubmittedAll, Released, Settled, Collected, Out, CutTaken, Answered, Written, Closed, Refused, RefusedAll}
use Rattle.td_keeper.specs.declared.receipt.Receipt.TheVariants.{New, Already}
use Rattle.td_keeper.specs.Keeping.{Keeping, IsKeeping}
use Rattle.td_keeper.specs.Driven.{AcknowledgesUpTo, Obeys, Driven}
use Rattle.td_keeper.proofs.Driving.{Submit-on, Cut-on, Last, one}

-- with a greater number
further : (n m : ℕ) (reply : Reply) → n ≤ m → AcknowledgesUpTo n reply → AcknowledgesUpTo m reply
further a b (Submitted n) far up = omega (arith, far, up)
further a b (SubmittedAs (New n)) far up = omega (arith, far, up)
further a b (SubmittedAll n m) far up = omega (arith, far, up)
further a b (SubmittedAs (Already n)) far up = up
further a b (Released n) far up = up
further a b Settled far up = up
further a b (Collected n) far up = up
further a b (Out o) far up = up
further a b (CutTaken n) far up = up
further a b (Written w) far up = up
further a b (Answered m ys) far up = up
further a b Closed far up = up
further a b (Refused e back) far up = up
further a b (RefusedAll e back) far up = up

module _ {D : Type 0} (view : D → DiskView) (answers : Answers) where
  one_up : (command : Command) (reply : Reply) (old new : Keeping D) → Obeys view answers command reply old new
      → AcknowledgesUpTo (last_epoch new.standing) reply
  one_up command (SubmittedAs (Already n)) old new obeys = tt
  one_up command (Released n) old new obeys = tt
  one_up command Settled old new obeys = tt
  one_up command (Collected n) old new obeys = tt
  one_up command (Out o) old new obeys = tt
  one_up command (CutTaken n) old new obeys = tt
  one_up command (Written w) old new obeys = tt
  one_up command (Answered m ys) old new obeys = tt
  one_up command Closed old new obeys = tt
  one_up command (Refused e back) old new obeys = tt
  one_up command (RefusedAll e back) old new obeys = tt
  one_up (Submit batch) (Submitted n) old new obeys = let is = obeys.0.last in omega (arith, is)
  one_up (Submit batch) (SubmittedAs (New n)) old new obeys = absurd obeys.0
  one_up (Submit batch) (SubmittedAll n m) old new obeys = absurd obeys.0
  one_up (SubmitAs request batch) (Submitted n) old new obeys = absurd obeys.0
  one_up (SubmitAs request batch) (SubmittedAs (New n)) old new obeys = let is = obeys.0.received.1 in omega (arith, is)
  one_up (SubmitAs request batch) (SubmittedAll n m) old new obeys = absurd obeys.0
  one_up (SubmitAll group) (Submitted n) old new obeys = absurd obeys.0
  one_up (SubmitAll group) (SubmittedAs (New n)) old new obeys = absurd obeys.0
  one_up (SubmitAll group) (SubmittedAll n m) old new obeys = let is = obeys.0.end_is in omega (arith, is)
  one_up Release (Submitted n) old new obeys = absurd obeys
  one_up Release (SubmittedAs (New n)) old new obeys = absurd obeys
  one_up Release (SubmittedAll n m) old new obeys = absurd obeys
  one_up Settle (Submitted n) old new obeys = absurd obeys
  one_up Settle (SubmittedAs (New n)) old new obeys = absurd obeys
  one_up Settle (SubmittedAll n m) old new obeys = absurd obeys
  one_up Collect (Submitted n) old new obeys = absurd obeys
  one_up Collect (SubmittedAs (New n)) old new obeys = absurd obeys
  one_up Collect (SubmittedAll n m) old new obeys = absurd obeys
  one_up NextOut (Submitted n) old new obeys = absurd obeys
  one_up NextOut (SubmittedAs (New n)) old new obeys = absurd obeys
  one_up NextOut (SubmittedAll n m) old new obeys = absurd obeys
  one_up Cut (Submitted n) old new obeys = absurd obeys
  one_up Cut (SubmittedAs (New n)) old new obeys = absurd obeys
  one_up Cut (SubmittedAll n m) old new obeys = absurd obeys
  one_up (CutUpTo e) (Submitted n) old new obeys = absurd obeys
  one_up (CutUpTo e) (SubmittedAs (New n)) old new obeys = absurd obeys
  one_up (CutUpTo e) (SubmittedAll n m) old new obeys = absurd obeys
  one_up (Answer v w) (Submitted n) old new obeys = absurd obeys
  one_up (Answer v w) (SubmittedAs (New n)) old new obeys = absurd obeys
  one_up (Answer v w) (SubmittedAll n m) old new obeys = absurd obeys
  one_up WriteCut (Submitted n) old new obeys = absurd obeys.0
  one_up WriteCut (SubmittedAs (New n)) old new obeys = absurd obeys.0
  one_up WriteCut (SubmittedAll n m) old new obeys = absurd obeys.0
  one_up (CloseFree most) (Submitted n) old new obeys = absurd obeys.0
  one_up (CloseFree most) (SubmittedAs (New n)) old new obeys = absurd obeys.0
  one_up (CloseFree most) (SubmittedAll n m) old new obeys = absurd obeys.0

-- the plan stays, no epoch is lost, and each that was acknowledged is counted
pub record Counts {D : Type 0} (old new : Keeping D) (replies : List Reply) : Type 0 where
  pub plan : new.plan ≡ old.plan
  pub far : last_epoch old.standing ≤ last_epoch new.standing
  pub counted : All (AcknowledgesUpTo (last_epoch new.standing)) replies

module _ {D : Type 0} (view : D → DiskView) (answers : Answers) (submit_on : Submit-on answers) (cut_on : Cut-on answers) (last : Last) where
  pub driven_counts : (commands : List Command) (replies : List Reply) (old new : Keeping D) → IsKeeping old answers → Driven view answers commands replies old new
      → (view old.device).lawful → Counts old new replies
  driven_counts [] [] old new kept e lawful =
      record { plan = ap (λ k. k.plan) e; far = subst (λ (k : Keeping D). last_epoch old.standing ≤ last_epoch k.standing) (sym e) (omega arith); counted = All-nil (AcknowledgesUpTo (last_epoch new.standing)) }
  driven_counts [] (r ∷ rs) old new kept none lawful = absurd none
  driven_counts (c ∷ cs) [] old new kept none lawful = absurd none
  driven_counts (c ∷ cs) (r ∷ rs) old new kept driven lawful =
      let first = one view answers submit_on cut_on last c r old driven.0 kept driven.2 lawful in
      let rest = driven_counts cs rs driven.0 new driven.1 driven.3 first.advances.lawful in
      let near = first.far in
      let further_on = rest.far in record {
        plan = rest.plan ∙ first.plan;
        far = omega (arith, near, further_on);
        counted = All-cons (AcknowledgesUpTo (last_epoch new.standing)) r rs (further (last_epoch driven.0.standing) (last_epoch new.standing) r rest.far (one_up view answers c r old driven.0 driven.2)) rest.counted;
      }
