-- The greatest request number of a keeper never falls.
use Rattle.std.proofs.Common.{◌≡◌, ◌⊎◌, ⊎_elim, ℕ, ◌-◌, ◌≤◌, Bool, true, false, List, [], ◌∷◌, refl, sym, ap, subst, arith}
use Rattle.std.specs.Prelude.{Ok, max}
use Rattle.td_stamp.specs.declared.values.Entry.{Entry}
use Rattle.td_stamp.specs.States.{StateList}
use Rattle.td_plan.specs.Lines.{Line}
use Rattle.td_plan.specs.Tree.{Nodes, tree_of}
use Rattle.td_calls.specs.Answers.{Answers}
use Rattle.td_batch.specs.Meaning.{run}
use Rattle.td_head.specs.declared.head.Head.{Head}
use Rattle.td_disk.specs.Disk.{DiskView, DiskState}
use Rattle.td_journal.specs.Numbers.{greatest}
use Rattle.td_journal.specs.declared.payload.Submitted.{Submitted as AnySubmitted}
use Rattle.td_store.specs.standing.Standing.{Standing, last_epoch, last_request, submission, with_more, cut_at}
use Rattle.td_store.specs.standing.Stops.{Advance, Holds}
use Rattle.td_store.specs.standing.Told.{Told}
use Rattle.td_store.specs.standing.Tells.{Tells}
use Rattle.td_store.specs.standing.Advanced.{HeldWhere}
use Rattle.td_store.specs.declared.standing.error.KeeperError.TheVariants as error
use Rattle.td_keeper.specs.declared.submit_all.GroupError.TheVariants.{Keeper}
use Rattle.td_keeper.specs.declared.command.Command.{Command}
use Rattle.td_keeper.specs.declared.command.Command.TheVariants.{Submit, SubmitAs, SubmitAll, Release, Settle, Collect, NextOut, Cut, CutUpTo, Answer, WriteCut, CloseFree}
use Rattle.td_keeper.specs.declared.command.Reply.{Reply}
use Rattle.td_keeper.specs.declared.command.Reply.TheVariants.{Submitted, SubmittedAs, SubmittedAll, Released, Settled, Collected, Out, CutTaken, Answered, Written, Closed, Refused, RefusedAll}
use Rattle.td_keeper.specs.declared.receipt.Receipt.{Receipt}
use Rattle.td_keeper.specs.declared.receipt.Receipt.TheVariants.{New, Already}
use Rattle.td_keeper.specs.Keeping.{Keeping, with_batch, with_group}
use Rattle.td_keeper.specs.Received.{IsReceived}
use Rattle.td_keeper.specs.Driven.{Submits, SubmitsAs, SubmitsAll, Writes, ClosesFree, Obeys, Driven, Rests}
use Rattle.td_keeper.proofs.Driving.{rests}
use Rattle.td_keeper.proofs.Submitting.{greatest_more}

-- the laws, as they are handed in
abbrev pub More : Type 0
More = (s : Standing) (x : AnySubmitted) → (last_request s ≤ last_request (with_more s (x ∷ []))) × (x.request ≤ last_request (with_more s (x ∷ [])))

abbrev pub AtCut : Type 0
AtCut = (s : Standing) (k : ℕ) (states : StateList) → last_request (cut_at s k states) ≡ last_request s

-- the greatest of some numbers is one of them, or as great
least : (q : ℕ) (w : List AnySubmitted) → q ≤ greatest q w
least q [] = omega arith
least q (s ∷ w) = let later = least (max q s.request) w in omega (arith, later)

module _ {D : Type 0} (more : More) where
  alike : (old new : Keeping D) → new.standing ≡ old.standing → last_request old.standing ≤ last_request new.standing
  alike old new is = subst (λ (s : Standing). last_request old.standing ≤ last_request s) (sym is) (omega arith)

  risen : (request : ℕ) (batch : List Entry) (old new : Keeping D) → new ≡ with_batch old new.device request batch → last_request old.standing ≤ last_request new.standing
  risen request batch old new is = subst (λ (s : Standing). last_request old.standing ≤ last_request s) (sym (ap (λ k. k.standing) is)) (more old.standing (submission request batch)).0

  pub received : (request : ℕ) (batch : List Entry) (receipt : Receipt) (old new : Keeping D) → IsReceived request batch receipt old new → last_request old.standing ≤ last_request new.standing
  received request batch (New epoch) old new r = risen request batch old new r.2
  received request batch (Already last) old new r = alike old new (ap (λ k. k.standing) r.2)

  of_group : (group : List AnySubmitted) (old new : Keeping D) → new ≡ with_group old new.device group → last_request old.standing ≤ last_request new.standing
  of_group [] old new is = alike old new (ap (λ k. k.standing) is)
  of_group (x ∷ xs) old new is =
      let s = old.standing in
      let after : last_request (with_more s (x ∷ xs)) ≡ greatest (last_request s) (x ∷ xs) = greatest_more s.last s.submitted (x ∷ xs) in
      let rises = least (last_request s) (x ∷ xs) in
      subst (λ (t : Standing). last_request s ≤ last_request t) (sym (ap (λ k. k.standing) is)) (omega (arith, after, rises))

  refused : (old new : Keeping D) (E F : Type 0) → (new ≡ old) ⊎ (E × (new ≡ record old { device = new.device })) ⊎ (F × (new ≡ record old { device = new.device; broken = true }))
      → last_request old.standing ≤ last_request new.standing
  refused old new E F left =
      ⊎_elim (λ is. alike old new (ap (λ k. k.standing) is))
      (λ other. ⊎_elim (λ is. alike old new (ap (λ k. k.standing) is.1)) (λ is. alike old new (ap (λ k. k.standing) is.1)) other) left

module _ {D : Type 0} (view : D → DiskView) (answers : Answers) (more : More) (at_cut : AtCut) where
  submits : (batch : List Entry) (r : Reply) (old new : Keeping D) → Submits view answers batch r old new → last_request old.standing ≤ last_request new.standing
  submits batch (Submitted n) old new r = risen more 0 batch old new r.submitted
  submits batch (Refused e b) old new r = refused more old new (e ≡ error.Memory) (e ≡ error.Device) r.unchanged
  submits batch (SubmittedAs n) old new r = absurd r
  submits batch (SubmittedAll n m) old new r = absurd r
  submits batch (RefusedAll e xs) old new r = absurd r
  submits batch (Released n) old new r = absurd r
  submits batch Settled old new r = absurd r
  submits batch (Collected n) old new r = absurd r
  submits batch (Out o) old new r = absurd r
  submits batch (CutTaken n) old new r = absurd r
  submits batch (Written n) old new r = absurd r
  submits batch (Answered m ys) old new r = absurd r
  submits batch Closed old new r = absurd r

  submits_as : (request : ℕ) (batch : List Entry) (r : Reply) (old new : Keeping D) → SubmitsAs view answers request batch r old new → last_request old.standing ≤ last_request new.standing
  submits_as request batch (SubmittedAs receipt) old new r = received more request batch receipt old new r.received
  submits_as request batch (Refused e b) old new r = refused more old new (e ≡ error.Memory) (e ≡ error.Device) r.refused.unchanged
  submits_as request batch (Submitted n) old new r = absurd r
  submits_as request batch (SubmittedAll n m) old new r = absurd r
  submits_as request batch (RefusedAll e xs) old new r = absurd r
  submits_as request batch (Released n) old new r = absurd r
  submits_as request batch Settled old new r = absurd r
  submits_as request batch (Collected n) old new r = absurd r
  submits_as request batch (Out o) old new r = absurd r
  submits_as request batch (CutTaken n) old new r = absurd r
  submits_as request batch (Written n) old new r = absurd r
  submits_as request batch (Answered m ys) old new r = absurd r
  submits_as request batch Closed old new r = absurd r

  submits_all : (group : List AnySubmitted) (r : Reply) (old new : Keeping D) → SubmitsAll view answers group r old new → last_request old.standing ≤ last_request new.standing
  submits_all group (SubmittedAll n m) old new r = of_group more group old new r.submitted
  submits_all group (RefusedAll e back) old new r = refused more old new (e ≡ Keeper error.Memory) (e ≡ Keeper error.Device) r.unchanged
  submits_all group (Submitted n) old new r = absurd r
  submits_all group (SubmittedAs n) old new r = absurd r
  submits_all group (Released n) old new r = absurd r
  submits_all group Settled old new r = absurd r
  submits_all group (Collected n) old new r = absurd r
  submits_all group (Out o) old new r = absurd r
  submits_all group (CutTaken n) old new r = absurd r
  submits_all group (Written n) old new r = absurd r
  submits_all group (Answered m ys) old new r = absurd r
  submits_all group Closed old new r = absurd r
  submits_all group (Refused e b) old new r = absurd r

  writes : (r : Reply) (old new : Keeping D) → Writes view answers r old new → last_request old.standing ≤ last_request new.standing
  writes (Written w) old new r =
      ⊎_elim (λ none. alike more old new (ap (λ k. k.standing) none.2))
      (λ some. subst (λ (s : Standing). last_request old.standing ≤ last_request s) (sym (ap (λ k. k.standing) some.1)) (cut_same old))
      r.cut
    where
      cut_same : (k : Keeping D) → last_request k.standing ≤ last_request (cut_at k.standing (k.base - k.standing.epoch) k.base_states)
      cut_same k = let same = at_cut k.standing (k.base - k.standing.epoch) k.base_states in omega (arith, same)
  writes (Refused e b) old new r =
      ⊎_elim (λ many. alike more old new (ap (λ k. k.standing) many.1))
      (λ other. ⊎_elim (λ failed. alike more old new (ap (λ k. k.standing) failed.1)) (λ is. alike more old new (ap (λ k. k.standing) is)) other) r.unchanged
  writes (Submitted n) old new r = absurd r
  writes (SubmittedAs n) old new r = absurd r
  writes (SubmittedAll n m) old new r = absurd r
  writes (RefusedAll e xs) old new r = absurd r
  writes (Released n) old new r = absurd r
  writes Settled old new r = absurd r
  writes (Collected n) old new r = absurd r
  writes (Out o) old new r = absurd r
  writes (CutTaken n) old new r = absurd r
  writes (Answered m ys) old new r = absurd r
  writes Closed old new r = absurd r

  closes : (most : ℕ) (r : Reply) (old new : Keeping D) → ClosesFree view answers most r old new → last_request old.standing ≤ last_request new.standing
  closes most Closed old new r = alike more old new (ap (λ k. k.standing) r.same)
  closes most (Refused e b) old new r = ⊎_elim (λ is. alike more old new (ap (λ k. k.standing) is)) (λ failed. alike more old new (ap (λ k. k.standing) failed.1)) r.unchanged
  closes most (Submitted n) old new r = absurd r
  closes most (SubmittedAs n) old new r = absurd r
  closes most (SubmittedAll n m) old new r = absurd r
  closes most (RefusedAll e xs) old new r = absurd r
  closes most (Released n) old new r = absurd r
  closes most Settled old new r = absurd r
  closes most (Collected n) old new r = absurd r
  closes most (Out o) old new r = absurd r
  closes most (CutTaken n) old new r = absurd r
  closes most (Answered m ys) old new r = absurd r
  closes most (Written w) old new r = absurd r

  rested : (old new : Keeping D) → Rests old new → last_request old.standing ≤ last_request new.standing
  rested old new is = alike more old new is.standing

  one : (c : Command) (r : Reply) (old new : Keeping D) → Obeys view answers c r old new → last_request old.standing ≤ last_request new.standing
  one (Submit batch) r old new obeys = submits batch r old new obeys.0
  one (SubmitAs request batch) r old new obeys = submits_as request batch r old new obeys.0
  one (SubmitAll group) r old new obeys = submits_all group r old new obeys.0
  one WriteCut r old new obeys = writes r old new obeys.0
  one (CloseFree most) r old new obeys = closes most r old new obeys.0
  one Release r old new obeys = rested old new (rests view answers Release r old new refl obeys)
  one Settle r old new obeys = rested old new (rests view answers Settle r old new refl obeys)
  one Collect r old new obeys = rested old new (rests view answers Collect r old new refl obeys)
  one NextOut r old new obeys = rested old new (rests view answers NextOut r old new refl obeys)
  one Cut r old new obeys = rested old new (rests view answers Cut r old new refl obeys)
  one (Answer v w) r old new obeys = rested old new (rests view answers (Answer v w) r old new refl obeys)
  one (CutUpTo e) r old new obeys = rested old new (rests view answers (CutUpTo e) r old new refl obeys)

  -- WHATEVER A KEEPER IS TOLD
  pub driven_rises : (commands : List Command) (replies : List Reply) (old new : Keeping D) → Driven view answers commands replies old new
      → last_request old.standing ≤ last_request new.standing
  driven_rises [] [] old new e = alike more old new (ap (λ k. k.standing) e)
  driven_rises [] (r ∷ rs) old new none = absurd none
  driven_rises (c ∷ cs) [] old new none = absurd none
  driven_rises (c ∷ cs) (r ∷ rs) old new driven =
      let first = one c r old driven.0 driven.2 in
      let rest = driven_rises cs rs driven.0 new driven.3 in
      omega (arith, first, rest)

-- the laws, as they are handed in
abbrev pub Together : Type 0
Together = (plan : List Line) (head : Head) (side : ℕ) (s : Standing) (image : List ℕ) → Tells plan head side s image → Told plan image (Ok s)

abbrev pub ToldRises : Answers → Type 0
ToldRises answers = (nodes : Nodes) (s t : Standing) (submitted : List AnySubmitted)
    → Advance (λ b y. (run answers nodes b y).states) (with_more s submitted) t
    → Holds t (last_epoch s)
    → last_request s ≤ last_request t

-- WHAT A DISK HOLDS FOR A KEEPER has its greatest number, image by image
pub held_requests : (b : Bool) (answers : Answers) (plan : List Line) (head : Head) (side : ℕ) (s : Standing) (state : DiskState) → Together → ToldRises answers
    → HeldWhere b answers plan head side s state → (c : List ℕ) → state.images c → (t : Standing) × Told plan c (Ok t) × (last_request s ≤ last_request t)
held_requests false answers plan head side s state together rises held c image =
    (s, together plan head side s c (subst (Tells plan head side s) (sym (held.durable c image)) held.tells), omega arith)
held_requests true answers plan head side s state together rises held c image =
    let told = held c image in
    (told.1.standing, told.1.told, rises (tree_of plan) s told.1.standing told.0 told.1.advance told.1.holds)
