-- Nothing is kept beyond the base, at each moment of commands, one after another.
use Rattle.std.proofs.Common.{◌≡◌, ◌⊎◌, inl, inr, ⊎_elim, ℕ, ◌≤◌, true, List, [], ◌∷◌, refl, sym, ap, ◌∙◌, subst, arith}
use Rattle.std.specs.Prelude.{Option, Some, None}
use Rattle.td_stamp.specs.declared.values.Entry.{Entry}
use Rattle.td_plan.specs.Lines.{Line}
use Rattle.td_calls.specs.Answers.{Answers}
use Rattle.td_machine.specs.State.{HallState}
use Rattle.td_machine.specs.Sound.{Sound}
use Rattle.td_machine.specs.Reached.{IsReached}
use Rattle.td_disk.specs.Disk.{DiskView, DiskState}
use Rattle.td_journal.specs.declared.payload.Submitted.{Submitted as AnySubmitted}
use Rattle.td_questions.specs.declared.question.Wanted.{Wanted}
use Rattle.td_keeper.specs.declared.command.Command.{Command}
use Rattle.td_keeper.specs.declared.command.Command.TheVariants.{Submit, SubmitAs, SubmitAll, Release, Settle, Collect, NextOut, Cut, CutUpTo, Answer, WriteCut, CloseFree}
use Rattle.td_keeper.specs.declared.command.Reply.{Reply}
use Rattle.td_keeper.specs.declared.command.Reply.TheVariants.{Submitted, SubmittedAs, SubmittedAll, Released, Settled, Collected, Out, CutTaken, Answered, Written, Closed, Refused, RefusedAll}
use Rattle.td_keeper.specs.declared.receipt.Receipt.{Receipt}
use Rattle.td_keeper.specs.declared.receipt.Receipt.TheVariants.{New, Already}
use Rattle.td_keeper.specs.Received.{IsReceived}
use Rattle.td_keeper.specs.Keeping.{Keeping, ImageKeepsTo, KeepsSince, with_group}
use Rattle.td_keeper.specs.Driven.{MayWrite, Submits, SubmitsAs, SubmitsAll, Releases, Settles, Collects, HandsOut, Cuts, Asks, Writes, ClosesFree, Obeys, Driven, Rests}
use Rattle.td_keeper.proofs.Collecting.{never_before}
use Rattle.td_keeper.proofs.Driving.{rests}

-- the law that each hall is sound, as it is handed in
abbrev pub EachIsSound : Answers → Type 0
EachIsSound answers = (S : HallState) → IsReached answers S → Sound answers S

-- a keeper's plan is as it was, and its base no earlier
record Rises {D : Type 0} (old new : Keeping D) : Type 0 where
  plan : new.plan ≡ old.plan
  base : old.base ≤ new.base

-- nor is its base any later
record SameBase {D : Type 0} (old new : Keeping D) : Type 0 where
  plan : new.plan ≡ old.plan
  base : new.base ≡ old.base

module _ {D : Type 0} where
  itself : (k : Keeping D) → SameBase k k
  itself k = record { plan = refl; base = refl }

  rises : {old new : Keeping D} → SameBase old new → Rises old new
  rises same = record { plan = same.plan; base = omega (arith, same.base) }

  by : {old other new : Keeping D} → new ≡ other → SameBase old other → SameBase old new
  by {old = old} is same = subst (λ (k : Keeping D). SameBase old k) (sym is) same

  by_group : (old : Keeping D) (device : D) (group : List AnySubmitted) → SameBase old (with_group old device group)
  by_group old device [] = record { plan = refl; base = refl }
  by_group old device (x ∷ xs) = record { plan = refl; base = refl }

  -- what a refusal leaves in memory
  aside : {old new : Keeping D} (P Q : Type 0) → (new ≡ old) ⊎ (P × (new ≡ record old { device = new.device })) ⊎ (Q × (new ≡ record old { device = new.device; broken = true })) → SameBase old new
  aside {old = old} P Q is =
      ⊎_elim (λ same. by same (itself old))
      (λ other. ⊎_elim (λ memory. by memory.1 (record { plan = refl; base = refl })) (λ device. by device.1 (record { plan = refl; base = refl })) other) is

  received : (request : ℕ) (batch : List Entry) (receipt : Receipt) (old new : Keeping D) → IsReceived request batch receipt old new → SameBase old new
  received request batch (New epoch) old new r = by r.2 (record { plan = refl; base = refl })
  received request batch (Already last) old new r = by r.2 (itself old)

-- nothing beyond an epoch is nothing beyond a later one
further : (plan : List Line) (last next : ℕ) (old new : DiskState) → last ≤ next → KeepsSince plan last old new → KeepsSince plan next old new
further plan last next old new on keeps t c le left = ⊎_elim (λ was. inl was) (λ kept. inr (λ s told. let low = kept s told in omega (arith, low, on))) (keeps t c le left)

module _ {D : Type 0} (view : D → DiskView) (answers : Answers) where
  submits : (batch : List Entry) (reply : Reply) (old new : Keeping D) → Submits view answers batch reply old new → SameBase old new
  submits batch (Submitted n) old new r = by r.submitted (record { plan = refl; base = refl })
  submits batch (Refused e back) old new r = aside _ _ r.unchanged
  submits batch other old new r = absurd r

  submits_as : (request : ℕ) (batch : List Entry) (reply : Reply) (old new : Keeping D) → SubmitsAs view answers request batch reply old new → SameBase old new
  submits_as request batch (SubmittedAs receipt) old new r = received request batch receipt old new r.received
  submits_as request batch (Refused e back) old new r = aside _ _ r.refused.unchanged
  submits_as request batch other old new r = absurd r

  submits_all : (group : List AnySubmitted) (reply : Reply) (old new : Keeping D) → SubmitsAll view answers group reply old new → SameBase old new
  submits_all group (SubmittedAll n m) old new r = by r.submitted (by_group old new.device group)
  submits_all group (RefusedAll e back) old new r = aside _ _ r.unchanged
  submits_all group other old new r = absurd r

  releases : (reply : Reply) (old new : Keeping D) → Releases view answers reply old new → SameBase old new
  releases (Released n) old new r = by r.same (itself old)
  releases (Refused e b) old new r = ⊎_elim (λ foreign. by foreign.1.same (itself old)) (λ memory. by memory.1.same (itself old)) r.1
  releases other old new r = absurd r

  settles : (reply : Reply) (old new : Keeping D) → Settles view answers reply old new → SameBase old new
  settles Settled old new r = by r.same (itself old)
  settles (Refused e b) old new r = by r.1.2.same (itself old)
  settles other old new r = absurd r

  collects : (reply : Reply) (old new : Keeping D) → Collects view answers reply old new → SameBase old new
  collects (Collected n) old new r = by r.collected (record { plan = refl; base = refl })
  collects (Refused e b) old new r = ⊎_elim (λ foreign. by foreign.1.same (itself old)) (λ memory. by memory.1.same (itself old)) r.1
  collects other old new r = absurd r

  hands_out : (reply : Reply) (old new : Keeping D) → HandsOut view answers reply old new → SameBase old new
  hands_out (Out None) old new r = by r.1 (itself old)
  hands_out (Out (Some out)) old new r = by r.1 (record { plan = refl; base = refl })
  hands_out other old new r = absurd r

  asks : (vertex : ℕ) (wanted : Wanted) (reply : Reply) (old new : Keeping D) → Asks view answers vertex wanted reply old new → SameBase old new
  asks vertex wanted (Answered m ys) old new r = by r.same (itself old)
  asks vertex wanted (Refused e b) old new r =
      ⊎_elim (λ foreign. by foreign.1.same (itself old))
      (λ other. ⊎_elim (λ memory. by memory.1.same (itself old)) (λ unpassed. by unpassed.2.same (itself old)) other) r.1
  asks vertex wanted other old new r = absurd r

  writes : (reply : Reply) (old new : Keeping D) → Writes view answers reply old new → SameBase old new
  writes (Written w) old new r = ⊎_elim (λ none. by none.2 (itself old)) (λ some. by some.1 (record { plan = refl; base = refl })) r.cut
  writes (Refused e b) old new r =
      ⊎_elim (λ many. by many.1 (record { plan = refl; base = refl }))
      (λ other. ⊎_elim (λ device. by device.1 (record { plan = refl; base = refl })) (λ same. by same (itself old)) other) r.unchanged
  writes other old new r = absurd r

  closes : (most : ℕ) (reply : Reply) (old new : Keeping D) → ClosesFree view answers most reply old new → SameBase old new
  closes most Closed old new r = by r.same (record { plan = refl; base = refl })
  closes most (Refused e b) old new r = ⊎_elim (λ same. by same (itself old)) (λ device. by device.1 (record { plan = refl; base = refl })) r.unchanged
  closes most other old new r = absurd r

  -- a cut is never taken before the base of the hall, which is the keeper's
  cuts : EachIsSound answers → (most : Option ℕ) (reply : Reply) (old new : Keeping D) → Cuts view answers most reply old new → Rises old new
  cuts sound most (CutTaken n) old new r = record {
    plan = ap (λ (k : Keeping D). k.plan) r.cut;
    base =
        let own = r.brings.own.base in
        let after = never_before answers r.hall (sound r.hall r.brings.reached) most in
        omega (arith, own, after, r.place, r.base);
  }
  cuts sound most (Refused e b) old new r =
      rises
      (⊎_elim (λ foreign. by foreign.1.same (itself old))
      (λ other. ⊎_elim (λ memory. by memory.1.same (itself old)) (λ some. by some.collected (record { plan = refl; base = refl })) other) r.1)
  cuts sound most other old new r = absurd r

  -- WHAT COMMANDS DO, of a lawful disk: time goes on, the base rises, and no image that they add keeps anything beyond it
  pub record KeepsOn (old new : Keeping D) : Type 0 where
    plan : new.plan ≡ old.plan
    lawful : (view new.device).lawful
    later : (view old.device).state.moment ≤ (view new.device).state.moment
    pub base : old.base ≤ new.base
    pub since : KeepsSince old.plan new.base (view old.device).state (view new.device).state

  -- one that does not write
  resting : (old new : Keeping D) → Rests old new → Rises old new → (view old.device).lawful → KeepsOn old new
  resting old new rests rise lawful = record {
    plan = rise.plan;
    lawful = subst (λ (d : D). (view d).lawful) (sym rests.device) lawful;
    later = subst (λ (d : D). (view old.device).state.moment ≤ (view d).state.moment) (sym rests.device) (omega arith);
    base = rise.base;
    since = λ t c le left. inl (subst (λ (d : D). (view d).state.since t c) rests.device left);
  }

  -- and one that may
  writing : (reply : Reply) (old new : Keeping D) (x : List AnySubmitted) → MayWrite view answers reply old new x → SameBase old new → (view old.device).lawful → KeepsOn old new
  writing reply old new x may same lawful =
      let on = may.advances lawful in record {
        plan = same.plan;
        lawful = on.lawful;
        later = on.later;
        base = omega (arith, same.base);
        since = further old.plan old.base new.base (view old.device).state (view new.device).state (omega (arith, same.base)) (may.short lawful);
      }

  one : EachIsSound answers → (command : Command) (reply : Reply) (old new : Keeping D) → Obeys view answers command reply old new → (view old.device).lawful → KeepsOn old new
  one sound (Submit batch) reply old new obeys lawful = writing reply old new _ obeys.1 (submits batch reply old new obeys.0) lawful
  one sound (SubmitAs request batch) reply old new obeys lawful = writing reply old new _ obeys.1 (submits_as request batch reply old new obeys.0) lawful
  one sound (SubmitAll group) reply old new obeys lawful = writing reply old new _ obeys.1 (submits_all group reply old new obeys.0) lawful
  one sound WriteCut reply old new obeys lawful = writing reply old new _ obeys.1 (writes reply old new obeys.0) lawful
  one sound (CloseFree most) reply old new obeys lawful = writing reply old new _ obeys.1 (closes most reply old new obeys.0) lawful
  one sound Release reply old new obeys lawful = resting old new (rests view answers Release reply old new refl obeys) (rises (releases reply old new obeys)) lawful
  one sound Settle reply old new obeys lawful = resting old new (rests view answers Settle reply old new refl obeys) (rises (settles reply old new obeys)) lawful
  one sound Collect reply old new obeys lawful = resting old new (rests view answers Collect reply old new refl obeys) (rises (collects reply old new obeys)) lawful
  one sound NextOut reply old new obeys lawful = resting old new (rests view answers NextOut reply old new refl obeys) (rises (hands_out reply old new obeys)) lawful
  one sound Cut reply old new obeys lawful = resting old new (rests view answers Cut reply old new refl obeys) (cuts sound None reply old new obeys) lawful
  one sound (CutUpTo e) reply old new obeys lawful = resting old new (rests view answers (CutUpTo e) reply old new refl obeys) (cuts sound (Some e) reply old new obeys) lawful
  one sound (Answer vertex wanted) reply old new obeys lawful =
      resting old new (rests view answers (Answer vertex wanted) reply old new refl obeys) (rises (asks vertex wanted reply old new obeys)) lawful

  -- one command, and then others
  on_from : (old mid new : Keeping D) → KeepsOn old mid → KeepsOn mid new → KeepsOn old new
  on_from old mid new first rest = record {
    plan = rest.plan ∙ first.plan;
    lawful = rest.lawful;
    later = omega (arith, first.later, rest.later);
    base = omega (arith, first.base, rest.base);
    since = λ t c le left. ⊎_elim
        (λ was. further old.plan mid.base new.base (view old.device).state (view mid.device).state rest.base first.since t c le was)
        (λ kept. inr (subst (λ (p : List Line). ImageKeepsTo p new.base c) first.plan kept))
        (rest.since t c (omega (arith, le, first.later)) left);
  }

  -- COMMANDS, one after another
  pub driven_keeps_on : EachIsSound answers → (commands : List Command) (replies : List Reply) (old new : Keeping D) → (view old.device).lawful → Driven view answers commands replies old new
      → KeepsOn old new
  driven_keeps_on sound [] [] old new lawful is =
      subst (λ (k : Keeping D). KeepsOn old k) (sym is) (resting old old (record { device = refl; plan = refl; standing = refl; broken = refl }) (rises (itself old)) lawful)
  driven_keeps_on sound [] (r ∷ rs) old new lawful none = absurd none
  driven_keeps_on sound (c ∷ cs) [] old new lawful none = absurd none
  driven_keeps_on sound (c ∷ cs) (r ∷ rs) old new lawful driven =
      let first = one sound c r old driven.0 driven.2 lawful in
      on_from old driven.0 new first (driven_keeps_on sound cs rs driven.0 new first.lawful driven.3)
