-- Commands, one after another: the count of failures, and in which of them the device failed.
use Rattle.std.proofs.Common.{◌≡◌, ⊎_elim, ℕ, ◌+◌, ◌≤◌, Bool, true, false, ◌||◌, List, [], ◌∷◌, nat_le, refl, sym, ap, ◌∙◌, subst, arith}
use Rattle.std.specs.Prelude.{Option, Some, None, if◌then◌else◌}
use Rattle.td_stamp.specs.declared.values.Entry.{Entry}
use Rattle.td_calls.specs.Answers.{Answers}
use Rattle.td_disk.specs.Disk.{DiskView, DiskState}
use Rattle.td_machine.specs.State.{HallState}
use Rattle.td_machine.specs.Active.{unpassed}
use Rattle.td_store.specs.declared.standing.error.KeeperError.{KeeperError}
use Rattle.td_store.specs.declared.standing.error.KeeperError.TheVariants as error
use Rattle.td_journal.specs.declared.payload.Submitted.{Submitted as AnySubmitted}
use Rattle.td_keeper.specs.declared.submit_all.GroupError.{GroupError}
use Rattle.td_keeper.specs.declared.command.Command.{Command}
use Rattle.td_keeper.specs.declared.command.Command.TheVariants.{Submit, SubmitAs, SubmitAll, Release, Settle, Collect, NextOut, Cut, CutUpTo, Answer, WriteCut, CloseFree}
use Rattle.td_keeper.specs.declared.command.Reply.{Reply}
use Rattle.td_keeper.specs.declared.command.Reply.TheVariants.{Submitted, SubmittedAs, SubmittedAll, Released, Settled, Collected, Out, CutTaken, Answered, Written, Closed, Refused, RefusedAll}
use Rattle.td_keeper.specs.Keeping.{Keeping, with_group}
use Rattle.td_keeper.specs.Refused.{submit_refusal, submit_as_refusal, first_unpassed, or_waiting, cut_refusal}
use Rattle.td_keeper.specs.declared.receipt.Receipt.{Receipt}
use Rattle.td_keeper.specs.declared.receipt.Receipt.TheVariants.{New, Already}
use Rattle.td_keeper.specs.Received.{IsReceived}
use Rattle.td_keeper.specs.Driven.{is_device, is_of_device, is_failed, some_failed, Fails, IsNotSubmitted, Submits, SubmitsAs, SubmitsAll, Writes, ClosesFree, Obeys, Driven, Rests}
use Rattle.td_keeper.proofs.Driving.{is_device_is, is_of_device_is, rests, driven_broken}

-- of an error that is another
other_error : (e f : KeeperError) → e ≡ f → is_device f ≡ false → is_device e ≡ true → ⊥
other_error e f is quiet said = let both : true ≡ false = sym said ∙ (ap is_device is ∙ quiet) in absurd (cc)

-- a cut is not refused for the device
chosen : {D : Type 0} (k : Keeping D) (base e : ℕ) (b w : Bool) → or_waiting (record k { waiting = w }) (if b then Some (error.NotPassed e) else None) ≡ Some error.Device → ⊥
chosen k base e true w is = absurd (cc)
chosen k base e false true is = absurd (cc)
chosen k base e false false is = absurd (cc)

no_device : {D : Type 0} (k : Keeping D) (base : ℕ) (o : Option ℕ) (w : Bool) → or_waiting (record k { waiting = w }) (first_unpassed k base o) ≡ Some error.Device → ⊥
no_device k base None true is = absurd (cc)
no_device k base None false is = absurd (cc)
no_device k base (Some e) w is = chosen k base e (nat_le e (base + 1)) w is

cut_never_device : {D : Type 0} (k : Keeping D) (S : HallState) (e : KeeperError) → cut_refusal k S ≡ Some e → is_device e ≡ true → ⊥
cut_never_device k S e is said = no_device k S.base (unpassed S) k.waiting (is ∙ ap (λ (f : KeeperError). Some f) (is_device_is e said))

module _ {D : Type 0} (view : D → DiskView) (answers : Answers) where
  -- the count never falls
  at_rest : (old new : Keeping D) → Rests old new → (view old.device).failures ≤ (view new.device).failures
  at_rest old new is = subst (λ (d : D). (view old.device).failures ≤ (view d).failures) (sym is.device) (omega arith)

  counted : (c : Command) (r : Reply) (old new : Keeping D) → Obeys view answers c r old new → (view old.device).failures ≤ (view new.device).failures
  counted (Submit batch) r old new obeys = obeys.1.counted
  counted (SubmitAs request batch) r old new obeys = obeys.1.counted
  counted (SubmitAll group) r old new obeys = obeys.1.counted
  counted WriteCut r old new obeys = obeys.1.counted
  counted (CloseFree most) r old new obeys = obeys.1.counted
  counted Release r old new obeys = at_rest old new (rests view answers Release r old new refl obeys)
  counted Settle r old new obeys = at_rest old new (rests view answers Settle r old new refl obeys)
  counted Collect r old new obeys = at_rest old new (rests view answers Collect r old new refl obeys)
  counted NextOut r old new obeys = at_rest old new (rests view answers NextOut r old new refl obeys)
  counted Cut r old new obeys = at_rest old new (rests view answers Cut r old new refl obeys)
  counted (Answer v w) r old new obeys = at_rest old new (rests view answers (Answer v w) r old new refl obeys)
  counted (CutUpTo m) r old new obeys = at_rest old new (rests view answers (CutUpTo m) r old new refl obeys)

  pub driven_counted : (commands : List Command) (replies : List Reply) (old new : Keeping D) → Driven view answers commands replies old new
      → (view old.device).failures ≤ (view new.device).failures
  driven_counted [] [] old new e = subst (λ (k : Keeping D). (view old.device).failures ≤ (view k.device).failures) (sym e) (omega arith)
  driven_counted [] (r ∷ rs) old new none = absurd none
  driven_counted (c ∷ cs) [] old new none = absurd none
  driven_counted (c ∷ cs) (r ∷ rs) old new driven =
      let first = counted c r old driven.0 driven.2 in
      let rest = driven_counted cs rs driven.0 new driven.3 in
      omega (arith, first, rest)

  -- WHERE A REPLY SAYS THAT THE DEVICE FAILED, the keeper is broken, and the count rose
  failed : (c : Command) (e : KeeperError) (b : Option (List Entry)) (old new : Keeping D) → Obeys view answers c (Refused e b) old new → is_device e ≡ true
      → Fails view answers old new
  failed (Submit batch) e b old new obeys is = obeys.0.device (is_device_is e is)
  failed (SubmitAs request batch) e b old new obeys is = obeys.0.refused.device (is_device_is e is)
  failed (SubmitAll group) e b old new obeys is = absurd obeys.0
  failed WriteCut e b old new obeys is = obeys.0.device (is_device_is e is)
  failed (CloseFree most) e b old new obeys is = obeys.0.device (is_device_is e is)
  failed Release e b old new obeys is = absurd (⊎_elim (λ foreign. other_error e error.Foreign foreign.0 refl is) (λ memory. other_error e error.Memory memory.0 refl is) obeys.1)
  failed Settle e b old new obeys is = absurd (other_error e (error.NotPassed obeys.1.0) obeys.1.1 refl is)
  failed Collect e b old new obeys is = absurd (⊎_elim (λ foreign. other_error e error.Foreign foreign.0 refl is) (λ memory. other_error e error.Memory memory.0 refl is) obeys.1)
  failed NextOut e b old new obeys is = absurd obeys
  failed Cut e b old new obeys is =
      absurd (⊎_elim (λ foreign. other_error e error.Foreign foreign.0 refl is)
      (λ other. ⊎_elim (λ memory. other_error e error.Memory memory.0 refl is)
      (λ some. ⊎_elim (λ refused. cut_never_device old some.hall e refused is) (λ memory. other_error e error.Memory memory refl is) some.cause) other) obeys.1)
  failed (CutUpTo m) e b old new obeys is =
      absurd (⊎_elim (λ foreign. other_error e error.Foreign foreign.0 refl is)
      (λ other. ⊎_elim (λ memory. other_error e error.Memory memory.0 refl is)
      (λ some. ⊎_elim (λ refused. cut_never_device old some.hall e refused is) (λ memory. other_error e error.Memory memory refl is) some.cause) other) obeys.1)
  failed (Answer v w) e b old new obeys is =
      absurd (⊎_elim (λ foreign. other_error e error.Foreign foreign.0 refl is)
      (λ other. ⊎_elim (λ memory. other_error e error.Memory memory.0 refl is)
      (λ unpassed. other_error e (error.NotPassed unpassed.0) unpassed.1 refl is) other) obeys.1)

  failed_all : (c : Command) (e : GroupError) (b : List AnySubmitted) (old new : Keeping D) → Obeys view answers c (RefusedAll e b) old new → is_of_device e ≡ true
      → Fails view answers old new
  failed_all (SubmitAll group) e b old new obeys is = obeys.0.device (is_of_device_is e is)
  failed_all (Submit batch) e b old new obeys is = absurd obeys.0
  failed_all (SubmitAs request batch) e b old new obeys is = absurd obeys.0
  failed_all WriteCut e b old new obeys is = absurd obeys.0
  failed_all (CloseFree most) e b old new obeys is = absurd obeys.0
  failed_all Release e b old new obeys is = absurd obeys
  failed_all Settle e b old new obeys is = absurd obeys
  failed_all Collect e b old new obeys is = absurd obeys
  failed_all NextOut e b old new obeys is = absurd obeys
  failed_all Cut e b old new obeys is = absurd obeys
  failed_all (CutUpTo m) e b old new obeys is = absurd obeys
  failed_all (Answer v w) e b old new obeys is = absurd obeys

  one_failed : (c : Command) (r : Reply) (old new : Keeping D) → Obeys view answers c r old new → is_failed r ≡ true → Fails view answers old new
  one_failed c (Refused e b) old new obeys is = failed c e b old new obeys is
  one_failed c (Submitted n) old new obeys is = absurd (cc)
  one_failed c (SubmittedAs n) old new obeys is = absurd (cc)
  one_failed c (SubmittedAll n m) old new obeys is = absurd (cc)
  one_failed c (RefusedAll e xs) old new obeys is = failed_all c e xs old new obeys is
  one_failed c (Released n) old new obeys is = absurd (cc)
  one_failed c Settled old new obeys is = absurd (cc)
  one_failed c (Collected n) old new obeys is = absurd (cc)
  one_failed c (Out o) old new obeys is = absurd (cc)
  one_failed c (CutTaken n) old new obeys is = absurd (cc)
  one_failed c (Written w) old new obeys is = absurd (cc)
  one_failed c (Answered m ys) old new obeys is = absurd (cc)
  one_failed c Closed old new obeys is = absurd (cc)

  pub driven_failed : (commands : List Command) (replies : List Reply) (old new : Keeping D) → Driven view answers commands replies old new
      → some_failed replies ≡ true → Fails view answers old new
  driven_failed [] [] old new e is = absurd (cc)
  driven_failed [] (r ∷ rs) old new none is = absurd none
  driven_failed (c ∷ cs) [] old new none is = absurd none
  driven_failed (c ∷ cs) (r ∷ rs) old new driven is = by (is_failed r) refl (λ later. driven_failed cs rs driven.0 new driven.3 later)
    where
      mid : Keeping D
      mid = driven.0

      first : (view old.device).failures ≤ (view mid.device).failures
      first = counted c r old mid driven.2

      rest : (view mid.device).failures ≤ (view new.device).failures
      rest = driven_counted cs rs mid new driven.3

      by : (b : Bool) → is_failed r ≡ b → (some_failed rs ≡ true → Fails view answers mid new) → Fails view answers old new
      by true said others =
          let here = one_failed c r old mid driven.2 said in
          let stays = driven_broken view answers cs rs mid new driven.3 here.broken in
          record { broken = stays.2; risen = omega (arith, here.risen, rest) }
      by false quiet others =
          let there = others (sym (ap (λ (b : Bool). b || some_failed rs) quiet) ∙ is) in
          record { broken = there.broken; risen = omega (arith, there.risen, first) }

  -- WHERE NONE DOES, the keeper is as whole as it was, and the count stays
  whole_refused : (refusal : Option KeeperError) (batch : List Entry) (e : KeeperError) (b : Option (List Entry)) (old new : Keeping D)
      → IsNotSubmitted view answers refusal batch e b old new → is_device e ≡ false → new.broken ≡ old.broken
  whole_refused refusal batch e b old new r quiet =
      ⊎_elim (λ is. ap (λ k. k.broken) is)
      (λ other. ⊎_elim (λ is. ap (λ k. k.broken) is.1) (λ is. absurd (let both : true ≡ false = sym (ap is_device is.0) ∙ quiet in cc)) other) r.unchanged

  whole_received : (request : ℕ) (batch : List Entry) (receipt : Receipt) (old new : Keeping D) → IsReceived request batch receipt old new → new.broken ≡ old.broken
  whole_received request batch (New epoch) old new r = ap (λ k. k.broken) r.2
  whole_received request batch (Already last) old new r = ap (λ k. k.broken) r.2

  whole_submit_as : (request : ℕ) (batch : List Entry) (r : Reply) (old new : Keeping D) → SubmitsAs view answers request batch r old new → is_failed r ≡ false → new.broken ≡ old.broken
  whole_submit_as request batch (SubmittedAs receipt) old new r quiet = whole_received request batch receipt old new r.received
  whole_submit_as request batch (Refused e b) old new r quiet = whole_refused (submit_as_refusal old request batch) batch e b old new r.refused quiet
  whole_submit_as request batch (Submitted n) old new r quiet = absurd r
  whole_submit_as request batch (SubmittedAll n m) old new r quiet = absurd r
  whole_submit_as request batch (RefusedAll e xs) old new r quiet = absurd r
  whole_submit_as request batch (Released n) old new r quiet = absurd r
  whole_submit_as request batch Settled old new r quiet = absurd r
  whole_submit_as request batch (Collected n) old new r quiet = absurd r
  whole_submit_as request batch (Out o) old new r quiet = absurd r
  whole_submit_as request batch (CutTaken n) old new r quiet = absurd r
  whole_submit_as request batch (Written w) old new r quiet = absurd r
  whole_submit_as request batch (Answered m ys) old new r quiet = absurd r
  whole_submit_as request batch Closed old new r quiet = absurd r

  whole_submit : (batch : List Entry) (r : Reply) (old new : Keeping D) → Submits view answers batch r old new → is_failed r ≡ false → new.broken ≡ old.broken
  whole_submit batch (Submitted n) old new r quiet = ap (λ k. k.broken) r.submitted
  whole_submit batch (Refused e b) old new r quiet = whole_refused (submit_refusal old batch) batch e b old new r quiet
  whole_submit batch (SubmittedAs n) old new r quiet = absurd r
  whole_submit batch (SubmittedAll n m) old new r quiet = absurd r
  whole_submit batch (RefusedAll e xs) old new r quiet = absurd r
  whole_submit batch (Released n) old new r quiet = absurd r
  whole_submit batch Settled old new r quiet = absurd r
  whole_submit batch (Collected n) old new r quiet = absurd r
  whole_submit batch (Out o) old new r quiet = absurd r
  whole_submit batch (CutTaken n) old new r quiet = absurd r
  whole_submit batch (Written w) old new r quiet = absurd r
  whole_submit batch (Answered m ys) old new r quiet = absurd r
  whole_submit batch Closed old new r quiet = absurd r

  whole_group : (group : List AnySubmitted) (old new : Keeping D) → new ≡ with_group old new.device group → new.broken ≡ old.broken
  whole_group [] old new is = ap (λ k. k.broken) is
  whole_group (x ∷ xs) old new is = ap (λ k. k.broken) is

  whole_submit_all : (group : List AnySubmitted) (r : Reply) (old new : Keeping D) → SubmitsAll view answers group r old new → is_failed r ≡ false → new.broken ≡ old.broken
  whole_submit_all group (SubmittedAll n m) old new r quiet = whole_group group old new r.submitted
  whole_submit_all group (RefusedAll e back) old new r quiet =
      ⊎_elim (λ is. ap (λ k. k.broken) is)
      (λ other. ⊎_elim (λ is. ap (λ k. k.broken) is.1) (λ is. absurd (let both : true ≡ false = sym (ap is_of_device is.0) ∙ quiet in cc)) other) r.unchanged
  whole_submit_all group (Submitted n) old new r quiet = absurd r
  whole_submit_all group (SubmittedAs n) old new r quiet = absurd r
  whole_submit_all group (Released n) old new r quiet = absurd r
  whole_submit_all group Settled old new r quiet = absurd r
  whole_submit_all group (Collected n) old new r quiet = absurd r
  whole_submit_all group (Out o) old new r quiet = absurd r
  whole_submit_all group (CutTaken n) old new r quiet = absurd r
  whole_submit_all group (Written w) old new r quiet = absurd r
  whole_submit_all group (Answered m ys) old new r quiet = absurd r
  whole_submit_all group Closed old new r quiet = absurd r
  whole_submit_all group (Refused e b) old new r quiet = absurd r

  whole_write : (r : Reply) (old new : Keeping D) → Writes view answers r old new → is_failed r ≡ false → new.broken ≡ old.broken
  whole_write (Written w) old new r quiet = ⊎_elim (λ none. ap (λ k. k.broken) none.2) (λ some. ap (λ k. k.broken) some.1) r.cut
  whole_write (Refused e b) old new r quiet =
      ⊎_elim (λ is. ap (λ k. k.broken) is.1)
      (λ other. ⊎_elim (λ is. absurd (let both : true ≡ false = sym (ap is_device is.0) ∙ quiet in cc)) (λ is. ap (λ k. k.broken) is) other) r.unchanged
  whole_write (Submitted n) old new r quiet = absurd r
  whole_write (SubmittedAs n) old new r quiet = absurd r
  whole_write (SubmittedAll n m) old new r quiet = absurd r
  whole_write (RefusedAll e xs) old new r quiet = absurd r
  whole_write (Released n) old new r quiet = absurd r
  whole_write Settled old new r quiet = absurd r
  whole_write (Collected n) old new r quiet = absurd r
  whole_write (Out o) old new r quiet = absurd r
  whole_write (CutTaken n) old new r quiet = absurd r
  whole_write (Answered m ys) old new r quiet = absurd r
  whole_write Closed old new r quiet = absurd r

  whole_close : (most : ℕ) (r : Reply) (old new : Keeping D) → ClosesFree view answers most r old new → is_failed r ≡ false → new.broken ≡ old.broken
  whole_close most Closed old new r quiet = ap (λ k. k.broken) r.same
  whole_close most (Refused e b) old new r quiet =
      ⊎_elim (λ is. ap (λ k. k.broken) is) (λ is. absurd (let both : true ≡ false = sym (ap is_device is.0) ∙ quiet in cc)) r.unchanged
  whole_close most (Submitted n) old new r quiet = absurd r
  whole_close most (SubmittedAs n) old new r quiet = absurd r
  whole_close most (SubmittedAll n m) old new r quiet = absurd r
  whole_close most (RefusedAll e xs) old new r quiet = absurd r
  whole_close most (Released n) old new r quiet = absurd r
  whole_close most Settled old new r quiet = absurd r
  whole_close most (Collected n) old new r quiet = absurd r
  whole_close most (Out o) old new r quiet = absurd r
  whole_close most (CutTaken n) old new r quiet = absurd r
  whole_close most (Answered m ys) old new r quiet = absurd r
  whole_close most (Written w) old new r quiet = absurd r

  -- of one that is as it was
  as_whole : (old new : Keeping D) → Rests old new → (new.broken ≡ old.broken) × ((view new.device).failures ≡ (view old.device).failures)
  as_whole old new is = (is.broken, ap (λ (d : D). (view d).failures) is.device)

  one_whole : (c : Command) (r : Reply) (old new : Keeping D) → Obeys view answers c r old new → is_failed r ≡ false
      → (new.broken ≡ old.broken) × ((view new.device).failures ≡ (view old.device).failures)
  one_whole (Submit batch) r old new obeys quiet = (whole_submit batch r old new obeys.0 quiet, obeys.1.stays quiet)
  one_whole (SubmitAs request batch) r old new obeys quiet = (whole_submit_as request batch r old new obeys.0 quiet, obeys.1.stays quiet)
  one_whole (SubmitAll group) r old new obeys quiet = (whole_submit_all group r old new obeys.0 quiet, obeys.1.stays quiet)
  one_whole WriteCut r old new obeys quiet = (whole_write r old new obeys.0 quiet, obeys.1.stays quiet)
  one_whole (CloseFree most) r old new obeys quiet = (whole_close most r old new obeys.0 quiet, obeys.1.stays quiet)
  one_whole Release r old new obeys quiet = as_whole old new (rests view answers Release r old new refl obeys)
  one_whole Settle r old new obeys quiet = as_whole old new (rests view answers Settle r old new refl obeys)
  one_whole Collect r old new obeys quiet = as_whole old new (rests view answers Collect r old new refl obeys)
  one_whole NextOut r old new obeys quiet = as_whole old new (rests view answers NextOut r old new refl obeys)
  one_whole Cut r old new obeys quiet = as_whole old new (rests view answers Cut r old new refl obeys)
  one_whole (Answer v w) r old new obeys quiet = as_whole old new (rests view answers (Answer v w) r old new refl obeys)
  one_whole (CutUpTo m) r old new obeys quiet = as_whole old new (rests view answers (CutUpTo m) r old new refl obeys)

  pub driven_whole : (commands : List Command) (replies : List Reply) (old new : Keeping D) → Driven view answers commands replies old new
      → some_failed replies ≡ false → (new.broken ≡ old.broken) × ((view new.device).failures ≡ (view old.device).failures)
  driven_whole [] [] old new e quiet = (ap (λ k. k.broken) e, ap (λ (k : Keeping D). (view k.device).failures) e)
  driven_whole [] (r ∷ rs) old new none quiet = absurd none
  driven_whole (c ∷ cs) [] old new none quiet = absurd none
  driven_whole (c ∷ cs) (r ∷ rs) old new driven quiet = by (is_failed r) refl (λ later. driven_whole cs rs driven.0 new driven.3 later)
    where
      mid : Keeping D
      mid = driven.0

      by : (b : Bool) → is_failed r ≡ b → (some_failed rs ≡ false → (new.broken ≡ mid.broken) × ((view new.device).failures ≡ (view mid.device).failures))
          → (new.broken ≡ old.broken) × ((view new.device).failures ≡ (view old.device).failures)
      by true said others = absurd (let both : true ≡ false = sym (ap (λ (b : Bool). b || some_failed rs) said) ∙ quiet in cc)
      by false here others =
          let first = one_whole c r old mid driven.2 here in
          let rest = others (sym (ap (λ (b : Bool). b || some_failed rs) here) ∙ quiet) in
          (rest.0 ∙ first.0, rest.1 ∙ first.1)
