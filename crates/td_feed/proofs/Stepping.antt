-- The steps of a feed under way: what comes of a call, and of steps, one after another.
use Rattle.std.proofs.Common.{◌≡◌, ◌⊎◌, inl, inr, ⊎_elim, ℕ, ◌-◌, ◌<◌, ◌≤◌, nat_lt, Bool, true, false, List, [], ◌∷◌, drop, length, refl, sym, ap, ◌∙◌, subst, arith}
use Rattle.std.specs.Prelude.{Option, Some, None, min, Result, Ok, Err, OnOk, IfOk, IfErr}
use Rattle.std.specs.Result.{IsErrAnd}
use Rattle.std.specs.Io.KnownBytes.{Appends}
use Rattle.std.proofs.Math.Nat.{le-max_right, min-eq_left, min-eq_right}
use Rattle.std.proofs.lemmas.Bool.{ltb-true, ltb-false}
use Rattle.std.proofs.lemmas.List.{length-drop}
use Rattle.td_calls.specs.Answers.{Answers}
use Rattle.td_disk.specs.Disk.{DiskView}
use Rattle.td_journal.specs.declared.payload.Submitted.{Submitted as AnySubmitted}
use Rattle.td_store.specs.declared.standing.error.KeeperError.{KeeperError}
use Rattle.td_store.specs.declared.standing.error.KeeperError.TheVariants as error
use Rattle.td_store.specs.standing.Standing.{last_epoch, batches_of}
use Rattle.td_keeper.specs.declared.command.Command.{Command}
use Rattle.td_keeper.specs.declared.command.Reply.{Reply}
use Rattle.td_keeper.specs.Keeping.{Keeping, since_base, with_checkpoint}
use Rattle.td_keeper.specs.Halls.{place_between}
use Rattle.td_keeper.specs.declared.command.Command.TheVariants.{WriteCut, CloseFree, Answer}
use Rattle.td_keeper.specs.Driven.{may_write, Asks, Cuts, Obeys, answered, closed, cut, cutting, written}
use Rattle.td_console.specs.declared.faults.Fault.{Fault}
use Rattle.td_console.specs.declared.faults.Fault.TheVariants.{Output, Memory, Keeper as AsKeeper}
use Rattle.td_console.specs.Refusals.{keeper_fault}
use Rattle.td_stamp.specs.States.{StateList}
use Rattle.td_questions.specs.declared.question.Wanted.{Wanted as Of}
use Rattle.td_questions.specs.Lines.{answer_lines}
use Rattle.td_orders.specs.Noted.Aside.{to_answer}
use Rattle.td_orders.specs.declared.source.Asked.{Asked}
use Rattle.td_orders.specs.declared.source.Asked.TheVariants.{One}
use Rattle.td_orders.specs.declared.order.Order.{Order}
use Rattle.td_orders.specs.Noted.{Aside}
use Rattle.td_orders.specs.Scripts.{asked_for, notes_for}
use Rattle.td_feed.specs.declared.under_way.Pace.{Pace}
use Rattle.td_feed.specs.declared.under_way.Pace.TheVariants.{AtEnd, Live}
use Rattle.td_feed.specs.Carried.{batch_in, new_to, is_refused, IsRising, Carries}
use Rattle.td_feed.specs.Caused.{IsOfWriter}
use Rattle.td_feed.specs.Copied.{Copied}
use Rattle.td_feed.specs.Fed.{HasRoom}
use Rattle.td_feed.specs.Held.{KeepsTo}
use Rattle.td_feed.specs.Said.{line_of, answer_text, request_in, fault_in}
use Rattle.td_feed.specs.Session.{KeepsDisk, Feeds, FeedsNoting, FeedsCopying}
use Rattle.td_feed.specs.Stepping.{faulted, outcome_if, outcome_of, Comes, IsQuiet, Stays, IsCheckpointed, KeepsSeen, HasCut, IsInTime, KeepsPace, Steps, Does}
use Rattle.td_feed.proofs.Carrying.{at_ok, at_err, leaves_all}
use Rattle.td_feed.proofs.Causes.{told_fault, if_of_keeper, handed}
use Rattle.td_feed.proofs.Counting.{fault_of, keeper_device}
use Rattle.td_feed.proofs.Held.{base_itself, base_then, keeps_same, keeps_then}
use Rattle.td_feed.proofs.Lines.{is_quiet, said_by, no_device_if}
use Rattle.td_feed.proofs.Sessions.{ok_no_device, went_on, disk_same, disk_then, disk_handed, fed_nothing, fed_then, fed_handed, fed_refused, fed_quietly, fed_answer, fed_unanswered, fed_uncopied, copying_then, copying_handed}
use Rattle.td_feed.proofs.Told.{submitted_is}

-- a refusal
abbrev refusal_of : Fault → Result (Unit {0}) Fault
refusal_of f = Err f

-- what holds after a call that was obeyed
pub on_done : {T : Type 0} (P : Type 0) (r : Result T KeeperError) (q : Result (Unit {0}) Fault) → q ≡ faulted r → OnOk r P → OnOk q P
on_done P (Ok x) q is holds = subst (λ (o : Result (Unit {0}) Fault). OnOk o P) (sym is) holds
on_done P (Err e) q is holds = subst (λ (o : Result (Unit {0}) Fault). OnOk o P) (sym is) tt

-- what stands after the base of a keeper that has the same
pub since_same : {D : Type 0} (old new : Keeping D) → new.standing ≡ old.standing → new.base ≡ old.base → since_base new ≡ since_base old
since_same old new stands base = λ i. drop (base i - (stands i).epoch) (batches_of (stands i).submitted)

-- A CUT, up to an epoch or not
pub cut_is_still : (most : Option ℕ) → may_write (cutting most) ≡ false
cut_is_still None = refl
cut_is_still (Some e) = refl

module _ {D : Type 0} (view : D → DiskView) (answers : Answers) where
  pub cut_obeys : (most : Option ℕ) (reply : Reply) (old new : Keeping D) → Cuts view answers most reply old new → Obeys view answers (cutting most) reply old new
  cut_obeys None reply old new is = is
  cut_obeys (Some e) reply old new is = is

  pub cut_waits : (most : Option ℕ) (r : Result ℕ KeeperError) (old new : Keeping D) → Cuts view answers most (cut r) old new → OnOk r (new.waiting ≡ true)
  cut_waits most (Ok e) old new is = ap (λ (k : Keeping D). k.waiting) is.cut
  cut_waits most (Err e) old new is = tt

  pub cut_base : (most : Option ℕ) (r : Result ℕ KeeperError) (old new : Keeping D) (place : ℕ) → Cuts view answers most (cut r) old new → IfOk r (λ e. e ≡ place) → OnOk r (new.base ≡ place)
  cut_base most (Ok e) old new place is at = is.base ∙ at
  cut_base most (Err e) old new place is at = tt

  -- cells that were closed
  pub closed_stands : (most : ℕ) (r : Result (Unit {0}) KeeperError) (old new : Keeping D) → Obeys view answers (CloseFree most) (closed r) old new → OnOk r (new.standing ≡ old.standing)
  closed_stands most (Ok done) old new is = ap (λ (k : Keeping D). k.standing) is.0.same
  closed_stands most (Err e) old new is = tt

  -- it is written
  pub write_checkpoints : (r : Result (Option ℕ) KeeperError) (old new : Keeping D) (q : Result (Unit {0}) Fault) → Obeys view answers WriteCut (written r) old new → old.waiting ≡ true
      → (is_refused (written r) ≡ true → q ≡ Err (fault_in (written r))) → OnOk q (new ≡ with_checkpoint old new.device)
  write_checkpoints (Ok w) old new q is waits refused =
      at_ok q (⊎_elim (λ none. absurd (let no : true ≡ false = sym waits ∙ none.1 in cc)) (λ done. done.1) is.0.cut)
  write_checkpoints (Err e) old new q is waits refused = subst (λ (o : Result (Unit {0}) Fault). OnOk o (new ≡ with_checkpoint old new.device)) (sym (refused refl)) tt

module _ {D : Type 0} {view : D → DiskView} {answers : Answers} where
  -- A COMMAND THAT IS QUIET, and submits nothing
  pub quietly_comes : (command : Command) (reply : Reply) (old new : Keeping D) → Comes view answers command reply old new → is_quiet command ≡ true → batch_in command ≡ []
      → (is_refused reply ≡ false → Carries answers old new []) → IsQuiet view answers (outcome_of reply) old new
  quietly_comes command reply old new comes quiet none carried = by (is_refused reply) refl
    where
      by : (b : Bool) → is_refused reply ≡ b → IsQuiet view answers (outcome_if b (fault_in reply)) old new
      by true is = record {
        disk = subst (λ (b : Bool). KeepsDisk view (outcome_if b (fault_in reply)) old.device new.device) is comes.disk;
        fed = λ marks held. fed_refused (fault_in reply) (Err (fault_in reply)) command refl (ap (new_to old) none) (comes.refused is);
        fault = told_fault reply;
      }
      by false is = record {
        disk = subst (λ (b : Bool). KeepsDisk view (outcome_if b (fault_in reply)) old.device new.device) is comes.disk;
        fed = λ marks held. fed_quietly command reply quiet (carried is) (comes.obeyed is);
        fault = tt;
      }

  -- with another answer that is the same
  pub quiet_as : {old new : Keeping D} (r q : Result (Unit {0}) Fault) → q ≡ r → IsQuiet view answers r old new → IsQuiet view answers q old new
  quiet_as {old = old} {new = new} r q is quiet = subst (λ (o : Result (Unit {0}) Fault). IsQuiet view answers o old new) (sym is) quiet

  -- nothing was done
  pub quiet_nothing : {k : Keeping D} → k.broken ≡ false → IsQuiet view answers (Ok tt) k k
  quiet_nothing whole = record { disk = disk_same (Ok tt) refl (ok_no_device tt); fed = λ marks held. fed_nothing whole; fault = tt }

-- one after another
pub stays_then : {D : Type 0} {answers : Answers} {a b c : Keeping D} → Stays answers a b → Stays answers b c → Stays answers a c
stays_then first next = record { rests = went_on first.rests next.rests; stands = next.stands ∙ first.stands; base = base_then first.base next.base }

module _ {D W : Type 0} {view : D → DiskView} {answers : Answers} {marks : Bool} {has : W → ℕ → Type 0} {seen : Option ℕ} where
  -- a quiet call
  pub quiet_step : {r : Result (Unit {0}) Fault} {a b : Keeping D} (u : Option (List ℕ)) → IsQuiet view answers r a b → KeepsTo seen a b → Steps view answers marks has seen r u u a b []
  quiet_step {r = r} u quiet keeps = record { disk = quiet.disk; fed = quiet.fed marks u; held = keeps; fault = if_of_keeper has r quiet.fault }

  pub steps_nothing : {k : Keeping D} (u : Option (List ℕ)) → k.broken ≡ false → Steps view answers marks has seen (Ok tt) u u k k []
  steps_nothing {k = k} u whole = record { disk = disk_same (Ok tt) refl (ok_no_device tt); fed = fed_nothing whole; held = keeps_same seen (base_itself k); fault = tt }

  -- the same fault is handed on
  pub steps_handed : {e : Fault} {u v : Option (List ℕ)} {a b : Keeping D} {x : List AnySubmitted} (r : Result (Unit {0}) Fault) → IsErrAnd r (λ f. f ≡ e) → Steps view answers marks has seen (Err e) u v a b x
      → Steps view answers marks has seen r u v a b x
  steps_handed {e = e} r is step = record { disk = disk_handed r is step.disk; fed = fed_handed r is step.fed; held = step.held; fault = handed (IsOfWriter has) r e is step.fault }

  -- and then nothing more
  pub steps_then : {d : Unit {0}} {r : Result (Unit {0}) Fault} {u v w : Option (List ℕ)} {a b c : Keeping D} {x : List AnySubmitted} → Steps view answers marks has seen (Ok d) u v a b x
      → Steps view answers marks has seen r v w b c [] → Steps view answers marks has seen r u w a c x
  steps_then {a = a} {b = b} {c = c} first next =
      record { disk = disk_then first.disk next.disk; fed = fed_then first.fed next.fed; held = keeps_then seen a b c first.held next.held; fault = next.fault }

  -- A COMMAND WHOSE REPLY IS SAID
  pub steps_said : {u v : Option (List ℕ)} (command : Command) (reply : Reply) (old new : Keeping D) (r : Result (Unit {0}) Fault) (P : Type 0) → Comes view answers command reply old new → IsRising old command
      → (is_refused reply ≡ true → (r ≡ Err (fault_in reply)) × P)
      → (is_refused reply ≡ false → OnOk r (Appends u v (line_of marks (request_in command) reply)))
      → (is_refused reply ≡ false → IfErr r (λ f. (f ≡ Output) ⊎ ((f ≡ Memory) × P))) → (P → v ≡ u)
      → IfErr r (IsOfWriter has) → KeepsTo seen old new → Steps view answers marks has seen r u v old new (new_to old (batch_in command))
  steps_said {u = u} {v = v} command reply old new r P comes rises refused said unsaid same fault held = by (is_refused reply) refl
    where
      by : (b : Bool) → is_refused reply ≡ b → Steps view answers marks has seen r u v old new (new_to old (batch_in command))
      by true is =
          let f = fault_in reply in
          let disk : KeepsDisk view (outcome_if true f) old.device new.device = subst (λ (b : Bool). KeepsDisk view (outcome_if b f) old.device new.device) is comes.disk in
          let at : Feeds view answers marks (outcome_if true f) u u old new (new_to old (batch_in command)) = fed_refused f (Err f) command refl refl (comes.refused is) in
          record {
            disk = subst (λ (q : Result (Unit {0}) Fault). KeepsDisk view q old.device new.device) (sym (refused is).0) disk;
            fed = subst (λ (q : Result (Unit {0}) Fault). Feeds view answers marks q u v old new (new_to old (batch_in command))) (sym (refused is).0)
                (subst (λ (w : Option (List ℕ)). Feeds view answers marks (outcome_if true f) u w old new (new_to old (batch_in command))) (sym (same (refused is).1)) at);
            held = held;
            fault = fault;
          }
      by false is =
          let obeyed = comes.obeyed is in
          let x : List AnySubmitted = new_to old (batch_in command) in
          let what = submitted_is view answers command reply old new obeyed.obeyed is rises in
          let carried : Carries answers old new x = subst (λ (l : List AnySubmitted). Carries answers old new l) what obeyed.carried in
          let disk : KeepsDisk view (outcome_if false (fault_in reply)) old.device new.device = subst (λ (b : Bool). KeepsDisk view (outcome_if b (fault_in reply)) old.device new.device) is comes.disk in
          record {
            disk = disk_then disk (disk_same r refl (no_device_if r P (unsaid is)));
            fed = record {
              carried = at_ok r carried;
              left = at_err r (leaves_all view answers old new x carried);
              said = said_by view answers marks r u v command reply old new x P obeyed.driven what (said is) (unsaid is) same;
            };
            held = held;
            fault = fault;
          }

-- what is said of an answer, by the reply that it is
pub refused_answer : {P : Type 0} {r : Result (Unit {0}) Fault} (a : Result (ℕ × StateList) KeeperError) → IfErr a (λ e. (r ≡ Err (keeper_fault e)) × P)
    → is_refused (answered a) ≡ true → (r ≡ Err (fault_in (answered a))) × P
refused_answer (Ok x) none is = absurd (let no = is in cc)
refused_answer (Err e) holds is = holds

pub said_answer : (r : Result (Unit {0}) Fault) (u v : Option (List ℕ)) (vertex : ℕ) (wanted : Of) (a : Result (ℕ × StateList) KeeperError) → IfOk a (λ x. OnOk r (Appends u v (answer_lines x.0 vertex wanted x.1)))
    → is_refused (answered a) ≡ false → OnOk r (Appends u v (answer_text vertex wanted (answered a)))
said_answer r u v vertex wanted (Ok x) said is = said
said_answer r u v vertex wanted (Err e) none is = absurd (let no = is in cc)

pub unsaid_answer : {Q : Type 0} (a : Result (ℕ × StateList) KeeperError) → OnOk a Q → is_refused (answered a) ≡ false → Q
unsaid_answer (Ok x) holds is = holds
unsaid_answer (Err e) none is = absurd (let no = is in cc)

-- A QUESTION, whose answer is said
pub answer_said : {D : Type 0} {view : D → DiskView} {answers : Answers} {marks : Bool} {u v : Option (List ℕ)} (vertex : ℕ) (wanted : Of) (reply : Reply) (old new : Keeping D) (r : Result (Unit {0}) Fault) (P : Type 0)
    → Comes view answers (Answer vertex wanted) reply old new
    → (is_refused reply ≡ true → (r ≡ Err (fault_in reply)) × P) → (is_refused reply ≡ false → OnOk r (Appends u v (answer_text vertex wanted reply)))
    → (is_refused reply ≡ false → IfErr r (λ f. (f ≡ Output) ⊎ ((f ≡ Memory) × P))) → (P → v ≡ u)
    → FeedsNoting view answers marks r u v old new [] (to_answer vertex wanted ∷ [])
answer_said {view = view} {answers = answers} {marks = marks} {u = u} {v = v} vertex wanted reply old new r P comes refused said unsaid same = by (is_refused reply) refl
  where
    by : (b : Bool) → is_refused reply ≡ b → FeedsNoting view answers marks r u v old new [] (to_answer vertex wanted ∷ [])
    by true is =
        let f = fault_in reply in
        subst (λ (q : Result (Unit {0}) Fault). FeedsNoting view answers marks q u v old new [] (to_answer vertex wanted ∷ [])) (sym (refused is).0)
        (subst (λ (w : Option (List ℕ)). FeedsNoting view answers marks (outcome_if true f) u w old new [] (to_answer vertex wanted ∷ [])) (sym (same (refused is).1))
        (fed_unanswered f (Err f) (Answer vertex wanted) refl (comes.rests refl) (λ r. refl) (comes.refused is).refused))
    by false is = fed_answer r vertex wanted reply (comes.obeyed is) (comes.rests refl) (said is) (unsaid is) same

-- no device is called for it
pub answer_no_device : {D : Type 0} (view : D → DiskView) (answers : Answers) (vertex : ℕ) (wanted : Of) (a : Result (ℕ × StateList) KeeperError) (reply : Reply) (k : Keeping D) (r : Result (Unit {0}) Fault) (P : Type 0)
    → Asks view answers vertex wanted (answered a) k k → reply ≡ answered a
    → (is_refused reply ≡ true → (r ≡ Err (fault_in reply)) × P) → (is_refused reply ≡ false → IfErr r (λ f. (f ≡ Output) ⊎ ((f ≡ Memory) × P))) → r ≡ Err (AsKeeper error.Device) → ⊥
answer_no_device view answers vertex wanted (Ok x) reply k r P asks is refused unsaid failed = no_device_if r P (unsaid (ap is_refused is)) failed
answer_no_device view answers vertex wanted (Err e) reply k r P asks is refused unsaid failed =
    let told : keeper_fault e ≡ AsKeeper error.Device = fault_of (keeper_fault e) (AsKeeper error.Device) (sym ((refused (ap is_refused is)).0 ∙ ap (λ (q : Reply). refusal_of (fault_in q)) is) ∙ failed) in
    ⊎_elim (λ foreign. absurd (let no : error.Device ≡ error.Foreign = sym (keeper_device e told) ∙ foreign.0 in cc))
    (λ other. ⊎_elim (λ memory. absurd (let no : error.Device ≡ error.Memory = sym (keeper_device e told) ∙ memory.0 in cc)) (λ unpassed. absurd (let no : error.Device ≡ error.NotPassed unpassed.0 = sym (keeper_device e told) ∙ unpassed.1 in cc)) other) asks.1

module _ {D W E : Type 0} {view : D → DiskView} {answers : Answers} {marks : Bool} {has : W → ℕ → Type 0} {new_view : E → DiskView} {seen : Option ℕ} where
  -- what is asked for was done, and then nothing more
  pub does_then : {d : Unit {0}} {r : Result (Unit {0}) Fault} {u v w : Option (List ℕ)} {had has_then : Option (List (Copied E))} {a b c : Keeping D} {asked : Asked}
      → Does view answers marks has new_view seen (Ok d) u v had has_then a b asked → Steps view answers marks has seen r v w b c []
      → Does view answers marks has new_view seen r u w had has_then a c asked
  does_then {a = a} {b = b} {c = c} first next =
      record { disk = disk_then first.disk next.disk; fed = copying_then first.fed next.fed; held = keeps_then seen a b c first.held next.held; fault = next.fault }

  pub does_handed : {e : Fault} {u v : Option (List ℕ)} {had has_then : Option (List (Copied E))} {a b : Keeping D} {asked : Asked} (r : Result (Unit {0}) Fault) → IsErrAnd r (λ f. f ≡ e)
      → Does view answers marks has new_view seen (Err e) u v had has_then a b asked → Does view answers marks has new_view seen r u v had has_then a b asked
  does_handed {e = e} r is does = record { disk = disk_handed r is does.disk; fed = copying_handed r is does.fed; held = does.held; fault = handed (IsOfWriter has) r e is does.fault }

  -- of what is asked for that is the same
  pub does_for : {r : Result (Unit {0}) Fault} {u v : Option (List ℕ)} {had has_then : Option (List (Copied E))} {a b : Keeping D} {asked other : Asked} → asked ≡ other
      → Does view answers marks has new_view seen r u v had has_then a b other → Does view answers marks has new_view seen r u v had has_then a b asked
  does_for {r = r} {u = u} {v = v} {had = had} {has_then = has_then} {a = a} {b = b} is does = subst (λ (q : Asked). Does view answers marks has new_view seen r u v had has_then a b q) (sym is) does

  -- of an order that is the same
  pub does_as : {r : Result (Unit {0}) Fault} {u v : Option (List ℕ)} {had has_then : Option (List (Copied E))} {a b : Keeping D} {order other : Order} → order ≡ other
      → Does view answers marks has new_view seen r u v had has_then a b (One other) → Does view answers marks has new_view seen r u v had has_then a b (One order)
  does_as {r = r} {u = u} {v = v} {had = had} {has_then = has_then} {a = a} {b = b} is does = subst (λ (o : Order). Does view answers marks has new_view seen r u v had has_then a b (One o)) (sym is) does

  -- what submits alone
  pub does_step : {r : Result (Unit {0}) Fault} {u v : Option (List ℕ)} {kept : Option (List (Copied E))} {a b : Keeping D} {x : List AnySubmitted} (asked : Asked) → new_to a (asked_for asked) ≡ x → notes_for asked ≡ []
      → Steps view answers marks has seen r u v a b x → Does view answers marks has new_view seen r u v kept kept a b asked
  does_step {r = r} {u = u} {v = v} {kept = kept} {a = a} {b = b} {x = x} asked is none step = record {
    disk = step.disk;
    fed = subst (λ (l : List AnySubmitted). FeedsCopying view answers marks new_view r u v kept kept a b l (notes_for asked)) (sym is)
        (subst (λ (ns : List Aside). FeedsCopying view answers marks new_view r u v kept kept a b x ns) (sym none) (fed_uncopied [] refl refl step.fed));
    held = step.held;
    fault = step.fault;
  }

-- WHEN A CUT IS DUE
module _ {D : Type 0} where
  -- of a keeper whose disk and head are as they were
  pub cut_still : (seen : Option ℕ) (old new : Keeping D) → new.standing ≡ old.standing → HasCut seen old → HasCut seen new
  cut_still seen old new stands has =
      ⊎_elim (λ none. inl (ap (λ s. length s.submitted) stands ∙ none)) (λ kept. inr (subst (λ (e : ℕ). KeepsSeen seen e) (sym (ap (λ s. s.epoch) stands)) kept)) has

  pub in_time_still : (every seen : Option ℕ) (old new : Keeping D) → new.standing ≡ old.standing → new.head ≡ old.head → IsInTime every seen old → IsInTime every seen new
  in_time_still every seen old new stands head is =
      ⊎_elim (λ cut. inl (cut_still seen old new stands cut))
      (λ room. inr (by every room)) is
    where
      count : length new.standing.submitted ≡ length old.standing.submitted
      count = ap (λ s. length s.submitted) stands

      cells : new.head.shape.n ≡ old.head.shape.n
      cells = ap (λ h. h.shape.n) head

      by : (most : Option ℕ) → HasRoom most old.head.shape.n old.standing → HasRoom most new.head.shape.n new.standing
      by None room = record { not_full = let less = room.not_full in omega (arith, count, cells, less); few = tt }
      by (Some m) room = record { not_full = let less = room.not_full in omega (arith, count, cells, less); few = let few = room.few in omega (arith, count, few) }

  pub pace_still : (pace : Pace) (seen : Option ℕ) (old new : Keeping D) → new.standing ≡ old.standing → new.head ≡ old.head → KeepsPace pace seen old → KeepsPace pace seen new
  pace_still AtEnd seen old new stands head is = tt
  pace_still (Live every hold) seen old new stands head is = in_time_still every seen old new stands head is

  -- A CUT TAKEN AT THE END, or up to what was seen, and written
  pub cut_to_the_end : {answers : Answers} (seen : Option ℕ) (base : ℕ) (old new : Keeping D) → old.base ≡ place_between base (last_epoch old.standing) seen → IsCheckpointed answers old new → HasCut seen new
  cut_to_the_end seen base old new place written = subst (HasCut seen) (sym written.new_is) (by seen place)
    where
      count : ℕ
      count = old.base - old.standing.epoch

      left : length (drop count old.standing.submitted) ≡ length old.standing.submitted - count
      left = length-drop count old.standing.submitted

      none : old.base ≡ last_epoch old.standing → length (drop count old.standing.submitted) ≡ 0
      none is = let more = left in omega (arith, more, is)

      by : (s : Option ℕ) → old.base ≡ place_between base (last_epoch old.standing) s → HasCut s (with_checkpoint old new.device)
      by None is = inl (none is)
      by (Some e) is = at (nat_lt (last_epoch old.standing) e) refl
        where
          at : (b : Bool) → nat_lt (last_epoch old.standing) e ≡ b → HasCut (Some e) (with_checkpoint old new.device)
          at true less =
              let short : last_epoch old.standing < e = ltb-true (last_epoch old.standing) e less in
              let least : min e (last_epoch old.standing) ≡ last_epoch old.standing = min-eq_right (omega (arith, short)) in
              let far = le-max_right base (min e (last_epoch old.standing)) in
              let low = written.kept.released in
              inl (none (omega (arith, is, least, far, low)))
          at false less =
              let long : e ≤ last_epoch old.standing = ltb-false (last_epoch old.standing) e less in
              let least : min e (last_epoch old.standing) ≡ e = min-eq_left (omega (arith, long)) in
              let far = le-max_right base (min e (last_epoch old.standing)) in
              let up = written.kept.from_checkpoint in
              inr (omega (arith, is, least, far, up))
