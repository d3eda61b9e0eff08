-- A hall that is cut takes the machine's step.
use Rattle.std.proofs.Common.{◌≡◌, ℕ, zero, suc, ◌+◌, ◌-◌, true, false, List, [], ◌∷◌, drop, filter, nat_lt, None, unwrap_or, Result, Ok, Err, IfOk, IfErr, OnOk, OnErr, refl, ap, sym, ◌∙◌, subst, arith, inl}
use Rattle.td_stamp.specs.States.{StateList}
use Rattle.td_calls.specs.Answers.{Answers}
use Rattle.td_machine.specs.State.{HallState, states_at}
use Rattle.td_machine.specs.Active.{unpassed}
use Rattle.td_machine.specs.Active as machine
use Rattle.td_machine.specs.Steps.{Event, Answer, Step, cut_by, cut_at_by, cut_to}
use Rattle.td_machine.specs.Steps.Answer.{has_cut, refused}
use Rattle.td_machine.specs.Steps.Refusal.{not_passed}
use Rattle.td_core.specs.declared.hall.Parts.{Parts}
use Rattle.td_core.specs.declared.cut.Cut.{Cut}
use Rattle.td_core.specs.declared.error.HallError.{HallError}
use Rattle.td_core.specs.declared.error.HallError.TheVariants.{Memory}
use Rattle.td_core.specs.Parts.{state_of, IsHall}
use Rattle.td_core.specs.Cuts.{IsCutAt, states_after}
use Rattle.td_core.specs.Refusals.{IsRefused}
use Rattle.td_core.proofs.CollectSteps.{ReachedByStep}

-- what is known wherever a call fails
pub at_err : {X Y : Type 0} {P : Type 0} (Q : Y → Type 0) → P → (r : Result X Y) → IfErr r (λ e. Q e → P)
at_err Q known (Ok x) = tt
at_err Q known (Err e) = λ why. known

drop_suc : {X : Type 0} (n : ℕ) (xs : List X) → drop 1 (drop n xs) ≡ drop (suc n) xs
drop_suc zero [] = refl
drop_suc zero (x ∷ xs) = refl
drop_suc (suc n) [] = refl
drop_suc (suc n) (x ∷ xs) = drop_suc n xs

pub drop_next : {X : Type 0} (n : ℕ) (xs : List X) → drop 1 (drop n xs) ≡ drop (n + 1) xs
drop_next n xs = let one : suc n ≡ n + 1 = omega arith in drop_suc n xs ∙ ap (λ m. drop m xs) one

module _ (parts new : Parts) (epoch : ℕ) where
  -- the parts of a hall that was cut
  abbrev pub then : Parts
  then = record parts {
    base = epoch;
    states = states_after parts epoch;
    batches = new.batches;
    seen = filter (λ x. nat_lt epoch x.time.epoch) parts.seen;
    versions = filter (λ k. nat_lt epoch k.epoch) parts.versions;
  }

  state_then : IsCutAt epoch parts new → state_of then ≡ cut_to (state_of parts) epoch
  state_then is = λ i. record (state_of then) { batches = is.batches i }

  -- the answer of the step that cut it
  pub cut_answered : (step : Answer × HallState) → step ≡ (has_cut epoch (states_after parts epoch), cut_to (state_of parts) epoch) → (r : Result Cut HallError)
      → IfOk r (λ made. made.epoch ≡ epoch) → IfOk r (λ made. made.states ≡ states_after parts epoch) → OnOk r (IsCutAt epoch parts new)
      → IfOk r (λ made. step ≡ (has_cut made.epoch made.states, state_of new))
  cut_answered step here (Ok made) e s is = here ∙ sym (λ i. (has_cut (e i) (s i), (ap state_of is.fields ∙ state_then is) i))
  cut_answered step here (Err why) e s is = tt

  -- the same where no states are handed out
  pub rebased_answered : {X : Type 0} (step : Answer × HallState) → step ≡ (has_cut epoch (states_after parts epoch), cut_to (state_of parts) epoch) → (meant : StateList) → states_after parts epoch ≡ meant
      → (r : Result X HallError) → OnOk r (IsCutAt epoch parts new) → OnOk r (step ≡ (has_cut epoch meant, state_of new))
  rebased_answered step here meant same (Ok made) is = here ∙ (λ i. (has_cut epoch (same i), sym (ap state_of is.fields ∙ state_then is) i))
  rebased_answered step here meant same (Err why) is = tt

  pub cut_refused : (step : Answer × HallState) (S : HallState) (r : Result Cut HallError) → IfErr r (λ e. e ≡ Memory) → IfErr r (IsRefused step S)
  cut_refused step S (Ok made) m = tt
  cut_refused step S (Err why) m = inl m

  module _ (answers : Answers) (steps : ReachedByStep answers) (inv : IsHall answers parts) (event : Event) where
    still : Step answers (state_of parts) event (has_cut epoch (states_after parts epoch)) (cut_to (state_of parts) epoch) → IsCutAt epoch parts new → IsHall answers then
    still step is = record {
      reached = steps (state_of parts) (state_of then) event _ inv.reached (subst (Step answers (state_of parts) event (has_cut epoch (states_after parts epoch))) (sym (state_then is)) step);
      counted = inv.counted;
      inputs = inv.inputs;
      shards = inv.shards;
      few = inv.few;
      next = inv.next;
      routes = inv.routes;
    }

    pub cut_hall : {X : Type 0} → Step answers (state_of parts) event (has_cut epoch (states_after parts epoch)) (cut_to (state_of parts) epoch) → (r : Result X HallError)
        → OnOk r (IsCutAt epoch parts new) → OnErr r (new ≡ parts) → IsHall answers new
    cut_hall step (Ok made) is same = subst (IsHall answers) (sym is.fields) (still step is)
    cut_hall step (Err why) is same = subst (IsHall answers) (sym same) inv

-- the steps
pub cuts : (S : HallState) → unpassed S ≡ None → cut_by S (unpassed S) (S.next - 1) ≡ (has_cut (S.next - 1) (states_at S (S.next - 1)), cut_to S (S.next - 1))
cuts S none = ap (λ o. cut_by S o (S.next - 1)) none

pub cuts_at : (S : HallState) (e : ℕ) → machine.has_passed S e ≡ true → cut_at_by S (machine.has_passed S e) e ≡ (has_cut e (states_at S e), cut_to S e)
cuts_at S e passed = ap (λ b. cut_at_by S b e) passed

pub refuses_at : (S : HallState) (e : ℕ) → machine.has_passed S e ≡ false → cut_at_by S (machine.has_passed S e) e ≡ (refused (not_passed (unwrap_or (unpassed S) e)), S)
refuses_at S e passed = ap (λ b. cut_at_by S b e) passed
